use Rattle.std.proofs.Common.{◌≡◌, ◌+◌, sym, subst, true, arith, map, ℕ}
use Rattle.seam_view.specs.ViewLooks.{in_view}
use Rattle.seam_rule_clients.specs.Lines.{IsNear}
use Rattle.seam_judge_looks.specs.Replicas.{client_of, empty_client}
use Rattle.seam_judge_looks.proofs.Steps.{radius_stays, hysteresis_stays}
use Rattle.seam_judge_looks.proofs.replica.Replica.may_set.Goals as goal

pub returns : goal.returns
returns c =
    let is_in : in_view (client_of c.args.self.now).others c.args.entity ≡ true = first_of (cc, grind arith) in
    let so : c.is_newer_copy.result ≡ true = first_of (cc, grind arith) in
    let radius =
    radius_stays (empty_client c.args.self.now.radius c.args.self.now.hysteresis) (map (λ x. x.now) c.args.self.now.shown.items) in
    let hysteresis =
    hysteresis_stays (empty_client c.args.self.now.radius c.args.self.now.hysteresis) (map (λ x. x.now) c.args.self.now.shown.items) in
    let reach : (client_of c.args.self.now).others.radius + (client_of c.args.self.now).others.hysteresis
    ≡ c.args.self.now.radius + c.args.self.now.hysteresis = (λ i. radius i + hysteresis i) in (
      (λ near. record {
        in_view_ = is_in;
        newer = c.is_newer_copy.ensures.0 so;
        near =
            subst (λ (n : ℕ). IsNear (client_of c.args.self.now).own n c.args.copy.now.state.pos) (sym reach) (c.is_near.ensures.0 near);
      }),
      (λ may. c.is_near.ensures.1 (subst (λ (n : ℕ). IsNear (client_of c.args.self.now).own n c.args.copy.now.state.pos) reach may.near)),
    )

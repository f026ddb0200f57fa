use Rattle.std.proofs.Common.{◌≡◌, sym, subst, true, false, arith, map, ℕ}
use Rattle.seam_view.specs.ViewLooks.{in_view}
use Rattle.seam_rule_clients.specs.Lines.{IsNear}
use Rattle.seam_judge_looks.specs.Replicas.{client_of, empty_client}
use Rattle.seam_judge_looks.proofs.Steps.{radius_stays}
use Rattle.seam_judge_looks.proofs.replica.Replica.may_enter.Goals as goal

pub returns : goal.returns
returns c =
    let away : in_view (client_of c.args.self.now).others c.args.entity ≡ false = first_of (cc, grind arith) in
    let so : c.is_not_older.result ≡ true = first_of (cc, grind arith) in
    let radius =
    radius_stays (empty_client c.args.self.now.radius c.args.self.now.hysteresis) (map (λ x. x.now) c.args.self.now.shown.items) in (
      (λ near. record {
        another = λ same. omega (arith, same);
        away = away;
        not_older = c.is_not_older.ensures.0 so;
        near =
            subst (λ (n : ℕ). IsNear (client_of c.args.self.now).own n c.args.copy.now.state.pos) (sym radius) (c.is_near.ensures.0 near);
      }),
      (λ may. c.is_near.ensures.1 (subst (λ (n : ℕ). IsNear (client_of c.args.self.now).own n c.args.copy.now.state.pos) radius may.near)),
    )

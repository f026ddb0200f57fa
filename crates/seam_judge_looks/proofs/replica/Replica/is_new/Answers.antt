use Rattle.std.proofs.Common.{◌≡◌, ◌∙◌, ap, sym, map, false, not, ◌&&◌, Bool}
use Rattle.std.specs.Prelude.{nat_le, nat_eq}
use Rattle.std.specs.List.{list_any}
use Rattle.seam_geo.specs.Pos.{distance}
use Rattle.seam_view.specs.ViewLooks.{in_view}
use Rattle.seam_judge_looks.specs.Replicas.{client_of, empty_client}
use Rattle.seam_judge_looks.proofs.Steps.{radius_stays}
use Rattle.seam_judge_looks.proofs.replica.Replica.is_new.Goals as goal

pub returns-then-not-is_in_view : goal.returns-then-not-is_in_view
returns-then-not-is_in_view c =
    let row = c.row.view_is in
    let radius =
    radius_stays (empty_client c.args.self.now.radius c.args.self.now.hysteresis) (map (λ x. x.now) c.args.self.now.shown.items) in
    let away : in_view (client_of c.args.self.now).others c.args.row.now.entity ≡ false =
    sym (λ i. list_any (λ p. nat_eq (row i).entity p.0) (c.requires i)) ∙ sym c.is_in_view.ensures ∙ c.if-not-is_in_view.true in
    (λ i. nat_le (c.dist.ensures i) (sym radius i))
    ∙ (λ i. nat_le (distance c.args.own (c.get.ensures i).state.pos) (client_of c.args.self.now).others.radius)
    ∙ (λ i. nat_le (distance c.args.own (row i).other.state.pos) (client_of c.args.self.now).others.radius)
    ∙ sym (ap (λ (b : Bool). not b && nat_le (distance c.args.own c.args.row.now.other.state.pos) (client_of c.args.self.now).others.radius)
    away)

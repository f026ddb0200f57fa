use Rattle.std.proofs.Common.{sym, subst}
use Rattle.seam_accept.specs.Refines.{Refines as HoldsBook}
use Rattle.seam_rule_rounds.specs.Round.{with_bounds}
use Rattle.seam_world_rounds.proofs.script.begin_next.Goals as goal

pub returns-in-Some : goal.returns-in-Some
returns-in-Some c = λ h b was.
    subst (λ bounds. HoldsBook h (with_bounds b bounds) c.set_tree.new.self) (sym c.in-Some.is) (c.set_tree.ensures h b was)

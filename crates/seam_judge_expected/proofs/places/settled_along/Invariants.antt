use Rattle.std.proofs.Common.{◌≡◌, ◌<◌, take}
use Rattle.seam_rule_rounds.specs.Prelude.{cells_of, settled_all, distances}
use Rattle.seam_judge_expected.proofs.places.settled_along.Given as goal

abbrev pub invariant-loop-pos : goal.invariant-loop-pos
invariant-loop-pos l = (l.place ≡ settled_all (distances l.settings) l.tree l.fn.was (take l.pos-index l.path)) ×
    (l.place.home < cells_of l.tree)

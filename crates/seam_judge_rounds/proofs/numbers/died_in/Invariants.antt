use Rattle.std.proofs.Common.{◌≡◌, ℕ, take}
use Rattle.std.specs.List.{list_any}
use Rattle.std.specs.Ordering.{nat_cmp}
use Rattle.std.specs.BTreeSet as set
use Rattle.seam_rule_rounds.specs.Prelude.{destroys}
use Rattle.seam_judge_rounds.proofs.numbers.died_in.Given as goal

abbrev pub invariant-loop-entry : goal.invariant-loop-entry
invariant-loop-entry l = (e : ℕ) → set.contains nat_cmp l.found e ≡ list_any (destroys e) (take l.entry-index l.entries)

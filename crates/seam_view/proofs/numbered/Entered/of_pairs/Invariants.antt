use Rattle.std.proofs.Common.{◌≡◌, ◌≤◌, ◌+◌, take, length}
use Rattle.seam_view.proofs.numbered.Entered.of_pairs.Given as goal

abbrev pub invariant-loop-e : goal.invariant-loop-e
invariant-loop-e l = record { entries : l.made.entries ≡ take l.e-index l.pairs; room : length l.pairs ≤ l.made.room + l.e-index }

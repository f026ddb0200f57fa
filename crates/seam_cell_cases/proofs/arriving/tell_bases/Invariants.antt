use Rattle.std.proofs.Common.{◌≡◌, ◌≤◌, ◌+◌, ◌++◌, map}
use Rattle.std.specs.List.{range_with_len}
use Rattle.seam_cell_cases.specs.Arriving.{current_of}
use Rattle.seam_cell_cases.proofs.arriving.tell_bases.Given as goal

abbrev pub invariant-loop-k : goal.invariant-loop-k
invariant-loop-k l = record {
  sent : l.out.items ≡ l.fn.out.items ++ map (current_of l.e l.known.me l.generation) (range_with_len 16 l.k);
  room : l.known.settings.bases ≤ l.out.spare + l.k;
}

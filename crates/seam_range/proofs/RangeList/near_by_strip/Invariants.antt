use Rattle.std.proofs.Common.{◌≡◌, ℕ}
use Rattle.std.specs.FinMap as map
use Rattle.seam_range.specs.Found.{count_of, AreLocated, one_if}
use Rattle.seam_range.proofs.Strips.{is_below_strip}
use Rattle.seam_range.proofs.RangeList.near_by_strip.Given as goal

abbrev pub invariant-loop-strip : goal.invariant-loop-strip
invariant-loop-strip l = record {
  near : (q : ℕ) → count_of q l.found.items ≡ one_if (is_below_strip l.strip l.search.p l.search.d) (map.get l.self q);
  locations : AreLocated l.self l.found.items;
}

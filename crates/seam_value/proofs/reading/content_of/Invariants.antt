use Rattle.std.proofs.Common.{◌≡◌, ◌++◌, ℕ, List, length}
use Rattle.std.specs.List.{flat_map}
use Rattle.seam_value.specs.Texts.{spelled_byte}
use Rattle.seam_value.proofs.reading.content_of.Given as goal

abbrev pub invariant-loop-rest : goal.invariant-loop-rest
invariant-loop-rest l = record {
  so_far : flat_map spelled_byte l.content.items ++ l.rest ≡ l.spelled;
  to_come : (whole : List ℕ) → flat_map spelled_byte whole ≡ l.spelled → (more : List ℕ) × (flat_map spelled_byte more ≡ l.rest);
}

abbrev pub decreases-loop-rest : goal.decreases-loop-rest
decreases-loop-rest l = length l.rest

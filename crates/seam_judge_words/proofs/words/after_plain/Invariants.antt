use Rattle.std.proofs.Common.{◌≡◌, ◌≤◌, ◌++◌, ℕ, List, length}
use Rattle.seam_law_texts.specs.Words.{ArePlain}
use Rattle.seam_judge_words.specs.WordEnds.{StopsPlain}
use Rattle.seam_judge_words.proofs.words.after_plain.Given as goal

abbrev pub invariant-loop-byte : goal.invariant-loop-byte
invariant-loop-byte l = record {
  within : length l.rest ≤ length l.line;
  told : (front rest : List ℕ) → ArePlain front → StopsPlain rest → l.line ≡ front ++ rest →
      (more : List ℕ) × ArePlain more × (l.rest ≡ more ++ rest);
}

abbrev pub decreases-loop-byte : goal.decreases-loop-byte
decreases-loop-byte l = length l.rest

use Rattle.std.proofs.Common.{◌≡◌, ◌≤◌, ◌++◌, ◌∷◌, ℕ, List, length, flat_map}
use Rattle.seam_value.specs.Texts.{quoted, spelled_byte}
use Rattle.seam_judge_words.proofs.words.after_quoted.Given as goal

abbrev pub invariant-loop-others : goal.invariant-loop-others
invariant-loop-others l = record {
  within : length l.rest ≤ length l.text;
  told : (content rest : List ℕ) → l.text ≡ quoted content ++ rest →
      (more : List ℕ) × (l.rest ≡ flat_map spelled_byte more ++ 34 ∷ rest);
}

abbrev pub decreases-loop-others : goal.decreases-loop-others
decreases-loop-others l = length l.rest

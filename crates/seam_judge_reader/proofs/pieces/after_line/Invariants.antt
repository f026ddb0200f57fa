use Rattle.std.proofs.Common.{◌≡◌, ◌≤◌, ◌∷◌, ◌++◌, ℕ, List, length}
use Rattle.seam_law_texts.specs.Words.{HasNoFeed}
use Rattle.seam_judge_reader.proofs.Feeds.{Left}
use Rattle.seam_judge_reader.proofs.pieces.after_line.Given as goal

abbrev pub invariant-loop-byte : goal.invariant-loop-byte
invariant-loop-byte l = record {
  within : length l.rest ≤ length l.text;
  told : (line after : List ℕ) → HasNoFeed line → l.text ≡ line ++ 10 ∷ after → Left l.rest after;
}

abbrev pub decreases-loop-byte : goal.decreases-loop-byte
decreases-loop-byte l = length l.rest

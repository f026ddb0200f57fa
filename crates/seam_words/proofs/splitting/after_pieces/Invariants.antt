use Rattle.std.proofs.Common.{◌≡◌, ◌++◌, ℕ, List, length}
use Rattle.seam_words.specs.Words.{ArePieces}
use Rattle.seam_words.proofs.splitting.after_pieces.Given as goal

abbrev pub invariant-loop-rest : goal.invariant-loop-rest
invariant-loop-rest l = (prefix : List ℕ) × ArePieces prefix × (l.bytes ≡ prefix ++ l.rest)

abbrev pub decreases-loop-rest : goal.decreases-loop-rest
decreases-loop-rest l = length l.rest

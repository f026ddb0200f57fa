use Rattle.std.proofs.Common.{◌≡◌, length}
use Rattle.std.specs.List.{All}
use Rattle.seam_workers.proofs.new_claims.Given as goal

abbrev pub invariant-loop-i : goal.invariant-loop-i
invariant-loop-i l = (length l.blanks.items ≡ l._i) × All (λ b. b.parts ≡ 1) l.blanks.items

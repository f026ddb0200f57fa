use Rattle.seam_io.proofs.LineLemmas.{held_line_is_next}
use Rattle.seam_world_ends.proofs.PrintLemmas.{nothing_pending}
use Rattle.seam_world_ends.proofs.printing.write_before_wait.Goals as goal

pub returns-clause-prints : goal.returns-clause-prints
returns-clause-prints g c = λ sink text p. nothing_pending sink _ _ text _ c.write.ensures.none (c.write.ensures.prints sink text p)

pub returns-then-has_line-clause-none : goal.returns-then-has_line-clause-none
returns-then-has_line-clause-none g c = λ none.
    absurd (held_line_is_next c.args.lines.now (rw c.if-has_line.true at c.has_line.ensures) none)

use Rattle.std.proofs.Common.{[]}
use Rattle.seam_world_ends.proofs.PrintLemmas.{told_prints, nothing_prints}
use Rattle.seam_world_rounds.proofs.run.Runner.show_last.Goals as goal

pub returns-in-Ok-clause-prints : goal.returns-in-Ok-clause-prints
returns-in-Ok-clause-prints g c = λ sink before printed.
    told_prints c.args.self.now.text.items _ sink _ _ before _ _ c.print_and_write.result c.in-Ok.ensures.given
    (rw c.deref.ensures.value at c.print_and_write.ensures sink before printed)

pub returns-in-Err-clause-prints : goal.returns-in-Err-clause-prints
returns-in-Err-clause-prints g c = λ sink before printed.
    nothing_prints _ sink _ [] before _ _ c.stop.result c.in-Err.ensures.err (c.stop.ensures sink before printed)

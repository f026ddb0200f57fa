use Rattle.seam_defs.proofs.TestLemmas.{test_is, fit-Decides}
use Rattle.seam_defs.specs.Tests.{fit_values}
use Rattle.seam_defs.proofs.types.Method.takes.Goals as goal

pub returns-clause-test : goal.returns-clause-test
returns-clause-test c =
    test_is c.are_fitting.result (fit_values c.args.self.now.args c.args.args.now) (rw c.as_slice.ensures at c.are_fitting.ensures)
    (fit-Decides c.args.self.now.args c.args.args.now)

use Rattle.seam_defs.proofs.TestLemmas.{test_is, of_group-Decides}
use Rattle.seam_defs.specs.Tests.{are_of_group}
use Rattle.seam_defs.proofs.types.TypeDef.is_of_group.Goals as goal

pub returns-clause-test : goal.returns-clause-test
returns-clause-test c =
    test_is c.are_of_group.result (are_of_group c.args.self.now.properties c.args.group c.args.props.now)
    (rw c.as_slice.ensures at c.are_of_group.ensures)
    (of_group-Decides c.args.self.now.properties c.args.group c.args.props.now)

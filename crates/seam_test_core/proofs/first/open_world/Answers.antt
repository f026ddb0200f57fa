use Rattle.seam_test_core.proofs.Firsts.{may_first_of}
use Rattle.seam_test_core.proofs.first.open_world.Goals as goal

pub returns : goal.returns
returns c =
    may_first_of c.in_ok-world.world c.in_ok-defs.defs c.standard.result c.standard.ensures.value c.in_ok-world.ensures.opened
    c.in_ok-world.ensures.records

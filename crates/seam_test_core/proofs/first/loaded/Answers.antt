use Rattle.seam_test_core.proofs.first.loaded.Goals as goal

pub load-requires : goal.load-requires
load-requires c = c.in_ok-world.ensures c.args.batch c.requires

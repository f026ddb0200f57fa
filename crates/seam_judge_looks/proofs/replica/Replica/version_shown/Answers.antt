use Rattle.std.proofs.Common.{sym}
use Rattle.std.specs.Ordering.{nat_cmp}
use Rattle.std.specs.FinMap as table
use Rattle.seam_judge_looks.specs.Replicas.{empty_client}
use Rattle.seam_judge_looks.proofs.Steps.{version_more}
use Rattle.seam_judge_looks.proofs.replica.Replica.version_shown.Goals as goal

pub loop-x-init : goal.loop-x-init
loop-x-init c = sym (table.get-empty nat_cmp c.args.entity)

pub loop-x-preserved : goal.loop-x-preserved
loop-x-preserved c =
    version_more c.args.entity (empty_client c.args.self.now.radius c.args.self.now.hysteresis) c.args.self.now.shown.items
    c.deref-x-items.result.now c.loop-x.x-index c.x-item.result c.loop-x.version c.version_after-version.result
    c.deref-x-items.ensures.value c.loop-x-test.true c.x-item.is c.loop-x.invariant c.version_after-version.ensures

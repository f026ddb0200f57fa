use Rattle.std.proofs.Common.{inr}
use Rattle.seam_workers.proofs.shifts.visit.Goals as goal

pub returns : goal.returns
returns g c = inr (c.deref_mut.result.now, c.try_counted.new.self, c.try_counted.ensures.counted)

use Rattle.std.proofs.Common.{◌≡◌}
use Rattle.seam_logged.specs.declared.Try.TheVariants as try
use Rattle.seam_workers.specs.Tries.{HasFound}
use Rattle.seam_workers.proofs.Seat.make_steps.Given as goal

abbrev pub invariant-loop-step : goal.invariant-loop-step
invariant-loop-step g l = record {
  me : l.self.me ≡ l.fn.self.me;
  found : HasFound g.M.Machine.has_work g.M.Machine.steps l.fn.self l.self try.Stepped;
}

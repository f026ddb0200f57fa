use Rattle.std.proofs.Common.{◌∙◌}
use Rattle.seam_logged.specs.declared.Try.TheVariants as try
use Rattle.seam_workers.proofs.Counts.{found_first, found_more}
use Rattle.seam_workers.proofs.Seat.make_steps.Goals as goal

pub returns-in-Idle-clause-found : goal.returns-in-Idle-clause-found
returns-in-Idle-clause-found g c =
    let K = g.M.Machine in
    found_first K.has_work K.steps c.args.self.now c.try_step.new.self try.Idle c.in-Idle.ensures.answered

pub returns-in-NoMemory-clause-found : goal.returns-in-NoMemory-clause-found
returns-in-NoMemory-clause-found g c =
    let K = g.M.Machine in
    found_first K.has_work K.steps c.args.self.now c.try_step.new.self try.NoMemory c.in-NoMemory.ensures.answered

pub loop-step-init : goal.loop-step-init
loop-step-init g c =
    let K = g.M.Machine in
    record {
      me = c.try_step.ensures.me;
      found = found_first K.has_work K.steps c.args.self.now c.try_step.new.self try.Stepped c.in-Stepped.ensures.answered;
    }

pub returns-in-Idle-try_step-clause-found : goal.returns-in-Idle-try_step-clause-found
returns-in-Idle-try_step-clause-found g c =
    let K = g.M.Machine in
    found_more K.has_work K.steps c.args.self.now c.loop-step.self c.try_step-in-loop-step.new.self try.Stepped try.Idle
    c.loop-step.invariant.found c.in-Idle-try_step.ensures.answered

pub returns-in-NoMemory-try_step-clause-found : goal.returns-in-NoMemory-try_step-clause-found
returns-in-NoMemory-try_step-clause-found g c =
    let K = g.M.Machine in
    found_more K.has_work K.steps c.args.self.now c.loop-step.self c.try_step-in-loop-step.new.self try.Stepped try.NoMemory
    c.loop-step.invariant.found c.in-NoMemory-try_step.ensures.answered

pub loop-step-preserved : goal.loop-step-preserved
loop-step-preserved g c =
    let K = g.M.Machine in
    record {
      me = c.try_step-in-loop-step.ensures.me ∙ c.loop-step.invariant.me;
      found = found_more K.has_work K.steps c.args.self.now c.loop-step.self c.try_step-in-loop-step.new.self try.Stepped try.Stepped
          c.loop-step.invariant.found c.in-Stepped-try_step.ensures.answered;
    }

use Rattle.seam_net_runs.proofs.Runs.{leads_extend}
use Rattle.seam_workers.proofs.alone.add_event.Goals as goal

pub returns-clause-run : goal.returns-clause-run
returns-clause-run g c = λ w leads. rw (c.in_ok-push.ensures.items, c.in_ok-step.ensures.happens)
    (leads_extend g.M.Machine.has_work g.M.Machine.steps w c.args.net.now c.args.events.now.items c.args.event leads c.requires.enabled)

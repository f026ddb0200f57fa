use Rattle.seam_net_runs.proofs.Runs.{leads_join}
use Rattle.seam_workers.proofs.Sooner.{tasks_join}
use Rattle.seam_workers.proofs.run_workers_over.Goals as goal

pub returns-clause-run : goal.returns-clause-run
returns-clause-run g c =
    let K = g.M.Machine in
    rw c.in_ok-append.ensures.items (leads_join K.has_work K.steps c.args.net c.alone.new.net c.in_ok-net.net c.in_ok-events.events.items
    c.in_ok-net.more.items c.in_ok-events.ensures.run c.in_ok-net.ensures.run)

pub returns-clause-tasks : goal.returns-clause-tasks
returns-clause-tasks g c =
    let K = g.M.Machine in
    rw c.in_ok-append.ensures.items (tasks_join K.has_work K.steps c.args.net c.alone.new.net c.in_ok-events.events.items
    c.in_ok-net.more.items c.in_ok-events.ensures.run c.in_ok-net.ensures.tasks)

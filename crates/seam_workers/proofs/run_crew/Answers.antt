use Rattle.std.proofs.Common.{rules, ◌≡◌, ◌∙◌, length, map, ap, sym, subst}
use Rattle.seam_machine.specs.Views.{PartsView}
use Rattle.seam_machine.specs.Nets.{AreParts}
use Rattle.seam_machine.proofs.Occurring.{occurs}
use Rattle.seam_net_runs.proofs.Runs.{leads_nowhere}
use Rattle.seam_workers.specs.Rejoined.{IsRejoined, IsOutcome}
use Rattle.seam_workers.proofs.Whole.{ends_full, ends_paired, logs_are, is_run, has_event, peers_kept, has_ends, no_task, if_ok_then}
use Rattle.seam_workers.proofs.run_crew.Goals as goal

pub returns-then-is_quiet : goal.returns-then-is_quiet
returns-then-is_quiet g c =
    let K = g.M.Machine in
    let w = c.args.net in
    rw c.new.ensures.items (record {
      run = leads_nowhere K.has_work K.steps w;
      tasks = λ k s at work. absurd (no_task K.has_work w k s (c.is_quiet.ensures.quiet c.if-is_quiet.true) at work);
      peers = c.requires.peers;
    })

pub run_nodes-requires-clause-wide : goal.run_nodes-requires-clause-wide
run_nodes-requires-clause-wide g c κs within =
    let K = g.M.Machine in
    let n = c.node_count-n.result in
    let w = c.args.net in
    let p : PartsView _ _ = record { nodes = c.nodes.inside.nodes.items; links = map (λ v. v.items) c.nodes.inside.links.items } in
    let parts : AreParts p w = subst (λ q. AreParts q w) (sym c.nodes.view_is) c.in_ok-nodes.ensures.parts in
    let count : length p.nodes ≡ n = ap length parts.nodes ∙ sym c.node_count-n.ensures.count in
    let ends = c.in_ok-ends.ends.items in
    let full = c.in_ok-ends.ensures.full in
    has_ends K.peer_count n w p ends parts count c.requires.peers full

pub rejoin-requires-clause-can : goal.rejoin-requires-clause-can
rejoin-requires-clause-can g c =
    let K = g.M.Machine in
    let n = c.node_count-n.result in
    let w = c.args.net in
    let p : PartsView _ _ = record { nodes = c.nodes.inside.nodes.items; links = map (λ v. v.items) c.nodes.inside.links.items } in
    let parts : AreParts p w = subst (λ q. AreParts q w) (sym c.nodes.view_is) c.in_ok-nodes.ensures.parts in
    let count : length p.nodes ≡ n = ap length parts.nodes ∙ sym c.node_count-n.ensures.count in
    let ends = c.in_ok-ends.ends.items in
    let full = c.in_ok-ends.ensures.full in
    let linked = c.in_ok-ends.ensures.linked in
    let done = c.in_ok-done.done.items in
    let same : length done ≡ length p.nodes = search rules in
    let many = same ∙ count in
    let runs = c.in_ok-done.ensures.runs in
    record {
      full = ends_full K.has_work K.steps K.peer_count n w p parts count ends full linked done many runs;
      paired = ends_paired K.has_work K.steps K.peer_count n w p parts count ends full linked done many runs;
      logs = logs_are K.has_work K.steps K.peer_count n w p parts count ends full linked done many runs;
    }

pub returns : goal.returns
returns g c =
    let K = g.M.Machine in
    let n = c.node_count-n.result in
    let w = c.args.net in
    let p : PartsView _ _ = record { nodes = c.nodes.inside.nodes.items; links = map (λ v. v.items) c.nodes.inside.links.items } in
    let parts : AreParts p w = subst (λ q. AreParts q w) (sym c.nodes.view_is) c.in_ok-nodes.ensures.parts in
    let count : length p.nodes ≡ n = ap length parts.nodes ∙ sym c.node_count-n.ensures.count in
    let ends = c.in_ok-ends.ends.items in
    let full = c.in_ok-ends.ensures.full in
    let linked = c.in_ok-ends.ensures.linked in
    let done = c.in_ok-done.done.items in
    let same : length done ≡ length p.nodes = search rules in
    let many = same ∙ count in
    let runs = c.in_ok-done.ensures.runs in
    let event = c.is_quiet.ensures.not_quiet c.if-is_quiet.false in
    let node = (occurs K.has_work w event.0 event.1).node in
    if_ok_then (λ r. IsRejoined done r.0 r.1.items) (λ r. IsOutcome K.has_work K.steps K.peer_count w r.1.items r.0) c.rejoin.result
    (λ r h. record {
      run = is_run K.has_work K.steps K.peer_count n w p parts count ends full linked done many runs node r.0 r.1.items h;
      tasks = has_event K.has_work K.steps K.peer_count n w p parts count ends full linked done many runs node r.0 r.1.items h;
      peers = peers_kept K.has_work K.steps K.peer_count n w p parts count ends full linked done many runs node r.0 r.1.items h;
    })
    c.rejoin.ensures

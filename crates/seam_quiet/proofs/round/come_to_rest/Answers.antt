use Rattle.std.proofs.Common.{length, [], ◌∷◌, ap, ◌∙◌, arith}
use Rattle.std.proofs.lemmas.List.{length-append}
use Rattle.seam_net_runs.proofs.Runs.{leads_extend, fewer}
use Rattle.seam_node_steps.specs.Nodes.{node_steps, node_has_work}
use Rattle.seam_quiet.proofs.round.come_to_rest.Goals as goal

pub loop-event-preserved : goal.loop-event-preserved
loop-event-preserved g c =
    let inv = c.loop-event.invariant in
    let e = c.in-Some.event in
    let events = c.loop-event.events.items in
    let leads = leads_extend node_has_work node_steps c.args.net c.loop-event.net events e inv.leads c.in-Some.ensures.enabled in
    record {
      leads = rw (c.in_ok-push.ensures.items, c.in_ok-step.ensures.happens) leads;
      peers = c.step.ensures.peers;
    }

pub loop-event-smaller : goal.loop-event-smaller
loop-event-smaller g c =
    let events = c.loop-event.events.items in
    let less =
    fewer node_has_work node_steps c.args.net c.loop-event.net events c.in-Some.event g.most c.requires.1 c.loop-event.invariant.leads
    c.in-Some.ensures.enabled in
    let more = ap length c.in_ok-push.ensures.items ∙ length-append events (c.in-Some.event ∷ []) in
    omega (arith, less, more)

use Rattle.std.proofs.Common.{◌<◌, ◌≤◌, length, inl, inr, arith}
use Rattle.seam_workers.proofs.alone.alone.Goals as goal

pub returns-then-has_event_above-clause-until : goal.returns-then-has_event_above-clause-until
returns-then-has_event_above-clause-until g c =
    let above = c.has_event_above.ensures c.if-has_event_above.true in
    inr (inl (c.in-Some.event, above.0, c.in-Some.ensures.enabled, above.1, above.2))

pub returns-then-has_event_below-clause-until : goal.returns-then-has_event_below-clause-until
returns-then-has_event_below-clause-until g c =
    let below = c.has_event_below.ensures c.if-has_event_below.true in
    inr (inl (below.0, c.in-Some.event, below.1, c.in-Some.ensures.enabled, below.2))

pub loop-turn-preserved : goal.loop-turn-preserved
loop-turn-preserved g c =
    let inv = c.loop-turn.invariant in
    let visited = c.in_ok-visit_alone.ensures in (
      visited.run c.args.net.now inv.0,
      c.visit_alone.ensures.peers,
      omega (arith, visited.more, inv.2),
    )

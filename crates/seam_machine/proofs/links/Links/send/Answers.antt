use Rattle.seam_machine.proofs.Ahead.{sender_few}
use Rattle.seam_machine.proofs.links.Links.send.Goals as goal

pub take_ahead-requires-clause-few : goal.take_ahead-requires-clause-few
take_ahead-requires-clause-few g c =
    let n = c.self.inside in
    sender_few n.rows.items n.kept.busy.items n.sent.sender n.sent.target n.sent.ahead n.sent.out.items c.self.invariant.0

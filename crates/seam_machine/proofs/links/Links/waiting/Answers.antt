use Rattle.std.proofs.Common.{◌<◌, ◌∙◌, ap, length, arith}
use Rattle.seam_machine.specs.Inside.{waits}
use Rattle.seam_machine.specs.Nets.{link}
use Rattle.seam_machine.proofs.LinkLemmas.{waits_own}
use Rattle.seam_machine.proofs.links.Links.waiting.Goals as goal

pub returns-then-from-self : goal.returns-then-from-self
returns-then-from-self g c =
    let n = c.self.inside in
    let out = waits n.sent.target n.sent.ahead n.sent.out.items in
    let lt : c.args.from < length n.rows.items = omega (arith, n.rows.ok.0) in
    waits_own n.rows.items n.kept.busy.items n.sent.sender out c.self.invariant.0 c.args.from c.args.to c.index-row.result.now lt
    c.index-row.ensures c.len-held.result c.count_to.result c.if-from-self.true c.len-held.ensures.len c.count_to.ensures.count
    ∙ ap (λ w. length (link w.rows c.args.from c.args.to)) c.self.view_is

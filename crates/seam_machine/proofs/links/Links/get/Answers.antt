use Rattle.std.proofs.Common.{◌<◌, ◌-◌, ◌∙◌, ap, length, arith}
use Rattle.std.specs.Prelude.{slice_get}
use Rattle.seam_machine.specs.Inside.{waits}
use Rattle.seam_machine.specs.Nets.{link}
use Rattle.seam_machine.proofs.LinkLemmas.{shows_first, shows_own, shows_none}
use Rattle.seam_machine.proofs.links.Links.get.Goals as goal

pub returns-then-i-held : goal.returns-then-i-held
returns-then-i-held g c =
    let n = c.self.inside in
    let out = waits n.sent.target n.sent.ahead n.sent.out.items in
    let lt : c.args.from < length n.rows.items = omega (arith, n.rows.ok.0) in
    let held = c.len-held.ensures.len in
    c.get.ensures
    ∙ (shows_first n.rows.items n.kept.busy.items n.sent.sender out c.self.invariant.0 c.args.from c.args.to c.index-row.result.now lt
    c.index-row.ensures c.args.i (omega (arith, held))
    ∙ ap (λ w. slice_get (link w.rows c.args.from c.args.to) c.args.i) c.self.view_is)

pub returns-then-from-self : goal.returns-then-from-self
returns-then-from-self g c =
    let n = c.self.inside in
    let out = waits n.sent.target n.sent.ahead n.sent.out.items in
    let lt : c.args.from < length n.rows.items = omega (arith, n.rows.ok.0) in
    let held = c.len-held.ensures.len in
    let k = c.args.i - c.len-held.result in
    c.item_to.ensures
    ∙ (shows_own n.rows.items n.kept.busy.items n.sent.sender out c.self.invariant.0 c.args.from c.args.to c.index-row.result.now lt
    c.index-row.ensures c.args.i k c.if-from-self.true (omega (arith, held))
    ∙ ap (λ w. slice_get (link w.rows c.args.from c.args.to) c.args.i) c.self.view_is)

pub returns : goal.returns
returns g c =
    let n = c.self.inside in
    let out = waits n.sent.target n.sent.ahead n.sent.out.items in
    let lt : c.args.from < length n.rows.items = omega (arith, n.rows.ok.0) in
    let held = c.len-held.ensures.len in
    shows_none n.rows.items n.kept.busy.items n.sent.sender out c.self.invariant.0 c.args.from c.args.to c.index-row.result.now lt
    c.index-row.ensures c.args.i c.if-from-self.false (omega (arith, held))
    ∙ ap (λ w. slice_get (link w.rows c.args.from c.args.to) c.args.i) c.self.view_is

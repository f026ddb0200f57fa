use Rattle.std.proofs.Common.{◌<◌, ◌≤◌, length, take, ap, ◌∙◌, sym, arith}
use Rattle.std.specs.Prelude.{slice_get}
use Rattle.std.proofs.lemmas.List.{take_all}
use Rattle.seam_machine.specs.Sends.{items_to}
use Rattle.seam_machine.proofs.SendLemmas.{found_here, none_past}
use Rattle.seam_machine.proofs.sends.Out.item_to.Goals as goal

pub returns-then-n-i : goal.returns-then-n-i
returns-then-n-i g c =
    let items = c.self.inside.items.items in
    let lt : c.loop-k.k < length items = omega (arith, c.self.inside.items.ok) in
    let so_far = c.loop-k.invariant.so_far ∙ sym (ap (λ w. length (items_to c.args.to (take c.loop-k.k w.items))) c.self.view_is) in
    found_here c.args.to items c.loop-k.k c.loop-k.n c.args.i c.index-sent.result.now lt c.index-sent.ensures c.if-sent-to.true so_far
    c.if-n-i.true ∙ ap (λ w. slice_get (items_to c.args.to w.items) c.args.i) c.self.view_is

pub returns : goal.returns
returns g c =
    let items = c.self.inside.items.items in
    let many : length items ≤ c.loop-k.k = omega (arith, c.self.inside.items.ok) in
    let whole =
    ap (λ w. length (items_to c.args.to (take c.loop-k.k w.items))) (sym c.self.view_is)
    ∙ ap (λ l. length (items_to c.args.to l)) (take_all c.loop-k.k items many) in
    let past : length (items_to c.args.to items) ≤ c.args.i = omega (arith, whole) in
    none_past (items_to c.args.to items) c.args.i past ∙ ap (λ w. slice_get (items_to c.args.to w.items) c.args.i) c.self.view_is

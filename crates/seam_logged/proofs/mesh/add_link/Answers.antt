use Rattle.std.proofs.Common.{◌≡◌, ◌∙◌, ◌+◌, ◌*◌, ◌++◌, [], Some, length, set, get_or, refl, ap, sym, subst}
use Rattle.std.specs.Prelude.{slice_get}
use Rattle.std.proofs.lemmas.List.{length-set}
use Rattle.std.proofs.lemmas.Option.{slice_get_read}
use Rattle.seam_logged.specs.Logs.{EndsView}
use Rattle.seam_logged.specs.Mesh.{IsFilled, at_start}
use Rattle.seam_logged.proofs.LinkPlaces.{reached_more, linked_more}
use Rattle.seam_logged.proofs.mesh.add_link.Goals as goal

pub returns-clause-reached : goal.returns-clause-reached
returns-clause-reached g c =
    let ends = c.args.ends.now.items in
    let n = length ends in
    let from = c.args.from in
    let to = c.args.to in
    let o = c.fill.new.out in
    let i = c.in_ok-out.end in
    let ea : EndsView _ _ = record { ins = c.behind-ends.inside.ins.items; outs = c.behind-ends.inside.outs.items } in
    let eb : EndsView _ _ = record { ins = c.behind-ends-2.inside.ins.items; outs = c.behind-ends-2.inside.outs.items } in
    let mid = set ends from (record { ins = ea.ins; outs = c.push.new.self.items }) in
    let is_a : slice_get ends from ≡ Some ea =
    slice_get_read ends n from c.index_mut.result.now refl c.requires.from c.index_mut.ensures.value
    ∙ ap Some (sym c.behind-ends.view_is) in
    let is_mid : slice_get mid to ≡ Some eb =
    slice_get_read mid n to c.index_mut-2.result.now
    (sym (length-set ends from (record { ins = ea.ins; outs = c.push.new.self.items }))) c.requires.to c.index_mut-2.ensures.value
    ∙ ap Some (sym c.behind-ends-2.view_is) in
    let is_b = subst (λ l. slice_get (set ends from (record { ins = ea.ins; outs = l })) to ≡ Some eb) c.in_ok-push.ensures.items is_mid in
    rw (c.in_ok-push.ensures.items, c.in_ok-push-2.ensures.items)
    (reached_more n from to ends ea eb o i c.requires.reached c.requires.from c.requires.to is_a is_b)

pub returns-clause-linked : goal.returns-clause-linked
returns-clause-linked g c = λ links here are.
    let ends = c.args.ends.now.items in
    let n = length ends in
    let from = c.args.from in
    let to = c.args.to in
    let o = c.fill.new.out in
    let i = c.in_ok-out.end in
    let ea : EndsView _ _ = record { ins = c.behind-ends.inside.ins.items; outs = c.behind-ends.inside.outs.items } in
    let eb : EndsView _ _ = record { ins = c.behind-ends-2.inside.ins.items; outs = c.behind-ends-2.inside.outs.items } in
    let mid = set ends from (record { ins = ea.ins; outs = c.push.new.self.items }) in
    let is_a : slice_get ends from ≡ Some ea =
    slice_get_read ends n from c.index_mut.result.now refl c.requires.from c.index_mut.ensures.value
    ∙ ap Some (sym c.behind-ends.view_is) in
    let is_mid : slice_get mid to ≡ Some eb =
    slice_get_read mid n to c.index_mut-2.result.now
    (sym (length-set ends from (record { ins = ea.ins; outs = c.push.new.self.items }))) c.requires.to c.index_mut-2.ensures.value
    ∙ ap Some (sym c.behind-ends-2.view_is) in
    let is_b = subst (λ l. slice_get (set ends from (record { ins = ea.ins; outs = l })) to ≡ Some eb) c.in_ok-push.ensures.items is_mid in
    let filled : IsFilled (get_or links (from * n + to) []) o i = record {
      ring = c.in_ok-fill.ensures.ring ∙ c.in_ok-out.ensures.one;
      put = rw here (c.in_ok-fill.ensures.put ∙ ap (λ l. l ++ at_start c.args.letters.items) c.in_ok-out.ensures.empty);
    } in
    rw (c.in_ok-push.ensures.items, c.in_ok-push-2.ensures.items)
    (linked_more n from to ends ea eb o i c.requires.reached c.requires.from c.requires.to is_a is_b links filled are)

use Rattle.std.proofs.Common.{rules, ◌≡◌, ◌∙◌, ◌<◌, ◌++◌, [], Some, length, map, set, get_or, refl, ap, sym, arith}
use Rattle.std.specs.Prelude.{slice_get}
use Rattle.std.proofs.lemmas.List.{length-set, get_or-map, map-set}
use Rattle.std.proofs.lemmas.Option.{slice_get_read}
use Rattle.seam_machine.specs.Sends.{items_to}
use Rattle.seam_stamp.specs.Acts.{items}
use Rattle.seam_stamp.proofs.Moves.{items_append}
use Rattle.seam_logged.specs.Logs.{EndsView}
use Rattle.seam_logged.proofs.Meets.{reached_less, within_less, last_out, last_in, last_taken, hands_less, drop_prefix}
use Rattle.seam_logged.proofs.mesh.meet_link.Goals as goal

pub unreachable-requires : goal.unreachable-requires
unreachable-requires g c =
    let ends = c.args.ends.now.items in
    let n = length ends in
    let from = c.args.from in
    let to = c.args.to in
    let r = c.requires.reached in
    let ea : EndsView _ _ = record { ins = c.behind-ends.inside.ins.items; outs = c.behind-ends.inside.outs.items } in
    let is_a : slice_get ends from ≡ Some ea =
    slice_get_read ends n from c.index_mut.result.now refl c.requires.from c.index_mut.ensures.value
    ∙ ap Some (sym c.behind-ends.view_is) in
    let none : length ea.outs ≡ 0 = search rules in
    let many = r.outs_here from ea is_a refl in
    omega (arith, many, none)

pub unreachable-requires-in_default-pop : goal.unreachable-requires-in_default-pop
unreachable-requires-in_default-pop g c =
    let ends = c.args.ends.now.items in
    let n = length ends in
    let from = c.args.from in
    let to = c.args.to in
    let r = c.requires.reached in
    let ea : EndsView _ _ = record { ins = c.behind-ends.inside.ins.items; outs = c.behind-ends.inside.outs.items } in
    let is_a : slice_get ends from ≡ Some ea =
    slice_get_read ends n from c.index_mut.result.now refl c.requires.from c.index_mut.ensures.value
    ∙ ap Some (sym c.behind-ends.view_is) in
    let os = c.pop.new.self.items in
    let o = c.in-Some.out in
    let cut : EndsView _ _ = record { ins = ea.ins; outs = os } in
    let mid = set ends from cut in
    let eb : EndsView _ _ = record { ins = c.behind-ends-2.inside.ins.items; outs = c.behind-ends-2.inside.outs.items } in
    let is_b : slice_get mid to ≡ Some eb =
    slice_get_read mid n to c.index_mut-2.result.now (sym (length-set ends from cut)) c.requires.to c.index_mut-2.ensures.value
    ∙ ap Some (sym c.behind-ends-2.view_is) in
    let none : length eb.ins ≡ 0 = search rules in
    let old = last_taken n from to ends ea os cut refl r c.requires.from is_a eb is_b in
    omega (arith, old, none)

pub drain-requires : goal.drain-requires
drain-requires g c =
    let ends = c.args.ends.now.items in
    let n = length ends in
    let from = c.args.from in
    let to = c.args.to in
    let r = c.requires.reached in
    let ea : EndsView _ _ = record { ins = c.behind-ends.inside.ins.items; outs = c.behind-ends.inside.outs.items } in
    let is_a : slice_get ends from ≡ Some ea =
    slice_get_read ends n from c.index_mut.result.now refl c.requires.from c.index_mut.ensures.value
    ∙ ap Some (sym c.behind-ends.view_is) in
    let os = c.pop.new.self.items in
    let o = c.in-Some.out in
    let cut : EndsView _ _ = record { ins = ea.ins; outs = os } in
    let mid = set ends from cut in
    let eb : EndsView _ _ = record { ins = c.behind-ends-2.inside.ins.items; outs = c.behind-ends-2.inside.outs.items } in
    let is_b : slice_get mid to ≡ Some eb =
    slice_get_read mid n to c.index_mut-2.result.now (sym (length-set ends from cut)) c.requires.to c.index_mut-2.ensures.value
    ∙ ap Some (sym c.behind-ends-2.view_is) in
    let is = c.pop-2.new.self.items in
    let i = c.in-Some-pop.end in
    let outs_are = c.in-Some.ensures.items in
    let ins_are = c.in-Some-pop.ensures.items in
    c.requires.paired from to o i (last_out n from to ends ea eb os o is i r c.requires.from c.requires.to is_a outs_are is_b ins_are)
    (last_in n from to ends ea eb os o is i r c.requires.from c.requires.to is_a outs_are is_b ins_are)

pub returns-clause-remaining : goal.returns-clause-remaining
returns-clause-remaining g c =
    let ends = c.args.ends.now.items in
    let n = length ends in
    let from = c.args.from in
    let to = c.args.to in
    let r = c.requires.reached in
    let ea : EndsView _ _ = record { ins = c.behind-ends.inside.ins.items; outs = c.behind-ends.inside.outs.items } in
    let is_a : slice_get ends from ≡ Some ea =
    slice_get_read ends n from c.index_mut.result.now refl c.requires.from c.index_mut.ensures.value
    ∙ ap Some (sym c.behind-ends.view_is) in
    let os = c.pop.new.self.items in
    let o = c.in-Some.out in
    let cut : EndsView _ _ = record { ins = ea.ins; outs = os } in
    let mid = set ends from cut in
    let eb : EndsView _ _ = record { ins = c.behind-ends-2.inside.ins.items; outs = c.behind-ends-2.inside.outs.items } in
    let is_b : slice_get mid to ≡ Some eb =
    slice_get_read mid n to c.index_mut-2.result.now (sym (length-set ends from cut)) c.requires.to c.index_mut-2.ensures.value
    ∙ ap Some (sym c.behind-ends-2.view_is) in
    let is = c.pop-2.new.self.items in
    let i = c.in-Some-pop.end in
    let outs_are = c.in-Some.ensures.items in
    let ins_are = c.in-Some-pop.ensures.items in
    let hands = c.args.hands.now.items in
    let hand = c.index_mut-3.result.now in
    let hand' = c.from_hand.new.hand in
    let in_hands : to < length hands = omega (arith, c.requires.to, c.requires.hands) in
    let hand_at : slice_get hands to ≡ Some hand = slice_get_read hands (length hands) to hand refl in_hands c.index_mut-3.ensures.value in
    record {
      reached = reached_less n from to ends ea eb os o is i r c.requires.from c.requires.to is_a outs_are is_b ins_are;
      within = within_less n from to ends ea eb os o is i r c.requires.from c.requires.to is_a outs_are is_b ins_are;
      many = ap length (map-set (λ h. h.items) hands to hand') ∙ length-set (map (λ h. h.items) hands) to hand'.items;
      same = hands_less (λ h. h.items) hands from to hand hand' in_hands hand_at c.in_ok-link.ensures.others;
    }

pub returns-clause-cell : goal.returns-clause-cell
returns-clause-cell g c =
    let ends = c.args.ends.now.items in
    let n = length ends in
    let from = c.args.from in
    let to = c.args.to in
    let r = c.requires.reached in
    let ea : EndsView _ _ = record { ins = c.behind-ends.inside.ins.items; outs = c.behind-ends.inside.outs.items } in
    let is_a : slice_get ends from ≡ Some ea =
    slice_get_read ends n from c.index_mut.result.now refl c.requires.from c.index_mut.ensures.value
    ∙ ap Some (sym c.behind-ends.view_is) in
    let os = c.pop.new.self.items in
    let o = c.in-Some.out in
    let cut : EndsView _ _ = record { ins = ea.ins; outs = os } in
    let mid = set ends from cut in
    let eb : EndsView _ _ = record { ins = c.behind-ends-2.inside.ins.items; outs = c.behind-ends-2.inside.outs.items } in
    let is_b : slice_get mid to ≡ Some eb =
    slice_get_read mid n to c.index_mut-2.result.now (sym (length-set ends from cut)) c.requires.to c.index_mut-2.ensures.value
    ∙ ap Some (sym c.behind-ends-2.view_is) in
    let is = c.pop-2.new.self.items in
    let i = c.in-Some-pop.end in
    let outs_are = c.in-Some.ensures.items in
    let ins_are = c.in-Some-pop.ensures.items in
    let hands = c.args.hands.now.items in
    let hand = c.index_mut-3.result.now in
    let in_hands : to < length hands = omega (arith, c.requires.to, c.requires.hands) in
    let hand_is : get_or (map (λ h. h.items) hands) to [] ≡ hand.items =
    get_or-map (λ h. h.items) hands to hand [] in_hands ∙ ap (λ h. h.items) (sym c.index_mut-3.ensures.value) in
    let letters = c.in_ok-letters.letters.items in
    let met : i.taken ++ letters ≡ o.put = c.in_ok-letters.ensures in
    let rest = drop_prefix i.taken letters o.put met in
    let held = items_to from (get_or (map (λ h. h.items) hands) to []) in
    let is_held : c.in_ok-link.link.items ≡ items held = c.in_ok-link.ensures.given ∙ ap (λ l. items (items_to from l)) (sym hand_is) in
    record {
      out = o;
      end = i;
      is_out = last_out n from to ends ea eb os o is i r c.requires.from c.requires.to is_a outs_are is_b ins_are;
      is_in = last_in n from to ends ea eb os o is i r c.requires.from c.requires.to is_a outs_are is_b ins_are;
      met = ap (λ l. i.taken ++ l) rest ∙ met;
      link_is =
          c.in_ok-add_letters.ensures ∙ (ap (λ l. l ++ items letters) is_held
          ∙ (sym (items_append held letters) ∙ ap (λ l. items (held ++ l)) (sym rest)));
    }

use Rattle.std.proofs.Common.{rules, ◌≡◌, ◌∙◌, ◌+◌, ◌-◌, ◌∷◌, [], ℕ, length, map, refl, ap, sym, subst, arith, inl, inr}
use Rattle.std.proofs.lemmas.List.{length-map}
use Rattle.seam_logged.specs.Mesh.{IsCell}
use Rattle.seam_logged.specs.SomeLinks.{Remaining, IsRow, Below}
use Rattle.seam_logged.proofs.Rows.{row_reached}
use Rattle.seam_logged.proofs.Meets.{remaining_all, remaining_less, paired_less, cell_before, row_more, row_none}
use Rattle.seam_logged.proofs.mesh.meet_row.Goals as goal

pub loop-to-init : goal.loop-to-init
loop-to-init g c =
    let ends = c.args.ends.now.items in
    let n = length ends in
    let hands = map (λ h. h.items) c.args.hands.now.items in
    let all : c.len-to.result ≡ n = search rules in
    record {
      small = omega (arith, all);
      remaining = rw all (remaining_all n ends hands c.args.from n (row_reached n c.args.from ends c.requires.reached));
      row = ([], refl, omega (arith, all), row_none n ends hands c.args.from c.len-to.result);
    }

pub meet_link-requires-clause-paired : goal.meet_link-requires-clause-paired
meet_link-requires-clause-paired g c =
    let ends = c.args.ends.now.items in
    paired_less (length ends) ends (map (λ h. h.items) c.args.hands.now.items) c.args.from c.loop-to.to c.loop-to.ends.items
    (map (λ h. h.items) c.loop-to.hands.items) c.loop-to.invariant.remaining c.requires.paired

pub meet_link-requires-clause-hands : goal.meet_link-requires-clause-hands
meet_link-requires-clause-hands g c =
    let r = c.loop-to.invariant.remaining in
    let many = length-map c.args.hands.now.items (λ h. h.items) in
    let many' = length-map c.loop-to.hands.items (λ h. h.items) in
    omega (arith, r.many, r.reached.count, many, many', c.requires.hands)

pub loop-to-preserved : goal.loop-to-preserved
loop-to-preserved g c =
    let ends = c.args.ends.now.items in
    let n = length ends in
    let hands = map (λ h. h.items) c.args.hands.now.items in
    let from = c.args.from in
    let to = c.loop-to.to in
    let at = to - 1 in
    let back : at + 1 ≡ to = omega (arith, c.loop-to-test.true) in
    let inv = c.loop-to.invariant in
    let ends' = c.loop-to.ends.items in
    let hands' = map (λ h. h.items) c.loop-to.hands.items in
    let ends'' = c.meet_link.new.ends.items in
    let hands'' = map (λ h. h.items) c.meet_link.new.hands.items in
    let count : length ends' ≡ n = inv.remaining.reached.count in
    let link = c.in_ok-link.link.items in
    let old = map (λ v. v.items) c.args.links.now.items in
    let one : Remaining n from at ends' hands' ends'' hands'' =
    subst (λ (m : ℕ). Remaining m from at ends' hands' ends'' hands'') count c.in_ok-link.ensures.remaining in
    let below : (x y : ℕ) → Below from at x y → Below from to x y =
    λ x y b. elim b [ inl p ↦ inl p | inr p ↦ inr (p.0, omega (arith, p.1, back)) ] in
    let here : Below from to from at = inr (refl, omega (arith, back)) in
    let cell : IsCell ends hands from at link =
    cell_before n ends hands from to ends' hands' inv.remaining from at link here c.in_ok-link.ensures.cell in
    let row = inv.row.0 in
    let rest : IsRow ends hands from (at + 1) row = subst (λ (b : ℕ). IsRow ends hands from b row) (sym back) inv.row.3 in
    record {
      small = omega (arith, inv.small, back);
      remaining = remaining_less n ends hands from to ends' hands' inv.remaining from at ends'' hands'' one below;
      row = (
        link ∷ row,
        ap (map (λ v. v.items)) c.in_ok-push_front.ensures.items ∙ ap (λ l. link ∷ l) inv.row.1,
        omega (arith, inv.row.2, back),
        row_more n ends hands from at link row cell rest,
      );
    }

pub returns-clause-remaining : goal.returns-clause-remaining
returns-clause-remaining g c =
    let ends = c.args.ends.now.items in
    let hands = map (λ h. h.items) c.args.hands.now.items in
    let none : c.loop-to.to ≡ 0 = omega (arith, c.loop-to-test.false) in
    subst (λ (b : ℕ). Remaining (length ends) c.args.from b ends hands c.loop-to.ends.items (map (λ h. h.items) c.loop-to.hands.items)) none
    c.loop-to.invariant.remaining

pub returns-clause-row : goal.returns-clause-row
returns-clause-row g c =
    let ends = c.args.ends.now.items in
    let hands = map (λ h. h.items) c.args.hands.now.items in
    let row = c.loop-to.invariant.row in
    let none : c.loop-to.to ≡ 0 = omega (arith, c.loop-to-test.false) in
    (row.0, row.1, omega (arith, row.2, none), subst (λ (b : ℕ). IsRow ends hands c.args.from b row.0) none row.3)

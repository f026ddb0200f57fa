use Rattle.std.proofs.Common.{rules, ◌≡◌, ◌∙◌, ◌+◌, ◌-◌, ◌*◌, ℕ, List, Some, length, map, ap, sym, subst, arith, inl, inr}
use Rattle.std.specs.Prelude.{slice_get}
use Rattle.std.proofs.lemmas.List.{length-append, length-map}
use Rattle.seam_machine.proofs.Flats.{one_more_row}
use Rattle.seam_logged.specs.Mesh.{IsCell}
use Rattle.seam_logged.specs.SomeLinks.{Remaining, Below}
use Rattle.seam_logged.proofs.Rows.{full_reached}
use Rattle.seam_logged.proofs.Meets.{AreCells, remaining_all, remaining_less, paired_less, cell_before, cells_none, cells_more, cells_all}
use Rattle.seam_logged.proofs.mesh.left.Goals as goal

pub loop-from-init : goal.loop-from-init
loop-from-init g c =
    let ends = c.args.ends.items in
    let n = length ends in
    let hands = map (λ h. h.items) c.args.hands.items in
    let all : c.len-from.result ≡ n = search rules in
    let none = c.new-links.ensures.items in
    record {
      small = omega (arith, all);
      remaining = rw all (remaining_all n ends hands n 0 (full_reached n ends c.requires.full));
      many = rw (all, none) (omega arith);
      cells = rw none (cells_none n ends hands c.len-from.result);
    }

pub meet_row-requires-clause-paired : goal.meet_row-requires-clause-paired
meet_row-requires-clause-paired g c =
    let ends = c.args.ends.items in
    paired_less (length ends) ends (map (λ h. h.items) c.args.hands.items) c.loop-from.from 0 c.loop-from.ends.items
    (map (λ h. h.items) c.loop-from.hands.items) c.loop-from.invariant.remaining c.requires.paired

pub meet_row-requires-clause-hands : goal.meet_row-requires-clause-hands
meet_row-requires-clause-hands g c =
    let r = c.loop-from.invariant.remaining in
    let many = length-map c.args.hands.items (λ h. h.items) in
    let many' = length-map c.loop-from.hands.items (λ h. h.items) in
    omega (arith, r.many, r.reached.count, many, many', c.requires.hands)

pub loop-from-preserved : goal.loop-from-preserved
loop-from-preserved g c =
    let ends = c.args.ends.items in
    let n = length ends in
    let hands = map (λ h. h.items) c.args.hands.items in
    let from = c.loop-from.from in
    let at = from - 1 in
    let back : at + 1 ≡ from = omega (arith, c.loop-from-test.true) in
    let inv = c.loop-from.invariant in
    let ends' = c.loop-from.ends.items in
    let hands' = map (λ h. h.items) c.loop-from.hands.items in
    let ends'' = c.meet_row.new.ends.items in
    let hands'' = map (λ h. h.items) c.meet_row.new.hands.items in
    let count : length ends' ≡ n = inv.remaining.reached.count in
    let old = map (λ v. v.items) c.loop-from.links.items in
    let new = map (λ v. v.items) c.meet_row.new.links.items in
    let one : Remaining n at 0 ends' hands' ends'' hands'' =
    subst (λ (m : ℕ). Remaining m at 0 ends' hands' ends'' hands'') count c.in_ok-meet_row.ensures.remaining in
    let below : (x y : ℕ) → Below at 0 x y → Below from 0 x y =
    λ x y b. elim b [ inl p ↦ inl (omega (arith, p, back)) | inr p ↦ absurd (omega (arith, p.1)) ] in
    let got = c.in_ok-meet_row.ensures.row in
    let row = got.0 in
    let wide : length row ≡ n = got.2 ∙ count in
    let here : (k : ℕ) (l : List _) → slice_get row k ≡ Some l → IsCell ends hands at k l = λ k l e.
    let zero : 0 + k ≡ k = omega arith in
    cell_before n ends hands from 0 ends' hands' inv.remaining at k l (inl (omega (arith, back)))
    (subst (λ (j : ℕ). IsCell ends' hands' at j l) zero (got.3 k l e)) in
    let rest : AreCells n ends hands (at + 1) old = subst (λ (a : ℕ). AreCells n ends hands a old) (sym back) inv.cells in
    let more : from * n ≡ at * n + n = ap (λ (k : ℕ). k * n) (sym back) ∙ one_more_row at n in
    let many : length c.meet_row.new.links.items ≡ n + length c.loop-from.links.items =
    sym (length-map c.meet_row.new.links.items (λ v. v.items))
    ∙ (ap length got.1 ∙ (length-append row old ∙ omega (arith, wide, length-map c.loop-from.links.items (λ v. v.items)))) in
    record {
      small = omega (arith, inv.small, back);
      remaining = remaining_less n ends hands from 0 ends' hands' inv.remaining at 0 ends'' hands'' one below;
      many = omega (arith, inv.many, more, many);
      cells = subst (AreCells n ends hands at) (sym got.1) (cells_more n ends hands at row old wide here rest);
    }

pub returns-clause-cells : goal.returns-clause-cells
returns-clause-cells g c =
    let ends = c.args.ends.items in
    let n = length ends in
    let hands = map (λ h. h.items) c.args.hands.items in
    let none : c.loop-from.from ≡ 0 = omega (arith, c.loop-from-test.false) in
    let links = map (λ v. v.items) c.loop-from.links.items in
    let no_more : c.loop-from.from * n ≡ 0 = ap (λ (k : ℕ). k * n) none ∙ omega arith in
    let many : length links ≡ n * n =
    length-map c.loop-from.links.items (λ v. v.items) ∙ (let h = c.loop-from.invariant.many in omega (arith, h, no_more)) in
    let cells : AreCells n ends hands 0 links = subst (λ (a : ℕ). AreCells n ends hands a links) none c.loop-from.invariant.cells in
    rw c.into_vec.ensures.items (cells_all n ends hands links many cells)

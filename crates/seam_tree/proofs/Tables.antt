-- The table of the cells' areas: what it has, and what one more cut writes into it.
use Rattle.std.proofs.Common.{◌≡◌, ℕ, ◌+◌, ◌<◌, ◌≤◌, List, length, set, get_or, sym, ◌∙◌, ap, arith, inl, inr, get_or-set_other}
use Rattle.std.proofs.Common.{map}
use Rattle.std.proofs.lemmas.List.{length-set, same_lists}
use Rattle.std.proofs.lemmas.List.FromFn.{get_or-map-range_with_len}
use Rattle.std.proofs.lemmas.Grind.{get_or-set_at}
use Rattle.std.specs.List.{range_with_len}
use Rattle.seam_geo.specs.Rect.{Area}
use Rattle.seam_tree.specs.declared.cut.Cut.{Cut}
use Rattle.seam_tree.specs.Boundary.{below, above}
use Rattle.seam_tree.specs.Division.{Division, area, area_after, cells_of, cut_after}
use Rattle.seam_tree.specs.Change.{with_cut}
use Rattle.seam_tree.specs.Table.{area_table, table_after}
use Rattle.seam_tree.proofs.Steps.{area_new, area_cut, area_other, same_or_not}
use Rattle.seam_tree.proofs.Agree.{AgreeBelow, area_agree}
use Rattle.seam_tree.proofs.Changes.{agree_with_cut, cells_with_cut, last_cut}

-- what the table has at a number
pub table_at : (t : Division) (n c : ℕ) (d : Area) → c < 16 → get_or (table_after t n) c d ≡ area_after t n c
table_at t n c d small = get_or-map-range_with_len (area_after t n) 0 16 c c d small (omega arith)

table_step_at : (t : Division) (n k m : ℕ) (lower upper : Area) → n < 15 → (cut_after t n).cell ≤ n → k ≡ (cut_after t n).cell → m ≡ n + 1
    → lower ≡ below (area_after t n (cut_after t n).cell) (cut_after t n).boundary
    → upper ≡ above (area_after t n (cut_after t n).cell) (cut_after t n).boundary
    → (c : ℕ) (d : Area) → c < 16 → get_or (set (set (table_after t n) k lower) m upper) c d ≡ area_after t (n + 1) c
table_step_at t n k m lower upper small there cell next low high c d within =
    let kept : length (set (table_after t n) k lower) ≡ 16 = length-set (table_after t n) k lower in
    elim (same_or_not c (n + 1)) [
      | inl is ↦ get_or-set_at (set (table_after t n) k lower) m c upper d (is ∙ sym next) (omega (arith, kept)) ∙ high
          ∙ sym (area_new t n c is)
      | inr other ↦ get_or-set_other (set (table_after t n) k lower) m c upper d (λ same. other (omega arith))
          ∙ elim (same_or_not c (cut_after t n).cell) [
            | inl is ↦ get_or-set_at (table_after t n) k c lower d (is ∙ sym cell) (omega arith) ∙ low
                ∙ ap (λ (j : ℕ). below (area_after t n j) (cut_after t n).boundary) (sym is)
                ∙ sym (area_cut t n c other is)
            | inr not_cut ↦ get_or-set_other (table_after t n) k c lower d (λ same. not_cut (omega arith))
                ∙ table_at t n c d within
                ∙ sym (area_other t n c other not_cut)
          ]
    ]

-- one more cut writes the lower part over the cell that it cut, and the upper part behind the others
pub table_step : (t : Division) (n k m : ℕ) (lower upper : Area) → n < 15 → (cut_after t n).cell ≤ n → k ≡ (cut_after t n).cell → m ≡ n + 1
    → lower ≡ below (area_after t n (cut_after t n).cell) (cut_after t n).boundary
    → upper ≡ above (area_after t n (cut_after t n).cell) (cut_after t n).boundary
    → set (set (table_after t n) k lower) m upper ≡ table_after t (n + 1)
table_step t n k m lower upper small there cell next low high =
    let kept : length (set (set (table_after t n) k lower) m upper) ≡ 16 =
    length-set (set (table_after t n) k lower) m upper ∙ length-set (table_after t n) k lower in
    same_lists (set (set (table_after t n) k lower) m upper) (table_after t (n + 1)) kept
    (λ c d within. let place : c < 16 = omega (arith, kept) in
    table_step_at t n k m lower upper small there cell next low high c d place ∙ sym (table_at t (n + 1) c d place))

table_agree : (t u : Division) (n : ℕ) → AgreeBelow t u n → table_after t n ≡ table_after u n
table_agree t u n same = λ i. map (λ (c : ℕ). area_agree t u n same c i) (range_with_len 0 16)

-- the table of a tree with a further cut
pub table_with_cut : (t : Division) (cut : Cut) (k m : ℕ) (lower upper : Area) → cells_of t < 16 → cut.cell < cells_of t → k ≡ cut.cell
    → m ≡ cells_of t → lower ≡ below (area t cut.cell) cut.boundary → upper ≡ above (area t cut.cell) cut.boundary
    → set (set (area_table t) k lower) m upper ≡ area_table (with_cut t cut.cell cut.boundary)
table_with_cut t cut k m lower upper room there cell next low high =
    let u : Division = with_cut t cut.cell cut.boundary in
    let n : ℕ = length t.cuts in
    let agree : AgreeBelow u t n = agree_with_cut t cut.cell cut.boundary in
    let last : cut_after u n ≡ cut = last_cut t cut.cell cut.boundary in
    let last_cell : (cut_after u n).cell ≡ cut.cell = ap (λ (c : Cut). c.cell) last in
    let all : n + 1 ≡ length u.cuts = omega (arith, cells_with_cut t cut.cell cut.boundary) in
    let low_after : below (area_after u n (cut_after u n).cell) (cut_after u n).boundary ≡ below (area t cut.cell) cut.boundary =
    ap (λ (c : Cut). below (area_after u n c.cell) c.boundary) last
    ∙ ap (λ (a : Area). below a cut.boundary) (area_agree u t n agree cut.cell) in
    let high_after : above (area_after u n (cut_after u n).cell) (cut_after u n).boundary ≡ above (area t cut.cell) cut.boundary =
    ap (λ (c : Cut). above (area_after u n c.cell) c.boundary) last
    ∙ ap (λ (a : Area). above a cut.boundary) (area_agree u t n agree cut.cell) in
    let step : set (set (table_after u n) k lower) m upper ≡ table_after u (n + 1) =
    table_step u n k m lower upper (omega arith) (omega (arith, last_cell)) (cell ∙ sym last_cell) next
    (low ∙ sym low_after) (high ∙ sym high_after) in
    ap (λ (areas : List Area). set (set areas k lower) m upper) (sym (table_agree u t n agree))
    ∙ step
    ∙ ap (table_after u) all

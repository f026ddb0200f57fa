use Rattle.std.proofs.Common.{◌≡◌, ◌⊎◌, inl, inr, ◌↔◌, ◌&&◌, ℕ, Bool, false, nat_le, nat_lt, IsTrue, sym, ap, subst, ◌∙◌, arith}
use Rattle.std.specs.Cmp.{nat_cmp_total}
use Rattle.std.specs.Ordering.{nat_cmp}
use Rattle.std.proofs.lemmas.Bool.Decides.{nat_tests}
use Rattle.std.specs.FinSet as set
use Rattle.seam_geo.specs.declared.pos.Pos.{Pos}
use Rattle.seam_geo.specs.Rect.{distance_to}
use Rattle.seam_tree.specs.Cells.{Cells}
use Rattle.seam_tree.specs.Division.{Division, area, cells_of}
use Rattle.seam_haunt.specs.Places.{Place, home_at, settled}
use Rattle.seam_haunt.specs.Haunts.{is_close, is_haunt, haunts_of, IsHaunt}
use Rattle.seam_haunt.proofs.Chosen.{contains_haunts_of, haunts_of_each, contains_haunts_more, contains_haunts_same, close_is_haunt}
use Rattle.seam_haunt.proofs.Chosen.{far_is_none, home_is_none, beyond_is_not_close}
use Rattle.seam_haunt.proofs.Settling.{haunts_without_home}
use Rattle.seam_haunt.proofs.Around.{HoldsAround, haunts_are_none}
use Rattle.seam_haunt.proofs.haunts_after.Goals as goal
use Rattle.seam_haunt.proofs.haunts_after.Goals.{then-cell-home+then-is_within+then-is_close, else-cell-home}
use Rattle.seam_haunt.proofs.haunts_after.Goals.{else-cell-home-via-else-cell-home, else-cell-home-via-then-cell-home+else-is_within}
use Rattle.seam_haunt.proofs.haunts_after.Goals.{else-cell-home-via-then-cell-home+then-is_within+else-is_close}

pub loop-cell-init : goal.loop-cell-init
loop-cell-init c cell =
    ap (λ (s : Cells). set.contains s cell) c.none-haunts.ensures ∙ set.contains-empty nat_cmp cell ∙ grind (arith, nat_tests)

pub loop-cell-preserved : goal.loop-cell-preserved
loop-cell-preserved c cell =
    let test : ℕ → Bool = is_haunt c.args.pos c.args.home c.args.old c.args.tree.now c.args.near c.args.far in
    elim c.if-cell-home.branch [
      | then-cell-home+then-is_within+then-is_close w ↦
          ap (λ (s : Cells). set.contains s cell) (w.haunts-is ∙ w.with-haunts.ensures)
          ∙ contains_haunts_more test c.loop-cell.cell c.loop-cell.haunts c.loop-cell.invariant
          (close_is_haunt c.args.pos c.args.home c.args.old c.args.tree.now c.args.near c.args.far c.loop-cell.cell w.if-cell-home.true
          (sym (w.is_close.ensures ∙ (λ i. is_close (c.in-Some.ensures.1 i) c.args.pos (w.holds.ensures.value i) c.args.near c.args.far))
          ∙ w.if-is_close.true)) cell
      | else-cell-home w ↦
          let fails : test c.loop-cell.cell ≡ false =
          elim w.else-cell-home.branch [
            | else-cell-home-via-then-cell-home+else-is_within v ↦
                far_is_none c.args.pos c.args.home c.args.old c.args.tree.now c.args.near c.args.far c.loop-cell.cell
                (beyond_is_not_close (area c.args.tree.now c.loop-cell.cell) c.args.pos _ c.args.near c.args.far
                (sym (v.is_within.ensures ∙ (λ i. nat_le (distance_to (c.in-Some.ensures.1 i) c.args.pos) (c.max-reach.ensures i)))
                ∙ v.if-is_within.false))
            | else-cell-home-via-then-cell-home+then-is_within+else-is_close v ↦
                far_is_none c.args.pos c.args.home c.args.old c.args.tree.now c.args.near c.args.far c.loop-cell.cell
                (sym (v.is_close.ensures
                ∙ (λ i. is_close (c.in-Some.ensures.1 i) c.args.pos (v.holds.ensures.value i) c.args.near c.args.far))
                ∙ v.if-is_close.false)
            | else-cell-home-via-else-cell-home v ↦
                home_is_none c.args.pos c.args.home c.args.old c.args.tree.now c.args.near c.args.far c.loop-cell.cell v.if-cell-home.false
          ] in
          ap (λ (s : Cells). set.contains s cell) w.haunts-is
          ∙ contains_haunts_same test c.loop-cell.cell c.loop-cell.haunts c.loop-cell.invariant fails cell
    ]

all_cells : (c : goal.After-loop-cell) → c.loop-cell.cell ≡ cells_of c.args.tree.now
all_cells c = omega (arith, c.cells-cells.ensures.count, c.loop-cell.auto.cell-end, c.loop-cell-test.false)

pub returns-clause-value : goal.returns-clause-value
returns-clause-value c =
    set.same_set nat_cmp_total set.nat_cmp-IsAntisymmetric _ _ (λ cell.
    c.loop-cell.invariant cell
    ∙ ap (λ (n : ℕ). nat_lt cell n && is_haunt c.args.pos c.args.home c.args.old c.args.tree.now c.args.near c.args.far cell) (all_cells c)
    ∙ sym (contains_haunts_of c.args.pos c.args.home c.args.old c.args.tree.now c.args.near c.args.far cell))

pub returns-then-is_deep_inside-clause-value : goal.returns-then-is_deep_inside-clause-value
returns-then-is_deep_inside-clause-value c =
    let around = c.is_deep_inside.ensures.0 c.if-is_deep_inside.true in
    c.none-haunts.ensures
    ∙ sym (haunts_are_none c.args.tree.now c.args.pos c.args.home c.args.old c.args.near c.args.far c.cells-cells.ensures.tree around.0
    (subst (HoldsAround (area c.args.tree.now c.args.home) c.args.pos) c.max-reach.ensures around.1))

module _ (p : Pos) (home : ℕ) (old : Cells) (t : Division) (near far : ℕ) (haunts : Cells) (is : haunts ≡ haunts_of p home old t near far)
  where
    each_by : (cell : ℕ) → IsTrue (set.contains haunts cell) ↔ IsHaunt p home old t near far cell
    each_by cell =
        subst (λ (s : Cells). IsTrue (set.contains s cell) ↔ IsHaunt p home old t near far cell)
        (sym is) (haunts_of_each p home old t near far cell)

    place_by : (kept : ℕ) (was : Place) → home ≡ home_at kept t was.home p
        → (old ≡ set.insert was.ghosts was.home) ⊎ ((home ≡ was.home) × (old ≡ was.ghosts))
        → haunts ≡ (settled (record { kept = kept; near = near; far = far }) t was p).ghosts
    place_by kept was home_is (inl moved) = is ∙ (λ i. haunts_of p (home_is i) (moved i) t near far)
    place_by kept was home_is (inr (stayed, same)) =
        is ∙ sym (haunts_without_home p home t near far old)
        ∙ (λ i. haunts_of p (home_is i) (set.insert (same i) (stayed i)) t near far)

pub returns-then-is_deep_inside-clause-each : goal.returns-then-is_deep_inside-clause-each
returns-then-is_deep_inside-clause-each c = each_by _ _ _ _ _ _ _ (returns-then-is_deep_inside-clause-value c)

pub returns-then-is_deep_inside-clause-place : goal.returns-then-is_deep_inside-clause-place
returns-then-is_deep_inside-clause-place c = place_by _ _ _ _ _ _ _ (returns-then-is_deep_inside-clause-value c)

pub returns-clause-each : goal.returns-clause-each
returns-clause-each c = each_by _ _ _ _ _ _ _ (returns-clause-value c)

pub returns-clause-place : goal.returns-clause-place
returns-clause-place c = place_by _ _ _ _ _ _ _ (returns-clause-value c)

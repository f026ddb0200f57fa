use Rattle.seam_law_ghosts.proofs.Prelude.{◌≡◌, ℕ, ◌<◌, true, inl, inr, Some, ap, ◌∙◌, arith, cells_of, cell_count, RealView, copy_if}
use Rattle.seam_law_ghosts.proofs.Prelude.{World, Frame, real_at, IsBetweenRounds, present, copy_at, AreCopiesBetweenRounds}
use Rattle.std.specs.FinSet as set
use Rattle.seam_law_ghosts.proofs.newest.near_entities_are_known.Goals as goal

module _ (f : Frame) (w : World) (between : IsBetweenRounds f w) (copies : AreCopiesBetweenRounds f w) where
  cell_is_low : (e i : ℕ) (r : RealView) → real_at e w i ≡ Some r → i < cell_count
  cell_is_low e i r here =
      let most = between.frame.tree.cells_to in
      let low : i < cells_of f.tree = (between.settled e i r here).fits.home in
      omega (arith, most, low)

  haunt_has_copy : (x j : ℕ) (q : RealView) → real_at x w j ≡ Some q → (i : ℕ) → i < cell_count →
      set.contains q.haunts i ≡ true → copy_at x w i ≡ Some (present f q)
  haunt_has_copy x j q there i low haunt =
      (copies.settled x j q there).copies i low ∙ ap (λ b. copy_if b (present f q)) haunt

pub returns : goal.returns
returns c f w between placed copies reach e i r here x j q there near =
    elim (c.who_may_be_seen_is_known.ensures f w between placed reach e i r here x j q there near) [
      | inl is ↦ inl is
      | inr haunt ↦ inr (haunt_has_copy f w between copies x j q there i (cell_is_low f w between copies e i r here) haunt)
    ]

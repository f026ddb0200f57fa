-- A cell knows each entity that a witness there may have in view.
use Rattle.seam_law_ghosts.proofs.Prelude.{◌≡◌, ℕ, ◌+◌, ◌<◌, ◌≤◌, ◌⊎◌, Bool, true, false, cond, nat_le, Some, refl, sym, ap, ◌∙◌, subst}
use Rattle.seam_law_ghosts.proofs.Prelude.{arith, inl, inr, cases_eq, nat_tests, Pos, distance, Area, distance_to, Division, area, leaf_at}
use Rattle.seam_law_ghosts.proofs.Prelude.{cells_of, IsInSpace, IsTree, distance_to_cell, Place, home_at, GhostsReach, RealView, is_inside}
use Rattle.seam_law_ghosts.proofs.Prelude.{World, Frame, real_at, IsBetweenRounds, distances_of, place_of, ArePlaced, HasGhost}
use Rattle.seam_law_ghosts.proofs.Prelude.{ghosts_settled}
use Rattle.std.specs.FinSet as set
use Rattle.seam_geo.specs.Rect.{Holds}
use Rattle.seam_tree.proofs.Areas.{leaf_at_is}

in_space : (size : ℕ) (t : Division) (p : Pos) → t.size ≡ size → is_inside size p ≡ true → IsInSpace t p
in_space size t p same is = record { x_inside = grind (arith, nat_tests, same, is); z_inside = grind (arith, nat_tests, same, is) }

at_none : (a : Area) (p : Pos) → Holds a p → distance_to a p ≡ 0
at_none a p h =
    let x0 = h.from_x in
    let x1 = h.to_x in
    let z0 = h.from_z in
    let z1 = h.to_z in
    omega (arith, x0, x1, z0, z1)

-- a cell that is the home of a position is near it
near_by : (kept : ℕ) (t : Division) (home : ℕ) (p : Pos) (b : Bool) → nat_le (distance_to_cell t home p) kept ≡ b →
    cond b home (leaf_at t p) ≡ home → IsTree t → IsInSpace t p → distance_to_cell t home p ≤ kept
near_by kept t home p true near at tree inside = grind (arith, nat_tests, near)
near_by kept t home p false near at tree inside =
    let holds : Holds (area t home) p = subst (λ c. Holds (area t c) p) at (leaf_at_is t p tree inside).holds in
    let none = at_none (area t home) p holds in
    omega (arith, none)

module _ (f : Frame) (w : World) (between : IsBetweenRounds f w) (placed : ArePlaced f w) (e k : ℕ) (r : RealView)
    (at : real_at e w k ≡ Some r) where
  home_is : home_at f.settings.offload_hysteresis f.tree k r.state.pos ≡ k
  home_is = ap (λ (p : Place). p.home) (placed.settled e k r at)

  pub home_is_near : distance_to_cell f.tree k r.state.pos ≤ f.settings.offload_hysteresis
  home_is_near =
      near_by f.settings.offload_hysteresis f.tree k r.state.pos _ refl home_is between.frame.tree
      (in_space f.settings.size f.tree r.state.pos placed.space (between.settled e k r at).fits.inside)

  pub home_is_cell : k < cells_of f.tree
  home_is_cell = (between.settled e k r at).fits.home

  -- another cell within the distance has a ghost
  pub ghost_near : (j : ℕ) → (j ≡ k → ⊥) → j < cells_of f.tree → distance_to_cell f.tree j r.state.pos ≤ f.settings.ghost_distance →
      set.contains r.haunts j ≡ true
  ghost_near j other low near =
      let has : HasGhost (distances_of f.settings) f.tree (place_of k r) r.state.pos j =
      record { there = low; away = λ is. other (is ∙ home_is); close = inl near } in
      sym (ap (λ (p : Place). set.contains p.ghosts j) (placed.settled e k r at))
      ∙ (ghosts_settled (distances_of f.settings) f.tree (place_of k r) r.state.pos j).1 has

  -- a cell that has a ghost is within the farther distance
  pub ghost_is_near : (j : ℕ) → set.contains r.haunts j ≡ true →
      distance_to_cell f.tree j r.state.pos ≤ f.settings.ghost_distance + f.settings.ghost_hysteresis
  ghost_is_near j there =
      let has = (ghosts_settled (distances_of f.settings) f.tree (place_of k r) r.state.pos j).0
      (ap (λ (p : Place). set.contains p.ghosts j) (placed.settled e k r at) ∙ there) in
      near_of has.close
    where
      near_of : (distance_to_cell f.tree j r.state.pos ≤ f.settings.ghost_distance)
          ⊎ (((set.contains r.haunts j ≡ true) ⊎ (j ≡ k)) × (distance_to_cell f.tree j r.state.pos
          ≤ f.settings.ghost_distance + f.settings.ghost_hysteresis)) →
          distance_to_cell f.tree j r.state.pos ≤ f.settings.ghost_distance + f.settings.ghost_hysteresis
      near_of (inl near) = omega (arith, near)
      near_of (inr both) = both.1

module _ (over : (a : Area) (p q : Pos) → distance_to a p ≤ distance p q + distance_to a q) (f : Frame) (w : World)
    (between : IsBetweenRounds f w) (placed : ArePlaced f w) (reach : GhostsReach f.settings) where
  pub known_within : (e i : ℕ) (r : RealView) → real_at e w i ≡ Some r → (x j : ℕ) (q : RealView) → real_at x w j ≡ Some q →
      distance q.state.pos r.state.pos ≤ f.settings.view_radius + f.settings.view_hysteresis → (i ≡ j) ⊎ (set.contains q.haunts i ≡ true)
  known_within e i r here x j q there near = elim (cases_eq i j) [
    | inl is ↦ inl is
    | inr n ↦
        let home = home_is_near f w between placed e i r here in
        let way = over (area f.tree i) q.state.pos r.state.pos in
        inr (ghost_near f w between placed x j q there i n (home_is_cell f w between placed e i r here)
        (omega (arith, home, way, near, reach)))
  ]

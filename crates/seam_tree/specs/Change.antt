-- What a cut and a shift make of a tree.
use Rattle.std.specs.Prelude.{◌≡◌, ◌≢◌, ℕ, zero, suc, ◌+◌, ◌-◌, ◌<◌, ◌≤◌, ◌⊎◌, List, [], ◌∷◌, ◌++◌, Some}
use Rattle.std.specs.Option.{option_map}
use Rattle.seam_geo.specs.declared.pos.Pos.{Pos}
use Rattle.seam_geo.specs.Rect.{Holds}
use Rattle.seam_tree.specs.declared.boundary.Boundary.{Boundary}
use Rattle.seam_tree.specs.declared.cut.Cut.{Cut}
use Rattle.seam_tree.specs.Boundary.{place_along, below, above, RunsThrough, LiesWithin}
use Rattle.seam_tree.specs.Division.{Division, cells_of, area, area_divided_by, boundary_of, cell_cut_by, cut_after, leaf_at, IsInSpace}

-- the tree with one more cut
abbrev pub with_cut : Division → ℕ → Boundary → Division
with_cut t cell b = record { size = t.size; cuts = t.cuts ++ record { cell = cell; boundary = b } ∷ [] }

-- the cut with its boundary at another place
abbrev pub cut_moved : Cut → ℕ → Cut
cut_moved c at = record { cell = c.cell; boundary = record { axis = c.boundary.axis; at = at } }

-- the cuts with another place for the one after n others
abbrev pub cuts_moved : List Cut → ℕ → ℕ → List Cut
cuts_moved [] n at = []
cuts_moved (c ∷ cuts) zero at = cut_moved c at ∷ cuts
cuts_moved (c ∷ cuts) (suc n) at = c ∷ cuts_moved cuts n at

-- the tree with a boundary at another place
abbrev pub with_place : Division → ℕ → ℕ → Division
with_place t b at = record { size = t.size; cuts = cuts_moved t.cuts (b - 1) at }

-- the boundary may cut the cell: there is the cell, neither part is empty, and there is room for one more cell
pub record CanCut (t : Division) (cell : ℕ) (b : Boundary) : Type 0 where
  pub there : cell < cells_of t
  pub runs : RunsThrough b (area t cell)
  pub room : cells_of t < 16

-- a cell was cut: it keeps the part below the boundary, the new cell has the other, and nothing else changes
pub record CutsCell (old new : Division) (cell : ℕ) (b : Boundary) : Type 0 where
  pub size : new.size ≡ old.size
  pub cells : cells_of new ≡ cells_of old + 1
  pub lower : area new cell ≡ below (area old cell) b
  pub upper : area new (cells_of old) ≡ above (area old cell) b
  pub other_cells : (c : ℕ) → c < cells_of old → c ≢ cell → area new c ≡ area old c
  pub boundary : boundary_of new (cells_of old) ≡ Some b
  pub cut_cell : cell_cut_by new (cells_of old) ≡ Some cell
  pub other_boundaries : (k : ℕ) → k ≢ cells_of old → boundary_of new k ≡ boundary_of old k
  pub other_cuts : (k : ℕ) → k ≢ cells_of old → cell_cut_by new k ≡ cell_cut_by old k

-- the place is on one side of the first place and on the other of the second
abbrev pub IsBetween : ℕ → ℕ → ℕ → Type 0
IsBetween was at place = ((was ≤ place) × (place < at)) ⊎ ((at ≤ place) × (place < was))

-- the position lies in the area that a boundary divides, between the boundary's place and another
pub record LiesBetween (t : Division) (b at : ℕ) (p : Pos) : Type 0 where
  pub divided : Holds (area_divided_by t b) p
  pub between : IsBetween (cut_after t (b - 1)).boundary.at at (place_along (cut_after t (b - 1)).boundary.axis p)

-- a boundary was moved: it lies at another place, and the other boundaries keep theirs; a cell keeps its area if that
-- does not lie within the area that the boundary divides, and a position keeps its cell if it does not lie there
-- between the two places
pub record MovesBoundary (old new : Division) (b at : ℕ) : Type 0 where
  pub size : new.size ≡ old.size
  pub cells : cells_of new ≡ cells_of old
  pub boundary : boundary_of new b ≡ option_map (λ (was : Boundary). record { axis = was.axis; at = at }) (boundary_of old b)
  pub other_boundaries : (k : ℕ) → k ≢ b → boundary_of new k ≡ boundary_of old k
  pub cuts : (k : ℕ) → cell_cut_by new k ≡ cell_cut_by old k
  pub areas : (c : ℕ) → c < cells_of old → (area new c ≡ area old c) ⊎ LiesWithin (area old c) (area_divided_by old b)
  pub leaves : (p : Pos) → IsInSpace old p → ¬ LiesBetween old b at p → leaf_at new p ≡ leaf_at old p

-- the tree came from the first one by cuts and shifts
pub data CameBy (t : Division) : Division → Type 0 where
  as_it_was : CameBy t t
  by_cut : (u : Division) (cell : ℕ) (b : Boundary) → CameBy t u → CameBy t (with_cut u cell b)
  by_shift : (u : Division) (b at : ℕ) → CameBy t u → CameBy t (with_place u b at)

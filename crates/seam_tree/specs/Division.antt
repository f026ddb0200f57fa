-- What a tree is: the cuts of a space in their order. The first cell is 0; the k-th cut makes boundary k and cell k.
use Rattle.std.specs.Prelude.{◌≡◌, ℕ, zero, suc, ◌+◌, ◌-◌, ◌<◌, ◌≤◌, ◌==◌, nat_le, ◌&&◌, List, length, slice_index_or, slice_get}
use Rattle.std.specs.Prelude.{if◌then◌else◌, Option, None, Some}
use Rattle.std.specs.Option.{option_map}
use Rattle.seam_geo.specs.declared.pos.Pos.{Pos}
use Rattle.seam_geo.specs.Rect.{Area, IsProper}
use Rattle.seam_tree.specs.declared.boundary.Axis.TheVariants.{X}
use Rattle.seam_tree.specs.declared.boundary.Boundary.{Boundary}
use Rattle.seam_tree.specs.declared.cut.Cut.{Cut}
use Rattle.seam_tree.specs.Boundary.{place_along, below, above, IsEmptyArea}

-- the size of a space, and its cuts, the earliest first
pub record Division : Type 0 where
  pub size : ℕ
  pub cuts : List Cut

-- the area of the whole space
abbrev pub whole : Division → Area
whole t = record { low = record { x = 0; z = 0 }; high = record { x = t.size; z = t.size } }

-- the position lies in the space
pub record IsInSpace (t : Division) (p : Pos) : Type 0 where
  pub x_inside : p.x < t.size
  pub z_inside : p.z < t.size

-- how many cells there are; they are the numbers below
abbrev pub cells_of : Division → ℕ
cells_of t = length t.cuts + 1

-- the entry where there is no cut
abbrev pub no_cut : Cut
no_cut = record { cell = 0; boundary = record { axis = X; at = 0 } }

-- the cut that was made after n others
abbrev pub cut_after : Division → ℕ → Cut
cut_after t n = slice_index_or t.cuts n no_cut

-- a cell's area after the first n cuts: the cell that is cut keeps the part below, and the new one gets the other
abbrev pub area_after : Division → ℕ → ℕ → Area
area_after t zero cell = whole t
area_after t (suc n) cell =
    if cell == suc n then above (area_after t n (cut_after t n).cell) (cut_after t n).boundary
    else (if cell == (cut_after t n).cell then below (area_after t n cell) (cut_after t n).boundary else area_after t n cell)

-- a cell's area
abbrev pub area : Division → ℕ → Area
area t cell = area_after t (length t.cuts) cell

-- the table has each cell's area at the cell's number
abbrev pub HasEachArea : Division → List Area → Type 0
HasEachArea t areas = (c : ℕ) → c < cells_of t → slice_get areas c ≡ Some (area t c)

-- the cell of a position after the first n cuts: a cut takes to the new cell what the cut cell had from the place on
abbrev pub leaf_after : Division → ℕ → Pos → ℕ
leaf_after t zero p = 0
leaf_after t (suc n) p =
    if ((cut_after t n).cell == leaf_after t n p) && nat_le (cut_after t n).boundary.at (place_along (cut_after t n).boundary.axis p)
    then suc n else leaf_after t n p

-- the cell of a position
abbrev pub leaf_at : Division → Pos → ℕ
leaf_at t p = leaf_after t (length t.cuts) p

-- the cut that made a boundary, if there is that boundary
abbrev pub cut_number : Division → ℕ → Option Cut
cut_number t b = if b == 0 then None else slice_get t.cuts (b - 1)

-- the boundary of a number
abbrev pub boundary_of : Division → ℕ → Option Boundary
boundary_of t b = option_map (λ (c : Cut). c.boundary) (cut_number t b)

-- the cell that a boundary's cut cut
abbrev pub cell_cut_by : Division → ℕ → Option ℕ
cell_cut_by t b = option_map (λ (c : Cut). c.cell) (cut_number t b)

-- there is a boundary of this number
pub record HasBoundary (t : Division) (b : ℕ) : Type 0 where
  pub from_one : 1 ≤ b
  pub to_last : b < cells_of t

-- no cell's area is empty
abbrev pub NoneEmpty : Division → Type 0
NoneEmpty t = (c : ℕ) → c < cells_of t → IsProper (area t c)

-- some cell's area is empty
abbrev pub SomeEmpty : Division → Type 0
SomeEmpty t = (c : ℕ) × (c < cells_of t) × IsEmptyArea (area t c)

-- what holds of every tree: its size and cells are within bounds, each cut cuts a cell that was there, and no cell's
-- area is empty
pub record IsTree (t : Division) : Type 0 where
  pub size_from : 1 ≤ t.size
  pub size_to : t.size ≤ 1000000
  pub cells_to : cells_of t ≤ 16
  pub cell_was_there : (n : ℕ) → n < length t.cuts → (cut_after t n).cell ≤ n
  pub none_empty : NoneEmpty t

-- the area that a boundary divides: that of the cell that its cut cut, as the cuts before it left it
abbrev pub area_divided_by : Division → ℕ → Area
area_divided_by t b = area_after t (b - 1) (cut_after t (b - 1)).cell

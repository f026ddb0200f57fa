-- Places: the cell to which an entity belongs, and the cells that have a ghost of it.
use Rattle.std.specs.Prelude.{◌≡◌, ◌≢◌, ℕ, ◌<◌, ◌≤◌, ◌⊎◌, nat_le, if◌then◌else◌, IsTrue, List, [], ◌∷◌, length}
use Rattle.std.specs.FinSet as set
use Rattle.seam_geo.specs.declared.pos.Pos.{Pos}
use Rattle.seam_tree.specs.Division.{Division, cells_of, leaf_at}
use Rattle.seam_tree.specs.Cells.{Cells}
use Rattle.seam_haunt.specs.Haunts.{distance_to_cell, haunts_of}

-- up to which distances from its area a cell keeps an entity, gets a ghost of it, and keeps that ghost
pub record Distances : Type 0 where
  pub kept : ℕ
  pub near : ℕ
  pub far : ℕ

-- a home, and the cells with a ghost
pub record Place : Type 0 where
  pub home : ℕ
  pub ghosts : Cells

-- the home of an entity at a position: the former home where that is near enough, else the leaf
abbrev pub home_at : ℕ → Division → ℕ → Pos → ℕ
home_at kept t home p = if nat_le (distance_to_cell t home p) kept then home else leaf_at t p

-- a place settled at a position; the former home counts among the cells that had a ghost
abbrev pub settled : Distances → Division → Place → Pos → Place
settled d t was p = record {
  home = home_at d.kept t was.home p;
  ghosts = haunts_of p (home_at d.kept t was.home p) (set.insert was.ghosts was.home) t d.near d.far;
}

-- the cell has a ghost in the place that is settled: it is not the home, and it is within `near`, or within `far` and had a
-- ghost or was the home
pub record HasGhost (d : Distances) (t : Division) (was : Place) (p : Pos) (cell : ℕ) : Type 0 where
  pub there : cell < cells_of t
  pub away : cell ≢ home_at d.kept t was.home p
  pub close : (distance_to_cell t cell p ≤ d.near)
      ⊎ ((IsTrue (set.contains was.ghosts cell) ⊎ (cell ≡ was.home)) × (distance_to_cell t cell p ≤ d.far))

-- settled at each of these positions in turn
abbrev pub settled_all : Distances → Division → Place → List Pos → Place
settled_all d t was [] = was
settled_all d t was (p ∷ path) = settled_all d t (settled d t was p) path

-- the place after a round: settled where the entity was at its start, and then after each call that it executed; where it
-- executed one, the settling at the start may be left out
abbrev pub IsPlaceAfter : Distances → Division → Place → Pos → List Pos → Place → Type 0
IsPlaceAfter d t was start path after =
    (after ≡ settled_all d t was (start ∷ path)) ⊎ ((1 ≤ length path) × (after ≡ settled_all d t was path))

-- where the entity is at the end
abbrev pub last_of : Pos → List Pos → Pos
last_of start [] = start
last_of start (p ∷ path) = last_of p path

-- the place needs no settling at the position: the home is near enough; a cell with a ghost is another one of the tree, and not too
-- far; and each other cell that is near has one
pub record IsAtRest (d : Distances) (t : Division) (place : Place) (p : Pos) : Type 0 where
  pub home : distance_to_cell t place.home p ≤ d.kept
  pub there : (cell : ℕ) → IsTrue (set.contains place.ghosts cell) → cell < cells_of t
  pub away : (cell : ℕ) → IsTrue (set.contains place.ghosts cell) → cell ≢ place.home
  pub not_far : (cell : ℕ) → IsTrue (set.contains place.ghosts cell) → distance_to_cell t cell p ≤ d.far
  pub near : (cell : ℕ) → cell < cells_of t → cell ≢ place.home → distance_to_cell t cell p ≤ d.near →
      IsTrue (set.contains place.ghosts cell)

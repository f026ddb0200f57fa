-- Which cells have a ghost of a real: its haunts.
use Rattle.std.specs.Prelude.{◌≢◌, ℕ, ◌<◌, ◌≤◌, ◌⊎◌, Bool, not, ◌==◌, nat_le, ◌&&◌, ◌||◌, IsTrue, filter}
use Rattle.std.specs.List.{range_with_len}
use Rattle.std.specs.FinSet as set
use Rattle.seam_geo.specs.declared.pos.Pos.{Pos}
use Rattle.seam_geo.specs.Rect.{Area, distance_to}
use Rattle.seam_tree.specs.Division.{Division, area, cells_of}
use Rattle.seam_tree.specs.Cells.{Cells}

-- how far a cell's area is from a position
abbrev pub distance_to_cell : Division → ℕ → Pos → ℕ
distance_to_cell t cell p = distance_to (area t cell) p

-- a haunt is a cell of the tree other than the home: one within `near`, or one that was a haunt and is within `far`
pub record IsHaunt (p : Pos) (home : ℕ) (old : Cells) (t : Division) (near far cell : ℕ) : Type 0 where
  pub there : cell < cells_of t
  pub away : cell ≢ home
  pub close : (distance_to_cell t cell p ≤ near) ⊎ (IsTrue (set.contains old cell) × (distance_to_cell t cell p ≤ far))

-- whether an area is within `near`, or within `far` where it was a haunt's
abbrev pub is_close : Area → Pos → Bool → ℕ → ℕ → Bool
is_close a p was_haunt near far = nat_le (distance_to a p) near || (was_haunt && nat_le (distance_to a p) far)

-- the same as a test of a cell of the tree
abbrev pub is_haunt : Pos → ℕ → Cells → Division → ℕ → ℕ → ℕ → Bool
is_haunt p home old t near far cell = not (cell == home) && is_close (area t cell) p (set.contains old cell) near far

-- the set of all haunts
abbrev pub haunts_of : Pos → ℕ → Cells → Division → ℕ → ℕ → Cells
haunts_of p home old t near far = set.from_list (filter (is_haunt p home old t near far) (range_with_len 0 (cells_of t)))

-- The places of entities in rising number, while one passes them.
use Rattle.std.specs.Prelude.{◌≤◌, ◌+◌, ◌++◌, ℕ, List, drop, length}
use Rattle.std.specs.Vec.{vec_len, vec_capacity}
use Rattle.seam_view.specs.declared.numbered.Passing.{Passing}

-- the places that are not passed yet
abbrev pub to_come : Passing → List ℕ
to_come p = drop p.next p.all.items

-- all places: those passed, and those to come
abbrev pub places_of : Passing → List ℕ
places_of p = p.passed.items ++ to_come p

-- so many more enter without memory: beside `len` slots in a vector of this capacity, and beside the places
pub record HasSlots (more len capacity : ℕ) (p : Passing) : Type 0 where
  pub few : more + len ≤ 0xffff_ffff
  pub slots : more + len ≤ capacity
  pub places : more + (vec_len p.passed + length (to_come p)) ≤ vec_capacity p.passed

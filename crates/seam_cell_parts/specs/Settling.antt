-- What settling takes and leaves in the parts of a cell.
use Rattle.std.specs.Prelude.{◌≡◌, ℕ, ◌+◌, ◌<◌, ◌==◌, true, false, List, [], ◌∷◌, ◌++◌, if◌then◌else◌}
use Rattle.std.specs.Ordering.{nat_cmp}
use Rattle.std.specs.FinMap as table
use Rattle.std.specs.FinSet as set
use Rattle.seam_node_steps.specs.Prelude.{Cells, Division, Here, RealView, Msg, Hand, settled_to, Map, NextPlace, home_after, haunts_at}
use Rattle.seam_node_steps.specs.Prelude.{Telling}
use Rattle.seam_cell_parts.specs.declared.settle.Begun.{Begun}

-- at a hand-over the cell counts as a former haunt
abbrev pub former : ℕ → ℕ → Cells → Cells
former me home old = if home == me then old else set.insert old me

-- a real of cell h that would stay and keep its haunts if it settled as it is
pub record IsAtRest (h : Here) (t : Division) (r : RealView) : Type 0 where
  pub home : home_after h t r.state.pos ≡ h.me
  pub haunts : haunts_at h t r.state.pos h.me r.haunts ≡ r.haunts

-- where the real goes, there is room for it among what is sent, and for its next place
pub record HasRoomFor (nexts : set.FinSet nat_cmp) (spare : ℕ) (t : Telling) : Type 0 where
  pub out : (t.home == t.me) ≡ false → 0 < spare
  pub next : (t.home == t.me) ≡ false → set.contains nexts t.entity ≡ true

-- the real that stays, or that goes
abbrev pub staying : RealView → Begun → RealView
staying r b = settled_to r b.telling.haunts (if b.has_told then r.beat + 1 else r.beat) r.generation

abbrev pub going : RealView → Begun → RealView
going r b = settled_to r b.telling.haunts (r.beat + 1) (r.generation + 1)

-- where a real went, its next place is there, and the Hand is sent last
pub record IsGone (r : RealView) (b : Begun) (nexts after_nexts : Map NextPlace) (out after_out : List (ℕ × Msg)) : Type 0 where
  pub next : after_nexts ≡ table.insert nexts r.entity (record { cell = b.telling.home; generation = r.generation + 1 })
  pub sent : after_out ≡ out ++ (b.telling.home, Hand (going r b) b.brought) ∷ []

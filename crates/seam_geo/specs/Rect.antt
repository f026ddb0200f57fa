-- Areas: what they hold, and how far they are.
use Rattle.std.specs.Prelude.{◌≡◌, ◌<◌, ◌≤◌, ℕ, ◌+◌, ◌-◌, max}
use Rattle.seam_geo.specs.declared.pos.Pos.{Pos}
use Rattle.seam_geo.specs.Pos.{distance}

-- an area, by its least position and the position past its greatest one
pub record Area : Type 0 where
  pub low : Pos
  pub high : Pos

-- the area is empty on neither axis
pub record IsProper (a : Area) : Type 0 where
  pub wide : a.low.x < a.high.x
  pub deep : a.low.z < a.high.z

-- the position lies in the area, which holds its lower edges and not its upper ones
pub record Holds (a : Area) (p : Pos) : Type 0 where
  pub from_x : a.low.x ≤ p.x
  pub to_x : p.x < a.high.x
  pub from_z : a.low.z ≤ p.z
  pub to_z : p.z < a.high.z

-- how far a place lies from the places from `low` up to, but without, `high`
abbrev pub distance_along : ℕ → ℕ → ℕ → ℕ
distance_along low high at = (low - at) + ((at + 1) - high)

-- how far a position lies from an area
abbrev pub distance_to : Area → Pos → ℕ
distance_to a p = max (distance_along a.low.x a.high.x p.x) (distance_along a.low.z a.high.z p.z)

-- `d` is the distance to a position of the area, and none of them is nearer
pub record IsNearest (a : Area) (p : Pos) (d : ℕ) : Type 0 where
  pub reached : (q : Pos) × Holds a q × (distance p q ≡ d)
  pub least : (q : Pos) → Holds a q → d ≤ distance p q

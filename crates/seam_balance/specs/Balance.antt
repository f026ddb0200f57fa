-- Where a tree's boundaries go when they are balanced.
use Rattle.std.specs.Prelude.{◌≡◌, ℕ, ◌+◌, ◌-◌, ◌<◌, ◌≤◌, Bool, nat_le, nat_lt, ◌&&◌, List, [], ◌∷◌, map, filter, count_by, if◌then◌else◌}
use Rattle.std.specs.Option.{option_map}
use Rattle.seam_geo.specs.declared.pos.Pos.{Pos}
use Rattle.seam_geo.specs.Pos.{gap}
use Rattle.seam_geo.specs.Rect.{Area}
use Rattle.seam_tree.specs.declared.boundary.Boundary.{Boundary}
use Rattle.seam_tree.specs.Boundary.{place_along}
use Rattle.seam_tree.specs.Division.{Division, cut_after, area_divided_by, boundary_of, cell_cut_by, cells_of, NoneEmpty}
use Rattle.seam_tree.specs.Change.{with_place}
use Rattle.seam_balance.specs.Order.{boundaries_from_root}

-- the boundary of a number that the tree has
abbrev pub boundary_at : Division → ℕ → Boundary
boundary_at t b = (cut_after t (b - 1)).boundary

-- whether an area holds a position
abbrev pub lies_in : Area → Pos → Bool
lies_in a p = (nat_le a.low.x p.x && nat_lt p.x a.high.x) && (nat_le a.low.z p.z && nat_lt p.z a.high.z)

-- where the positions of the area that a boundary divides lie along its axis
abbrev pub places_divided : Division → ℕ → List Pos → List ℕ
places_divided t b positions = map (place_along (boundary_at t b).axis) (filter (lies_in (area_divided_by t b)) positions)

-- how much the number of places below `at` differs from the number of those at or above it
abbrev pub difference : List ℕ → ℕ → ℕ
difference places at = gap (count_by (λ place. nat_lt place at) places) (count_by (λ place. nat_le at place) places)

-- the place some steps away from one on the way to another
abbrev pub stepped : ℕ → ℕ → ℕ → ℕ
stepped from end steps = if nat_lt end from then from - steps else from + steps

-- the boundary may go there: the place is at most `shift` away, and no cell's area is empty then
pub record IsAllowed (t : Division) (b shift at : ℕ) : Type 0 where
  pub near : gap at (boundary_at t b).at ≤ shift
  pub none_empty : NoneEmpty (with_place t b at)

-- the allowed place that divides the positions with the least difference, and the lowest of those
pub record IsBest (t : Division) (b shift : ℕ) (positions : List Pos) (at : ℕ) : Type 0 where
  pub allowed : IsAllowed t b shift at
  pub least : (other : ℕ) → IsAllowed t b shift other →
      difference (places_divided t b positions) at ≤ difference (places_divided t b positions) other
  pub lowest : (other : ℕ) → IsAllowed t b shift other → other < at →
      difference (places_divided t b positions) at < difference (places_divided t b positions) other

-- the boundaries of the list go to their best places in turn, each in the tree that those before it left
abbrev pub BalancedInTurn : List Pos → ℕ → Division → List ℕ → Division → Type 0
BalancedInTurn positions shift t [] new = new ≡ t
BalancedInTurn positions shift t (b ∷ later) new =
    (at : ℕ) × IsBest t b shift positions at × BalancedInTurn positions shift (with_place t b at) later new

-- all boundaries do so, from the root on
abbrev pub IsBalanced : List Pos → ℕ → Division → Division → Type 0
IsBalanced positions shift t new = BalancedInTurn positions shift t (boundaries_from_root t) new

-- the trees have the same cuts, at places of their own
pub record HasSameCuts (old new : Division) : Type 0 where
  pub size : new.size ≡ old.size
  pub cells : cells_of new ≡ cells_of old
  pub cuts : (k : ℕ) → cell_cut_by new k ≡ cell_cut_by old k
  pub axes : (k : ℕ) → option_map (λ (b : Boundary). b.axis) (boundary_of new k) ≡ option_map (λ (b : Boundary). b.axis) (boundary_of old k)

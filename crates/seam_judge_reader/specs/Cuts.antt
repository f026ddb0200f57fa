-- The cuts of a tree, one after the other.
use Rattle.std.specs.Prelude.{◌≡◌, ⊤, ℕ, Option, Some}
use Rattle.std.specs.Option.{option_map}
use Rattle.seam_tree.specs.declared.boundary.Axis.{Axis}
use Rattle.seam_tree.specs.declared.boundary.Boundary.{Boundary}
use Rattle.seam_tree.specs.Division.{Division, boundary_of, cell_cut_by}
use Rattle.seam_tree.specs.Change.{CanCut}
use Rattle.seam_law_texts.specs.declared.kinds.Kind.{Kind}
use Rattle.seam_law_texts.specs.declared.kinds.Kind.TheVariants.{Bound}
use Rattle.seam_law_texts.specs.TextLines.{LineData}

-- what a line says may come next: where it is a boundary, the tree so far can be cut there
abbrev pub CanSay : Option Division → (k : Kind) → LineData k → Type 0
CanSay tree Bound x = (t : Division) → tree ≡ Some t → CanCut t x.1.cell x.1.boundary
CanSay tree k x = ⊤

-- the axis of the boundary of a number
abbrev pub axis_at : Division → ℕ → Option Axis
axis_at t k = option_map (λ (b : Boundary). b.axis) (boundary_of t k)

-- two trees have the same cut of a number, or neither has one: it cuts the same cell along the same axis, wherever the boundary is
abbrev pub IsSameCut : Division → Division → ℕ → Type 0
IsSameCut t u k = (cell_cut_by t k ≡ cell_cut_by u k) × (axis_at t k ≡ axis_at u k)

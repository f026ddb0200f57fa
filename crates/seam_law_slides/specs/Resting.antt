-- Reals that need no settling, in a round in which boundaries move.
use Rattle.std.specs.Prelude.{◌≡◌, ℕ, true, List, Option, None, Some}
use Rattle.std.specs.List.{AllByRecursion}
use Rattle.std.specs.FinMap as table
use Rattle.seam_machine.specs.Events.{EachLink}
use Rattle.seam_node_steps.specs.Prelude.{Boundaries, Division, EachNode, RealView, Msg, Hand, CellView, NodeView, World, Cell, Base}
use Rattle.seam_node_steps.specs.Prelude.{may_settle}
use Rattle.seam_law_calls.specs.Prelude.{Frame, times}
use Rattle.seam_law_ghosts.specs.Prelude.{IsRestful}

-- a real of cell k that the survey list has not, and whose numbers may rise, needs no settling by the cell's tree
abbrev pub IsCellAtRest : Frame → ℕ → CellView → Type 0
IsCellAtRest f k c = (e : ℕ) (r : RealView) → table.get c.reals e ≡ Some r → times e c.survey ≡ 0 → may_settle r ≡ true →
    IsRestful f.settings c.tree k r

abbrev pub IsNodeAtRest : Frame → ℕ → NodeView → Type 0
IsNodeAtRest f k (Cell c) = IsCellAtRest f k c
IsNodeAtRest f k (Base b) = Unit {0}

-- the tree by which a real was settled that brings these boundaries
abbrev pub tree_by : Frame → Option Boundaries → Division
tree_by f None = f.tree
tree_by f (Some b) = b.tree

-- a real on its way to cell k needs none there by the tree by which it was settled
abbrev pub IsHandAtRest : Frame → ℕ → Msg → Type 0
IsHandAtRest f k m = (r : RealView) (bs : Option Boundaries) → m ≡ Hand r bs → IsRestful f.settings (tree_by f bs) k r

abbrev pub AreHandsAtRest : Frame → ℕ → ℕ → List Msg → Type 0
AreHandsAtRest f a k ms = AllByRecursion (IsHandAtRest f k) ms

-- so it is in each cell and on each link
pub record AreAtRest (f : Frame) (w : World) : Type 0 where
  pub nodes : EachNode (IsNodeAtRest f) w.nodes
  pub letters : EachLink (AreHandsAtRest f) w.rows

-- Where the last boundaries of a round are.
use Rattle.std.specs.Prelude.{ℕ, ◌<◌, ◌≤◌, ◌==◌, ◌&&◌, Bool, true, false, length, Option, None, Some}
use Rattle.seam_net_runs.specs.Weights.{weight}
use Rattle.seam_node_steps.specs.Prelude.{Boundaries, cells_of, total, NodeView, World, Cell, Base, Msg, Order, bounds_in}
use Rattle.seam_node_steps.specs.Prelude.{bounds_ordered}
use Rattle.seam_law_calls.specs.Prelude.{Frame}

abbrev pub one_if : Bool → ℕ
one_if true = 1
one_if false = 0

abbrev pub has_number : ℕ → Option Boundaries → Bool
has_number n None = false
has_number n (Some b) = b.number == n

-- 1 where the order tells boundaries of that number
abbrev pub told_by_order : ℕ → Order → ℕ
told_by_order n o = one_if (has_number n (bounds_ordered o))

-- cell k goes by boundaries of that number; so often is a base node to tell them
abbrev pub at_node : (k n : ℕ) → NodeView → ℕ
at_node k n (Cell c) = one_if (c.here.me == k && c.number == n)
at_node k n (Base b) = total (told_by_order n) b.orders

-- a message to cell k brings them
abbrev pub on_way : (k n to : ℕ) → Msg → ℕ
on_way k n to m = one_if (to == k && has_number n (bounds_in m))

-- how often the boundaries of that number are in cell k, on their way to it, or to be told by a base node
abbrev pub places_of_bounds : (k n : ℕ) → World → ℕ
places_of_bounds k n w = weight (at_node k n) (on_way k n) w

-- each cell of the tree has the last boundaries, or they are on their way to it, or to be told
abbrev pub AreAwaited : Frame → World → Type 0
AreAwaited f w = (k : ℕ) → k < cells_of f.tree → 1 ≤ places_of_bounds k (length f.later) w

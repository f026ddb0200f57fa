-- A batch by whose orders boundaries move.
use Rattle.std.specs.Prelude.{◌≡◌, ℕ, ◌<◌, ◌≤◌, ◌+◌, ◌⊎◌, List, [], slice_get, Some}
use Rattle.std.specs.List.{AllByRecursion}
use Rattle.seam_node_steps.specs.Prelude.{Batch, Boundaries, Division, cell_count, World}
use Rattle.seam_call.specs.declared.order.Order.TheVariants as order
use Rattle.seam_law_calls.specs.Prelude.{Frame, IsFrame}
use Rattle.seam_law_rounds.specs.Prelude.{IsBetweenRounds, framed}
use Rattle.seam_law_slides.specs.Rounds.{AreLast, DivideTheSpace, TellsOfRound}

-- what the nodes go by once the batch is loaded, and these trees are to replace its own
abbrev pub framed_with : Frame → Batch → List Division → Frame
framed_with f b later = record (framed f b) { later = later }

-- one of the batch's orders tells a base node the last boundaries
pub record TellsTheLast (f : Frame) (b : Batch) (later : List Division) : Type 0 where
  pub place : ℕ
  pub node : ℕ
  pub bounds : Boundaries
  pub order : slice_get b.orders place ≡ Some (node, order.Bounds bounds)
  pub is_base : cell_count ≤ node
  pub in_net : node < cell_count + f.settings.bases
  pub last : AreLast (framed_with f b later) bounds

-- a world between rounds may be given the batch, in whose round these trees replace the batch's tree
pub record MaySlide (f : Frame) (w : World) (b : Batch) (later : List Division) : Type 0 where
  pub between : IsBetweenRounds f w
  -- the definitions and the trees are such, and divide the space of the settings
  pub frame : IsFrame (framed_with f b later)
  pub space : DivideTheSpace (framed_with f b later)
  -- each order that tells boundaries tells those of the round, and one tells the last, if there are any
  pub orders : AllByRecursion (λ o. TellsOfRound (framed_with f b later) o.1) b.orders
  pub told : (later ≡ []) ⊎ TellsTheLast f b later

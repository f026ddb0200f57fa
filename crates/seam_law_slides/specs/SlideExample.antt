-- A worked batch: a boundary at 5000 moves to 6000 while an entity walks over it.
use Rattle.std.specs.Prelude.{[], ◌∷◌}
use Rattle.seam_node_steps.specs.Prelude.{Batch, Boundaries, Division}
use Rattle.seam_node_steps.specs.EarlyCall.{batch}
use Rattle.seam_node_steps.specs.Rows.{cut}
use Rattle.seam_call.specs.declared.order.Order.TheVariants as order
use Rattle.seam_tree.specs.declared.boundary.Axis.TheVariants.{X}

-- the tree after the slide
abbrev pub moved_cells : Division
moved_cells = record { size = 10000; cuts = cut 0 X 6000 ∷ [] }

abbrev pub slid : Boundaries
slid = record { tree = moved_cells; number = 1 }

-- the batch of the early call, of two cells, with the order of the slide before the others
abbrev pub sliding : Batch
sliding = record batch { orders = (16, order.Bounds slid) ∷ batch.orders }

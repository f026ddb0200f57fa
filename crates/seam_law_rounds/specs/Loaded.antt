-- What the load of a batch makes of each node.
use Rattle.std.specs.Prelude.{List, fold}
use Rattle.seam_node_steps.specs.Prelude.{cells_of, Batch, NodeView, created_at, attached, cell_round, base_round, ordered_at}

-- a node after the changes, one for each of the list
abbrev pub each : {A : Type 0} → (A → NodeView → NodeView) → List A → NodeView → NodeView
each g xs s = fold (λ t x. g x t) s xs

-- before its round begins at the cells
abbrev pub made : Batch → NodeView → NodeView
made b s = each attached b.clients (each (created_at b.tree) b.creates (base_round (cells_of b.tree) s))

abbrev pub node_loaded : Batch → NodeView → NodeView
node_loaded b s = each ordered_at b.orders (cell_round b.tree (made b s))

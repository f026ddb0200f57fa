-- A world as it is opened, and what the three loads make of one.
use Rattle.std.specs.Prelude.{ℕ, Bool, true, false, ◌==◌, List, [], ◌∷◌, ◌++◌, map, fold, replicate, None, Some, option_map}
use Rattle.std.specs.FinMap as table
use Rattle.seam_tree.specs.Division.{Division, leaf_at, cells_of}
use Rattle.seam_defs.specs.declared.settings.Settings.{Settings}
use Rattle.seam_defs.specs.declared.types.TypeDef.{TypeDef}
use Rattle.seam_defs.specs.declared.flags.Group.TheVariants as group
use Rattle.seam_defs.specs.Deeds.{start_values, properties_of}
use Rattle.seam_call.specs.declared.create.Create.{Create}
use Rattle.seam_call.specs.declared.order.Order.{Order}
use Rattle.seam_call.specs.declared.order.Order.TheVariants as order
use Rattle.seam_call.specs.declared.order.Batch.{Batch}
use Rattle.seam_ghosts.specs.Book.{with_copies}
use Rattle.seam_entity.specs.Orders.{new_order}
use Rattle.seam_entity.specs.Reals.{RealView}
use Rattle.seam_node_steps.specs.Maps.{Map, set_at, each_value, has_any}
use Rattle.seam_entity.specs.Here.{Here, cell_count, cell_numbers, base_numbers, peers_of, base_of, properties}
use Rattle.seam_entity.specs.Executing.{created, real_begins}
pub use Rattle.seam_entity.specs.WitnessLooks.{with_witness}
use Rattle.seam_node_steps.specs.Cells.{CellView}
use Rattle.seam_node_steps.specs.Bases.{BaseView, PartView, ProxyView, RouteView, shown_to_client}
use Rattle.seam_node_steps.specs.Nodes.{NodeView, World}
use Rattle.seam_node_steps.specs.Nodes.NodeView.{Cell, Base}

-- each node changed, the links as they are
abbrev pub with_nodes : World → (NodeView → NodeView) → World
with_nodes w f = record { nodes = map f w.nodes; rows = w.rows }

-- ---- open

abbrev pub one_cell : ℕ → Division
one_cell size = record { size = size; cuts = [] }

abbrev pub here_of : List TypeDef → Settings → ℕ → Here
here_of defs settings k = record { me = k; defs = defs; settings = settings }

abbrev pub empty_cell : List TypeDef → Settings → ℕ → NodeView
empty_cell defs settings k = Cell
    (record {
      here = here_of defs settings k;
      tree = one_cell settings.size;
      number = 0;
      reals = table.empty;
      nexts = table.empty;
      ghosts = table.empty;
      survey = [];
      looks = [];
    })

abbrev pub empty_base : List TypeDef → Settings → ℕ → NodeView
empty_base defs settings k = Base
    (record { here = here_of defs settings k; cells = 1; orders = []; routes = table.empty; parts = table.empty; gone = [] })

-- sixteen cells and the base nodes, without entities, with empty links and the tree of one cell
abbrev pub opened : List TypeDef → Settings → World
opened defs settings =
    let h : Here = here_of defs settings 0 in
    record {
      nodes = map (empty_cell defs settings) cell_numbers ++ map (empty_base defs settings) (base_numbers h);
      rows = replicate (peers_of h) (replicate (peers_of h) []);
    }

-- ---- load, point 1: entities are created

abbrev pub real_if : Bool → CellView → Create → CellView
real_if true c x = record c { reals = table.insert c.reals x.entity (created c.here x.entity x.ty x.pos) }
real_if false c x = c

-- a base part that has done nothing
abbrev pub new_part : Here → ℕ → PartView
new_part h ty = record {
  ty = ty;
  state = record { pos = record { x = 0; z = 0 }; props = start_values (properties h ty) group.Base };
  version = 0;
  orders = table.empty;
  done = [];
  proxy = None;
}

abbrev pub part_if : Bool → BaseView → Create → BaseView
part_if true b x = record b { parts = table.insert b.parts x.entity (new_part b.here x.ty) }
part_if false b x = b

abbrev pub with_route : BaseView → ℕ → ℕ → BaseView
with_route b e cell = record b { routes = table.insert b.routes e (record { cell = cell; generation = 0 }) }

-- the real is made in the leaf of the position, each base node gets a route of generation 0, and the entity's base node its part
abbrev pub created_at : Division → Create → NodeView → NodeView
created_at t x (Cell c) = Cell (real_if (leaf_at t x.pos == c.here.me) c x)
created_at t x (Base b) = Base (part_if (base_of b.here x.entity == b.here.me) (with_route b x.entity (leaf_at t x.pos)) x)

-- ---- load, point 2: clients

-- a client that was shown nothing
abbrev pub new_proxy : ProxyView
new_proxy = record { updates = new_order; lines = []; last = 0 }

-- a part with a client, which is shown the part where its type has something for clients
abbrev pub with_proxy : Here → PartView → PartView
with_proxy h p = shown_to_client (has_any (properties_of (properties h p.ty) group.BaseClient)) h (record p { proxy = Some new_proxy })

-- the entity's real gets a witness, and its base part a client
abbrev pub attached : ℕ → NodeView → NodeView
attached e (Cell c) = Cell (record c { reals = set_at c.reals e (option_map (with_witness c.here) (table.get c.reals e)) })
attached e (Base b) = Base (record b { parts = set_at b.parts e (option_map (with_proxy b.here) (table.get b.parts e)) })

-- ---- load, point 3: the round begins

-- a cell takes the tree, whose number is 0, forgets its next places and the beats of entities that it has no copy of, empties its reals'
-- lists of done calls, and is to settle all its reals
abbrev pub cell_begins : Division → CellView → CellView
cell_begins t c = record c {
  tree = t;
  number = 0;
  nexts = table.empty;
  ghosts = with_copies c.ghosts;
  reals = each_value real_begins c.reals;
  survey = table.keys c.reals;
}

abbrev pub proxy_begins : ProxyView → ProxyView
proxy_begins x = record x { lines = [] }

abbrev pub part_begins : PartView → PartView
part_begins p = record p { done = []; proxy = option_map proxy_begins p.proxy }

-- routes without those of these entities
abbrev pub routes_without : List ℕ → Map RouteView → Map RouteView
routes_without es routes = fold table.remove routes es

-- a base node takes the number of cells, forgets the routes of those who were reaped, and empties its lists of done calls and of lines
-- shown
abbrev pub base_begins : ℕ → BaseView → BaseView
base_begins cells b = record b {
  cells = cells;
  routes = routes_without b.gone b.routes;
  parts = each_value part_begins b.parts;
  gone = [];
}

abbrev pub base_round : ℕ → NodeView → NodeView
base_round cells (Cell c) = Cell c
base_round cells (Base b) = Base (base_begins cells b)

abbrev pub cell_round : Division → NodeView → NodeView
cell_round t (Cell c) = Cell (cell_begins t c)
cell_round t (Base b) = Base b

-- ---- load, point 4: orders

abbrev pub order_if : Bool → BaseView → Order → BaseView
order_if true b o = record b { orders = b.orders ++ o ∷ [] }
order_if false b o = b

-- an order is appended to its node's list
abbrev pub ordered_at : ℕ × Order → NodeView → NodeView
ordered_at o (Cell c) = Cell c
ordered_at o (Base b) = Base (order_if (o.0 == b.here.me) b o.1)

abbrev pub with_order : World → ℕ × Order → World
with_order w o = with_nodes w (ordered_at o)

abbrev pub with_orders : World → List (ℕ × Order) → World
with_orders w os = fold with_order w os

-- ---- the three loads

-- a batch is loaded: base nodes begin the round, entities are created, clients attached, cells begin the round, and the orders
-- are given
abbrev pub loaded : World → Batch → World
loaded w b =
    let begun : World = with_nodes w (base_round (cells_of b.tree)) in
    let made : World = fold (λ u x. with_nodes u (created_at b.tree x)) begun b.creates in
    let joined : World = fold (λ u e. with_nodes u (attached e)) made b.clients in
    with_orders (with_nodes joined (cell_round b.tree)) b.orders

-- a base node is told that the entity is reaped
abbrev pub noting : ℕ → BaseView → BaseView
noting e b = record b { gone = b.gone ++ e ∷ [] }

abbrev pub noted : ℕ → NodeView → NodeView
noted e (Cell c) = Cell c
noted e (Base b) = Base (noting e b)

abbrev pub reap_ordered_at : ℕ → NodeView → NodeView
reap_ordered_at e (Cell c) = Cell c
reap_ordered_at e (Base b) = Base (order_if (base_of b.here e == b.here.me) (noting e b) (order.Reap e))

abbrev pub with_reap : World → ℕ → World
with_reap w e = with_nodes w (reap_ordered_at e)

-- each base node is told of each entity that is reaped, and in the given order its reap is appended to the list of its base node
abbrev pub reaps_loaded : World → List ℕ → World
reaps_loaded w es = fold with_reap w es

-- a tick is appended to the list of the first base node
abbrev pub look_loaded : World → World
look_loaded w = with_orders w ((cell_count, order.Tick) ∷ [])

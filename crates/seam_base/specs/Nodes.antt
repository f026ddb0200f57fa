-- What contracts see of the pieces of a base node.
use Rattle.std.specs.Prelude.{◌≤◌, Bool, is_some, List}
use Rattle.seam_node_steps.specs.Prelude.{Order, Here, has_ready, Map, BaseView, PartView, RouteView, proxy_is_ready, may_show}
use Rattle.seam_node_steps.specs.Prelude.{MOST_BASE_NODES, IsBase}
use Rattle.seam_base.specs.declared.context.BaseContext.{BaseContext}

-- what the node knows beside its entities
abbrev pub here_in : BaseContext → Here
here_in k = record { me = k.me; defs = k.defs; settings = k.settings }

-- the node with these orders, routes and parts
abbrev pub node_of : BaseContext → List Order → Map RouteView → Map PartView → BaseView
node_of k orders routes parts = record {
  here = here_in k;
  cells = k.cells;
  orders = orders;
  routes = routes;
  parts = parts;
  gone = k.gone.items;
}

-- the part has a ready call
abbrev pub has_call : PartView → Bool
has_call p = has_ready p.orders

-- its client has a ready update
abbrev pub has_update : PartView → Bool
has_update p = proxy_is_ready p.proxy

-- it has a client
abbrev pub has_client : PartView → Bool
has_client p = is_some p.proxy

-- a further line of its client, if it has one, has a number
abbrev pub may_be_shown : PartView → Bool
may_be_shown p = may_show p.proxy

-- what is true of every base node, and there are no more base nodes than the settings allow
pub record IsKept (b : BaseView) : Type 0 where
  pub base : IsBase b
  pub most : b.here.settings.bases ≤ MOST_BASE_NODES

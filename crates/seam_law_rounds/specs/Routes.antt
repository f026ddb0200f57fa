-- Routes: what a base node has, and what is on its way to it, of where an entity's real is.
use Rattle.std.specs.Prelude.{ℕ, ◌<◌, Option, None, Some}
use Rattle.seam_node_steps.specs.Prelude.{RealView, Msg, Current, RouteView}
use Rattle.seam_law_flow.specs.Prelude.{Flow, Newest, TokenPlace, In, On}
use Rattle.seam_law_calls.specs.Prelude.{Has}

-- the generation and the cell of a route, both 0 where there is none
abbrev pub as_entry : Option RouteView → ℕ × ℕ
as_entry None = (0, 0)
as_entry (Some r) = (r.generation, r.cell)

-- those of the route that a base node has
abbrev pub route_entry : Has → ℕ × ℕ
route_entry h = as_entry h.base.route

-- the one that a message carries
abbrev pub sent_route : Msg → Option (ℕ × ℕ)
sent_route (Current e j g) = Some (g, j)
sent_route _ = None

-- Of the route that base node b has and those on their way there, the newest has the generation of the real and the cell where it is;
-- while the real is on its way, each is of a smaller generation than the real that is handed over.
abbrev pub NewestRouteIsRight : TokenPlace → RealView → Flow Has Msg → ℕ → Type 0
NewestRouteIsRight (In k) r w b = Newest route_entry sent_route w b r.generation k
NewestRouteIsRight (On a k) r w b =
    (generation : ℕ) × (cell : ℕ) × (generation < r.generation) × Newest route_entry sent_route w b generation cell

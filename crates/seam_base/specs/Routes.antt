-- Routes: which give way to a new one.
use Rattle.std.specs.Prelude.{Bool, false, ◌&&◌, nat_lt, Option, None, Some}
use Rattle.seam_node_steps.specs.Prelude.{cell_count, is_small, RouteView}

-- there is a route, the new one goes to a cell, and its generation is small and greater
abbrev pub gives_way : Option RouteView → RouteView → Bool
gives_way None new = false
gives_way (Some r) new = nat_lt new.cell cell_count && (is_small new.generation && nat_lt r.generation new.generation)

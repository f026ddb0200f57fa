-- The flat table of a world: each entity that has a real, as it is now.
use Rattle.std.specs.Prelude.{ℕ, List, [], map}
use Rattle.std.specs.List.{flat_map}
use Rattle.std.specs.Ordering.{nat_cmp}
use Rattle.std.specs.FinMap as table
use Rattle.seam_node_steps.specs.Prelude.{own_of, RealView, Here, properties, other_of_real, NodeView, World, Cell, Base}
use Rattle.seam_rule_clients.specs.Looks.{Row}

-- the row of a real: its version and what its own client is shown at it; its public version and what other clients are shown at that
abbrev pub row_of_real : Here → ℕ × RealView → Row
row_of_real h p = record {
  entity = p.0;
  version = p.1.version;
  own = own_of (properties h p.1.ty) p.1.state;
  other = other_of_real h p.1;
}

abbrev pub numbered_row : Here → ℕ × RealView → ℕ × Row
numbered_row h p = (p.0, row_of_real h p)

-- the rows of a node's reals, each with its entity
abbrev pub rows_at : NodeView → List (ℕ × Row)
rows_at (Cell c) = map (numbered_row c.here) (table.entries c.reals)
rows_at (Base b) = []

abbrev pub row_in : ℕ × Row → Row
row_in p = p.1

-- the flat table of a world: the rows of all its cells, in rising number. Between rounds, when no real is on its way and each entity has
-- one at most, it has just the entities that are there.
abbrev pub rows_of : World → List Row
rows_of w = map row_in (table.entries (table.from_entries {R = nat_cmp} (flat_map rows_at w.nodes)))

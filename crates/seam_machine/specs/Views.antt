-- What a machine's step means, and what contracts see of a machine's sends and of a net.
use Rattle.std.specs.Prelude.{ℕ, List}

-- what one step leaves, and the items that it sends, each with the number of its target
pub record Stepped (N M : Type 0) : Type 0 where
  pub state : N
  pub sent : List (ℕ × M)

-- the items to be sent, in order, and for how many more there is room
pub record OutView (M : Type 0) : Type 0 where
  pub items : List (ℕ × M)
  pub spare : ℕ

-- the nodes, and the links: rows[a][b] is the link from node a to node b, its oldest message first
pub record NetView (N M : Type 0) : Type 0 where
  pub nodes : List N
  pub rows : List (List (List M))

-- the nodes, and the links as one list, row after row
pub record PartsView (N M : Type 0) : Type 0 where
  pub nodes : List N
  pub links : List (List M)

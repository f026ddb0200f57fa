-- The numbers of base nodes.
use Rattle.std.specs.Prelude.{ℕ, ◌≤◌}
use Rattle.seam_defs.specs.declared.limits.TheConstants.{MOST_BASE_NODES}

-- the number is that of a base node
pub record IsBaseNode (n : ℕ) : Type 0 where
  pub from_one : 1 ≤ n
  pub most : n ≤ MOST_BASE_NODES

-- the number is that of one of the first base nodes, of which there are so many
pub record IsBaseNodeOf (count n : ℕ) : Type 0 where
  pub node : IsBaseNode n
  pub within : n ≤ count

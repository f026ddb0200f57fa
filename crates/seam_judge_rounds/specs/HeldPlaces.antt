-- What is known of where entities are held.
use Rattle.std.specs.Prelude.{ℕ, ◌<◌}
use Rattle.seam_rule_rounds.specs.Prelude.{cells_of, tree_of, Standing}

-- each entity has its home in a cell of the open round's tree
abbrev pub HaveHomes : Standing → Type 0
HaveHomes s = (e : ℕ) → (s.places e).home < cells_of (tree_of s.book)

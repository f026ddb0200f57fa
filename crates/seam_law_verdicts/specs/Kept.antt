-- What holds of each standing of a transcript.
use Rattle.std.specs.Prelude.{ℕ, ◌<◌}
use Rattle.seam_node_steps.specs.Prelude.{cells_of}
use Rattle.seam_rule_rounds.specs.Prelude.{Header, Standing, tree_of}
use Rattle.seam_law_book.specs.Prelude.{IsOfLines}
use Rattle.seam_law_forms.specs.Counting.{WereWhole}

-- lines made its book, each home is a cell of its tree, and the entities that clients were shown have numbers of 32 bits
pub record Keeps (h : Header) (s : Standing) : Type 0 where
  pub of_lines : IsOfLines h s.book
  pub homes : (e : ℕ) → (s.places e).home < cells_of (tree_of s.book)
  pub were : WereWhole s

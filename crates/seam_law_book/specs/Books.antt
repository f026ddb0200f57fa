-- Books that lines make.
use Rattle.std.specs.Prelude.{◌≡◌, []}
use Rattle.seam_node_steps.specs.Prelude.{Division, cells_of, IsTree}
use Rattle.seam_rule_rounds.specs.Prelude.{Line, Header, Book, empty_book, with_entry, with_round_ended, with_tree, tree_of, Judges, Entry}
use Rattle.seam_rule_lines.specs.declared.verdict.Verdict.TheVariants as verdict

-- a line is accepted, and adds the entry
abbrev pub IsAccepted : Header → Book → Entry → Type 0
IsAccepted h b x = (line : Line) × Judges h b line (verdict.Accepted x)

-- the next round may begin with the tree u in place of t: it is one of the same space and has as many cells
pub record MayReplace (t u : Division) : Type 0 where
  pub tree : IsTree u
  pub space : u.size ≡ t.size
  pub cells : cells_of u ≡ cells_of t

-- Lines made the book: it was empty at first; each line that was accepted added an entry; and rounds ended, each with the tree of its
-- lines, or with another one where the boundaries were balanced.
pub data IsOfLines (h : Header) : Book → Type 0 where
  empty : IsOfLines h (empty_book h.settings.size)
  accepts : (b : Book) (x : Entry) → IsOfLines h b → IsAccepted h b x → IsOfLines h (with_entry b x)
  ends : (b : Book) → IsOfLines h b → IsOfLines h (with_round_ended b)
  balances : (b : Book) (t : Division) → IsOfLines h b → MayReplace (tree_of b) t → IsOfLines h (with_tree (with_round_ended b) t)

-- the book as it was when the open round began
abbrev pub as_begun : Book → Book
as_begun b = record b { current = [] }

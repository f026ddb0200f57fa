-- How far the lines of an input were read, and what the rounds so far left.
use Rattle.std.specs.Prelude.{ℕ, ◌+◌, List, []}
use Rattle.std.specs.FinSet as set
use Rattle.seam_haunt.specs.Places.{Place}
use Rattle.seam_call.specs.declared.shown.Line.{Line}
use Rattle.seam_toml.specs.declared.header.Header.{Header}
use Rattle.seam_rule_lines.specs.Orders.{Orders}
use Rattle.seam_rule_clients.specs.Clients.{ClientReplica, new_client, after_lines}
use Rattle.seam_rule_lines.specs.Book.{Book, empty_book}

-- How many lines were read, those of the header among them, how many rounds ended, and what the book holds; and up to the last round's
-- end what each part executed, where each entity is held, and the lines that each client was shown.
pub record Standing : Type 0 where
  pub lines : ℕ
  pub rounds : ℕ
  pub book : Book
  pub orders : Orders
  pub places : ℕ → Place
  pub told : ℕ → List Line

-- in the first cell, and nowhere else
abbrev pub in_first_cell : Place
in_first_cell = record { home = 0; ghosts = set.empty }

-- after a header of so many lines
abbrev pub after_header : Header → ℕ → Standing
after_header h n =
    record { lines = n; rounds = 0; book = empty_book h.settings.size; orders = λ p e. []; places = λ e. in_first_cell; told = λ e. [] }

-- one more line was read
abbrev pub with_line : Standing → Standing
with_line s = record s { lines = s.lines + 1 }

-- the book is this one
abbrev pub with_book : Standing → Book → Standing
with_book s b = record s { book = b }

-- what an entity's client shows
abbrev pub replica_of : Header → Standing → ℕ → ClientReplica
replica_of h s e = after_lines (new_client h.settings) (s.told e)

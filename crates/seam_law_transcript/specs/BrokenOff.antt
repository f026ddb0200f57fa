-- A round that a fault cuts off: how far it was played, it went as one that ends.
use Rattle.std.specs.Prelude.{◌≡◌}
use Rattle.seam_node_steps.specs.Prelude.{World}
use Rattle.seam_rule_rounds.specs.Prelude.{Header, Entry, with_entry, Standing, with_line, with_book}
use Rattle.seam_law_book.specs.Prelude.{IsAccepted}
use Rattle.seam_law_transcript.specs.Counts.{MayEnd}
use Rattle.seam_law_transcript.specs.OneReal.{HasOneReal}
use Rattle.seam_law_transcript.specs.Turns.{ExecutesInTurn}

-- the open round of the standing s has the lines of that of t, or one more
pub data HasNextLine (h : Header) (t s : Standing) : Type 0 where
  as_it_is : s ≡ t → HasNextLine h t s
  one_read : s ≡ with_line t → HasNextLine h t s
  one_accepted : (x : Entry) → IsAccepted h t.book x → s ≡ with_book (with_line t) (with_entry t.book x) → HasNextLine h t s

-- Whichever line ends the open round of t, the last one that was read or the next one: however far the round is then played from the world
-- w, each live entity has one real, and each part executes each sender's calls in turn.
abbrev pub MayBreakOff : Header → Standing → World → Type 0
MayBreakOff h t w = (s : Standing) → HasNextLine h t s → MayEnd s → HasOneReal h s w × ExecutesInTurn h s w

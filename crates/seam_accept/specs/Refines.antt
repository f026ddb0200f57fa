-- A book in code beside the book of a transcript.
use Rattle.std.specs.Prelude.{◌≡◌, ⊤, length}
use Rattle.std.specs.List.{filter_map}
use Rattle.seam_io.specs.Lines.{Line}
use Rattle.seam_toml.specs.declared.header.Header.{Header}
use Rattle.seam_rule_lines.specs.Language.{Command, Sync}
use Rattle.seam_rule_lines.specs.Book.{Book, creates_of, with_entry, tree_of, has_balance}
use Rattle.seam_rule_lines.specs.Judging.{Judges}
use Rattle.seam_rule_lines.specs.declared.verdict.Entry.{Entry}
use Rattle.seam_rule_lines.specs.declared.verdict.Verdict.TheVariants as verdict
use Rattle.seam_accept.specs.declared.answers.Accepted.{Accepted}
use Rattle.seam_accept.specs.declared.answers.Accepted.TheVariants as answer
use Rattle.seam_accept.specs.declared.answers.Refusal.{Refusal}
use Rattle.seam_accept.specs.declared.answers.Refusal.TheVariants as refusal
use Rattle.seam_accept.specs.Entities.{EntitiesRefine, ClientsRefine}
use Rattle.seam_accept.specs.Judging.{Accepts}
use Rattle.seam_accept.specs.Batches.{ordered, joined, destroyed}
use Rattle.seam_accept.specs.BookView.{BookView, counted}

-- the book in code holds what the book of a transcript holds, after this header
pub record Refines (h : Header) (b : Book) (book : BookView) : Type 0 where
  pub header : book.header ≡ h
  pub tree : book.tree ≡ tree_of b
  pub entities : EntitiesRefine b book.entities book.dead
  pub clients : ClientsRefine b book.clients
  pub count : book.count ≡ length b.current
  pub creates : book.creates ≡ creates_of b.current
  pub joined_ : book.joined ≡ filter_map joined b.current
  pub orders : book.orders ≡ filter_map (ordered h) b.current
  pub destroyed_ : book.destroyed ≡ filter_map destroyed b.current
  pub balance : book.balance ≡ has_balance b

-- A line was not refused: the verdict on it, and the book after it.
abbrev pub LineAccepted : Header → Book → Line → Accepted → BookView → Type 0
LineAccepted h b line answer.Kept after =
    (x : Entry) × Judges h b line (verdict.Accepted x) × Refines h (with_entry b x) after
LineAccepted h b line answer.Synced after = Judges h b line verdict.Synced × Refines h b after
LineAccepted h b line answer.Skipped after = Judges h b line verdict.Skipped × Refines h b after

-- a line was refused for its first cause; want of memory tells nothing of it
abbrev pub LineRefused : Header → Book → Line → Refusal → Type 0
LineRefused h b line (refusal.Cause c) = Judges h b line (verdict.Refused c)
LineRefused h b line refusal.NoMemory = ⊤

-- the same of a line that spells a command, by the command
abbrev pub CommandAccepted : Header → Book → Command → Accepted → BookView → Type 0
CommandAccepted h b c answer.Kept after = (x : Entry) × Accepts h b c x × Refines h (with_entry b x) after
CommandAccepted h b c answer.Synced after = (c ≡ Sync) × Refines h b after
CommandAccepted h b c answer.Skipped after = ⊥

-- the same before the line is counted
abbrev pub CommandUncounted : Header → Book → Command → Accepted → BookView → Type 0
CommandUncounted h b c answer.Kept after = (x : Entry) × Accepts h b c x × Refines h (with_entry b x) (counted after)
CommandUncounted h b c answer.Synced after = (c ≡ Sync) × Refines h b after
CommandUncounted h b c answer.Skipped after = ⊥

-- Lines by the commands that they spell.
use Rattle.std.proofs.Common.{◌≡◌, ℕ, List, sym, ◌∙◌, ap, subst}
use Rattle.std.specs.Prelude.{is_some}
use Rattle.seam_io.specs.Lines.{Content}
use Rattle.seam_defs.specs.declared.states.Deed.{Deed}
use Rattle.seam_defs.specs.declared.types.TypeDef.{TypeDef}
use Rattle.seam_call.specs.declared.call.Call.{Call}
use Rattle.seam_rule_lines.specs.Language as language
use Rattle.seam_toml.specs.declared.header.Header.{Header}
use Rattle.seam_rule_lines.specs.Book.{Book, live_as}
use Rattle.seam_rule_lines.specs.Judging.{NamesCall}
use Rattle.seam_rule_lines.specs.declared.verdict.Entry.{Entry}
use Rattle.seam_rule_lines.specs.declared.verdict.Entry.TheVariants as entry
use Rattle.seam_rule_lines.proofs.Verdicts.{command_is_refused, command_is_accepted}
use Rattle.seam_accept.specs.Commands.{call_of, asked_of}
use Rattle.seam_accept.specs.Entities.{IsNextCall}
use Rattle.seam_accept.specs.Judging.{Accepts, Refuses}
use Rattle.seam_accept.specs.BookView.{BookView}
use Rattle.seam_accept.specs.Refines.{LineAccepted, LineRefused, CommandAccepted}
use Rattle.seam_accept.specs.declared.answers.Accepted.{Accepted}
use Rattle.seam_accept.specs.declared.answers.Accepted.TheVariants as answer
use Rattle.seam_accept.specs.declared.answers.Refusal.{Refusal}
use Rattle.seam_accept.specs.declared.answers.Refusal.TheVariants as refusal
use Rattle.seam_accept.specs.declared.command.CallWords.{CallWords}
use Rattle.seam_accept.specs.declared.command.DeedWords.{DeedWords}
use Rattle.seam_accept.specs.declared.command.DeedWords.TheVariants as words

-- a line that spells an accepted command
pub line_accepted : (h : Header) (b : Book) (line : List ℕ) (c : language.Command) (a : Accepted) (after : BookView) →
    ¬ (language.IsSkipped line) → language.SpellsCommand line c →
    CommandAccepted h b c a after → LineAccepted h b (Content line) a after
line_accepted h b line c answer.Kept after not spells (x, accepts, refines) =
    (x, command_is_accepted h b line c spells x not accepts.none accepts.adds, refines)
line_accepted h b line c answer.Synced after not spells (is, refines) =
    ((not, subst (language.SpellsCommand line) is spells), refines)
line_accepted h b line c answer.Skipped after not spells accepted = absurd accepted

-- and one that spells a refused one
pub line_refused : (h : Header) (b : Book) (line : List ℕ) (c : language.Command) (r : Refusal) →
    ¬ (language.IsSkipped line) → language.SpellsCommand line c → Refuses h b c r →
    LineRefused h b (Content line) r
line_refused h b line c (refusal.Cause k) not spells first = command_is_refused h b line c spells k not first
line_refused h b line c refusal.NoMemory not spells first = tt

call_in : Call → Entry → Call
call_in other (entry.Called c) = c
call_in other x = other

same_call : (call d : Call) → entry.Called call ≡ entry.Called d → call ≡ d
unfolding call_in
same_call call d is = ap (call_in call) is

named_is_next : (h : Header) (b : Book) (s e : List ℕ) (Asks : TypeDef → Deed → Type 0) (d : Call) → NamesCall h b s e Asks d →
    IsNextCall b d
named_is_next h b s e Asks d names =
    record { lives = ap is_some (ap (live_as b) names.entity_ ∙ names.live.lives); next = names.next }

asked_is_next : (h : Header) (b : Book) (s e : List ℕ) (w : DeedWords) (call : Call) → Accepts h b (asked_of s e w) (entry.Called call) →
    IsNextCall b call
asked_is_next h b s e (words.Method m) call accepts =
    let adds = accepts.adds in
    subst (IsNextCall b) (sym (same_call call adds.0 adds.2)) (named_is_next h b s e _ adds.0 adds.1)
asked_is_next h b s e (words.Move m) call accepts =
    let adds = accepts.adds in
    subst (IsNextCall b) (sym (same_call call adds.0 adds.2)) (named_is_next h b s e _ adds.0 adds.1)

-- an accepted call comes next
pub accepted_is_next : (h : Header) (b : Book) (w : CallWords) (call : Call) → Accepts h b (call_of w) (entry.Called call) →
    IsNextCall b call
accepted_is_next h b w call accepts = asked_is_next h b w.sender_name.now w.entity.now w.deed call accepts

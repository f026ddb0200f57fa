-- The commands that words in code spell.
use Rattle.std.specs.Prelude.{◌≡◌, ℕ, List, map}
use Rattle.std.specs.Borrow.{Bor}
use Rattle.seam_rule_lines.specs.Language.{Word, Command, Create, Call, Move, Sync, Client, Tick, Cut, Shift, Balance, Destroy, words_of}
use Rattle.seam_rule_lines.specs.Language.{NamesCommand}
use Rattle.seam_rule_lines.specs.declared.verdict.Cause.{Cause}
use Rattle.seam_rule_lines.specs.declared.verdict.Cause.TheVariants as cause
use Rattle.seam_accept.specs.declared.command.CallWords.{CallWords}
use Rattle.seam_accept.specs.declared.command.CreateWords.{CreateWords}
use Rattle.seam_accept.specs.declared.command.CutWords.{CutWords}
use Rattle.seam_accept.specs.declared.command.ShiftWords.{ShiftWords}
use Rattle.seam_accept.specs.declared.command.DeedWords.{DeedWords}
use Rattle.seam_accept.specs.declared.command.DeedWords.TheVariants as deed
use Rattle.seam_accept.specs.declared.command.Form.{Form}
use Rattle.seam_accept.specs.declared.command.Form.TheVariants as form

-- the texts of words
abbrev pub texts_of : List (Bor (List ℕ)) → List Word
texts_of words = map (λ w. w.now) words

-- the command of a `create`
abbrev pub create_of : CreateWords → Command
create_of words = Create words.entity.now words.type_name.now words.place.x.now words.place.z.now

-- the command of a sender that asks an entity for a deed
abbrev pub asked_of : Word → Word → DeedWords → Command
asked_of sender_name entity (deed.Method words) = Call sender_name entity words.name.now (texts_of words.arguments.now)
asked_of sender_name entity (deed.Move words) = Move sender_name entity words.x.now words.z.now

abbrev pub call_of : CallWords → Command
call_of words = asked_of words.sender_name.now words.entity.now words.deed

-- the command of a `cut`, and of a `shift`
abbrev pub cut_of : CutWords → Command
cut_of words = Cut words.cell.now words.axis_name.now words.at.now

abbrev pub shift_of : ShiftWords → Command
shift_of words = Shift words.boundary.now words.at.now

-- the command of a form
abbrev pub command_of : Form → Command
command_of (form.Create words) = create_of words
command_of (form.Call words) = call_of words
command_of form.Sync = Sync
command_of (form.Client entity) = Client entity.now
command_of form.Tick = Tick
command_of (form.Cut words) = cut_of words
command_of (form.Shift words) = shift_of words
command_of form.Balance = Balance
command_of (form.Destroy entity) = Destroy entity.now

-- why words spell no command
abbrev pub IsFaultOfWords : List Word → Cause → Type 0
IsFaultOfWords words cause.NoCommand = ¬ (NamesCommand words)
IsFaultOfWords words cause.WrongCount = NamesCommand words × ((c : Command) → ¬ (words ≡ words_of c))
IsFaultOfWords words k = ⊥

-- Who sends the calls of an input, where each entity has one sender.
use Rattle.std.specs.Prelude.{◌≡◌, ℕ, List, All}
use Rattle.seam_io.specs.Lines.{Line}
use Rattle.seam_value.specs.NumberWords.{SpellsPositive}
use Rattle.seam_call.specs.declared.sender.Sender.{Sender}
use Rattle.seam_call.specs.declared.call.Call.{Call}
use Rattle.seam_rule_lines.specs.Book.{Book, entries, calls_of}
use Rattle.seam_rule_lines.specs.Language as language
use Rattle.seam_rule_lines.specs.Language.{Word, Command, sender_text}
use Rattle.seam_rule_lines.specs.Judging.{Spells}

-- the words of a command for a sender and an entity: a call or a move
abbrev pub AsksFor : Command → Word → Word → Type 0
AsksFor (language.Call s e method_name arguments) sender_name entity = (s ≡ sender_name) × (e ≡ entity)
AsksFor (language.Move s e x z) sender_name entity = (s ≡ sender_name) × (e ≡ entity)
AsksFor c sender_name entity = ⊥

-- where the line spells a call or a move of an entity, it names the entity's one sender
abbrev pub CallIsFrom : (ℕ → Sender) → Line → Type 0
CallIsFrom one line =
    (c : Command) (sender_name entity : Word) (e : ℕ) → Spells line c → AsksFor c sender_name entity → SpellsPositive entity e
    → sender_name ≡ sender_text (one e)

-- the call is from its entity's one sender
abbrev pub IsFrom : (ℕ → Sender) → Call → Type 0
IsFrom one c = c.sender ≡ one c.entity

abbrev pub AreFrom : (ℕ → Sender) → List Call → Type 0
AreFrom one calls = All (IsFrom one) calls

-- all accepted calls are from their entities' one senders
abbrev pub AcceptedAreFrom : (ℕ → Sender) → Book → Type 0
AcceptedAreFrom one b = AreFrom one (calls_of (entries b))

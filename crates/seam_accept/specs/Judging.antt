-- What a command is judged to be.
use Rattle.std.specs.Prelude.{◌≡◌, ⊤, ℕ, List, Option, Some, None}
use Rattle.seam_value.specs.declared.values.Value.{Value}
use Rattle.seam_geo.specs.declared.pos.Pos.{Pos}
use Rattle.seam_defs.specs.Types.{method_of}
use Rattle.seam_defs.specs.declared.types.TypeDef.{TypeDef}
use Rattle.seam_defs.specs.declared.states.Deed.{Deed}
use Rattle.seam_defs.specs.declared.states.Deed.TheVariants as deed
use Rattle.seam_call.specs.declared.sender.Sender.{Sender}
use Rattle.seam_rule_lines.specs.Language.{Command, Sync}
use Rattle.seam_toml.specs.declared.header.Header.{Header}
use Rattle.seam_rule_lines.specs.Book.{Book}
use Rattle.seam_rule_lines.specs.Judging.{MayCall, MayMove}
use Rattle.seam_rule_lines.specs.Judging.{SpellsPosition, NamesMethod, SpellsArgs, NamesDeed, NamesMove, Adds, HoldsAgainst, IsFirst}
use Rattle.seam_rule_lines.specs.declared.verdict.Entry.{Entry}
use Rattle.seam_rule_lines.specs.declared.verdict.Cause.{Cause}
use Rattle.seam_rule_lines.specs.declared.verdict.Cause.TheVariants as cause
use Rattle.seam_accept.specs.Commands.{texts_of}
use Rattle.seam_accept.specs.Entities.{IsNext}
use Rattle.seam_accept.specs.declared.command.MethodWords.{MethodWords}
use Rattle.seam_accept.specs.declared.command.PositionWords.{PositionWords}
use Rattle.seam_accept.specs.declared.command.DeedWords.{DeedWords}
use Rattle.seam_accept.specs.declared.command.DeedWords.TheVariants as words
use Rattle.seam_accept.specs.declared.answers.Refusal.{Refusal}
use Rattle.seam_accept.specs.declared.answers.Refusal.TheVariants as refusal

-- no cause holds against the command, which adds the entry
pub record Accepts (h : Header) (b : Book) (c : Command) (x : Entry) : Type 0 where
  pub none : (k : Cause) → ¬ (HoldsAgainst h b c k)
  pub adds : Adds h b c x

-- a cause for which the command is refused; want of memory tells nothing of it
abbrev pub Refuses : Header → Book → Command → Refusal → Type 0
Refuses h b c (refusal.Cause k) = IsFirst (HoldsAgainst h b c) k
Refuses h b c refusal.NoMemory = ⊤

-- what was judged of a command: the entry that it adds, which may come next; or it ends the round
abbrev pub Judged : Header → Book → Command → Option Entry → Type 0
Judged h b c (Some x) = Accepts h b c x × IsNext b x
Judged h b c None = c ≡ Sync

-- the words ask an entity of this type for the deed
abbrev pub Asks : Header → DeedWords → TypeDef → Deed → Type 0
Asks h (words.Method w) = NamesDeed (texts_of w.arguments.now) w.name.now
Asks h (words.Move w) = λ t. NamesMove h w.x.now w.z.now

-- a sender may ask an entity of this type for the deed
abbrev pub MayAsk : Sender → ℕ → TypeDef → Deed → Type 0
MayAsk s e t (deed.Method m args) = MayCall s e (method_of t m)
MayAsk s e t (deed.Move p) = MayMove s e

-- why the words of a method name none of this type that a sender may call of an entity, with its arguments
abbrev pub NoMethod : Sender → ℕ → MethodWords → TypeDef → Refusal → Type 0
NoMethod s e w t (refusal.Cause cause.UnknownMethod) = (m : ℕ) → NamesMethod t w.name.now m → ¬ (MayCall s e (method_of t m))
NoMethod s e w t (refusal.Cause cause.IllTyped) =
    (m : ℕ) × NamesMethod t w.name.now m × MayCall s e (method_of t m)
    × ((args : List Value) → ¬ (SpellsArgs (method_of t m) (texts_of w.arguments.now) args))
NoMethod s e w t (refusal.Cause k) = ⊥
NoMethod s e w t refusal.NoMemory = ⊤

-- why a sender does not move an entity to where these words say
abbrev pub NoMove : Header → Sender → ℕ → PositionWords → Refusal → Type 0
NoMove h s e w (refusal.Cause cause.UnknownMethod) = ¬ (MayMove s e)
NoMove h s e w (refusal.Cause cause.IllTyped) = MayMove s e × ((p : Pos) → ¬ (SpellsPosition h w.x.now w.z.now p))
NoMove h s e w (refusal.Cause k) = ⊥
NoMove h s e w refusal.NoMemory = ⊤

-- why a sender asks such an entity by these words for no deed
abbrev pub NoDeed : Header → Sender → ℕ → DeedWords → TypeDef → Refusal → Type 0
NoDeed h s e (words.Method w) t r = NoMethod s e w t r
NoDeed h s e (words.Move w) t r = NoMove h s e w r

-- words are ill-typed where nothing is spelled by them
abbrev pub IsIllTyped : Type 0 → Refusal → Type 0
IsIllTyped P (refusal.Cause cause.IllTyped) = P
IsIllTyped P (refusal.Cause k) = ⊥
IsIllTyped P refusal.NoMemory = ⊤

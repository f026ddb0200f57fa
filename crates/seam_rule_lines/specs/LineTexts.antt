-- The text of each line that is printed, but for those that only rounds of cells and clients have.
use Rattle.std.specs.Prelude.{ℕ, List, [], ◌∷◌, ◌++◌, codes}
use Rattle.std.specs.List.{flat_map}
use Rattle.seam_value.specs.Values.{decimal_of, text_of}
use Rattle.seam_words.specs.Numbers.{number_of}
use Rattle.seam_tree.specs.declared.tree.CutError.{CutError}
use Rattle.seam_tree.specs.declared.tree.CutError.TheVariants.{NoCell, OutsideCell, TooManyCells}
use Rattle.seam_tree.specs.declared.tree.ShiftError.{ShiftError}
use Rattle.seam_tree.specs.declared.tree.ShiftError.TheVariants.{NoBoundary, WouldEmpty}
use Rattle.seam_defs.specs.Types.{type_of, method_of}
use Rattle.seam_defs.specs.Deeds.{values_text}
use Rattle.seam_defs.specs.declared.types.TypeDef.{TypeDef}
use Rattle.seam_defs.specs.declared.flags.Group.TheVariants as group
use Rattle.seam_defs.specs.declared.states.Deed.{Deed}
use Rattle.seam_defs.specs.declared.states.Deed.TheVariants.{Move, Method}
use Rattle.seam_rule_lines.specs.Language.{sender_text}
use Rattle.seam_rule_lines.specs.Round.{DoneLine, HomeLine, BaseLine}
use Rattle.seam_rule_lines.specs.declared.verdict.Cause.{Cause}
use Rattle.seam_rule_lines.specs.declared.verdict.Cause.TheVariants as cause

-- a space and a number
abbrev pub field : ℕ → List ℕ
field n = 32 ∷ decimal_of n

-- ---- refused lines

-- the number of a tree's refusal
abbrev pub number_of_cut_error : CutError → ℕ
number_of_cut_error NoCell = 1
number_of_cut_error OutsideCell = 2
number_of_cut_error TooManyCells = 3

abbrev pub number_of_shift_error : ShiftError → ℕ
number_of_shift_error NoBoundary = 1
number_of_shift_error WouldEmpty = 2

-- how a cause is written
abbrev pub cause_text : Cause → List ℕ
cause_text cause.TooLong = codes "long"
cause_text (cause.BadWords error) = codes "words " ++ decimal_of (number_of error)
cause_text cause.NoCommand = codes "command"
cause_text cause.WrongCount = codes "count"
cause_text cause.BadNumber = codes "number"
cause_text cause.Exists = codes "exists"
cause_text cause.NoType = codes "type"
cause_text cause.Outside = codes "outside"
cause_text cause.Full = codes "full"
cause_text cause.NoSender = codes "sender"
cause_text cause.Dead = codes "dead"
cause_text cause.UnknownMethod = codes "unknown"
cause_text cause.IllTyped = codes "illtyped"
cause_text (cause.CutRefused error) = codes "tree" ++ field (number_of_cut_error error)
cause_text (cause.ShiftRefused error) = codes "tree" ++ field (number_of_shift_error error)

-- the line of a refused line: its number and the cause
abbrev pub refusal : ℕ → Cause → List ℕ
refusal number c = codes "line " ++ decimal_of number ++ 32 ∷ cause_text c ++ 10 ∷ []

-- ---- lines of a round

-- a word with the space after it, a number, and a line feed
abbrev pub number_text : List ℕ → ℕ → List ℕ
number_text word n = word ++ decimal_of n ++ 10 ∷ []

-- what a call did: a move, or a method and its arguments
abbrev pub deed_text : TypeDef → Deed → List ℕ
deed_text t (Move p) = codes " move" ++ field p.x ++ field p.z
deed_text t (Method m args) = 32 ∷ (method_of t m).name ++ flat_map (λ v. 32 ∷ text_of v) args

-- `did` or `dob`, with the space after it; the entity, the sender, the call's number, and what it did
abbrev pub done_text : List ℕ → List TypeDef → DoneLine → List ℕ
done_text word defs l =
    word ++ decimal_of l.call.entity ++ 32 ∷ sender_text l.call.sender ++ field l.call.number ++ deed_text (type_of defs l.ty) l.call.deed
    ++ 10 ∷ []

-- the entity, its cell, its version, its position, and what its real holds
abbrev pub home_text : List TypeDef → HomeLine → List ℕ
home_text defs l =
    codes "home " ++ decimal_of l.entity ++ field l.cell ++ field l.version ++ field l.state.pos.x ++ field l.state.pos.z
    ++ values_text (type_of defs l.ty).properties group.Real l.state.props ++ 10 ∷ []

-- the entity, its base part's version, and what the base part holds
abbrev pub base_text : List TypeDef → BaseLine → List ℕ
base_text defs l =
    codes "base " ++ decimal_of l.entity ++ field l.version ++ values_text (type_of defs l.ty).properties group.Base l.props ++ 10 ∷ []

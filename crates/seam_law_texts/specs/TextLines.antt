-- The lines of a round's text, as data: of what kind each is, what it says, its words, and its text.
use Rattle.std.specs.Prelude.{ℕ, ◌+◌, List, [], ◌∷◌, ◌++◌, length, map, fold, codes, Option, None, Some}
use Rattle.std.specs.List.{zip, range_with_len}
use Rattle.std.specs.Option.{option_map}
use Rattle.seam_value.specs.Values.{decimal_of, text_of}
use Rattle.seam_value.specs.declared.values.Value.{Value}
use Rattle.seam_tree.specs.declared.cut.Cut.{Cut}
use Rattle.seam_tree.specs.Division.{Division}
use Rattle.seam_defs.specs.Types.{type_of, method_of}
use Rattle.seam_defs.specs.Deeds.{properties_of}
use Rattle.seam_defs.specs.declared.types.TypeDef.{TypeDef}
use Rattle.seam_defs.specs.declared.types.Property.{Property}
use Rattle.seam_defs.specs.declared.flags.Group.{Group}
use Rattle.seam_defs.specs.declared.flags.Group.TheVariants as group
use Rattle.seam_defs.specs.declared.states.State.{State}
use Rattle.seam_defs.specs.declared.states.Deed.{Deed}
use Rattle.seam_defs.specs.declared.states.Deed.TheVariants.{Move, Method}
use Rattle.seam_call.specs.declared.shown.Shown.{Shown}
use Rattle.seam_call.specs.declared.shown.Shown.TheVariants.{Own, Enter, Set, Leave}
use Rattle.seam_call.specs.declared.shown.ClientText.{ClientText}
use Rattle.seam_call.specs.declared.shown.ClientText.TheVariants as text
use Rattle.seam_rule_lines.specs.Language.{sender_text, axis_text}
use Rattle.seam_rule_lines.specs.Round.{DoneLine, HomeLine, BaseLine}
use Rattle.seam_rule_rounds.specs.Lines.{GhostLine, ClientLine, RoundData}
use Rattle.seam_law_texts.specs.Words.{rest_of_line}
use Rattle.seam_law_texts.specs.declared.kinds.Kind.{Kind}
use Rattle.seam_law_texts.specs.declared.kinds.Kind.TheVariants.{Begin, Did, Dob, Home, Base, Ghost, To, Bound, End}

-- ---- lines

-- what a line of a kind says
abbrev pub LineData : Kind → Type 0
LineData Begin = ℕ
LineData Did = DoneLine
LineData Dob = DoneLine
LineData Home = HomeLine
LineData Base = BaseLine
LineData Ghost = GhostLine
LineData To = ClientLine
LineData Bound = ℕ × Cut
LineData End = ℕ

-- a line
pub record TextLine : Type 0 where
  pub kind : Kind
  pub body : LineData kind

abbrev pub line : (k : Kind) → LineData k → TextLine
line k x = record { kind = k; body = x }

-- ---- words

-- the first word of a line of a kind
abbrev pub word_of : Kind → List ℕ
word_of Begin = codes "round"
word_of Did = codes "did"
word_of Dob = codes "dob"
word_of Home = codes "home"
word_of Base = codes "base"
word_of Ghost = codes "ghost"
word_of To = codes "to"
word_of Bound = codes "bound"
word_of End = codes "end"

-- of a property: its name, `=` and the value's spelling
abbrev pub property_word : Property × Value → List ℕ
property_word e = e.0.name ++ 61 ∷ text_of e.1

-- of the values of a group
abbrev pub value_words : List Property → Group → List Value → List (List ℕ)
value_words ps g values = map property_word (zip (properties_of ps g) values)

-- of a state: its position, and the values of a group
abbrev pub state_words : TypeDef → Group → State → List (List ℕ)
state_words t g s = decimal_of s.pos.x ∷ decimal_of s.pos.z ∷ value_words t.properties g s.props

-- of what a call did
abbrev pub deed_words : TypeDef → Deed → List (List ℕ)
deed_words t (Move p) = codes "move" ∷ decimal_of p.x ∷ decimal_of p.z ∷ []
deed_words t (Method m args) = (method_of t m).name ∷ map text_of args

abbrev pub done_words : List TypeDef → DoneLine → List (List ℕ)
done_words defs l =
    decimal_of l.call.entity ∷ sender_text l.call.sender ∷ decimal_of l.call.number ∷ deed_words (type_of defs l.ty) l.call.deed

abbrev pub home_words : List TypeDef → HomeLine → List (List ℕ)
home_words defs l =
    decimal_of l.entity ∷ decimal_of l.cell ∷ decimal_of l.version ∷ state_words (type_of defs l.ty) group.Real l.state

abbrev pub base_words : List TypeDef → BaseLine → List (List ℕ)
base_words defs l =
    decimal_of l.entity ∷ decimal_of l.version ∷ value_words (type_of defs l.ty).properties group.Base l.props

abbrev pub ghost_words : GhostLine → List (List ℕ)
ghost_words l = decimal_of l.entity ∷ decimal_of l.cell ∷ decimal_of l.version ∷ []

-- of what the client of an entity of a type is shown of cell parts
abbrev pub shown_words : List TypeDef → (ty : ℕ) → Shown → List (List ℕ)
shown_words defs ty (Own v s) = codes "own" ∷ decimal_of v ∷ state_words (type_of defs ty) group.Own s
shown_words defs ty (Enter e k) =
    codes "enter" ∷ decimal_of e ∷ (type_of defs k.ty).name ∷ decimal_of k.version ∷ state_words (type_of defs k.ty) group.Other k.state
shown_words defs ty (Set e k) = codes "set" ∷ decimal_of e ∷ decimal_of k.version ∷ state_words (type_of defs k.ty) group.Other k.state
shown_words defs ty (Leave e) = codes "leave" ∷ decimal_of e ∷ []

-- of what it is shown
abbrev pub told_words : List TypeDef → (ty : ℕ) → ClientText → List (List ℕ)
told_words defs ty (text.Shown x) = shown_words defs ty x
told_words defs ty (text.Base v props) = codes "base" ∷ decimal_of v ∷ value_words (type_of defs ty).properties group.BaseClient props

abbrev pub client_words : List TypeDef → ClientLine → List (List ℕ)
client_words defs l = decimal_of l.entity ∷ decimal_of l.line.number ∷ told_words defs l.ty l.line.text

-- of a boundary: its number, its axis and its place
abbrev pub bound_words : ℕ × Cut → List (List ℕ)
bound_words b = decimal_of b.0 ∷ axis_text b.1.boundary.axis ∷ decimal_of b.1.boundary.at ∷ []

-- the words of a line after its first one
abbrev pub data_words : List TypeDef → (k : Kind) → LineData k → List (List ℕ)
data_words defs Begin n = decimal_of n ∷ []
data_words defs Did l = done_words defs l
data_words defs Dob l = done_words defs l
data_words defs Home l = home_words defs l
data_words defs Base l = base_words defs l
data_words defs Ghost l = ghost_words l
data_words defs To l = client_words defs l
data_words defs Bound b = bound_words b
data_words defs End n = decimal_of n ∷ []

-- ---- texts

-- the text of a line, and then that which comes after it
abbrev pub line_text : List TypeDef → TextLine → (after : List ℕ) → List ℕ
line_text defs l after = word_of l.kind ++ rest_of_line (data_words defs l.kind l.body) after

-- the text of lines, and then that which comes after them
abbrev pub lines_text : List TypeDef → List TextLine → (after : List ℕ) → List ℕ
lines_text defs [] after = after
lines_text defs (l ∷ ls) after = line_text defs l (lines_text defs ls after)

-- ---- rounds

-- the boundaries of a tree with their numbers, from 1 on; none where there is no tree
abbrev pub bounds_of : Option Division → List (ℕ × Cut)
bounds_of None = []
bounds_of (Some tree) = zip (range_with_len 1 (length tree.cuts)) tree.cuts

-- the lines of a round, in their order
abbrev pub lines_of : RoundData → List TextLine
lines_of r =
    line Begin r.number
    ∷ (map (line Did) r.did
    ++ (map (line Dob) r.dob
    ++ (map (line Home) r.homes
    ++ (map (line Base) r.bases
    ++ (map (line Ghost) r.ghosts
    ++ (map (line To) r.shown
    ++ (map (line Bound) (bounds_of r.bounds)
    ++ line End r.number ∷ [])))))))

-- a round with what one more line says
abbrev pub with_data : RoundData → (k : Kind) → LineData k → RoundData
with_data r Begin n = record r { number = n }
with_data r Did l = record r { did = r.did ++ l ∷ [] }
with_data r Dob l = record r { dob = r.dob ++ l ∷ [] }
with_data r Home l = record r { homes = r.homes ++ l ∷ [] }
with_data r Base l = record r { bases = r.bases ++ l ∷ [] }
with_data r Ghost l = record r { ghosts = r.ghosts ++ l ∷ [] }
with_data r To l = record r { shown = r.shown ++ l ∷ [] }
with_data r Bound b = record r { bounds = option_map (λ t. record { size = t.size; cuts = t.cuts ++ b.1 ∷ [] }) r.bounds }
with_data r End n = r

abbrev pub with_line : RoundData → TextLine → RoundData
with_line r l = with_data r l.kind l.body

-- a round without lines, with a tree of one cell where there is a tree
abbrev pub no_lines : Option Division → RoundData
no_lines tree = record {
  number = 0;
  did = [];
  dob = [];
  homes = [];
  bases = [];
  ghosts = [];
  shown = [];
  bounds = option_map (λ t. record { size = t.size; cuts = [] }) tree;
}

-- what lines say, one after the other
abbrev pub data_by : RoundData → List TextLine → RoundData
data_by r ls = fold with_line r ls

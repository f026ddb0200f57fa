-- The form of lines: numbers that their types hold, and values and deeds of the types that the book has of the entities. It is what a
-- text does not show of a line, so that one text is that of one line.
use Rattle.std.specs.Prelude.{◌≡◌, ℕ, ◌<◌, ◌^◌, ⊤, MatchBool, List, [], ◌∷◌, Option, None, Some}
use Rattle.std.specs.List.{All}
use Rattle.std.specs.Option.{option_map, unwrap_or}
use Rattle.seam_geo.specs.declared.pos.Pos.{Pos}
use Rattle.seam_value.specs.NumberWords.{IsWhole}
use Rattle.seam_tree.specs.declared.cut.Cut.{Cut}
use Rattle.seam_tree.specs.Division.{Division, IsTree, cell_cut_by}
use Rattle.seam_balance.specs.Balance.{HasSameCuts}
use Rattle.seam_defs.specs.Types.{type_of}
use Rattle.seam_defs.specs.Deeds.{FitsDeed, IsOfGroup}
use Rattle.seam_defs.specs.declared.types.TypeDef.{TypeDef}
use Rattle.seam_defs.specs.declared.flags.Part.{Part}
use Rattle.seam_defs.specs.declared.flags.Part.TheVariants as part
use Rattle.seam_defs.specs.declared.flags.Group.{Group}
use Rattle.seam_defs.specs.declared.flags.Group.TheVariants as group
use Rattle.seam_defs.specs.declared.states.State.{State}
use Rattle.seam_defs.specs.declared.states.Deed.{Deed}
use Rattle.seam_defs.specs.declared.states.Deed.TheVariants.{Move, Method}
use Rattle.seam_call.specs.BaseNodes.{IsBaseNode}
use Rattle.seam_call.specs.declared.sender.Sender.{Sender}
use Rattle.seam_call.specs.declared.sender.Sender.TheVariants as sender
use Rattle.seam_call.specs.declared.shown.Shown.{Shown}
use Rattle.seam_call.specs.declared.shown.Shown.TheVariants.{Own, Enter, Set, Leave}
use Rattle.seam_call.specs.declared.shown.GhostCopy.{GhostCopy}
use Rattle.seam_call.specs.declared.shown.ClientText.{ClientText}
use Rattle.seam_call.specs.declared.shown.ClientText.TheVariants as text
use Rattle.seam_rule_lines.specs.Book.{Book, created_as, has_balance, tree_of}
use Rattle.seam_rule_lines.specs.Round.{DoneLine, HomeLine, BaseLine}
use Rattle.seam_rule_rounds.specs.Lines.{GhostLine, ClientLine, RoundData}
use Rattle.seam_law_texts.specs.declared.kinds.Kind.{Kind}
use Rattle.seam_law_texts.specs.declared.kinds.Kind.TheVariants.{Begin, Did, Dob, Home, Base, Ghost, To, Bound, End}
use Rattle.seam_law_texts.specs.TextLines.{LineData, TextLine}

-- numbers of eight and of 64 bits
abbrev pub IsSmall : ℕ → Type 0
IsSmall n = n < 2 ^ 8

abbrev pub IsLong : ℕ → Type 0
IsLong n = n < 2 ^ 64

-- the number of no type
abbrev pub no_number : ℕ
no_number = 65535

-- the number of an entity's type, by the book; of an entity that was not created that of no type
abbrev pub type_in : Book → ℕ → ℕ
type_in b e = unwrap_or (option_map (λ c. c.ty) (created_as b e)) no_number

abbrev pub IsPosition : Pos → Type 0
IsPosition p = IsWhole p.x × IsWhole p.z

-- a state: its values are those of a group of the type
pub record HasState (t : TypeDef) (g : Group) (s : State) : Type 0 where
  pub place : IsPosition s.pos
  pub values : IsOfGroup t.properties g s.props

-- a base node that there can be, or the client of an entity
abbrev pub MaySend : Sender → Type 0
MaySend (sender.Base n) = IsBaseNode n
MaySend (sender.Client e) = IsWhole e

abbrev pub GoesToPosition : Deed → Type 0
GoesToPosition (Move p) = IsPosition p
GoesToPosition (Method m args) = ⊤

-- an executed call of a part
pub record IsDone (defs : List TypeDef) (b : Book) (p : Part) (l : DoneLine) : Type 0 where
  pub entity : IsWhole l.call.entity
  pub ty : l.ty ≡ type_in b l.call.entity
  pub part : l.call.part ≡ p
  pub sender : MaySend l.call.sender
  pub number : IsLong l.call.number
  pub deed : FitsDeed (type_of defs l.ty) l.call.deed
  pub place : GoesToPosition l.call.deed

pub record IsHome (defs : List TypeDef) (b : Book) (l : HomeLine) : Type 0 where
  pub entity : IsWhole l.entity
  pub ty : l.ty ≡ type_in b l.entity
  pub cell : IsSmall l.cell
  pub version : IsLong l.version
  pub state : HasState (type_of defs l.ty) group.Real l.state

pub record IsBase (defs : List TypeDef) (b : Book) (l : BaseLine) : Type 0 where
  pub entity : IsWhole l.entity
  pub ty : l.ty ≡ type_in b l.entity
  pub version : IsLong l.version
  pub values : IsOfGroup (type_of defs l.ty).properties group.Base l.props

pub record IsGhost (l : GhostLine) : Type 0 where
  pub entity : IsWhole l.entity
  pub cell : IsSmall l.cell
  pub version : IsLong l.version

-- a copy of an entity, for other clients
pub record IsCopy (defs : List TypeDef) (b : Book) (e : ℕ) (k : GhostCopy) : Type 0 where
  pub entity : IsWhole e
  pub ty : k.ty ≡ type_in b e
  pub version : IsLong k.version
  pub state : HasState (type_of defs k.ty) group.Other k.state

-- what the client of an entity of a type is shown
abbrev pub IsShown : List TypeDef → Book → (ty : ℕ) → Shown → Type 0
IsShown defs b ty (Own v s) = IsLong v × HasState (type_of defs ty) group.Own s
IsShown defs b ty (Enter e k) = IsCopy defs b e k
IsShown defs b ty (Set e k) = IsCopy defs b e k
IsShown defs b ty (Leave e) = IsWhole e

abbrev pub IsClientText : List TypeDef → Book → (ty : ℕ) → ClientText → Type 0
IsClientText defs b ty (text.Shown x) = IsShown defs b ty x
IsClientText defs b ty (text.Base v props) = IsLong v × IsOfGroup (type_of defs ty).properties group.BaseClient props

pub record IsTo (defs : List TypeDef) (b : Book) (l : ClientLine) : Type 0 where
  pub entity : IsWhole l.entity
  pub ty : l.ty ≡ type_in b l.entity
  pub number : IsLong l.line.number
  pub told : IsClientText defs b l.ty l.line.text

-- a boundary divides the cell that it divided in the round
pub record IsBound (b : Book) (x : ℕ × Cut) : Type 0 where
  pub number : IsSmall x.0
  pub cell : cell_cut_by (tree_of b) x.0 ≡ Some x.1.cell
  pub place : IsWhole x.1.boundary.at

-- what a line of a kind says is in form
abbrev pub IsForm : List TypeDef → Book → (k : Kind) → LineData k → Type 0
IsForm defs b Begin n = IsLong n
IsForm defs b Did l = IsDone defs b part.Cell l
IsForm defs b Dob l = IsDone defs b part.Base l
IsForm defs b Home l = IsHome defs b l
IsForm defs b Base l = IsBase defs b l
IsForm defs b Ghost l = IsGhost l
IsForm defs b To l = IsTo defs b l
IsForm defs b Bound x = IsBound b x
IsForm defs b End n = IsLong n

-- lines are in form
abbrev pub AreForms : List TypeDef → Book → List TextLine → Type 0
AreForms defs b [] = ⊤
AreForms defs b (l ∷ ls) = IsForm defs b l.kind l.body × AreForms defs b ls

-- a tree of the next round: it has the round's cuts, at places of their own
pub record IsNext (b : Book) (t : Division) : Type 0 where
  pub tree : IsTree t
  pub cuts : HasSameCuts (tree_of b) t

-- where a `balance` was accepted there is such a tree, and else none
abbrev pub HasForm : Book → Option Division → Type 0
HasForm b tree = MatchBool (has_balance b) ((t : Division) × (tree ≡ Some t) × IsNext b t) (tree ≡ None)

-- the lines of a round are in form, for a book that has all lines of the round
pub record HasFormedLines (defs : List TypeDef) (b : Book) (r : RoundData) : Type 0 where
  pub number : IsLong r.number
  pub did : All (IsDone defs b part.Cell) r.did
  pub dob : All (IsDone defs b part.Base) r.dob
  pub homes : All (IsHome defs b) r.homes
  pub bases : All (IsBase defs b) r.bases
  pub ghosts : All IsGhost r.ghosts
  pub shown : All (IsTo defs b) r.shown

-- a round in form
pub record IsFormed (defs : List TypeDef) (b : Book) (r : RoundData) : Type 0 where
  pub lines : HasFormedLines defs b r
  pub bounds : HasForm b r.bounds

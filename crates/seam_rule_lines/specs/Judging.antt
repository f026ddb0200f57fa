-- What becomes of a line: it is skipped, refused for its first cause, accepted, or it ends the round.
use Rattle.std.specs.Prelude.{◌≡◌, ◌⊎◌, ℕ, ◌+◌, ◌<◌, ◌≤◌, IsTrue, IsFalse, List, length, map, Some, None, IsSome}
use Rattle.seam_io.specs.Lines.{Line, Content, Long}
use Rattle.seam_words.specs.Faults.{Refuses}
use Rattle.seam_words.specs.SplitWords.{HasWords}
use Rattle.seam_value.specs.NumberWords.{SpellsNumber, SpellsPositive}
use Rattle.seam_value.specs.Values.{text_of}
use Rattle.seam_value.specs.declared.values.Value.{Value}
use Rattle.seam_geo.specs.declared.pos.Pos.{Pos}
use Rattle.seam_tree.specs.Boundary.{LeavesPartEmpty, RunsThrough}
use Rattle.seam_tree.specs.Division.{Division, cells_of, area, HasBoundary, SomeEmpty}
use Rattle.seam_tree.specs.Change.{with_cut, with_place}
use Rattle.seam_tree.specs.declared.area_table.TheConstants.{MOST_CELLS}
use Rattle.seam_tree.specs.declared.boundary.Axis.{Axis}
use Rattle.seam_tree.specs.declared.boundary.Boundary.{Boundary}
use Rattle.seam_tree.specs.declared.tree.CutError.{CutError}
use Rattle.seam_tree.specs.declared.tree.CutError.TheVariants.{NoCell, OutsideCell, TooManyCells}
use Rattle.seam_tree.specs.declared.tree.ShiftError.{ShiftError}
use Rattle.seam_tree.specs.declared.tree.ShiftError.TheVariants.{NoBoundary, WouldEmpty}
use Rattle.seam_defs.specs.Types.{type_of, method_of}
use Rattle.seam_defs.specs.Deeds.{AreArgsOf, part_of_deed}
use Rattle.seam_defs.specs.declared.flags.Part.TheVariants as part
use Rattle.seam_defs.specs.declared.types.TypeDef.{TypeDef}
use Rattle.seam_defs.specs.declared.types.Method.{Method}
use Rattle.seam_defs.specs.declared.states.Deed.{Deed}
use Rattle.seam_defs.specs.declared.states.Deed.TheVariants as deed
use Rattle.seam_call.specs.BaseNodes.{IsBaseNodeOf}
use Rattle.seam_call.specs.declared.sender.Sender.{Sender}
use Rattle.seam_call.specs.declared.sender.Sender.TheVariants as sender
use Rattle.seam_call.specs.declared.call.Call.{Call}
use Rattle.seam_call.specs.declared.create.Create.{Create}
use Rattle.seam_toml.specs.declared.header.Header.{Header}
use Rattle.seam_rule_lines.specs.Language as language
use Rattle.seam_rule_lines.specs.Book.{Book, entries, creates_of, created_as, live_as, accepted, has_client, count_of_clients, tree_of}
use Rattle.seam_rule_lines.specs.declared.verdict.Entry.{Entry}
use Rattle.seam_rule_lines.specs.declared.verdict.Entry.TheVariants as entry
use Rattle.seam_rule_lines.specs.declared.verdict.Cause.{Cause}
use Rattle.seam_rule_lines.specs.declared.verdict.Cause.TheVariants as cause
use Rattle.seam_rule_lines.specs.declared.verdict.Verdict.{Verdict}
use Rattle.seam_rule_lines.specs.declared.verdict.Verdict.TheVariants as verdict
use Rattle.seam_rule_lines.specs.declared.limits.TheConstants.{MOST_ENTITIES, MOST_CLIENTS}

-- ---- what words name

-- the sender exists: a base node of the world, or the client of a live entity
abbrev pub SenderExists : Header → Book → Sender → Type 0
SenderExists h b (sender.Base n) = IsBaseNodeOf h.settings.bases n
SenderExists h b (sender.Client e) = IsTrue (has_client b e)

-- the word names a type
pub record NamesType (defs : List TypeDef) (type_name : language.Word) (ty : ℕ) : Type 0 where
  pub has : ty < length defs
  pub named : (type_of defs ty).name ≡ type_name

-- the word names a method of a type
pub record NamesMethod (t : TypeDef) (method_name : language.Word) (m : ℕ) : Type 0 where
  pub has : m < length t.methods
  pub named : (method_of t m).name ≡ method_name

-- the words spell arguments that a method takes
pub record SpellsArgs (m : Method) (arguments : List language.Word) (args : List Value) : Type 0 where
  pub takes : AreArgsOf m.args args
  pub spelled : map text_of args ≡ arguments

-- the words spell a position of the space
pub record SpellsPosition (h : Header) (x z : language.Word) (p : Pos) : Type 0 where
  pub spelled_x : SpellsNumber x p.x
  pub spelled_z : SpellsNumber z p.z
  pub in_x : p.x < h.settings.size
  pub in_z : p.z < h.settings.size

-- the word names a sender that exists
pub record NamesSender (h : Header) (b : Book) (sender_name : language.Word) (s : Sender) : Type 0 where
  pub there : SenderExists h b s
  pub spelled : language.sender_text s ≡ sender_name

-- the word is the number of a live entity
pub record NamesLive (b : Book) (entity : language.Word) (made : Create) : Type 0 where
  pub number : SpellsPositive entity made.entity
  pub lives : live_as b made.entity ≡ Some made

-- a base node may call every method; a client may call exposed ones, of the cell part of any entity and of the base part of its own
abbrev pub MayCall : Sender → ℕ → Method → Type 0
MayCall (sender.Base n) e m = Unit {0}
MayCall (sender.Client own) e m = IsTrue m.exposed × ((m.part ≡ part.Cell) ⊎ (own ≡ e))

-- a base node may move every entity, a client its own
abbrev pub MayMove : Sender → ℕ → Type 0
MayMove (sender.Base n) e = Unit {0}
MayMove (sender.Client own) e = own ≡ e

-- the tree refuses to cut a cell, with the first error that holds
abbrev pub RefusesCut : Division → ℕ → Boundary → CutError → Type 0
RefusesCut t cell by NoCell = cells_of t ≤ cell
RefusesCut t cell by OutsideCell = (cell < cells_of t) × LeavesPartEmpty by (area t cell)
RefusesCut t cell by TooManyCells = (cell < cells_of t) × RunsThrough by (area t cell) × (MOST_CELLS ≤ cells_of t)

-- the tree refuses to move a boundary, with the first error that holds
abbrev pub RefusesShift : Division → ℕ → ℕ → ShiftError → Type 0
RefusesShift t b at NoBoundary = (b ≡ 0) ⊎ (cells_of t ≤ b)
RefusesShift t b at WouldEmpty = HasBoundary t b × SomeEmpty (with_place t b at)

-- ---- what a command adds to a book that accepts it

-- the entity that the words of a `create` name
pub record NamesCreate (h : Header) (entity type_name x z : language.Word) (c : Create) : Type 0 where
  pub number : SpellsPositive entity c.entity
  pub type_ : NamesType h.defs type_name c.ty
  pub position : SpellsPosition h x z c.pos

-- the deed that the words of a `call` name, for an entity of this type
abbrev pub NamesDeed : List language.Word → language.Word → TypeDef → Deed → Type 0
NamesDeed arguments method_name t d =
    (m : ℕ) × (args : List Value) × NamesMethod t method_name m × SpellsArgs (method_of t m) arguments args × (d ≡ deed.Method m args)

-- the deed that the words of a `move` name
abbrev pub NamesMove : Header → language.Word → language.Word → Deed → Type 0
NamesMove h x z d = (p : Pos) × SpellsPosition h x z p × (d ≡ deed.Move p)

-- The call of a sender to a live entity, by the words that name both, and by the deeds that are asked for of each type. It has the
-- sender's next number.
pub record NamesCall (h : Header) (b : Book) (sender_name entity : language.Word) (Asks : TypeDef → Deed → Type 0) (c : Call) : Type 0
  where
    pub sender : NamesSender h b sender_name c.sender
    pub made : Create
    pub live : NamesLive b entity made
    pub entity_ : c.entity ≡ made.entity
    pub deed_ : Asks (type_of h.defs made.ty) c.deed
    pub part_ : c.part ≡ part_of_deed (type_of h.defs made.ty) c.deed
    pub next : c.number ≡ length (accepted b c.part c.entity c.sender) + 1

-- what a command adds; `sync` adds nothing
abbrev pub Adds : Header → Book → language.Command → Entry → Type 0
Adds h b (language.Create entity type_name x z) added = (c : Create) × NamesCreate h entity type_name x z c × (added ≡ entry.Created c)
Adds h b (language.Call sender_name entity method_name arguments) added =
    (c : Call) × NamesCall h b sender_name entity (NamesDeed arguments method_name) c × (added ≡ entry.Called c)
Adds h b (language.Move sender_name entity x z) added =
    (c : Call) × NamesCall h b sender_name entity (λ t. NamesMove h x z) c × (added ≡ entry.Called c)
Adds h b language.Sync added = ⊥
Adds h b (language.Client entity) added = (e : ℕ) × SpellsPositive entity e × (added ≡ entry.Joined e)
Adds h b language.Tick added = added ≡ entry.Ticked
Adds h b (language.Cut cell axis_name at) added = (c : ℕ) × (by : Boundary) × SpellsNumber cell c × language.SpellsBoundary axis_name at by
    × (added ≡ entry.Divided (with_cut (tree_of b) c by))
Adds h b (language.Shift boundary at) added =
    (k place : ℕ) × SpellsNumber boundary k × SpellsNumber at place × (added ≡ entry.Divided (with_place (tree_of b) k place))
Adds h b language.Balance added = added ≡ entry.Balanced
Adds h b (language.Destroy entity) added = (e : ℕ) × SpellsPositive entity e × (added ≡ entry.Destroyed e)

-- ---- why a line is refused

-- the place of a cause in the order in which causes are looked for
abbrev pub rank : Cause → ℕ
rank cause.TooLong = 0
rank (cause.BadWords error) = 1
rank cause.NoCommand = 2
rank cause.WrongCount = 3
rank cause.BadNumber = 4
rank cause.Exists = 5
rank cause.NoType = 6
rank cause.Outside = 7
rank cause.Full = 8
rank cause.NoSender = 9
rank cause.Dead = 10
rank cause.UnknownMethod = 11
rank cause.IllTyped = 12
rank (cause.CutRefused error) = 13
rank (cause.ShiftRefused error) = 13

-- the word is no number
abbrev pub IsNoNumber : language.Word → Type 0
IsNoNumber word = (n : ℕ) → ¬ (SpellsNumber word n)

-- the word is no number of an entity
abbrev pub IsNoEntity : language.Word → Type 0
IsNoEntity word = (e : ℕ) → ¬ (SpellsPositive word e)

-- the word is the number of an entity that does not live
abbrev pub IsDead : Book → language.Word → Type 0
IsDead b entity = (e : ℕ) × SpellsPositive entity e × (live_as b e ≡ None)

-- which causes hold against a command
abbrev pub HoldsAgainst : Header → Book → language.Command → Cause → Type 0
HoldsAgainst h b (language.Create entity type_name x z) cause.BadNumber = IsNoEntity entity ⊎ (IsNoNumber x ⊎ IsNoNumber z)
HoldsAgainst h b (language.Create entity type_name x z) cause.Exists = (e : ℕ) × SpellsPositive entity e × IsSome (created_as b e)
HoldsAgainst h b (language.Create entity type_name x z) cause.NoType = (ty : ℕ) → ¬ (NamesType h.defs type_name ty)
HoldsAgainst h b (language.Create entity type_name x z) cause.Outside =
    (n : ℕ) × (SpellsNumber x n ⊎ SpellsNumber z n) × (h.settings.size ≤ n)
HoldsAgainst h b (language.Create entity type_name x z) cause.Full = MOST_ENTITIES ≤ length (creates_of (entries b))
HoldsAgainst h b (language.Call sender_name entity method_name arguments) cause.BadNumber = IsNoEntity entity
HoldsAgainst h b (language.Call sender_name entity method_name arguments) cause.NoSender = (s : Sender) → ¬ (NamesSender h b sender_name s)
HoldsAgainst h b (language.Call sender_name entity method_name arguments) cause.Dead = IsDead b entity
HoldsAgainst h b (language.Call sender_name entity method_name arguments) cause.UnknownMethod = (made : Create) × NamesLive b entity made
    × ((s : Sender) (m : ℕ) → NamesSender h b sender_name s → NamesMethod (type_of h.defs made.ty) method_name m
    → ¬ (MayCall s made.entity (method_of (type_of h.defs made.ty) m)))
HoldsAgainst h b (language.Call sender_name entity method_name arguments) cause.IllTyped =
    (made : Create) × (m : ℕ) × NamesLive b entity made × NamesMethod (type_of h.defs made.ty) method_name m
    × ((args : List Value) → ¬ (SpellsArgs (method_of (type_of h.defs made.ty) m) arguments args))
HoldsAgainst h b (language.Move sender_name entity x z) cause.BadNumber = IsNoEntity entity
HoldsAgainst h b (language.Move sender_name entity x z) cause.NoSender = (s : Sender) → ¬ (NamesSender h b sender_name s)
HoldsAgainst h b (language.Move sender_name entity x z) cause.Dead = IsDead b entity
HoldsAgainst h b (language.Move sender_name entity x z) cause.UnknownMethod =
    (made : Create) × NamesLive b entity made × ((s : Sender) → NamesSender h b sender_name s → ¬ (MayMove s made.entity))
HoldsAgainst h b (language.Move sender_name entity x z) cause.IllTyped = (p : Pos) → ¬ (SpellsPosition h x z p)
HoldsAgainst h b (language.Client entity) cause.BadNumber = IsNoEntity entity
HoldsAgainst h b (language.Client entity) cause.Exists = (e : ℕ) × SpellsPositive entity e × IsTrue (has_client b e)
HoldsAgainst h b (language.Client entity) cause.Full =
    (made : Create) × NamesLive b entity made × IsFalse (has_client b made.entity) × (MOST_CLIENTS ≤ count_of_clients b)
HoldsAgainst h b (language.Client entity) cause.Dead = IsDead b entity
HoldsAgainst h b (language.Cut cell axis_name at) cause.BadNumber =
    IsNoNumber cell ⊎ (((a : Axis) → ¬ (language.axis_text a ≡ axis_name)) ⊎ IsNoNumber at)
HoldsAgainst h b (language.Cut cell axis_name at) (cause.CutRefused error) =
    (c : ℕ) × (by : Boundary) × SpellsNumber cell c × language.SpellsBoundary axis_name at by × RefusesCut (tree_of b) c by error
HoldsAgainst h b (language.Shift boundary at) cause.BadNumber = IsNoNumber boundary ⊎ IsNoNumber at
HoldsAgainst h b (language.Shift boundary at) (cause.ShiftRefused error) =
    (k place : ℕ) × SpellsNumber boundary k × SpellsNumber at place × RefusesShift (tree_of b) k place error
HoldsAgainst h b (language.Destroy entity) cause.BadNumber = IsNoEntity entity
HoldsAgainst h b (language.Destroy entity) cause.Dead = IsDead b entity
HoldsAgainst h b c k = ⊥

-- which causes hold against words
abbrev pub HoldsAgainstWords : Header → Book → List language.Word → Cause → Type 0
HoldsAgainstWords h b words cause.NoCommand = ¬ (language.NamesCommand words)
HoldsAgainstWords h b words cause.WrongCount = (c : language.Command) → ¬ (words ≡ language.words_of c)
HoldsAgainstWords h b words k = (c : language.Command) × (words ≡ language.words_of c) × HoldsAgainst h b c k

-- which causes hold against a line that has words
abbrev pub Holds : Header → Book → Line → Cause → Type 0
Holds h b line cause.TooLong = line ≡ Long
Holds h b line (cause.BadWords error) = (content : List ℕ) × (line ≡ Content content) × Refuses content error
Holds h b line k = (content : List ℕ) × (words : List language.Word) × (line ≡ Content content) × HasWords content words
    × HoldsAgainstWords h b words k

-- a cause holds, and none that comes before it
pub record IsFirst (Against : Cause → Type 0) (c : Cause) : Type 0 where
  pub here : Against c
  pub first : (d : Cause) → Against d → rank c ≤ rank d

-- ---- the verdict on a line

-- a line without words
abbrev pub IsEmptyLine : Line → Type 0
IsEmptyLine Long = ⊥
IsEmptyLine (Content line) = language.IsSkipped line

-- the line spells the command
abbrev pub Spells : Line → language.Command → Type 0
Spells Long c = ⊥
Spells (Content line) c = language.SpellsCommand line c

-- What becomes of a line: one without words is skipped. Every other one is refused for the first cause that holds; where none holds, its
-- command is accepted, and adds an entry or ends the round.
abbrev pub Judges : Header → Book → Line → Verdict → Type 0
Judges h b line verdict.Skipped = IsEmptyLine line
Judges h b line (verdict.Refused c) = ¬ (IsEmptyLine line) × IsFirst (Holds h b line) c
Judges h b line (verdict.Accepted x) =
    ¬ (IsEmptyLine line) × ((k : Cause) → ¬ (Holds h b line k)) × (c : language.Command) × Spells line c × Adds h b c x
Judges h b line verdict.Synced = ¬ (IsEmptyLine line) × Spells line language.Sync

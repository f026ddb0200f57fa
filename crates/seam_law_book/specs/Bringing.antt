-- What the open round of a book brings to the core, by the book as the round began.
use Rattle.std.specs.Prelude.{◌≡◌, ◌⊎◌, ℕ, ◌+◌, ◌<◌, ◌≤◌, false, eqb, ◌&&◌, ◌==◌, List, [], ◌∷◌, map, filter, find, length, Option, Some}
use Rattle.std.specs.Prelude.{None}
use Rattle.std.specs.List.{AllByRecursion, IsDistinct, filter_map, list_any}
use Rattle.seam_node_steps.specs.Prelude.{IsWhole, cells_of, IsTree, Pos, FitsDeed, part_of_deed, type_of, Part, Deed, is_for, rank_of}
use Rattle.seam_node_steps.specs.Prelude.{Sender, Call, Create}
use Rattle.seam_rule_rounds.specs.Prelude.{Header, Book, entries, creates_of, calls_of, created_as, live_as, has_client, joins, destroys}
use Rattle.seam_rule_rounds.specs.Prelude.{tree_of}
use Rattle.seam_defs.specs.declared.states.Deed.TheVariants as deed
use Rattle.seam_call.specs.BaseNodes.{IsBaseNodeOf}
use Rattle.seam_call.specs.declared.sender.Sender.TheVariants as sender
use Rattle.seam_accept.specs.Batches.{joined, destroyed}
use Rattle.seam_law_book.specs.Books.{as_begun}

-- ---- who is there

abbrev pub entity_of : Create → ℕ
entity_of c = c.entity

-- what makes the entity among these creates
abbrev pub made_among : List Create → ℕ → Option Create
made_among cs e = find (λ c. c.entity == e) cs

-- the entity is there in the open round, and was made so: it lived when the round began, or the round makes it
abbrev pub IsPresent : Book → ℕ → Create → Type 0
IsPresent b e made = (live_as (as_begun b) e ≡ Some made) ⊎ (made_among (creates_of b.current) e ≡ Some made)

-- it is there, and had no client when the round began
pub record GetsClient (b : Book) (e : ℕ) : Type 0 where
  pub made : Create
  pub present : IsPresent b e made
  pub clientless : has_client (as_begun b) e ≡ false

abbrev pub HasEntity : Book → ℕ → Type 0
HasEntity b e = (made : Create) × IsPresent b e made

-- a position of the space
pub record IsInside (h : Header) (p : Pos) : Type 0 where
  pub x : p.x < h.settings.size
  pub z : p.z < h.settings.size

-- the round may make the entity: its number is a new one that 32 bits hold, and its type and its position are such
pub record IsNewEntity (h : Header) (b : Book) (c : Create) : Type 0 where
  pub new : created_as (as_begun b) c.entity ≡ None
  pub number : IsWhole c.entity
  pub type : c.ty < length h.defs
  pub inside : IsInside h c.pos

-- ---- calls

-- a move goes to a position of the space
abbrev pub StaysInside : Header → Deed → Type 0
StaysInside h (deed.Move p) = IsInside h p
StaysInside h (deed.Method m args) = Unit {0}

-- the sender is a base node of the world, or a client
abbrev pub IsSenderOf : Header → Sender → Type 0
IsSenderOf h (sender.Base n) = IsBaseNodeOf h.settings.bases n
IsSenderOf h (sender.Client e) = Unit {0}

-- a call that the round brings: its entity is there, and its type can do the deed, on that part and inside the space
pub record IsFitCall (h : Header) (b : Book) (c : Call) : Type 0 where
  pub sender : IsSenderOf h c.sender
  pub made : Create
  pub present : IsPresent b c.entity made
  pub deed : FitsDeed (type_of h.defs made.ty) c.deed
  pub part : c.part ≡ part_of_deed (type_of h.defs made.ty) c.deed
  pub inside : StaysInside h c.deed

-- among these calls those of a sender, by its place in the order of senders, to a part of an entity
abbrev pub calls_from : Part → ℕ → ℕ → List Call → List Call
calls_from p e s calls = filter (λ c. is_for p e c && (rank_of c.sender == s)) calls

-- the number of the sender's last call to the part that was accepted
abbrev pub last_number : Book → Part → ℕ → ℕ → ℕ
last_number b p e s = length (calls_from p e s (calls_of (entries b)))

-- the calls have the numbers from n on, one after another
abbrev pub AreNumberedFrom : ℕ → List Call → Type 0
AreNumberedFrom n [] = Unit {0}
AreNumberedFrom n (c ∷ cs) = (c.number ≡ n) × AreNumberedFrom (n + 1) cs

-- ---- the open round

-- The open round of the book fits its world: the tree, what it creates, attaches and destroys, and its calls.
pub record HasFitRound (h : Header) (b : Book) : Type 0 where
  -- its tree is one of the space, and has each cell of the tree with which the round began
  pub tree : IsTree (tree_of b)
  pub space : (tree_of b).size ≡ h.settings.size
  pub cells : cells_of b.tree ≤ cells_of (tree_of b)
  -- each entity that it makes may be made, and is made once
  pub creates : AllByRecursion (IsNewEntity h b) (creates_of b.current)
  pub once : IsDistinct eqb (map entity_of (creates_of b.current))
  -- each that gets a client may get one, and gets it once
  pub clients : AllByRecursion (GetsClient b) (filter_map joined b.current)
  pub one_each : IsDistinct eqb (filter_map joined b.current)
  -- each that is destroyed is there, and dies once
  pub destroys : AllByRecursion (HasEntity b) (filter_map destroyed b.current)
  pub ends_once : IsDistinct eqb (filter_map destroyed b.current)
  -- each call fits, and each sender's calls to a part have the numbers after the last one that it had
  pub calls : AllByRecursion (IsFitCall h b) (calls_of b.current)
  pub numbered : (p : Part) (e s : ℕ) → AreNumberedFrom (last_number (as_begun b) p e s + 1) (calls_from p e s (calls_of b.current))

-- nothing was accepted for the number
pub record IsUntouched (b : Book) (e : ℕ) : Type 0 where
  pub calls : (p : Part) (s : ℕ) → calls_from p e s (calls_of (entries b)) ≡ []
  pub client : list_any (joins e) (entries b) ≡ false
  pub end : list_any (destroys e) (entries b) ≡ false

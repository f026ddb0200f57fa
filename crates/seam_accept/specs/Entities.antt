-- What is kept of entities, beside the book of a transcript.
use Rattle.std.specs.Prelude.{◌≡◌, ◌≢◌, ⊤, ℕ, ◌+◌, Bool, true, false, cond, ◌&&◌, eqb, map, List, [], length, slice_get}
use Rattle.std.specs.Prelude.{Option, None, Some, IfSome, IsSome}
use Rattle.std.specs.Borrow.{Bor}
use Rattle.std.specs.Map.{lookup}
use Rattle.std.specs.Ordering.{nat_cmp}
use Rattle.std.specs.BTreeMap.{is_at}
use Rattle.std.specs.List.{list_any, IsDistinct}
use Rattle.seam_value.specs.NumberWords.{IsWhole}
use Rattle.seam_defs.specs.declared.flags.Part.{Part}
use Rattle.seam_defs.specs.declared.flags.Part.TheVariants as part
use Rattle.seam_call.specs.Senders.{IsSender, same_sender}
use Rattle.seam_call.specs.Calls.{same_part}
use Rattle.seam_call.specs.declared.sender.Sender.{Sender}
use Rattle.seam_call.specs.declared.call.Call.{Call}
use Rattle.seam_call.specs.declared.create.Create.{Create}
use Rattle.seam_rule_lines.specs.Book.{Book, entries, creates_of, created_as, live_as, destroys, joins, has_client, count_of_clients}
use Rattle.seam_rule_lines.specs.Book.{accepted}
use Rattle.seam_rule_lines.specs.declared.verdict.Entry.{Entry}
use Rattle.seam_rule_lines.specs.declared.verdict.Entry.TheVariants as entry
use Rattle.seam_accept.specs.Last.{LastView, number_of}
use Rattle.seam_accept.specs.declared.entity.Entity.{Entity}

-- the numbers of the last calls to a part of an entity
abbrev pub last_of : Part → Entity → LastView
last_of part.Cell v = v.cell
last_of part.Base v = v.base

-- an entity with the number of a sender's last call to a part: the numbers of its other calls stay
pub record Remembers (p : Part) (s : Sender) (number : ℕ) (old new : Entity) : Type 0 where
  pub ty : new.ty ≡ old.ty
  pub last : (q : Part) (t : Sender) → IsSender t →
      number_of (last_of q new) t ≡ cond (same_part p q && same_sender s t) number (number_of (last_of q old) t)

-- a live entity of the book: its type, and how many calls each sender made to its parts
pub record EntityRefines (b : Book) (e : ℕ) (v : Entity) : Type 0 where
  pub made : Create
  pub is : created_as b e ≡ Some made
  pub undestroyed : list_any (destroys e) (entries b) ≡ false
  pub whole : IsWhole e
  pub ty : v.ty ≡ made.ty
  pub last : (p : Part) (s : Sender) → IsSender s → number_of (last_of p v) s ≡ length (accepted b p e s)

-- an entity of the book was destroyed
pub record IsGone (b : Book) (e : ℕ) : Type 0 where
  pub made : Create
  pub is : created_as b e ≡ Some made
  pub destroyed : list_any (destroys e) (entries b) ≡ true

-- the book has no entity of this number, and nothing was accepted for one
pub record IsUnknown (b : Book) (e : ℕ) : Type 0 where
  pub uncreated : created_as b e ≡ None
  pub undestroyed : list_any (destroys e) (entries b) ≡ false
  pub unjoined : list_any (joins e) (entries b) ≡ false
  pub uncalled : (p : Part) (s : Sender) → accepted b p e s ≡ []

-- the entity of a number among entities by number
abbrev pub entity_at : List (ℕ × Entity) → ℕ → Option Entity
entity_at entities e = lookup (eqb e) entities

-- the place of an entity among entities
pub record IsIndexOf (entities : List (ℕ × Entity)) (e place : ℕ) : Type 0 where
  pub entity : Entity
  pub at : slice_get entities place ≡ Some (e, entity)

-- whether a number is one of a set
abbrev pub is_in : List ℕ → ℕ → Bool
is_in numbers e = list_any (is_at (nat_cmp e)) numbers

-- What is kept of a number, by the entity that it has, if any, and whether it is one of the dead: a live entity is kept, of a dead one its
-- number alone, and of one that was never made nothing.
abbrev pub IsKept : Book → ℕ → Option Entity → Bool → Type 0
IsKept b e None false = IsUnknown b e
IsKept b e None true = IsGone b e
IsKept b e (Some v) false = EntityRefines b e v
IsKept b e (Some v) true = ⊥

-- the entities are the live ones of the book, and the dead the numbers of the others
pub record EntitiesRefine (b : Book) (entities : List (ℕ × Entity)) (dead : List ℕ) : Type 0 where
  pub count : length entities + length dead ≡ length (creates_of (entries b))
  pub each : (e : ℕ) → IsKept b e (entity_at entities e) (is_in dead e)
  pub once : IsDistinct eqb (map (λ c. c.entity) (creates_of (entries b)))

-- the clients are those of the live entities that have one
pub record ClientsRefine (b : Book) (clients : List ℕ) : Type 0 where
  pub count : length clients ≡ count_of_clients b
  pub each : (e : ℕ) → is_in clients e ≡ has_client b e

-- an entity lives, and is kept so
pub record IsLive (b : Book) (e : ℕ) (v : Bor Entity) : Type 0 where
  pub refines : EntityRefines b e v.now
  pub lives : live_as b e ≡ Some refines.made

-- an entity lives without a client
pub record LivesWithoutClient (b : Book) (e : ℕ) : Type 0 where
  pub lives : IsSome (live_as b e)
  pub clientless : has_client b e ≡ false

-- a call that comes next: its entity lives, and it has its sender's next number
pub record IsNextCall (b : Book) (c : Call) : Type 0 where
  pub lives : IsSome (live_as b c.entity)
  pub next : c.number ≡ length (accepted b c.part c.entity c.sender) + 1

-- an entry that may come next: it makes an entity whose number is new, or is about a live one
abbrev pub IsNext : Book → Entry → Type 0
IsNext b (entry.Created c) = created_as b c.entity ≡ None
IsNext b (entry.Called c) = IsNextCall b c
IsNext b (entry.Joined e) = LivesWithoutClient b e
IsNext b (entry.Destroyed e) = IsSome (live_as b e)
IsNext b x = ⊤

-- an entity, where it is there, was changed so, and the others stay
pub record ChangesOne (old new : List (ℕ × Entity)) (e : ℕ) (Changes : Entity → Entity → Type 0) : Type 0 where
  pub count : length new ≡ length old
  pub here : IfSome (entity_at old e) (λ v. (w : Entity) × (entity_at new e ≡ Some w) × Changes v w)
  pub others : (other : ℕ) → other ≢ e → entity_at new other ≡ entity_at old other

-- an entity remembers a call as its sender's last one
abbrev pub KeepsLast : List (ℕ × Entity) → List (ℕ × Entity) → Call → Type 0
KeepsLast old new c = ChangesOne old new c.entity (Remembers c.part c.sender c.number)

-- The record of base parts and of clients between rounds, and what a fitting batch brings to them.
use Rattle.std.specs.Prelude.{◌≡◌, ℕ, ◌+◌, ◌^◌, ◌<◌, ◌≤◌, true, false, is_some, List, [], map, length, Option, None, Some}
use Rattle.std.specs.List.{AllByRecursion}
use Rattle.std.specs.FinMap as table
use Rattle.seam_node_steps.specs.Prelude.{items_to, Call as CallData, Order, Batch, order_or, RealView, WitnessView, limit, cell_count}
use Rattle.seam_node_steps.specs.Prelude.{PartView, ProxyView, fits_base_part, World, loaded}
use Rattle.seam_law_flow.specs.Prelude.{letters_of, number_from}
use Rattle.seam_law_calls.specs.Prelude.{Frame, here_at, orders_of, entity_flow, from_sender, numbered_from, base_call_of, home_of}
use Rattle.seam_law_calls.specs.Prelude.{HasNoClient, sent_by, shown_in, EachReal, HasClient, most_entities, IsBlank, SeesFew, real_at}
use Rattle.seam_call.specs.declared.order.Order.TheVariants as order
use Rattle.seam_law_rounds.specs.Between.{order_in, numbers_of, MayBegin}

-- ---- the record

-- the number that the sender's next call to the base part is to have
abbrev pub next_to : ℕ → PartView → ℕ
next_to s p = (order_or (table.get p.orders s)).next

-- what a world keeps of the base part of entity e, which is of type ty
pub record HasSettledPart (f : Frame) (e ty : ℕ) (w : World) : Type 0 where
  -- the part
  pub part : PartView
  -- it is at the entity's base node
  pub here : ((entity_flow e w).slot (home_of f e)).base.part ≡ Some part
  -- and at no other
  pub others : (k : ℕ) → (k ≡ home_of f e → ⊥) → ((entity_flow e w).slot k).base.part ≡ None
  -- it is of the type
  pub type : part.ty ≡ ty
  -- it holds no call
  pub none_held : (s : ℕ) → (order_or (table.get part.orders s)).held ≡ []
  -- each sender's next number is at least one
  pub from_one : (s : ℕ) → 1 ≤ next_to s part

-- a witness and a client of a part of that version, when nothing that the witness told is on its way
pub record AreInStep (w : WitnessView) (x : ProxyView) (version : ℕ) : Type 0 where
  -- the number of the client's next update is the witness's next
  pub next : x.updates.next ≡ w.sent + 1
  -- the client holds no update
  pub none_held : x.updates.held ≡ []
  -- the updates that it was shown in the round are among those that the witness told
  pub shown : length (letters_of shown_in x.lines) < x.updates.next
  -- each line that it was ever shown is an update or the part at one of its versions
  pub lines : x.last ≤ x.updates.next + version

-- the witness of an entity's real and the client of its part, of that version: it has both, in step, or neither
abbrev pub AreFor : Option WitnessView → Option ProxyView → ℕ → Type 0
AreFor None None version = Unit {0}
AreFor None (Some x) version = ⊥
AreFor (Some w) None version = ⊥
AreFor (Some w) (Some x) version = AreInStep w x version

-- the record of base parts and of clients between rounds, beside that of reals
pub record HasPartsBetweenRounds (f : Frame) (w : World) : Type 0 where
  -- each entity that is there has its base part
  pub parts : (e k : ℕ) (r : RealView) → real_at e w k ≡ Some r → HasSettledPart f e r.ty w
  -- and its real has a witness exactly where the part has a client, in step with it
  pub clients : (e k : ℕ) (r : RealView) → real_at e w k ≡ Some r → (p : PartView) →
      ((entity_flow e w).slot (home_of f e)).base.part ≡ Some p → AreFor r.witness p.proxy p.version
  -- each that is there, or of which there is a copy, has a number below the bound
  pub entities : (e : ℕ) → most_entities ≤ e → (k : ℕ) → IsBlank ((entity_flow e w).slot k)
  -- and so has each that a witness has in view, once
  pub views : (e k : ℕ) (r : RealView) → real_at e w k ≡ Some r → SeesFew r

-- ---- a batch

-- of the batch's calls, those of the sender to the entity's base part, in the order of the list
abbrev pub base_calls_of : Batch → ℕ → ℕ → List CallData
base_calls_of b e s = letters_of (from_sender s) (letters_of base_call_of (orders_of e (map order_in b.orders)))

-- those that node k is given, each with its number
abbrev pub base_calls_at : Batch → ℕ → ℕ → ℕ → List (ℕ × CallData)
base_calls_at b e s k = letters_of (numbered_from s) (letters_of base_call_of (orders_of e (items_to k b.orders)))

-- one base node is given all the calls of the sender to the entity's base part, numbered from `first` on
pub record AreBaseNumbered (f : Frame) (b : Batch) (e s first : ℕ) : Type 0 where
  pub node : ℕ
  pub is_base : cell_count ≤ node
  pub in_net : node < cell_count + f.settings.bases
  pub calls : base_calls_at b e s node ≡ number_from first (base_calls_of b e s)
  pub others : (j : ℕ) → (j ≡ node → ⊥) → base_calls_at b e s j ≡ []
  pub room : first + length (base_calls_of b e s) < limit

-- a call to the base part of entity e, which is of type ty, fits it
abbrev pub IsFitBaseOrder : Frame → ℕ → ℕ → Order → Type 0
IsFitBaseOrder f e ty (order.Base c) = c.entity ≡ e → fits_base_part (here_at f 0) ty c ≡ true
IsFitBaseOrder f e ty _ = Unit {0}

-- what a batch brings to an entity's base part, p: each call fits its type, and each sender's calls have the next numbers
pub record IsForPart (f : Frame) (b : Batch) (e : ℕ) (p : PartView) : Type 0 where
  pub fit : AllByRecursion (λ o. IsFitBaseOrder f e p.ty o.1) b.orders
  pub numbered : (s : ℕ) → AreBaseNumbered f b e s (next_to s p)

-- a bound on the lines of an entity's client: one for each update that its witness told, and one for each version of its part
abbrev pub lines_of : RealView → PartView → ℕ
lines_of r p = sent_by r + p.version

-- a batch that a world with such parts may be given
pub record FitsParts (f : Frame) (w : World) (b : Batch) : Type 0 where
  -- the entities that it creates have numbers below the bound
  pub numbers : AllByRecursion (λ x. x.entity < most_entities) b.creates
  -- its calls fit the parts that are there once it is loaded
  pub calls : (e : ℕ) (p : PartView) → ((entity_flow e (loaded w b)).slot (home_of f e)).base.part ≡ Some p → IsForPart f b e p
  -- and the numbers of those that were there have room for all of them
  pub small : (e k : ℕ) (r : RealView) → real_at e w k ≡ Some r → (p : PartView) →
      ((entity_flow e w).slot (home_of f e)).base.part ≡ Some p → lines_of r p < 2 ^ 61

-- ---- entities without a client

-- the entity has no client, and the batch attaches none
pub record StaysWithoutClient (e : ℕ) (w : World) (b : Batch) : Type 0 where
  pub none : HasNoClient e w
  pub attached : AllByRecursion (λ x. x ≡ e → ⊥) b.clients

-- ---- a round

-- the world keeps both records, and the batch fits both
pub record MayBeLoaded (f : Frame) (w : World) (b : Batch) : Type 0 where
  pub begin : MayBegin f w b
  pub parts : HasPartsBetweenRounds f w
  pub brings : FitsParts f w b

-- the numbers of a world that is to reap, or to look, have room: those of each real and those of its client
pub record HasSmallNumbers (f : Frame) (u : World) : Type 0 where
  pub reals : (e k : ℕ) (r : RealView) → real_at e u k ≡ Some r → numbers_of r < 2 ^ 61 + 2 ^ 60
  pub clients : (e k : ℕ) (r : RealView) → real_at e u k ≡ Some r → (p : PartView) →
      ((entity_flow e u).slot (home_of f e)).base.part ≡ Some p → lines_of r p < 2 ^ 61 + 2 ^ 60

-- ---- over a list of events

-- an entity without a witness and a client, or one whose client is shown what its witness told from update `first` on
pub data IsServed (f : Frame) (e ty : ℕ) (w : World) : Type 0 where
  bare : HasNoClient e w → EachReal e (λ r. is_some r.witness ≡ false) w → IsServed f e ty w
  served : (first : ℕ) → 1 ≤ first → HasClient f e ty first w → EachReal e (λ r. is_some r.witness ≡ true) w → IsServed f e ty w

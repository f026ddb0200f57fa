-- Each call once: one sender's numbered calls to one part of an entity. They wait in orders, on links, or with the part, which travels.
use Rattle.std.specs.Prelude.{◌≡◌, ℕ, ◌+◌, ◌<◌, ◌≤◌, ◌^◌, List, [], ◌∷◌, ◌++◌, length, Option, None, Some}
use Rattle.seam_law_flow.specs.Flows.{Flow, letters_of, more_letter}
use Rattle.seam_law_flow.specs.Tokens.{TokenPlace, Sole}
use Rattle.seam_order.specs.Held.{OrderView, item_at, IsInOrder}
use Rattle.seam_order.specs.Offers.{next_item}
use Rattle.seam_law_flow.specs.Lives.{Lasts}
use Rattle.seam_law_flow.specs.Numbered.{number_from, of_number}

-- what the part has of the sender: its order, and which of its calls were executed, in order
pub record Desk (U : Type 0) : Type 0 where
  pub order : OrderView U
  pub done : List U

-- what a node has of the sender: its calls among the node's orders, each with its number, and the desk where the part is here
pub record Post (U : Type 0) : Type 0 where
  pub stored : List (ℕ × U)
  pub desk : Option (Desk U)

-- a letter: a call with its number, or the desk of a part on its way
pub data Mail (U : Type 0) : Type 0 where
  Item : ℕ → U → Mail U
  Parcel : Desk U → Mail U

-- ---- the calls of one number

abbrev pub held_in : {U : Type 0} → ℕ → Option (Desk U) → List U
held_in n None = []
held_in n (Some d) = more_letter (item_at n d.order.held) []

-- those that wait at a node
abbrev pub kept_at : {U : Type 0} → ℕ → Post U → List U
kept_at n p = letters_of (of_number n) p.stored ++ held_in n p.desk

-- those that a letter brings
abbrev pub borne : {U : Type 0} → ℕ → Mail U → List U
borne n (Item m u) = more_letter (of_number n (m, u)) []
borne n (Parcel d) = held_in n (Some d)

-- a list as a token: none where it is empty
abbrev pub packed : {U : Type 0} → List U → Option (List U)
packed [] = None
packed (x ∷ xs) = Some (x ∷ xs)

abbrev pub keeps : {U : Type 0} → ℕ → Post U → Option (List U)
keeps n p = packed (kept_at n p)

abbrev pub bears : {U : Type 0} → ℕ → Mail U → Option (List U)
bears n m = packed (borne n m)

abbrev pub one : {U : Type 0} → Option U → Option (List U)
one None = None
one (Some u) = Some (u ∷ [])

-- of number n there waits this call, once, at one place, and no other; where it is none, nothing of that number waits
abbrev pub WaitsOnce : {U : Type 0} → Flow (Post U) (Mail U) → ℕ → Option U → Type 0
WaitsOnce w n o = Lasts (keeps n) (bears n) w (one o)

-- ---- calls in turn

abbrev pub desk_of : {U : Type 0} → Post U → Option (Desk U)
desk_of p = p.desk

abbrev pub parcel_of : {U : Type 0} → Mail U → Option (Desk U)
parcel_of (Item m u) = None
parcel_of (Parcel d) = Some d

-- of the batch's calls, numbered from `first` on, the part, whose desk is d at that place, executed the first ones, in order, and its
-- next number is that of the first of the others. Each of the others waits, once, and no other number does
pub record InTurn {U : Type 0} (first : ℕ) (batch : List U) (w : Flow (Post U) (Mail U)) (place : TokenPlace) (d : Desk U) : Type 0 where
  pub sole : Sole desk_of parcel_of w place d
  pub rest : List U
  pub parts : batch ≡ d.done ++ rest
  pub next : d.order.next ≡ first + length d.done
  pub small : first + length batch < 2 ^ 62
  pub in_order : IsInOrder d.order
  pub life : (n : ℕ) → WaitsOnce w n (item_at n (number_from d.order.next rest))

-- the same, wherever the part is
pub record AreInTurn {U : Type 0} (first : ℕ) (batch : List U) (w : Flow (Post U) (Mail U)) : Type 0 where
  pub place : TokenPlace
  pub desk : Desk U
  pub in_turn : InTurn first batch w place desk

-- nothing is on its way, no node has an order, and the part holds no call whose turn it is
pub record IsStill {U : Type 0} (w : Flow (Post U) (Mail U)) : Type 0 where
  pub mail : (x y : ℕ) → w.mail x y ≡ []
  pub stores : (k : ℕ) → (w.slot k).stored ≡ []
  pub ready : (k : ℕ) (d : Desk U) → (w.slot k).desk ≡ Some d → next_item d.order ≡ None

-- the start of a round: nothing is on its way, one node has all the batch's calls among its orders, each number once, and the part, which
-- is at node k, did nothing and holds nothing
pub record IsLoaded {U : Type 0} (first : ℕ) (batch : List U) (w : Flow (Post U) (Mail U)) (home k : ℕ) : Type 0 where
  pub mail : (x y : ℕ) → w.mail x y ≡ []
  pub store : (n : ℕ) → letters_of (of_number n) (w.slot home).stored ≡ more_letter (item_at n (number_from first batch)) []
  pub stores : (j : ℕ) → (j ≡ home → ⊥) → (w.slot j).stored ≡ []
  pub here : (w.slot k).desk ≡ Some (record { order = record { next = first; held = [] }; done = [] })
  pub others : (j : ℕ) → (j ≡ k → ⊥) → (w.slot j).desk ≡ None
  pub from_one : 1 ≤ first
  pub small : first + length batch < 2 ^ 62

-- What a step may do with one sender's calls to one part of an entity.
use Rattle.std.specs.Prelude.{◌≡◌, ℕ, List, [], ◌∷◌, ◌++◌, Option, None, Some}
use Rattle.seam_law_flow.specs.Tokens.{TokenPlace, In, On}
use Rattle.seam_order.specs.Offers.{after_offer, after_taking, next_item}
use Rattle.seam_law_flow.specs.Deliveries.{at_once}
use Rattle.seam_law_flow.specs.Desks.{Desk, Post, Mail, Item, Parcel}

-- nothing is sent
abbrev pub Quiet : {U : Type 0} → (ℕ → List (Mail U)) → Type 0
Quiet out = (j : ℕ) → out j ≡ []

-- one letter is sent, to node `to`
pub record Only {U : Type 0} (out : ℕ → List (Mail U)) (to : ℕ) (m : Mail U) : Type 0 where
  pub here : out to ≡ m ∷ []
  pub others : (j : ℕ) → (j ≡ to → ⊥) → out j ≡ []

-- the desk after it was offered a call: it is executed where it is its turn
abbrev pub offered : {U : Type 0} → Desk U → ℕ → U → Desk U
offered d n u = record { order = after_offer d.order n u; done = d.done ++ at_once d.order.next n u }

-- the desk after the next call, which was held, was executed
abbrev pub taken : {U : Type 0} → Desk U → U → Desk U
taken d u = record { order = after_taking d.order; done = d.done ++ u ∷ [] }

pub data Passes {U : Type 0} (k : ℕ) (s : Post U) (i : Option (Mail U)) (t : Post U) (out : ℕ → List (Mail U)) : Type 0 where
  -- nothing
  rests : i ≡ None → t ≡ s → Quiet out → Passes k s i t out
  -- the first of the node's orders is sent
  sends : (n : ℕ) (u : U) (more : List (ℕ × U)) (to : ℕ) → i ≡ None → s.stored ≡ (n, u) ∷ more
      → t ≡ record { stored = more; desk = s.desk } → Only out to (Item n u) → Passes k s i t out
  -- a call that comes is passed on
  relays : (n : ℕ) (u : U) (to : ℕ) → i ≡ Some (Item n u) → t ≡ s → Only out to (Item n u) → Passes k s i t out
  -- a call that comes is offered to the part
  offers : (n : ℕ) (u : U) (d : Desk U) → i ≡ Some (Item n u) → s.desk ≡ Some d
      → t ≡ record { stored = s.stored; desk = Some (offered d n u) } → Quiet out → Passes k s i t out
  -- the first of the node's orders is offered to the part, which is here
  serves : (n : ℕ) (u : U) (more : List (ℕ × U)) (d : Desk U) → i ≡ None → s.stored ≡ (n, u) ∷ more → s.desk ≡ Some d
      → t ≡ record { stored = more; desk = Some (offered d n u) } → Quiet out → Passes k s i t out
  -- the part executes the next call, which it held
  takes : (u : U) (d : Desk U) → i ≡ None → s.desk ≡ Some d → next_item d.order ≡ Some u
      → t ≡ record { stored = s.stored; desk = Some (taken d u) } → Quiet out → Passes k s i t out
  -- the part comes
  lands : (d : Desk U) → i ≡ Some (Parcel d) → t ≡ record { stored = s.stored; desk = Some d } → Quiet out → Passes k s i t out
  -- the part leaves
  leaves : (d : Desk U) (to : ℕ) → i ≡ None → s.desk ≡ Some d → t ≡ record { stored = s.stored; desk = None } → Only out to (Parcel d)
      → Passes k s i t out

-- where the part is after a move
abbrev pub place_then : {U : Type 0} {k : ℕ} {s t : Post U} {i : Option (Mail U)} {out : ℕ → List (Mail U)} → Passes k s i t out →
    TokenPlace
    → TokenPlace
place_then {k = k} (lands d a b c) p = In k
place_then {k = k} (leaves d to a b c e) p = On k to
place_then _ p = p

-- what its desk is then
abbrev pub desk_then : {U : Type 0} {k : ℕ} {s t : Post U} {i : Option (Mail U)} {out : ℕ → List (Mail U)} → Passes k s i t out → Desk U
    → Desk U
desk_then (offers n u d a b c e) x = offered x n u
desk_then (serves n u more d a b c e f) x = offered x n u
desk_then (takes u d a b c e f) x = taken x u
desk_then _ x = x

-- a move, or two in a row of which the first sends nothing and the second is fed nothing
pub data Twice {S L : Type 0} (Moves : ℕ → S → Option L → S → (ℕ → List L) → Type 0) (k : ℕ) (s : S) (i : Option L) (t : S)
    (out : ℕ → List L) : Type 0 where
  once : Moves k s i t out → Twice Moves k s i t out
  twice : (m : S) → Moves k s i m (λ j. []) → Moves k m None t out → Twice Moves k s i t out

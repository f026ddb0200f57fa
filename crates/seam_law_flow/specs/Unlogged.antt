-- Delivery in number order where the node keeps no list of what it delivered.
use Rattle.std.specs.Prelude.{◌≡◌, ℕ, ◌+◌, ◌≤◌, ◌^◌, List, [], ◌∷◌, length, Option, Some, None}
use Rattle.seam_law_flow.specs.Flows.{Flow, letters_of}
use Rattle.seam_law_flow.specs.Tokens.{carried_in, SendsNone}
use Rattle.seam_order.specs.Held.{OrderView}
use Rattle.seam_order.specs.Offers.{after_offer, after_taking, next_item}
use Rattle.seam_law_flow.specs.Numbered.{number_from}
use Rattle.seam_law_flow.specs.Deliveries.{Delivery, at_once}

-- the net with a list beside each slot
abbrev pub beside : {S L U : Type 0} → Flow S L → (ℕ → List U) → Flow (S × List U) L
beside w log = record { slot = λ k. (w.slot k, log k); mail = w.mail }

-- of the items that were issued from number `first` on, node b has delivered these, the first ones, in order
pub record DeliveryOf {S L U : Type 0} (order : S → OrderView U) (brings : L → Option (ℕ × U)) (w : Flow S L) (b first : ℕ)
    (issued given : List U) : Type 0 where
  pub log : ℕ → List U
  pub here : log b ≡ given
  pub delivery : Delivery (λ s. order s.0) (λ s. s.1) brings (beside w log) b first issued

-- what a step of node k issues and what it delivers
pub data IssuesOrDelivers {S L U : Type 0} (order : S → OrderView U) (brings : L → Option (ℕ × U)) (b number k : ℕ) (s : S) (i : Option L)
    (t : S)
    (out : ℕ → List L) : List U → List U → Type 0 where
  rests : order t ≡ order s → carried_in brings i ≡ None → SendsNone brings out → IssuesOrDelivers order brings b number k s i t out [] []
  issues : (us : List U) → order t ≡ order s → carried_in brings i ≡ None → letters_of brings (out b) ≡ number_from number us
      → ((j : ℕ) → (j ≡ b → ⊥) → letters_of brings (out j) ≡ []) → number + length us ≤ 2 ^ 62
      → IssuesOrDelivers order brings b number k s i t out us []
  offers : (n : ℕ) (u : U) → k ≡ b → carried_in brings i ≡ Some (n, u) → order t ≡ after_offer (order s) n u → SendsNone brings out
      → IssuesOrDelivers order brings b number k s i t out [] (at_once (order s).next n u)
  gives : (u : U) → k ≡ b → next_item (order s) ≡ Some u → order t ≡ after_taking (order s) → carried_in brings i ≡ None
      → SendsNone brings out → IssuesOrDelivers order brings b number k s i t out [] (u ∷ [])

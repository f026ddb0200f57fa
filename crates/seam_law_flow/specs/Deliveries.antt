-- Delivery in number order: one source's numbered letters, which go to one node from anywhere and are delivered there in the order of
-- their numbers.
use Rattle.std.specs.Prelude.{◌≡◌, ℕ, ◌+◌, ◌≤◌, ◌^◌, ◌==◌, List, [], ◌∷◌, ◌++◌, length, Option, None, Some, if◌then◌else◌}
use Rattle.seam_law_flow.specs.Flows.{Flow, letters_of}
use Rattle.seam_law_flow.specs.Tokens.{carried_in, SendsNone}
use Rattle.seam_order.specs.Held.{OrderView, item_at, IsInOrder}
use Rattle.seam_order.specs.Offers.{after_offer, after_taking, next_item}
use Rattle.seam_law_flow.specs.Lives.{Life}
use Rattle.seam_law_flow.specs.Numbered.{number_from, numbered}

-- of the items that were issued from number `first` on, node b has delivered the first ones, in order; each of the others is held there
-- or on its way, once
pub record Delivery {S L U : Type 0} (order : S → OrderView U) (delivered : S → List U) (brings : L → Option (ℕ × U)) (w : Flow S L)
    (b first : ℕ) (issued : List U) : Type 0 where
  pub rest : List U
  pub parts : issued ≡ delivered (w.slot b) ++ rest
  pub next : (order (w.slot b)).next ≡ first + length (delivered (w.slot b))
  pub small : first + length issued ≤ 2 ^ 62
  pub in_order : IsInOrder (order (w.slot b))
  pub life : (n : ℕ)
      → Life (λ s. item_at n (order s).held) (λ l. numbered n (brings l)) w b (item_at n (number_from (order (w.slot b)).next rest))

-- what an offer delivers at once
abbrev pub at_once : {U : Type 0} → ℕ → ℕ → U → List U
at_once next n u = if n == next then u ∷ [] else []

-- what a step may do with the items, where the next one to be issued has that number: leave them, issue some to node b, offer one
-- that comes, or deliver the next one, which was held
pub data Passes {S L U : Type 0} (order : S → OrderView U) (delivered : S → List U) (brings : L → Option (ℕ × U)) (b number : ℕ) (s : S)
    (i : Option L) (t : S) (out : ℕ → List L) : Type 0 where
  rests : order t ≡ order s → delivered t ≡ delivered s → carried_in brings i ≡ None → SendsNone brings out
      → Passes order delivered brings b number s i t out
  issues : (us : List U) → order t ≡ order s → delivered t ≡ delivered s → carried_in brings i ≡ None
      → letters_of brings (out b) ≡ number_from number us → ((j : ℕ) → (j ≡ b → ⊥) → letters_of brings (out j) ≡ [])
      → number + length us ≤ 2 ^ 62 → Passes order delivered brings b number s i t out
  offers : (n : ℕ) (u : U) → carried_in brings i ≡ Some (n, u) → order t ≡ after_offer (order s) n u
      → delivered t ≡ delivered s ++ at_once (order s).next n u → SendsNone brings out → Passes order delivered brings b number s i t out
  gives : (u : U) → next_item (order s) ≡ Some u → order t ≡ after_taking (order s) → delivered t ≡ delivered s ++ u ∷ []
      → carried_in brings i ≡ None → SendsNone brings out → Passes order delivered brings b number s i t out

-- what the step issued
abbrev pub more_issued : {S L U : Type 0} {order : S → OrderView U} {delivered : S → List U} {brings : L → Option (ℕ × U)} {b number : ℕ}
    {s t : S} {i : Option L} {out : ℕ → List L} → Passes order delivered brings b number s i t out → List U
more_issued (issues us a c d e f h) = us
more_issued _ = []

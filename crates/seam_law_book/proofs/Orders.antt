-- The calls of a batch, as the core sees them, are those of the book's open round.
use Rattle.seam_law_book.proofs.Prelude.{◌≡◌, ℕ, Bool, true, false, cond, List, [], ◌∷◌, map, Option, None, refl, ap, ◌∙◌, ◌==◌, ◌&&◌}
use Rattle.seam_law_book.proofs.Prelude.{AllByRecursion, filter_map, eqb-true, items_to, Part, MOST_CELLS, is_for, same_part, rank_of}
use Rattle.seam_law_book.proofs.Prelude.{Call as CallData, Order, Header, calls_of, Entry, letters_of, more_letter, kept_if, order_concerns}
use Rattle.seam_law_book.proofs.Prelude.{orders_of, order_in, calls_from, node_of, passes_to, ordered}
use Rattle.seam_defs.specs.declared.flags.Part.TheVariants as part
use Rattle.seam_call.specs.declared.order.Order.TheVariants as order
use Rattle.seam_rule_lines.specs.declared.verdict.Entry.TheVariants as entry
use Rattle.seam_accept.proofs.Books.{both}

-- the call is one of the sender of that place to the part
abbrev pub is_chosen : Part → ℕ → ℕ → CallData → Bool
is_chosen p e s c = is_for p e c && (rank_of c.sender == s)

concerns_call : (e : ℕ) (q : Part) (c : CallData) → order_concerns e (passes_to q c) ≡ (c.entity == e)
concerns_call e part.Cell c = refl
concerns_call e part.Base c = refl

-- `pick` picks the calls to the part from the sender of that place, and what `value` says of them
module _ (h : Header) (p : Part) (e s : ℕ) {X : Type 0} (pick : Order → Option X) (value : CallData → X)
    (picks : (q : Part) (c : CallData) → pick (passes_to q c) ≡ kept_if (same_part q p && (rank_of c.sender == s)) (value c))
    (none : pick order.Tick ≡ None) where
  abbrev picked : List Order → List X
  picked os = letters_of pick (orders_of e os)

  abbrev chosen : List Entry → List CallData
  chosen xs = calls_from p e s (calls_of xs)

  kept_by : (t : Bool) (c : CallData) (l : List X) → more_letter (kept_if t (value c)) l ≡ cond t (value c ∷ l) l
  kept_by true c l = refl
  kept_by false c l = refl

  one_by : (y : Bool) (c : CallData) (os : List Order) → letters_of pick (cond y (passes_to c.part c ∷ orders_of e os) (orders_of e os))
      ≡ cond ((y && same_part c.part p) && (rank_of c.sender == s)) (value c ∷ picked os) (picked os)
  one_by false c os = refl
  one_by true c os =
      ap (λ o. more_letter o (picked os)) (picks c.part c)
      ∙ kept_by (same_part c.part p && (rank_of c.sender == s)) c (picked os)

  -- of one order more the call is picked, where it is chosen
  one_more : (c : CallData) (os : List Order) →
      picked (passes_to c.part c ∷ os) ≡ cond (is_chosen p e s c) (value c ∷ picked os) (picked os)
  one_more c os =
      ap (λ y. letters_of pick (cond y (passes_to c.part c ∷ orders_of e os) (orders_of e os))) (concerns_call e c.part c)
      ∙ one_by (c.entity == e) c os

  tick_more : (os : List Order) → picked (order.Tick ∷ os) ≡ picked os
  tick_more os = ap (λ o. more_letter o (picked os)) none

  map_chosen : (t : Bool) (c : CallData) (l : List X) (m : List CallData) → l ≡ map value m →
      cond t (value c ∷ l) l ≡ map value (cond t (c ∷ m) m)
  map_chosen true c l m is = ap (λ k. value c ∷ k) is
  map_chosen false c l m is = is

  pub all_picked : (xs : List Entry) → picked (map order_in (filter_map (ordered h) xs)) ≡ map value (chosen xs)
  all_picked [] = refl
  all_picked (entry.Called c ∷ xs) =
      one_more c (map order_in (filter_map (ordered h) xs))
      ∙ map_chosen (is_chosen p e s c) c (picked (map order_in (filter_map (ordered h) xs))) (chosen xs) (all_picked xs)
  all_picked (entry.Ticked ∷ xs) = tick_more (map order_in (filter_map (ordered h) xs)) ∙ all_picked xs
  all_picked (_ ∷ xs) = all_picked xs

  -- ---- at one node

  module _ (node k : ℕ) where
    abbrev HasNode : CallData → Type 0
    HasNode c = rank_of c.sender ≡ s → node_of h c.sender ≡ node

    abbrev at : List Entry → List Order
    at xs = items_to k (filter_map (ordered h) xs)

    abbrev here : List CallData → List X
    here cs = cond (node == k) (map value cs) []

    -- the call is none of these: it is the same wherever it goes
    unchosen : (d : Bool) (c : CallData) (os : List Order) → is_chosen p e s c ≡ false →
        picked (cond d (passes_to c.part c ∷ os) os) ≡ picked os
    unchosen true c os is = one_more c os ∙ ap (λ t. cond t (value c ∷ picked os) (picked os)) is
    unchosen false c os is = refl

    given_by : (d : Bool) (c : CallData) (os : List Order) (m : List CallData) → is_chosen p e s c ≡ true →
        picked os ≡ cond d (map value m) [] → picked (cond d (passes_to c.part c ∷ os) os) ≡ cond d (map value (c ∷ m)) []
    given_by true c os m is was =
        one_more c os ∙ ap (λ t. cond t (value c ∷ picked os) (picked os)) is ∙ ap (λ l. value c ∷ l) was
    given_by false c os m is was = was

    call_at : (t : Bool) (c : CallData) (xs : List Entry) → is_chosen p e s c ≡ t → HasNode c → picked (at xs) ≡ here (chosen xs) →
        picked (cond (node_of h c.sender == k) (passes_to c.part c ∷ at xs) (at xs)) ≡ here (cond t (c ∷ chosen xs) (chosen xs))
    call_at false c xs is has was = unchosen (node_of h c.sender == k) c (at xs) is ∙ was
    call_at true c xs is has was =
        let same = has (eqb-true (rank_of c.sender) s (both (is_for p e c) (rank_of c.sender == s) is).1) in
        ap (λ n. picked (cond (n == k) (passes_to c.part c ∷ at xs) (at xs))) same ∙ given_by (node == k) c (at xs) (chosen xs) is was

    tick_by : (d : Bool) (os : List Order) → picked (cond d (order.Tick ∷ os) os) ≡ picked os
    tick_by true os = tick_more os
    tick_by false os = refl

    abbrev nothing : List X
    nothing = []

    none_by : (d : Bool) → nothing ≡ cond d nothing nothing
    none_by true = refl
    none_by false = refl

    -- where each call of the sender goes to one node, that node is given all of them, and any other none
    pub picked_at : (xs : List Entry) → AllByRecursion HasNode (calls_of xs) → picked (at xs) ≡ here (chosen xs)
    picked_at [] all = none_by (node == k)
    picked_at (entry.Called c ∷ xs) all =
        call_at (is_chosen p e s c) c xs refl all.0 (picked_at xs all.1)
    picked_at (entry.Ticked ∷ xs) all = tick_by (MOST_CELLS == k) (at xs) ∙ picked_at xs all
    picked_at (_ ∷ xs) all = picked_at xs all

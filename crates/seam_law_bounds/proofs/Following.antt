-- A call that comes after what brings its node a rank: lists of letters joined and parted.
use Rattle.seam_law_bounds.proofs.Prelude.{◌≡◌, ℕ, ◌≤◌, ◌⊎◌, Bool, true, false, ◌||◌, List, [], ◌∷◌, ◌++◌, refl, sym, ◌∙◌, arith, inl, inr}
use Rattle.seam_law_bounds.proofs.Prelude.{AllByRecursion, nat_tests, Call as CallData, Msg, Hand, Flow, Has, is_hand_from, has_hand_from}
use Rattle.seam_law_bounds.proofs.Prelude.{ComesTo}
use Rattle.seam_entity.specs.declared.message.Msg.TheVariants.{Call}
use Rattle.seam_law_calls.proofs.Holds.{or_right, or_left, either}

-- a hand-over of at least so great a generation is one of at least a smaller one
hand_less : (n m : ℕ) (l : Msg) → n ≤ m → is_hand_from m l ≡ true → is_hand_from n l ≡ true
hand_less n m (Hand r bs) low h = grind (arith, nat_tests, low, h)
hand_less n m _ low h = cc

has_less : (n m : ℕ) (ls : List Msg) → n ≤ m → has_hand_from m ls ≡ true → has_hand_from n ls ≡ true
has_less n m [] low h = cc
has_less n m (l ∷ ls) low h = by (either (is_hand_from m l) (has_hand_from m ls) h) (has_less n m ls low)
  where
    by : (is_hand_from m l ≡ true) ⊎ (has_hand_from m ls ≡ true) → (has_hand_from m ls ≡ true → has_hand_from n ls ≡ true) →
        (is_hand_from n l || has_hand_from n ls) ≡ true
    by (inl a) more = or_left (is_hand_from n l) (has_hand_from n ls) (hand_less n m l low a)
    by (inr a) more = or_right (is_hand_from n l) (has_hand_from n ls) (more a)

-- what comes to a node of some rank comes to one of a lower rank
pub comes_less : (w : Flow Has Msg) (k j n m : ℕ) → n ≤ m → ComesTo w k j m → ComesTo w k j n
comes_less w k j n m low (inl a) = inl (omega (arith, low, a))
comes_less w k j n m low (inr a) = inr (has_less n m (w.mail k j) low a)

-- a call at the end of a list is no hand-over
pub has_before : (n : ℕ) (ls : List Msg) (c : CallData) → has_hand_from n (ls ++ Call c ∷ []) ≡ true → has_hand_from n ls ≡ true
has_before n [] c h = cc
has_before n (l ∷ ls) c h = by (is_hand_from n l) (has_hand_from n (ls ++ Call c ∷ [])) (has_hand_from n ls) (has_before n ls c) h
  where
    by : (a b d : Bool) → (b ≡ true → d ≡ true) → (a || b) ≡ true → (a || d) ≡ true
    by true b d more h = refl
    by false b d more h = more h

module _ (call : Msg → Bool) (n : ℕ) where
  -- each such call comes where V is true, or after a hand-over of at least that generation
  abbrev pub Follows : Type 0 → List Msg → Type 0
  Follows V [] = Unit {0}
  Follows V (m ∷ ms) = (call m ≡ true → V) × Follows (V ⊎ (is_hand_from n m ≡ true)) ms

  pub follow_more : (V U : Type 0) (ms : List Msg) → (V → U) → Follows V ms → Follows U ms
  follow_more V U [] h f = tt
  follow_more V U (m ∷ ms) h f =
      ((λ c. h (f.0 c)), follow_more (V ⊎ (is_hand_from n m ≡ true)) (U ⊎ (is_hand_from n m ≡ true)) ms by f.1)
    where
      by : V ⊎ (is_hand_from n m ≡ true) → U ⊎ (is_hand_from n m ≡ true)
      by (inl a) = inl (h a)
      by (inr a) = inr a

  pub follow_append : (V : Type 0) (xs ys : List Msg) → Follows V xs → Follows (V ⊎ (has_hand_from n xs ≡ true)) ys → Follows V (xs ++ ys)
  follow_append V [] ys f g = follow_more (V ⊎ (has_hand_from n [] ≡ true)) V ys by g
    where
      by : V ⊎ (has_hand_from n [] ≡ true) → V
      by (inl a) = a
      by (inr a) = cc
  follow_append V (x ∷ xs) ys f g = (
    f.0,
    follow_append (V ⊎ (is_hand_from n x ≡ true)) xs ys f.1
        (follow_more (V ⊎ (has_hand_from n (x ∷ xs) ≡ true)) ((V ⊎ (is_hand_from n x ≡ true)) ⊎ (has_hand_from n xs ≡ true)) ys by g),
  )
    where
      split : (is_hand_from n x ≡ true) ⊎ (has_hand_from n xs ≡ true) → (V ⊎ (is_hand_from n x ≡ true)) ⊎ (has_hand_from n xs ≡ true)
      split (inl a) = inl (inr a)
      split (inr a) = inr a

      by : V ⊎ (has_hand_from n (x ∷ xs) ≡ true) → (V ⊎ (is_hand_from n x ≡ true)) ⊎ (has_hand_from n xs ≡ true)
      by (inl a) = inl (inl a)
      by (inr a) = split (either (is_hand_from n x) (has_hand_from n xs) a)

  -- where no such call is, all follow
  pub none_follow : (V : Type 0) (ms : List Msg) → AllByRecursion (λ m. call m ≡ false) ms → Follows V ms
  none_follow V [] h = tt
  none_follow V (m ∷ ms) h = ((λ c. absurd (let z = sym h.0 ∙ c in cc)), none_follow (V ⊎ (is_hand_from n m ≡ true)) ms h.1)

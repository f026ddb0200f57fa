-- Calls that follow: lists of letters joined and parted.
use Rattle.seam_law_calls.proofs.Prelude.{◌≡◌, Bool, true, false, not, ◌||◌, List, [], ◌∷◌, ◌++◌, refl, subst, Msg, is_call, is_hand}
use Rattle.seam_law_calls.proofs.Prelude.{has_hand, follow}
use Rattle.seam_law_calls.proofs.Holds.{both, all_two as two, or_left, or_right}

or_moved : (a b c : Bool) → (a || (b || c)) ≡ ((a || b) || c)
or_moved true b c = refl
or_moved false b c = refl

-- where the real is or was, all calls follow
pub all_follow : (ms : List Msg) → follow true ms ≡ true
all_follow [] = refl
all_follow (m ∷ ms) = two (not (is_call m) || true) (follow true ms) (or_right (not (is_call m)) true refl) (all_follow ms)

less_by : (c a b : Bool) → (a ≡ true → b ≡ true) → (c || a) ≡ true → (c || b) ≡ true
less_by true a b h k = refl
less_by false a b h k = h k

or_less : (a b d : Bool) → (a ≡ true → b ≡ true) → (a || d) ≡ true → (b || d) ≡ true
or_less true b d h k = or_left b d (h refl)
or_less false b d h k = or_right b d k

-- what follows still does where more is known
pub follow_more : (a b : Bool) (ms : List Msg) → (a ≡ true → b ≡ true) → follow a ms ≡ true → follow b ms ≡ true
follow_more a b [] h f = refl
follow_more a b (m ∷ ms) h f =
    let p = both (not (is_call m) || a) (follow (a || is_hand m) ms) f in
    two (not (is_call m) || b) (follow (b || is_hand m) ms) (less_by (not (is_call m)) a b h p.0)
    (follow_more (a || is_hand m) (b || is_hand m) ms (or_less a b (is_hand m) h) p.1)

-- two lists, the second after the hand-overs of the first
pub follow_append : (v : Bool) (xs ys : List Msg) → follow v xs ≡ true → follow (v || has_hand xs) ys ≡ true → follow v (xs ++ ys) ≡ true
follow_append v [] ys f g = subst (λ b. follow b ys ≡ true) (none v) g
  where
    none : (v : Bool) → (v || false) ≡ v
    none true = refl
    none false = refl
follow_append v (x ∷ xs) ys f g =
    let p = both (not (is_call x) || v) (follow (v || is_hand x) xs) f in
    two (not (is_call x) || v) (follow (v || is_hand x) (xs ++ ys)) p.0
    (follow_append (v || is_hand x) xs ys p.1 (subst (λ b. follow b ys ≡ true) (or_moved v (is_hand x) (has_hand xs)) g))

pub has_append : (xs ys : List Msg) → has_hand xs ≡ true → has_hand (xs ++ ys) ≡ true
has_append [] ys h = cc
has_append (x ∷ xs) ys h = by (is_hand x) (has_hand xs) (has_append xs ys) h
  where
    by : (a b : Bool) → (b ≡ true → has_hand (xs ++ ys) ≡ true) → (a || b) ≡ true → (a || has_hand (xs ++ ys)) ≡ true
    by true b more h = refl
    by false b more h = more h

pub has_later : (xs ys : List Msg) → has_hand ys ≡ true → has_hand (xs ++ ys) ≡ true
has_later [] ys h = h
has_later (x ∷ xs) ys h = or_right (is_hand x) (has_hand (xs ++ ys)) (has_later xs ys h)

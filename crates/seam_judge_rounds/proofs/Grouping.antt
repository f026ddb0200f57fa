-- Sorted calls agree exactly where those of each sender to each entity do.
use Rattle.std.proofs.Common.{◌≡◌, ◌<◌, ◌≤◌, ℕ, zero, suc, Bool, true, false, cond, List, [], ◌∷◌, length, map, get_or, refl, sym, ◌∙◌, ap}
use Rattle.std.proofs.Common.{subst, arith, IsTrue, ◌↔◌, inl, inr, Bor}
use Rattle.std.specs.Prelude.{filter, not, ◌==◌, ◌&&◌, Contains}
use Rattle.std.specs.List.{All}
use Rattle.std.specs.List.Sorted.{ties, IsSortedBy, IsPermutation}
use Rattle.std.specs.Cmp.{IsStrictWeakOrder, IsTotalOrder, bool_cmp_total, unsigned_tied}
use Rattle.std.specs.Ordering.{is_lt, is_eq, ordering_reverse, ordering_then, bool_cmp, nat_cmp}
use Rattle.std.specs.declared.cmp.Ordering.{Ordering}
use Rattle.std.specs.declared.cmp.Ordering.TheVariants.{Less, Equal, Greater}
use Rattle.std.proofs.lemmas.Bool.Decides.{Decides-eqb, same_from_decides}
use Rattle.std.proofs.lemmas.Cmp.{then_total, on_total, nat_cmp_total}
use Rattle.std.proofs.lemmas.List.Sorted.{ranks_by, sorted_far, All-permutation, IsPermutation-map}
use Rattle.std.proofs.lemmas.List.{get_or_default}
use Rattle.seam_rule_rounds.specs.Prelude.{Part, is_from, same_part, same_sender, Sender, Base, Client, Call}
use Rattle.seam_rule_lines.proofs.Lists.{contains_first, contains_cases}
use Rattle.seam_judge_expected.proofs.ListedLemmas.{in_filter}
use Rattle.seam_judge_rounds.specs.Origins.{is_client, number_of, origin_of, origin_cmp, comes_before, IsLow, Rises, AreGrouped}
use Rattle.seam_judge_rounds.specs.declared.origins.Origin.{Origin}

-- ---- filters

kept : {X : Type 0} (p : X → Bool) (y : X) (ys : List X) → p y ≡ true → filter p (y ∷ ys) ≡ y ∷ filter p ys
kept {X} p y ys h = ap (λ (b : Bool). cond b (y ∷ filter p ys) (filter p ys)) h

dropped : {X : Type 0} (p : X → Bool) (y : X) (ys : List X) → p y ≡ false → filter p (y ∷ ys) ≡ filter p ys
dropped {X} p y ys h = ap (λ (b : Bool). cond b (y ∷ filter p ys) (filter p ys)) h

-- tests that agree on the elements keep the same
pub kept_alike : {X : Type 0} (p q : X → Bool) (P : X → Type 0) (xs : List X) → ((x : X) → P x → p x ≡ q x) → All P xs →
    filter p xs ≡ filter q xs
kept_alike p q P [] alike all = refl
kept_alike {X} p q P (x ∷ xs) alike all =
    (λ i. cond (alike x (all 0 x (omega arith)) i) (x ∷ filter p xs) (filter p xs))
    ∙ ap (λ (ys : List X). cond (q x) (x ∷ ys) ys) (kept_alike p q P xs alike (λ k d within. all (suc k) d (omega (arith, within))))

-- what a test keeps of what others point to
kept_now : {X Y : Type 0} (v : Y → X) (t : X → Bool) (ys : List Y) → map v (filter (λ y. t (v y)) ys) ≡ filter t (map v ys)
kept_now v t [] = refl
kept_now {X} {Y} v t (y ∷ ys) = by (t (v y)) (kept_now v t ys)
  where
    by : (b : Bool) → map v (filter (λ z. t (v z)) ys) ≡ filter t (map v ys) →
        map v (cond b (y ∷ filter (λ z. t (v z)) ys) (filter (λ z. t (v z)) ys)) ≡ cond b (v y ∷ filter t (map v ys)) (filter t (map v ys))
    by true again = ap (λ (xs : List X). v y ∷ xs) again
    by false again = again

-- a further test that holds wherever the test does
kept_twice : {X : Type 0} (p t : X → Bool) (xs : List X) → ((x : X) → t x ≡ true → p x ≡ true) → filter t (filter p xs) ≡ filter t xs
kept_twice p t [] implies = refl
kept_twice {X} p t (x ∷ xs) implies = by (p x) refl (t x) refl (kept_twice p t xs implies)
  where
    by : (b : Bool) → p x ≡ b → (c : Bool) → t x ≡ c → filter t (filter p xs) ≡ filter t xs →
        filter t (filter p (x ∷ xs)) ≡ filter t (x ∷ xs)
    by true is c at again = ap (filter t) (kept p x xs is) ∙ ap (λ (ys : List X). cond (t x) (x ∷ ys) ys) again
    by false is true at again = let yes = implies x at in absurd (cc)
    by false is false at again = ap (filter t) (dropped p x xs is) ∙ again ∙ sym (dropped t x xs at)

and_true : (b c : Bool) → (b && c) ≡ true → (b ≡ true) × (c ≡ true)
and_true true c is = (refl, is)
and_true false c is = absurd (cc)

not_true : (b : Bool) → not b ≡ true → b ≡ false
not_true true is = absurd (cc)
not_true false is = refl

-- ---- sorted lists

module _ {X : Type 0} (lt : X → X → Bool) (order : IsStrictWeakOrder lt) where
  itself : (x : X) → (b : Bool) → lt x x ≡ b → lt x x ≡ false
  itself x true is = order.one_way x x is
  itself x false is = is

  ties_itself : (x : X) → ties lt x x ≡ true
  ties_itself x = ap (λ (b : Bool). not b && not b) (itself x (lt x x) refl)

  ties_both : (x y : X) → lt x y ≡ false → lt y x ≡ false → ties lt x y ≡ true
  ties_both x y here there = λ i. not (here i) && not (there i)

  -- what ties with one of the list is not below what is low in it
  tied_is_low : (n x : X) (ys : List X) (w : X) (ws : List X) → IsLow lt n ys → filter (ties lt x) ys ≡ w ∷ ws → lt x n ≡ false
  tied_is_low n x [] w ws low is = absurd (cc)
  tied_is_low n x (y ∷ ys) w ws low is = by (ties lt x y) refl (tied_is_low n x ys w ws low.1)
    where
      by : (b : Bool) → ties lt x y ≡ b → (filter (ties lt x) ys ≡ w ∷ ws → lt x n ≡ false) → lt x n ≡ false
      by true with_ again = order.chain x y n (not_true (lt x y) (and_true (not (lt x y)) (not (lt y x)) with_).0) low.0
      by false without again = again (sym (dropped (ties lt x) y ys without) ∙ is)

  -- sorted lists with the same elements at each rank are one
  pub same_from_groups : (xs ys : List X) → Rises lt xs → Rises lt ys → ((x : X) → filter (ties lt x) xs ≡ filter (ties lt x) ys) → xs ≡ ys
  same_from_groups [] [] left right same = refl
  same_from_groups [] (y ∷ ys) left right same = let clash = same y ∙ kept (ties lt y) y ys (ties_itself y) in absurd (cc)
  same_from_groups (x ∷ xs) [] left right same = let clash = sym (same x) ∙ kept (ties lt x) x xs (ties_itself x) in absurd (cc)
  same_from_groups (x ∷ xs) (y ∷ ys) left right same =
      let at_x = kept (ties lt x) x xs (ties_itself x) in
      let at_y = kept (ties lt y) y ys (ties_itself y) in
      let down = tied_is_low y x (y ∷ ys) x (filter (ties lt x) xs) (itself y (lt y y) refl, right.0) (sym (same x) ∙ at_x) in
      let up = tied_is_low x y (x ∷ xs) y (filter (ties lt y) ys) (itself x (lt x x) refl, left.0) (same y ∙ at_y) in
      let heads : x ∷ filter (ties lt x) xs ≡ y ∷ filter (ties lt x) ys =
      sym at_x ∙ same x ∙ kept (ties lt x) y ys (ties_both x y down up) in
      let head : x ≡ y = cc in
      ap (λ (z : X). z ∷ xs) head
      ∙ ap (λ (zs : List X). y ∷ zs) (same_from_groups xs ys left.1 right.1 (λ z. rest z head (ties lt z x) refl))
    where
      rest : (z : X) → x ≡ y → (b : Bool) → ties lt z x ≡ b → filter (ties lt z) xs ≡ filter (ties lt z) ys
      rest z head true with_ =
          let both : x ∷ filter (ties lt z) xs ≡ y ∷ filter (ties lt z) ys =
          sym (kept (ties lt z) x xs with_) ∙ same z ∙ kept (ties lt z) y ys (ap (ties lt z) (sym head) ∙ with_) in cc
      rest z head false without =
          sym (dropped (ties lt z) x xs without) ∙ same z ∙ dropped (ties lt z) y ys (ap (ties lt z) (sym head) ∙ without)

-- what references point to rises, where the references are sorted by it
module _ {X Y : Type 0} (v : Y → X) (lt : X → X → Bool) where
  low_of : (y : Y) (ys : List Y) → ((k : ℕ) → k < length ys → lt (v (get_or ys k y)) (v y) ≡ false) → IsLow lt (v y) (map v ys)
  low_of y [] each = tt
  low_of y (z ∷ zs) each = (each 0 (omega arith), low_of y zs (λ k within. each (suc k) (omega (arith, within))))

  rises_of : (ys : List Y) →
      ((i j : ℕ) (d : Y) → i ≤ j → j < length ys → lt (v (get_or ys j d)) (v (get_or ys i d)) ≡ false) → Rises lt (map v ys)
  rises_of [] each = tt
  rises_of (y ∷ ys) each = (
    low_of y ys (λ k within. each 0 (suc k) y (omega arith) (omega (arith, within))),
    rises_of ys (λ i j d at_most within. each (suc i) (suc j) d (omega (arith, at_most)) (omega (arith, within))),
  )

  pub sorted_rises : IsStrictWeakOrder (λ (y z : Y). lt (v y) (v z)) → (ys : List Y) → IsSortedBy (λ (y z : Y). lt (v y) (v z)) ys →
      Rises lt (map v ys)
  sorted_rises order ys sorted = rises_of ys (sorted_far (λ (y z : Y). lt (v y) (v z)) order ys sorted)

  -- what is among what references point to, one of them points to
  pub pointed_to : (ys : List Y) (x : X) → Contains (map v ys) x → (y : Y) × (v y ≡ x)
  pointed_to [] x (k, within, is) = absurd (omega arith)
  pointed_to (y ∷ ys) x has = elim (contains_cases (v y) x (map v ys) has) [ inl here ↦ (y, here) | inr there ↦ pointed_to ys x there ]

-- ---- origins

pub origins_total : IsTotalOrder origin_cmp
origins_total =
    then_total (on_total (λ (a : Origin). a.entity) nat_cmp_total)
    (then_total (on_total (λ (a : Origin). a.is_client) bool_cmp_total) (on_total (λ (a : Origin). a.number) nat_cmp_total))

pub comes_before_orders : IsStrictWeakOrder comes_before
comes_before_orders = ranks_by origins_total origin_of

-- orders that turn round tie where they are equal
turned : (s : Ordering) → (not (is_lt (ordering_reverse s)) && not (is_lt s)) ≡ is_eq (ordering_reverse s)
turned Less = refl
turned Equal = refl
turned Greater = refl

both_equal : (r s : Ordering) → is_eq (ordering_then r s) ≡ (is_eq r && is_eq s)
both_equal Less s = refl
both_equal Equal s = refl
both_equal Greater s = refl

numbers_equal : (m n : ℕ) → is_eq (nat_cmp m n) ≡ (n == m)
numbers_equal m n =
    unsigned_tied m n
    ∙ same_from_decides (m == n) (n == m) ((λ is. sym ((Decides-eqb m n).0 is)), (λ same. (Decides-eqb m n).1 (sym same))) (Decides-eqb n m)

senders_equal : (s t : Sender) →
    (is_eq (bool_cmp (is_client s) (is_client t)) && is_eq (nat_cmp (number_of s) (number_of t))) ≡ same_sender t s
senders_equal (Base m) (Base n) = numbers_equal m n
senders_equal (Client d) (Client e) = numbers_equal d e
senders_equal (Base m) (Client e) = refl
senders_equal (Client d) (Base n) = refl

-- calls tie that are from the same sender for the same entity
pub ties_is : (x y : Call) → ties comes_before x y ≡ ((y.entity == x.entity) && same_sender y.sender x.sender)
ties_is x y =
    let a = origin_of x in
    let b = origin_of y in
    ap (λ (r : Ordering). not (is_lt r) && not (is_lt (origin_cmp b a))) (origins_total.antisymm a b)
    ∙ turned (origin_cmp b a) ∙ ap is_eq (sym (origins_total.antisymm a b))
    ∙ both_equal (nat_cmp x.entity y.entity)
    (ordering_then (bool_cmp (is_client x.sender) (is_client y.sender)) (nat_cmp (number_of x.sender) (number_of y.sender)))
    ∙ (λ i. numbers_equal x.entity y.entity i
    && (both_equal (bool_cmp (is_client x.sender) (is_client y.sender)) (nat_cmp (number_of x.sender) (number_of y.sender))
    ∙ senders_equal x.sender y.sender) i)

-- among calls for parts of one kind those that tie are from the same sender for the same entity
tied_from : (p : Part) (x y : Call) → same_part y.part p ≡ true → ties comes_before x y ≡ is_from p x.entity x.sender y
tied_from p x y own =
    ties_is x y
    ∙ ap (λ (b : Bool). b && same_sender y.sender x.sender) (sym (and_true_is (y.entity == x.entity))
    ∙ ap (λ (b : Bool). (y.entity == x.entity) && b) (sym own))
  where
    and_true_is : (b : Bool) → (b && true) ≡ b
    and_true_is true = refl
    and_true_is false = refl

pub tied_among : (p : Part) (x : Call) (calls : List Call) → All (λ (y : Call). same_part y.part p ≡ true) calls →
    filter (ties comes_before x) calls ≡ filter (is_from p x.entity x.sender) calls
tied_among p x calls own =
    kept_alike (ties comes_before x) (is_from p x.entity x.sender) (λ (y : Call). same_part y.part p ≡ true) calls (tied_from p x) own

-- calls from a sender for an entity
sender_is : (s t : Sender) → same_sender s t ≡ true → s ≡ t
sender_is (Base m) (Base n) is = let same : m ≡ n = grind (arith, is) in ap Base same
sender_is (Client d) (Client e) is = let same : d ≡ e = grind (arith, is) in ap Client same
sender_is (Base m) (Client e) is = absurd (cc)
sender_is (Client d) (Base n) is = absurd (cc)

from_them : (p : Part) (e : ℕ) (s : Sender) (x : Call) → is_from p e s x ≡ true → (x.entity ≡ e) × (x.sender ≡ s)
from_them p e s x is =
    let parts = and_true ((x.entity == e) && same_part x.part p) (same_sender x.sender s) is in
    let entity = (and_true (x.entity == e) (same_part x.part p) parts.0).0 in
    (grind (arith, entity), sender_is x.sender s parts.1)

from_own : (p : Part) (e : ℕ) (s : Sender) (x : Call) → is_from p e s x ≡ true → same_part x.part p ≡ true
from_own p e s x is =
    (and_true (x.entity == e) (same_part x.part p) (and_true ((x.entity == e) && same_part x.part p) (same_sender x.sender s) is).0).1

all_filter : {X : Type 0} (p : X → Bool) (xs : List X) → All (λ (x : X). p x ≡ true) (filter p xs)
all_filter {X} p xs k d within =
    let x = get_or (filter p xs) k d in (in_filter p xs x (k, within, get_or_default (filter p xs) k x d within)).1

-- ---- sorted references

module _ (p : Part) (calls : List Call) (own sorted : List (Bor Call)) (own_is : map (λ (x : Bor Call). x.now) own
    ≡ filter (λ (x : Call). same_part x.part p) calls)
  where
    abbrev now : Bor Call → Call
    now = λ (x : Bor Call). x.now

    abbrev in_part : Call → Bool
    in_part = λ (x : Call). same_part x.part p

    abbrev by_now : Bor Call → Bor Call → Bool
    by_now = λ (x y : Bor Call). comes_before x.now y.now

    -- the sorted ones are for parts of the kind too
    own_all : All (λ (x : Call). same_part x.part p ≡ true) (map now own)
    own_all = subst (All (λ (x : Call). same_part x.part p ≡ true)) (sym own_is) (all_filter in_part calls)

    module _ (moved : IsPermutation own sorted) (stable : (x : Bor Call) → filter (ties by_now x) sorted ≡ filter (ties by_now x) own) where
      sorted_all : All (λ (x : Call). same_part x.part p ≡ true) (map now sorted)
      sorted_all =
          All-permutation (λ (x : Call). same_part x.part p ≡ true) (map now own) (map now sorted) (IsPermutation-map now own sorted moved)
          own_all

      at_one : (x : Bor Call) → filter (is_from p x.now.entity x.now.sender) (map now sorted)
          ≡ filter (is_from p x.now.entity x.now.sender) (map now own)
      at_one x =
          sym (tied_among p x.now (map now sorted) sorted_all) ∙ sym (kept_now now (ties comes_before x.now) sorted)
          ∙ ap (map now) (stable x) ∙ kept_now now (ties comes_before x.now) own ∙ tied_among p x.now (map now own) own_all

      -- where one of the references is to a call of the sender
      at_found : (e : ℕ) (s : Sender) (list : List (Bor Call)) (y : Call) (ys : List Call) →
          filter (is_from p e s) (map now list) ≡ y ∷ ys →
          filter (is_from p e s) (map now sorted) ≡ filter (is_from p e s) (map now own)
      at_found e s list y ys is =
          let found = in_filter (is_from p e s) (map now list) y
          (subst (λ (zs : List Call). Contains zs y) (sym is) (contains_first y ys)) in
          let them = from_them p e s y found.1 in
          let pointed = pointed_to now comes_before list y found.0 in
          let x = pointed.0 in
          subst (λ (t : Sender). filter (is_from p e t) (map now sorted) ≡ filter (is_from p e t) (map now own))
          (ap (λ (z : Call). z.sender) pointed.1 ∙ them.1)
          (subst (λ (n : ℕ). filter (is_from p n x.now.sender) (map now sorted) ≡ filter (is_from p n x.now.sender) (map now own))
          (ap (λ (z : Call). z.entity) pointed.1 ∙ them.0) (at_one x))

      at_each : (e : ℕ) (s : Sender) → filter (is_from p e s) (map now sorted) ≡ filter (is_from p e s) (map now own)
      at_each e s = by (filter (is_from p e s) (map now sorted)) (filter (is_from p e s) (map now own)) refl refl
        where
          by : (xs ys : List Call) → filter (is_from p e s) (map now sorted) ≡ xs → filter (is_from p e s) (map now own) ≡ ys →
              filter (is_from p e s) (map now sorted) ≡ filter (is_from p e s) (map now own)
          by [] [] is at = is ∙ sym at
          by (x ∷ xs) ys is at = at_found e s sorted x xs is
          by [] (y ∷ ys) is at = at_found e s own y ys at

      pub are_grouped : IsSortedBy by_now sorted → AreGrouped p calls (map now sorted)
      are_grouped in_order = record {
        rise = sorted_rises now comes_before (ranks_by origins_total (λ (x : Bor Call). origin_of x.now)) sorted in_order;
        own = sorted_all;
        same = λ e s. at_each e s ∙ ap (filter (is_from p e s)) own_is ∙ kept_twice in_part (is_from p e s) calls (from_own p e s);
      }

-- ---- groups of what was accepted and of what was executed

pub same_groups : (p : Part) (accepted executed given done : List Call) → AreGrouped p accepted given → AreGrouped p executed done →
    ((done ≡ given) ↔ ((e : ℕ) (s : Sender) → filter (is_from p e s) executed ≡ filter (is_from p e s) accepted))
same_groups p accepted executed given done a b = (
  (λ is e s. sym (b.same e s) ∙ ap (filter (is_from p e s)) is ∙ a.same e s),
  (λ full. same_from_groups comes_before comes_before_orders done given b.rise a.rise
      (λ x. tied_among p x done b.own ∙ b.same x.entity x.sender ∙ full x.entity x.sender ∙ sym (a.same x.entity x.sender)
      ∙ sym (tied_among p x given a.own))),
)

-- that two groups are the same decides whether what was executed is full
pub full_decided : (p : Part) (accepted executed : List Call) (given done given_read done_read : List (Bor Call)) (b : Bool) →
    given_read ≡ given → done_read ≡ done → AreGrouped p accepted (map (λ x. x.now) given) → AreGrouped p executed (map (λ x. x.now) done) →
    (IsTrue b ↔ (map (λ (x : Bor Call). x.now) done_read ≡ map (λ (x : Bor Call). x.now) given_read)) →
    (IsTrue b ↔ ((e : ℕ) (s : Sender) → filter (is_from p e s) executed ≡ filter (is_from p e s) accepted))
full_decided p accepted executed given done given_read done_read b given_is done_is of_given of_done decides =
    let now : List (Bor Call) → List Call = map (λ (x : Bor Call). x.now) in
    let same = same_groups p accepted executed (now given) (now done) of_given of_done in (
      (λ so. same.0 (ap now (sym done_is) ∙ decides.0 so ∙ ap now given_is)),
      (λ full. decides.1 (ap now done_is ∙ same.1 full ∙ ap now (sym given_is))),
    )

-- ---- lists of references to the same calls

pub same_items : (a b : List (Bor Call)) (i : ℕ) (d e : Bor Call) → map (λ (x : Bor Call). x.now) a ≡ map (λ (x : Bor Call). x.now) b →
    i < length a → (get_or a i d).now ≡ (get_or b i e).now
same_items [] b i d e same within = absurd (omega (arith, within))
same_items (x ∷ xs) [] i d e same within = absurd (cc)
same_items (x ∷ xs) (y ∷ ys) zero d e same within = cc
same_items (x ∷ xs) (y ∷ ys) (suc i) d e same within =
    let rest : map (λ (z : Bor Call). z.now) xs ≡ map (λ (z : Bor Call). z.now) ys = cc in
    same_items xs ys i d e rest (omega (arith, within))

-- What is gathered over lists: from those that are kept, and from each by something else that gives the same.
use Rattle.std.proofs.Common.{◌≡◌, ℕ, zero, suc, ◌+◌, ◌<◌, Bool, true, false, cond, List, [], ◌∷◌, ◌++◌, map, length, refl, sym, ap, ◌∙◌}
use Rattle.std.proofs.Common.{arith}
use Rattle.std.proofs.Common.{length-append, append-nil, append_assoc}
use Rattle.std.specs.Prelude.{Contains, filter}
use Rattle.std.specs.List.{flat_map, fold, sum_by, range_with_len}
use Rattle.std.proofs.lemmas.List.Sums.{fold-append, sum_by-cons}
use Rattle.std.proofs.lemmas.List.{map-append}
use Rattle.std.proofs.lemmas.List.Concat.{flat_map-append}
use Rattle.seam_rule_lines.proofs.Lists.{contains_first, contains_later}

module _ {A : Type 0} {X : Type 0} where
  -- the same of each
  pub same_of_each : (f g : A → List X) (xs : List A) → ((x : A) → Contains xs x → f x ≡ g x) → flat_map f xs ≡ flat_map g xs
  same_of_each f g [] each = refl
  same_of_each f g (x ∷ xs) each =
      (λ i. each x (contains_first x xs) i ++ same_of_each f g xs (λ y has. each y (contains_later x y xs has)) i)

  -- those that are kept give what all give, where the others give nothing
  pub kept_give_all : (p : A → Bool) (f : A → List X) (xs : List A) → ((x : A) → Contains xs x → p x ≡ false → f x ≡ []) →
      flat_map f (filter p xs) ≡ flat_map f xs
  kept_give_all p f [] none = refl
  kept_give_all p f (x ∷ xs) none = by (p x) refl (kept_give_all p f xs (λ y has. none y (contains_later x y xs has)))
    where
      by : (b : Bool) → p x ≡ b → flat_map f (filter p xs) ≡ flat_map f xs →
          flat_map f (cond b (x ∷ filter p xs) (filter p xs)) ≡ f x ++ flat_map f xs
      by true is rest = ap (λ l. f x ++ l) rest
      by false is rest = rest ∙ ap (λ l. l ++ flat_map f xs) (sym (none x (contains_first x xs) is))

  -- each gives only where it is kept
  pub kept_or_none : (p : A → Bool) (f : A → List X) (xs : List A) → flat_map f (filter p xs) ≡ flat_map (λ x. cond (p x) (f x) []) xs
  kept_or_none p f [] = refl
  kept_or_none p f (x ∷ xs) = by (p x) (kept_or_none p f xs)
    where
      by : (b : Bool) → flat_map f (filter p xs) ≡ flat_map (λ y. cond (p y) (f y) []) xs →
          flat_map f (cond b (x ∷ filter p xs) (filter p xs)) ≡ cond b (f x) [] ++ flat_map (λ y. cond (p y) (f y) []) xs
      by true rest = ap (λ l. f x ++ l) rest
      by false rest = rest

-- who passes a test twice
pub kept_once : {A : Type 0} (p q : A → Bool) (xs : List A) → ((x : A) → p x ≡ true → q x ≡ true) → filter p (filter q xs) ≡ filter p xs
kept_once p q [] also = refl
kept_once p q (x ∷ xs) also = by (q x) (p x) refl refl (kept_once p q xs also)
  where
    by : (b d : Bool) → q x ≡ b → p x ≡ d → filter p (filter q xs) ≡ filter p xs →
        filter p (cond b (x ∷ filter q xs) (filter q xs)) ≡ cond d (x ∷ filter p xs) (filter p xs)
    by true d at here rest =
        ap (λ y. cond y (x ∷ filter p (filter q xs)) (filter p (filter q xs))) here ∙ ap (λ l. cond d (x ∷ l) l) rest
    by false true at here rest = absurd (let z = sym (also x here) ∙ at in cc)
    by false false at here rest = rest

pub gathered_twice : {A B X : Type 0} (f : B → List X) (g : A → List B) (xs : List A) →
    flat_map f (flat_map g xs) ≡ flat_map (λ x. flat_map f (g x)) xs
gathered_twice f g [] = refl
gathered_twice f g (x ∷ xs) =
    flat_map-append f (g x) (flat_map g xs) ∙ ap (λ l. flat_map f (g x) ++ l) (gathered_twice f g xs)

pub map_gathered : {A B X : Type 0} (f : B → X) (g : A → List B) (xs : List A) → map f (flat_map g xs) ≡ flat_map (λ x. map f (g x)) xs
map_gathered f g [] = refl
map_gathered f g (x ∷ xs) = map-append f (g x) (flat_map g xs) ∙ ap (λ l. map f (g x) ++ l) (map_gathered f g xs)

-- the same for each number of a range
pub same_in_range : {X : Type 0} (f g : ℕ → List X) (a n : ℕ) → ((j : ℕ) → j < a + n → f j ≡ g j) →
    flat_map f (range_with_len a n) ≡ flat_map g (range_with_len a n)
same_in_range f g a zero each = refl
same_in_range f g a (suc n) each =
    (λ i. each a (omega arith) i ++ same_in_range f g (a + 1) n (λ j lt. each j (omega (arith, lt))) i)

-- one more number of a range
pub next_in_range : {X : Type 0} (f : ℕ → List X) (a n : ℕ) →
    flat_map f (range_with_len a (suc n)) ≡ flat_map f (range_with_len a n) ++ f (a + n)
next_in_range f a zero = append-nil (f a) ∙ ap f (let same : a ≡ a + 0 = omega arith in same)
next_in_range f a (suc n) =
    ap (λ l. f a ++ l) (next_in_range f (a + 1) n)
    ∙ sym (append_assoc (f a) (flat_map f (range_with_len (a + 1) n)) (f (a + 1 + n)))
    ∙ ap (λ k. (f a ++ flat_map f (range_with_len (a + 1) n)) ++ f k) (let same : a + 1 + n ≡ a + suc n = omega arith in same)

-- ---- how many are gathered

-- the same number of each
pub same_number_of_each : {A : Type 0} (f g : A → ℕ) (xs : List A) → ((x : A) → Contains xs x → f x ≡ g x) → sum_by f xs ≡ sum_by g xs
same_number_of_each f g [] each = refl
same_number_of_each f g (x ∷ xs) each =
    sum_by-cons f x xs
    ∙ (λ i. each x (contains_first x xs) i + same_number_of_each f g xs (λ y has. each y (contains_later x y xs has)) i)
    ∙ sym (sum_by-cons g x xs)

-- what is folded over all is folded over what each gives
pub folded_gathered : {A B Y : Type 0} (f : Y → B → Y) (g : A → List B) (y : Y) (xs : List A) →
    fold (λ z x. fold f z (g x)) y xs ≡ fold f y (flat_map g xs)
folded_gathered f g y [] = refl
folded_gathered f g y (x ∷ xs) = folded_gathered f g (fold f y (g x)) xs ∙ sym (fold-append f y (g x) (flat_map g xs))

-- ---- what more there is

nothing_by : {X : Type 0} (ys : List X) → length ys ≡ 0 → ys ≡ []
nothing_by [] none = refl
nothing_by (y ∷ ys) none = absurd (omega (arith, none))

-- what leaves a list as it is has nothing
pub nothing_more : {X : Type 0} (xs ys : List X) → xs ++ ys ≡ xs → ys ≡ []
nothing_more xs ys same =
    nothing_by ys (let long = length-append xs ys in let is = ap length same in omega (arith, long, is))

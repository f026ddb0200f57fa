-- The lines of all clients, gathered from entity to entity in rising number.
use Rattle.seam_law_transcript.proofs.Prelude.{◌≡◌, ◌≤◌, ◌<◌, ℕ, zero, suc, Bool, true, false, cond, eqb, List, [], ◌∷◌, ◌++◌, map, length}
use Rattle.seam_law_transcript.proofs.Prelude.{refl, sym, ap, ◌∙◌, subst, arith, inl, inr, append-nil, Contains, filter, slice_index_or}
use Rattle.seam_law_transcript.proofs.Prelude.{IsTrue, All, AllByRecursion, flat_map, nat_cmp, Less, eq-eqb, nat_tests, map-append}
use Rattle.seam_law_transcript.proofs.Prelude.{All-append, All-nil, All-cons, filter-append, sorted_from_strictly_increasing, Create, Line}
use Rattle.seam_law_transcript.proofs.Prelude.{ClientLine, client_lines, differ, contains_cases}
use Rattle.std.specs.List.Sorted.{IsNonDecreasing, IsStrictlyIncreasing, IsStrictlySortedBy}

-- ---- lists in rising number

abbrev pub Rises : List Create → Type 0
Rises [] = Unit {0}
Rises (c ∷ cs) = AllByRecursion (λ d. c.entity < d.entity) cs × Rises cs

is_below : (a b : ℕ) → nat_cmp a b ≡ Less → a < b
is_below a b is = grind (arith, nat_tests, is)

all_below : (e : ℕ) (cs : List Create) → AllByRecursion (λ y. nat_cmp e y ≡ Less) (map (λ c. c.entity) cs) →
    AllByRecursion (λ d. e < d.entity) cs
all_below e [] all = tt
all_below e (c ∷ cs) all = (is_below e c.entity all.0, all_below e cs all.1)

rises_by : (cs : List Create) → IsStrictlySortedBy nat_cmp (map (λ c. c.entity) cs) → Rises cs
unfolding IsStrictlySortedBy
rises_by [] sorted = tt
rises_by (c ∷ cs) sorted = (all_below c.entity cs sorted.0, rises_by cs sorted.1)

pub rises : (cs : List Create) → IsStrictlyIncreasing (map (λ c. c.entity) cs) → Rises cs
rises cs rising = rises_by cs (sorted_from_strictly_increasing (map (λ c. c.entity) cs) rising)

pub all_has : {X : Type 0} (P : X → Type 0) (xs : List X) (x : X) → AllByRecursion P xs → Contains xs x → P x
all_has P [] x all (k, within, is) = absurd (omega arith)
all_has P (y ∷ ys) x all has = elim (contains_cases y x ys has) [
  | inl same ↦ subst P same all.0
  | inr later ↦ all_has P ys x all.1 later
]

-- ---- those that pass a test

module _ (p : Create → Bool) where
  pub all_kept : (P : Create → Type 0) (cs : List Create) → AllByRecursion P cs → AllByRecursion P (filter p cs)
  all_kept P [] all = tt
  all_kept P (c ∷ cs) all = by (p c) (all_kept P cs all.1)
    where
      by : (b : Bool) → AllByRecursion P (filter p cs) → AllByRecursion P (cond b (c ∷ filter p cs) (filter p cs))
      by true rest = (all.0, rest)
      by false rest = rest

  pub rises_kept : (cs : List Create) → Rises cs → Rises (filter p cs)
  rises_kept [] rise = tt
  rises_kept (c ∷ cs) rise = by (p c) (rises_kept cs rise.1)
    where
      by : (b : Bool) → Rises (filter p cs) → Rises (cond b (c ∷ filter p cs) (filter p cs))
      by true rest = (all_kept (λ d. c.entity < d.entity) cs rise.0, rest)
      by false rest = rest

  pub all_pass : (cs : List Create) → AllByRecursion (λ c. IsTrue (p c)) (filter p cs)
  all_pass [] = tt
  all_pass (c ∷ cs) = by (p c) refl (all_pass cs)
    where
      by : (b : Bool) → p c ≡ b → AllByRecursion (λ d. IsTrue (p d)) (filter p cs) →
          AllByRecursion (λ d. IsTrue (p d)) (cond b (c ∷ filter p cs) (filter p cs))
      by true is rest = (is, rest)
      by false is rest = rest

-- ---- numbers that do not fall

abbrev Climbs : List ℕ → Type 0
Climbs [] = Unit {0}
Climbs (x ∷ xs) = AllByRecursion (λ y. x ≤ y) xs × Climbs xs

all_at : (n : ℕ) (xs : List ℕ) → AllByRecursion (λ y. n ≤ y) xs → (j d : ℕ) → j < length xs → n ≤ slice_index_or xs j d
all_at n [] all j d lt = absurd (omega (arith, lt))
all_at n (x ∷ xs) all zero d lt = all.0
all_at n (x ∷ xs) all (suc j) d lt = all_at n xs all.1 j d (omega (arith, lt))

does_not_fall : (xs : List ℕ) → Climbs xs → IsNonDecreasing xs
does_not_fall [] climbs i j d le lt = absurd (omega (arith, lt))
does_not_fall (x ∷ xs) climbs zero zero d le lt = omega arith
does_not_fall (x ∷ xs) climbs zero (suc j) d le lt = all_at x xs climbs.0 j d (omega (arith, lt))
does_not_fall (x ∷ xs) climbs (suc i) zero d le lt = absurd (omega (arith, le))
does_not_fall (x ∷ xs) climbs (suc i) (suc j) d le lt = does_not_fall xs climbs.1 i j d (omega (arith, le)) (omega (arith, lt))

-- ---- the lines of all clients

abbrev number_of : ClientLine → ℕ
number_of l = l.entity

module _ (told : ℕ → List Line) where
  abbrev its : Create → List ClientLine
  its c = client_lines c (told c.entity)

  abbrev pub all_lines : List Create → List ClientLine
  all_lines cs = flat_map its cs

  -- ---- in rising number of their entities

  more_climb : (c : Create) (ls : List Line) (rest : List ℕ) → AllByRecursion (λ y. c.entity ≤ y) rest → Climbs rest →
      AllByRecursion (λ y. c.entity ≤ y) (map number_of (client_lines c ls) ++ rest) × Climbs (map number_of (client_lines c ls) ++ rest)
  more_climb c [] rest all climbs = (all, climbs)
  more_climb c (l ∷ ls) rest all climbs =
      let more = more_climb c ls rest all climbs in ((omega arith, more.0), (more.0, more.1))

  first_climbs : (c : Create) (ls : List Line) (n : ℕ) (rest : List ℕ) → n ≤ c.entity → AllByRecursion (λ y. n ≤ y) rest →
      AllByRecursion (λ y. n ≤ y) (map number_of (client_lines c ls) ++ rest)
  first_climbs c [] n rest le all = all
  first_climbs c (l ∷ ls) n rest le all = (le, first_climbs c ls n rest le all)

  not_below : (n : ℕ) (cs : List Create) → AllByRecursion (λ d. n < d.entity) cs →
      AllByRecursion (λ y. n ≤ y) (map number_of (all_lines cs))
  not_below n [] all = tt
  not_below n (c ∷ cs) all =
      subst (AllByRecursion (λ y. n ≤ y)) (sym (map-append number_of (its c) (all_lines cs)))
      (first_climbs c (told c.entity) n (map number_of (all_lines cs)) (let lt = all.0 in omega (arith, lt)) (not_below n cs all.1))

  climb : (cs : List Create) → Rises cs → Climbs (map number_of (all_lines cs))
  climb [] rise = tt
  climb (c ∷ cs) rise =
      subst Climbs (sym (map-append number_of (its c) (all_lines cs)))
      (more_climb c (told c.entity) (map number_of (all_lines cs)) (not_below c.entity cs rise.0) (climb cs rise.1)).1

  pub lines_rise : (cs : List Create) → Rises cs → IsNonDecreasing (map number_of (all_lines cs))
  lines_rise cs rise = does_not_fall (map number_of (all_lines cs)) (climb cs rise)

  -- ---- what is true of each entity's lines

  pub all_of : (P : ClientLine → Type 0) (c : Create) (ls : List Line) →
      ((l : Line) → P (record { entity = c.entity; ty = c.ty; line = l })) → All P (client_lines c ls)
  all_of P c [] is = All-nil P
  all_of P c (l ∷ ls) is = All-cons P (record { entity = c.entity; ty = c.ty; line = l }) (client_lines c ls) (is l) (all_of P c ls is)

  pub all_in : (P : ℕ → Type 0) (cs : List Create) → AllByRecursion (λ c. P c.entity) cs → All (λ l. P (number_of l)) (all_lines cs)
  all_in P [] all = All-nil (λ l. P (number_of l))
  all_in P (c ∷ cs) all =
      All-append (λ l. P (number_of l)) (its c) (all_lines cs) (all_of (λ l. P (number_of l)) c (told c.entity) (λ l. all.0))
      (all_in P cs all.1)

  -- ---- those of one entity

  module _ (e : ℕ) where
    abbrev is_its : ClientLine → Bool
    is_its l = eqb l.entity e

    one_of : (c : Create) (ls : List Line) → filter is_its (client_lines c ls) ≡ cond (eqb c.entity e) (client_lines c ls) []
    one_of c [] = by (eqb c.entity e)
      where
        by : (b : Bool) → [] ≡ cond b (client_lines c []) []
        by true = refl
        by false = refl
    one_of c (l ∷ ls) =
        ap (λ r. cond (eqb c.entity e) (record { entity = c.entity; ty = c.ty; line = l } ∷ r) r) (one_of c ls) ∙ by (eqb c.entity e)
      where
        by : (b : Bool) → cond b (record { entity = c.entity; ty = c.ty; line = l } ∷ cond b (client_lines c ls) [])
            (cond b (client_lines c ls) []) ≡ cond b (client_lines c (l ∷ ls)) []
        by true = refl
        by false = refl

    pub none_of : (cs : List Create) → AllByRecursion (λ d. d.entity ≡ e → ⊥) cs → filter is_its (all_lines cs) ≡ []
    none_of [] all = refl
    none_of (c ∷ cs) all =
        filter-append is_its (its c) (all_lines cs)
        ∙ (λ i. (one_of c (told c.entity) ∙ ap (λ b. cond b (its c) []) (differ c.entity e all.0)) i ++ none_of cs all.1 i)

  above_not : (n : ℕ) (cs : List Create) → AllByRecursion (λ d. n < d.entity) cs → AllByRecursion (λ d. d.entity ≡ n → ⊥) cs
  above_not n [] all = tt
  above_not n (c ∷ cs) all = ((λ same. let lt = all.0 in omega (arith, lt, same)), above_not n cs all.1)

  first_lines : (d c : Create) (cs : List Create) → d ≡ c → AllByRecursion (λ x. d.entity < x.entity) cs →
      filter (is_its c.entity) (all_lines (d ∷ cs)) ≡ its c
  first_lines d c cs same above =
      subst (λ x. filter (is_its x.entity) (all_lines (d ∷ cs)) ≡ its x) same
      (filter-append (is_its d.entity) (its d) (all_lines cs)
      ∙ (λ i. (one_of d.entity d (told d.entity) ∙ ap (λ b. cond b (its d) []) (eq-eqb d.entity d.entity refl)) i
      ++ none_of d.entity cs (above_not d.entity cs above) i)
      ∙ append-nil (its d))

  pub lines_found : (cs : List Create) (c : Create) → Rises cs → Contains cs c → filter (is_its c.entity) (all_lines cs) ≡ its c
  lines_found [] c rise (k, within, is) = absurd (omega arith)
  lines_found (d ∷ cs) c rise has = elim (contains_cases d c cs has) [
    | inl same ↦ first_lines d c cs same rise.0
    | inr later ↦
        let low = all_has (λ x. d.entity < x.entity) cs c rise.0 later in
        filter-append (is_its c.entity) (its d) (all_lines cs)
        ∙ (λ i. (one_of c.entity d (told d.entity)
        ∙ ap (λ b. cond b (its d) []) (differ d.entity c.entity (λ same. omega (arith, low, same)))) i ++ lines_found cs c rise.1 later i)
  ]

-- as they were told
pub line_of_each : (c : Create) (ls : List Line) → map (λ l. l.line) (client_lines c ls) ≡ ls
line_of_each c [] = refl
line_of_each c (l ∷ ls) = ap (λ r. l ∷ r) (line_of_each c ls)

-- Tokens counted in a net, and the one token at one place: the two are one fact.
use Rattle.std.proofs.Common.{◌≡◌, ℕ, zero, suc, ◌+◌, List, [], ◌∷◌, length, Option, None, Some, get_or, refl, sym, ap, ◌∙◌, arith, inl}
use Rattle.std.proofs.Common.{inr}
use Rattle.std.specs.Prelude.{slice_get}
use Rattle.std.proofs.lemmas.Bool.{cases_eq}
use Rattle.seam_machine.specs.Totals.{total}
use Rattle.seam_machine.specs.Views.{NetView}
use Rattle.seam_machine.specs.Nets.{link}
use Rattle.seam_net_runs.specs.Weights.{totals, row_weight}
use Rattle.seam_law_flow.specs.Flows.{Flow, more_letter, letters_of, slot_at, flow_of}
use Rattle.seam_law_flow.specs.Tokens.{carried_in, TokenPlace, In, On, Sole, Nobody, one_if, holders}

-- ---- sums that are 0 or 1

module _ {X : Type 0} (f : X → ℕ) where
  abbrev at_most_one : Option X → ℕ
  at_most_one None = 0
  at_most_one (Some x) = f x

  abbrev at : List X → ℕ → ℕ
  at xs k = at_most_one (slice_get xs k)

  zero_at : (xs : List X) → total f xs ≡ 0 → (k : ℕ) → at xs k ≡ 0
  zero_at [] h k = refl
  zero_at (x ∷ xs) h zero = omega (arith, h)
  zero_at (x ∷ xs) h (suc k) = zero_at xs (omega (arith, h)) k

  all_zero : (xs : List X) → ((k : ℕ) → at xs k ≡ 0) → total f xs ≡ 0
  all_zero [] h = refl
  all_zero (x ∷ xs) h = let one = h 0 in let rest = all_zero xs (λ k. h (suc k)) in omega (arith, one, rest)

  abbrev OneAt : List X → ℕ → Type 0
  OneAt xs k = (at xs k ≡ 1) × ((j : ℕ) → (j ≡ k → ⊥) → at xs j ≡ 0)

  one_here : (x : X) (xs : List X) → f x ≡ 1 → total f xs ≡ 0 → OneAt (x ∷ xs) 0
  one_here x xs e z =
      (e, λ j. elim j as (λ j. (j ≡ 0 → ⊥) → at (x ∷ xs) j ≡ 0) [ zero ↦ λ n. absurd (n refl) | suc j ↦ λ n. zero_at xs z j ])

  one_later : (x : X) (xs : List X) (k : ℕ) → f x ≡ 0 → OneAt xs k → OneAt (x ∷ xs) (suc k)
  one_later x xs k z o =
      (o.0, λ j. elim j as (λ j. (j ≡ suc k → ⊥) → at (x ∷ xs) j ≡ 0) [ zero ↦ λ n. z | suc j ↦ λ n. o.1 j (λ e. n (ap suc e)) ])

  one_by : (x : X) (xs : List X) (n : ℕ) → f x ≡ n → n + total f xs ≡ 1 → (total f xs ≡ 1 → (k : ℕ) × OneAt xs k) →
      (k : ℕ) × OneAt (x ∷ xs) k
  one_by x xs zero e h more = let r = more (omega (arith, h)) in (suc r.0, one_later x xs r.0 e r.1)
  one_by x xs (suc n) e h more = (0, one_here x xs (omega (arith, e, h)) (omega (arith, h)))

  -- a sum that is 1 has it at one place
  one_at : (xs : List X) → total f xs ≡ 1 → (k : ℕ) × OneAt xs k
  one_at [] h = absurd (omega (arith, h))
  one_at (x ∷ xs) h = one_by x xs (f x) refl h (one_at xs)

  sum_one : (xs : List X) (k : ℕ) → OneAt xs k → total f xs ≡ 1
  sum_one [] k o = let h = o.0 in absurd (omega (arith, h))
  sum_one (x ∷ xs) zero o = let h = o.0 in let rest = all_zero xs (λ j. o.1 (suc j) (λ e. omega (arith, e))) in omega (arith, h, rest)
  sum_one (x ∷ xs) (suc k) o =
      let h = o.1 0 (λ e. omega (arith, e)) in
      let rest = sum_one xs k (o.0, λ j n. o.1 (suc j) (λ e. n (omega (arith, e)))) in
      omega (arith, h, rest)

  -- what is past the end of the list weighs nothing
  at_get_or : (xs : List X) (k : ℕ) (d : X) → f d ≡ 0 → at xs k ≡ f (get_or xs k d)
  at_get_or [] k d z = sym z
  at_get_or (x ∷ xs) zero d z = refl
  at_get_or (x ∷ xs) (suc k) d z = at_get_or xs k d z

totals_all : {X : Type 0} (f : X → ℕ) (xs : List X) (i : ℕ) → totals (λ b. f) i xs ≡ total f xs
totals_all f [] i = refl
totals_all f (x ∷ xs) i = ap (λ n. f x + n) (totals_all f xs (i + 1))

total_same : {X : Type 0} (f h : X → ℕ) → ((x : X) → f x ≡ h x) → (xs : List X) → total f xs ≡ total h xs
total_same f h e [] = refl
total_same f h e (x ∷ xs) = let one = e x in let rest = total_same f h e xs in omega (arith, one, rest)

-- ---- tokens

length_zero : {X : Type 0} (xs : List X) → length xs ≡ 0 → xs ≡ []
length_zero [] h = refl
length_zero (x ∷ xs) h = absurd (omega (arith, h))

length_one : {X : Type 0} (xs : List X) → length xs ≡ 1 → (x : X) × (xs ≡ x ∷ [])
length_one [] h = absurd (omega (arith, h))
length_one (x ∷ xs) h = (x, ap (λ l. x ∷ l) (length_zero xs (omega (arith, h))))

none_if : {R : Type 0} (o : Option R) → one_if o ≡ 0 → o ≡ None
none_if None h = refl
none_if (Some r) h = absurd (omega (arith, h))

some_if : {R : Type 0} (o : Option R) → one_if o ≡ 1 → (r : R) × (o ≡ Some r)
some_if None h = absurd (omega (arith, h))
some_if (Some r) h = (r, refl)

module _ {N T S L R : Type 0} (slot : N → S) (none : S) (mine : T → Option L) (held : S → Option R) (carried : L → Option R) where
  abbrev node_count : N → ℕ
  node_count s = one_if (held (slot s))

  abbrev item_count : T → ℕ
  item_count m = one_if (carried_in carried (mine m))

  abbrev link_count : List T → ℕ
  link_count l = total item_count l

  abbrev row_count : List (List T) → ℕ
  row_count r = total link_count r

  abbrev tokens_on : List T → List R
  tokens_on l = letters_of carried (letters_of mine l)

  more_counts : (o : Option L) (ls : List L) → length (letters_of carried (more_letter o ls))
      ≡ one_if (carried_in carried o) + length (letters_of carried ls)
  more_counts None ls = omega arith
  more_counts (Some l) ls = by (carried l)
    where
      by : (o : Option R) → length (more_letter o (letters_of carried ls)) ≡ one_if o + length (letters_of carried ls)
      by None = omega arith
      by (Some r) = omega arith

  link_counts : (l : List T) → link_count l ≡ length (tokens_on l)
  link_counts [] = refl
  link_counts (m ∷ ms) = let e = link_counts ms in let c = more_counts (mine m) (letters_of mine ms) in omega (arith, e, c)

  slot_counts : (o : Option N) → held none ≡ None → at_most_one node_count o ≡ one_if (held (slot_at slot none o))
  slot_counts None z = sym (ap one_if z)
  slot_counts (Some s) z = refl

  module _ (w : NetView N T) (z : held none ≡ None) where
    abbrev F : Flow S L
    F = flow_of slot none mine w

    abbrev rows_count : ℕ
    rows_count = total row_count w.rows

    counted : holders slot mine held carried w ≡ total node_count w.nodes + rows_count
    counted =
        ap (λ n. total node_count w.nodes + n) (total_same (row_weight (λ k. item_count)) row_count (λ r. totals_all link_count r 0) w.rows)

    node_is : (k : ℕ) → at node_count w.nodes k ≡ one_if (held (F.slot k))
    node_is k = slot_counts (slice_get w.nodes k) z

    -- the row of a node, and a link of a row
    abbrev row_at : ℕ → List (List T)
    row_at a = get_or w.rows a []

    row_is : (a : ℕ) → at row_count w.rows a ≡ row_count (row_at a)
    row_is a = at_get_or row_count w.rows a [] refl

    link_is : (a b : ℕ) → at link_count (row_at a) b ≡ length (letters_of carried (F.mail a b))
    link_is a b = at_get_or link_count (row_at a) b [] refl ∙ link_counts (link w.rows a b)

    no_slots : total node_count w.nodes ≡ 0 → (k : ℕ) → held (F.slot k) ≡ None
    no_slots h k = none_if (held (F.slot k)) (sym (node_is k) ∙ zero_at node_count w.nodes h k)

    row_empty : (a b : ℕ) → at row_count w.rows a ≡ 0 → letters_of carried (F.mail a b) ≡ []
    row_empty a b h =
        length_zero (letters_of carried (F.mail a b)) (sym (link_is a b) ∙ zero_at link_count (row_at a) (sym (row_is a) ∙ h) b)

    no_mail : rows_count ≡ 0 → (a b : ℕ) → letters_of carried (F.mail a b) ≡ []
    no_mail h a b = row_empty a b (zero_at row_count w.rows h a)

    no_rows : ((a b : ℕ) → letters_of carried (F.mail a b) ≡ []) → rows_count ≡ 0
    no_rows h = all_zero row_count w.rows (λ a. row_is a ∙ all_zero link_count (row_at a) (λ b. link_is a b ∙ ap length (h a b)))

    no_nodes : ((k : ℕ) → held (F.slot k) ≡ None) → total node_count w.nodes ≡ 0
    no_nodes h = all_zero node_count w.nodes (λ k. node_is k ∙ ap one_if (h k))

    -- none is counted exactly where nobody has one
    pub none_counted : holders slot mine held carried w ≡ 0 → Nobody held carried F
    none_counted h = let c = counted in record { slots = no_slots (omega (arith, h, c)); mail = no_mail (omega (arith, h, c)) }

    pub nobody_counts : Nobody held carried F → holders slot mine held carried w ≡ 0
    nobody_counts n = let c = counted in let a = no_nodes n.slots in let b = no_rows n.mail in omega (arith, c, a, b)

    abbrev Found : Type 0
    Found = (p : TokenPlace) × (r : R) × Sole held carried F p r

    found_node : total node_count w.nodes ≡ 1 → rows_count ≡ 0 → Found
    found_node h e =
        let k = one_at node_count w.nodes h in
        let r = some_if (held (F.slot k.0)) (sym (node_is k.0) ∙ k.1.0) in
        (In k.0, r.0, record { here = r.1; others = λ j n. none_if (held (F.slot j)) (sym (node_is j) ∙ k.1.1 j n); mail = no_mail e })

    found_link : total node_count w.nodes ≡ 0 → rows_count ≡ 1 → Found
    found_link e h =
        let a = one_at row_count w.rows h in
        let b = one_at link_count (row_at a.0) (sym (row_is a.0) ∙ a.1.0) in
        let r = length_one (letters_of carried (F.mail a.0 b.0)) (sym (link_is a.0 b.0) ∙ b.1.0) in (
          On a.0 b.0,
          r.0,
          record {
            slots = no_slots e;
            here = r.1;
            others = λ x y n. elim (cases_eq x a.0) [
              | inl ex ↦
                  let off : y ≡ b.0 → ⊥ = λ ey. n ex ey in
                  rw ex (length_zero (letters_of carried (F.mail a.0 y)) (sym (link_is a.0 y) ∙ b.1.1 y off))
              | inr nx ↦ row_empty x y (a.1.1 x nx)
            ];
          },
        )

    found_by : (n m : ℕ) → total node_count w.nodes ≡ n → rows_count ≡ m → n + m ≡ 1 → Found
    found_by zero m e f h = found_link e (omega (arith, f, h))
    found_by (suc n) m e f h = found_node (omega (arith, e, h)) (omega (arith, f, h))

    -- one is counted exactly where there is one
    pub one_counted : holders slot mine held carried w ≡ 1 → Found
    one_counted h = found_by (total node_count w.nodes) rows_count refl refl (sym counted ∙ h)

    pub sole_counts : (p : TokenPlace) (r : R) → Sole held carried F p r → holders slot mine held carried w ≡ 1
    sole_counts (In k) r s =
        let c = counted in
        let b = no_rows s.mail in
        let a = sum_one node_count w.nodes k (node_is k ∙ ap one_if s.here, λ j n. node_is j ∙ ap one_if (s.others j n)) in
        omega (arith, c, a, b)
    sole_counts (On a b) r s =
        let c = counted in
        let i = no_nodes s.slots in
        let row =
        sum_one link_count (row_at a) b (link_is a b ∙ ap length s.here, λ y n. link_is a y ∙ ap length (s.others a y (λ _ e. n e))) in
        let j =
        sum_one row_count w.rows a (
          row_is a ∙ row,
          λ x n. row_is x
              ∙ all_zero link_count (row_at x) (λ y. link_is x y ∙ ap length (s.others x y (λ e _. n e))),
        ) in
        omega (arith, c, i, j)

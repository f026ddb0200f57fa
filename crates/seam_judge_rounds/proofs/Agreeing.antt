-- What holds of one element more, and when executed orders are full.
use Rattle.std.proofs.Common.{◌≡◌, ◌<◌, ◌+◌, ℕ, Bool, true, false, cond, List, [], ◌∷◌, ◌++◌, length, get_or, nat_lt, refl, sym, ◌∙◌, ap}
use Rattle.std.proofs.Common.{subst, arith, IsTrue, ◌↔◌}
use Rattle.std.specs.Prelude.{filter, ◌&&◌}
use Rattle.std.proofs.lemmas.Bool.Decides.{nat_tests}
use Rattle.std.proofs.lemmas.List.{get_or_default, append_cancel_left}
use Rattle.std.proofs.lemmas.List.Elements.{filter-append}
use Rattle.seam_rule_rounds.specs.Prelude.{Part, is_for, is_from, same_sender, Sender, Call, Create, Book, entries}
use Rattle.seam_rule_rounds.specs.Prelude.{calls_of, created_as, DoneLine, Lists, ExtendsOrders, done_lines}
use Rattle.seam_rule_lines.proofs.Lists.{listed_is_one}

-- ---- walks

-- what holds of the first elements holds of one more
pub all_more : {X : Type 0} (P : X → Type 0) (xs : List X) (i : ℕ) (x : X) → i < length xs → P (get_or xs i x) →
    ((k : ℕ) (d : X) → k < i → P (get_or xs k d)) → (k : ℕ) (d : X) → k < i + 1 → P (get_or xs k d)
all_more {X} P xs i x within here before k d below = by (nat_lt k i) refl
  where
    by : (b : Bool) → nat_lt k i ≡ b → P (get_or xs k d)
    by true is = before k d (grind (arith, nat_tests, is))
    by false is =
        let last : i ≡ k = grind (arith, nat_tests, is, below) in
        subst P (get_or_default xs i x d within ∙ ap (λ (n : ℕ). get_or xs n d) last) here

-- ---- orders

filtered_twice : {X : Type 0} (p q : X → Bool) (xs : List X) → filter q (filter p xs) ≡ filter (λ x. p x && q x) xs
filtered_twice p q [] = refl
filtered_twice {X} p q (x ∷ xs) = by (p x) (filtered_twice p q xs)
  where
    rest : List X
    rest = filter (λ y. p y && q y) xs

    by : (b : Bool) → filter q (filter p xs) ≡ rest →
        filter q (cond b (x ∷ filter p xs) (filter p xs)) ≡ cond (b && q x) (x ∷ rest) rest
    by true again = ap (λ (ys : List X). cond (q x) (x ∷ ys) ys) again
    by false again = again

of_sender_from : (p : Part) (e : ℕ) (s : Sender) (calls : List Call) →
    filter (λ c. same_sender c.sender s) (filter (is_for p e) calls) ≡ filter (is_from p e s) calls
of_sender_from p e s calls = filtered_twice (is_for p e) (λ (c : Call). same_sender c.sender s) calls

module _ (b : Book) (p : Part) (before done : List Call) (made : List Create) (lines : List DoneLine) (listed : Lists (created_as b) made)
  where
    pub extends_from : done_lines (λ e. filter (is_for p e) done) made ≡ lines →
        ((e : ℕ) (s : Sender) → filter (is_from p e s) (before ++ done) ≡ filter (is_from p e s) (calls_of (entries b))) →
        ExtendsOrders b p (λ e. filter (is_for p e) before) (λ e. filter (is_for p e) (before ++ done)) lines
    extends_from are full = record {
      made = made;
      listed = listed;
      done = λ e. filter (is_for p e) done;
      are = sym are;
      further = λ e. filter-append (is_for p e) before done;
      full = λ e s. of_sender_from p e s (before ++ done) ∙ full e s;
    }

    pub extends_to : ExtendsOrders b p (λ e. filter (is_for p e) before) (λ e. filter (is_for p e) (before ++ done)) lines →
        (done_lines (λ e. filter (is_for p e) done) made ≡ lines)
        × ((e : ℕ) (s : Sender) → filter (is_from p e s) (before ++ done) ≡ filter (is_from p e s) (calls_of (entries b)))
    extends_to extends =
        let same : (e : ℕ) → filter (is_for p e) done ≡ extends.done e =
        λ e. append_cancel_left (filter (is_for p e) before) (filter (is_for p e) done) (extends.done e)
        (sym (filter-append (is_for p e) before done) ∙ extends.further e) in
        let made_same = listed_is_one (created_as b) made extends.made listed extends.listed in (
          (λ i. done_lines (λ e. same e i) (made_same i)) ∙ sym extends.are,
          (λ e s. sym (of_sender_from p e s (before ++ done)) ∙ extends.full e s),
        )

    -- the lines are those of the calls, and the executed calls are full
    pub extends_decided : (expected : List DoneLine) (accepted executed : List Call) (a f r : Bool) →
        expected ≡ done_lines (λ e. filter (is_for p e) done) made → accepted ≡ calls_of (entries b) → executed ≡ before ++ done →
        (IsTrue a ↔ (expected ≡ lines)) →
        (IsTrue f ↔ ((e : ℕ) (s : Sender) → filter (is_from p e s) executed ≡ filter (is_from p e s) accepted)) →
        (IsTrue r ↔ (IsTrue a × IsTrue f)) →
        (IsTrue r ↔ ExtendsOrders b p (λ e. filter (is_for p e) before) (λ e. filter (is_for p e) (before ++ done)) lines)
    extends_decided expected accepted executed a f r expected_is accepted_is executed_is at_a at_f at_r = (
      (λ is.
          let two = at_r.0 is in
          extends_from (sym expected_is ∙ at_a.0 two.0)
          (λ e s. ap (filter (is_from p e s)) (sym executed_is) ∙ at_f.0 two.1 e s ∙ ap (filter (is_from p e s)) accepted_is)),
      (λ extends.
          let two = extends_to extends in
          at_r.1 (
            at_a.1 (expected_is ∙ two.0),
            at_f.1 (λ e s. ap (filter (is_from p e s)) executed_is ∙ two.1 e s ∙ ap (filter (is_from p e s)) (sym accepted_is)),
          )),
    )

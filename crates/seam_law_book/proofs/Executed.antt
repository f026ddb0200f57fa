-- What a part executed is what was accepted for it: the first calls of each sender at each moment, and all where the calls leave the world
-- quiet.
use Rattle.seam_law_book.proofs.Prelude.{◌≡◌, ℕ, zero, suc, ◌+◌, ◌<◌, ◌≤◌, Bool, true, false, cond, List, [], ◌∷◌, ◌++◌, refl, sym, ap, ◌∙◌}
use Rattle.seam_law_book.proofs.Prelude.{subst, arith, inl, inr, append-nil, append_assoc, ◌⊎◌, ◌==◌, ◌&&◌, filter, AllByRecursion}
use Rattle.seam_law_book.proofs.Prelude.{flat_map, range_with_len, cases_eq, cases_lt, eq-eqb, filter-append, filter_map-append, Part}
use Rattle.seam_law_book.proofs.Prelude.{MOST_BASE_NODES, is_for, is_from, IsSender, same_sender, rank_of, Sender, Call as CallData, Book}
use Rattle.seam_law_book.proofs.Prelude.{called, calls_of, accepted, of_sender, IsFull, letters_of, more_letter, kept_if, from_sender}
use Rattle.seam_law_book.proofs.Prelude.{as_begun, calls_from, differ}
use Rattle.seam_rule_lines.specs.Orders.{IsLegal}
use Rattle.seam_call.specs.declared.sender.Sender.TheVariants as sender
use Rattle.seam_law_book.proofs.Untouched.{IsFromSender, accepted_by_place, same_place}

-- ---- a list by its senders

-- the calls of a place in the order of senders
abbrev pub of_place : ℕ → List CallData → List CallData
of_place n cs = filter (λ c. rank_of c.sender == n) cs

letters_by : (n : ℕ) (c : CallData) (t : Bool) (cs : List CallData) → more_letter (kept_if t c) cs ≡ cond t (c ∷ cs) cs
letters_by n c true cs = refl
letters_by n c false cs = refl

pub letters_are_of_place : (n : ℕ) (cs : List CallData) → letters_of (from_sender n) cs ≡ of_place n cs
letters_are_of_place n [] = refl
letters_are_of_place n (c ∷ cs) =
    letters_by n c (rank_of c.sender == n) (letters_of (from_sender n) cs)
    ∙ ap (λ l. cond (rank_of c.sender == n) (c ∷ l) l) (letters_are_of_place n cs)

-- what is true of the calls of each place is true of all
module _ (P : CallData → Type 0) where
  first_by : (c : CallData) (cs : List CallData) (t : Bool) → t ≡ true → AllByRecursion P (cond t (c ∷ cs) cs) → P c
  first_by c cs true is all = all.0
  first_by c cs false is all = absurd (let z = is in cc)

  rest_by : (c : CallData) (cs : List CallData) (t : Bool) → AllByRecursion P (cond t (c ∷ cs) cs) → AllByRecursion P cs
  rest_by c cs true all = all.1
  rest_by c cs false all = all

  pub all_by_place : (cs : List CallData) → ((n : ℕ) → AllByRecursion P (of_place n cs)) → AllByRecursion P cs
  all_by_place [] all = tt
  all_by_place (c ∷ cs) all = (
    first_by c (of_place (rank_of c.sender) cs) (rank_of c.sender == rank_of c.sender) (eq-eqb (rank_of c.sender) (rank_of c.sender) refl)
        (all (rank_of c.sender)),
    all_by_place cs (λ n. rest_by c (of_place n cs) (rank_of c.sender == n) (all n)),
  )

  kept_by : (c : CallData) (cs : List CallData) (t : Bool) → P c → AllByRecursion P cs → AllByRecursion P (cond t (c ∷ cs) cs)
  kept_by c cs true here all = (here, all)
  kept_by c cs false here all = all

  all_kept : (test : CallData → Bool) (cs : List CallData) → AllByRecursion P cs → AllByRecursion P (filter test cs)
  all_kept test [] all = tt
  all_kept test (c ∷ cs) all = kept_by c (filter test cs) (test c) all.0 (all_kept test cs all.1)

-- senders are told by their places
of_sender_by_place : (s : Sender) → IsSender s → (cs : List CallData) → AllByRecursion IsFromSender cs →
    of_sender s cs ≡ of_place (rank_of s) cs
of_sender_by_place s is [] all = refl
of_sender_by_place s is (c ∷ cs) all =
    ap (λ x. cond x (c ∷ of_sender s cs) (of_sender s cs)) (same_place c.sender s all.0 is)
    ∙ ap (λ l. cond (rank_of c.sender == rank_of s) (c ∷ l) l) (of_sender_by_place s is cs all.1)

-- one that is no sender made no call
module _ (n : ℕ) (not : IsSender (sender.Base n) → ⊥) where
  unlike : (s : Sender) → IsSender s → same_sender s (sender.Base n) ≡ false
  unlike (sender.Base m) is = differ m n (λ same. not (subst (λ x. IsSender (sender.Base x)) same is))
  unlike (sender.Client e) is = refl

  none_of : (cs : List CallData) → AllByRecursion IsFromSender cs → of_sender (sender.Base n) cs ≡ []
  none_of [] all = refl
  none_of (c ∷ cs) all =
      ap (λ x. cond x (c ∷ of_sender (sender.Base n) cs) (of_sender (sender.Base n) cs)) (unlike c.sender all.0) ∙ none_of cs all.1

  and_false : (x : Bool) → (x && false) ≡ false
  and_false true = refl
  and_false false = refl

  pub none_from : (p : Part) (e : ℕ) (cs : List CallData) → AllByRecursion IsFromSender cs → filter (is_from p e (sender.Base n)) cs ≡ []
  none_from p e [] all = refl
  none_from p e (c ∷ cs) all =
      ap (λ x. cond (is_for p e c && x) (c ∷ filter (is_from p e (sender.Base n)) cs) (filter (is_from p e (sender.Base n)) cs))
      (unlike c.sender all.0)
      ∙ ap (λ x. cond x (c ∷ filter (is_from p e (sender.Base n)) cs) (filter (is_from p e (sender.Base n)) cs)) (and_false (is_for p e c))
      ∙ none_from p e cs all.1

-- whether a number is that of a base node
pub sender_or_not : (n : ℕ) → IsSender (sender.Base n) ⊎ (IsSender (sender.Base n) → ⊥)
sender_or_not n = elim (cases_lt n 1) [
  | inl zero_ ↦ inr (λ is. let from = is.from_one in omega (arith, zero_, from))
  | inr from ↦ elim (cases_lt MOST_BASE_NODES n) [
    | inl past ↦ inr (λ is. let most = is.most in omega (arith, past, most))
    | inr most ↦ inl (record { from_one = from; most = most })
  ]
]

-- ---- a part

module _ (b : Book) (p : Part) (e : ℕ) (senders : AllByRecursion IsFromSender (calls_of b.current)) (done : List CallData)
    (executed : (n : ℕ) → letters_of (from_sender n) done ≡ calls_from p e n (calls_of b.current)) where
  by_place : (n : ℕ) → of_place n done ≡ calls_from p e n (calls_of b.current)
  by_place n = sym (letters_are_of_place n done) ∙ executed n

  done_senders : AllByRecursion IsFromSender done
  done_senders =
      all_by_place IsFromSender done
      (λ n. subst (AllByRecursion IsFromSender) (sym (by_place n)) (all_kept IsFromSender _ (calls_of b.current) senders))

  done_by : (s : Sender) → IsSender s → of_sender s done ≡ filter (is_from p e s) (calls_of b.current)
  done_by s is =
      of_sender_by_place s is done done_senders ∙ by_place (rank_of s) ∙ sym (accepted_by_place p e s is (calls_of b.current) senders)

  done_of_base : (n : ℕ) → IsSender (sender.Base n) ⊎ (IsSender (sender.Base n) → ⊥) →
      of_sender (sender.Base n) done ≡ filter (is_from p e (sender.Base n)) (calls_of b.current)
  done_of_base n (inl is) = done_by (sender.Base n) is
  done_of_base n (inr not) = none_of n not done done_senders ∙ sym (none_from n not p e (calls_of b.current) senders)

  done_of : (s : Sender) → of_sender s done ≡ filter (is_from p e s) (calls_of b.current)
  done_of (sender.Base n) = done_of_base n (sender_or_not n)
  done_of (sender.Client d) = done_by (sender.Client d) tt

  -- what it executed before, and then these, is all that was accepted
  pub executes_all : (before : List CallData) → IsFull (accepted (as_begun b) p e) before → IsFull (accepted b p e) (before ++ done)
  executes_all before full s =
      filter-append (λ c. same_sender c.sender s) before done
      ∙ ap (λ l. l ++ of_sender s done) (full s ∙ ap (λ xs. filter (is_from p e s) (calls_of xs)) (append-nil b.past))
      ∙ ap (λ l. filter (is_from p e s) (calls_of b.past) ++ l) (done_of s)
      ∙ sym (ap (filter (is_from p e s)) (filter_map-append called b.past b.current)
      ∙ filter-append (is_from p e s) (calls_of b.past) (calls_of b.current))

-- so far it may have executed the first ones of each sender
module _ (b : Book) (p : Part) (e : ℕ) (senders : AllByRecursion IsFromSender (calls_of b.current)) (done : List CallData)
    (first : (n : ℕ) → (rest : List CallData) × (calls_from p e n (calls_of b.current) ≡ letters_of (from_sender n) done ++ rest)) where
  abbrev its : Sender → List CallData
  its s = filter (is_from p e s) (calls_of b.current)

  front_all : (xs ys : List CallData) → AllByRecursion IsFromSender (xs ++ ys) → AllByRecursion IsFromSender xs
  front_all [] ys all = tt
  front_all (x ∷ xs) ys all = (all.0, front_all xs ys all.1)

  first_senders : AllByRecursion IsFromSender done
  first_senders =
      all_by_place IsFromSender done
      (λ n. subst (AllByRecursion IsFromSender) (letters_are_of_place n done)
      (front_all (letters_of (from_sender n) done) (first n).0
      (subst (AllByRecursion IsFromSender) (first n).1 (all_kept IsFromSender _ (calls_of b.current) senders))))

  first_from : (s : Sender) → IsSender s → (rest : List CallData) × (its s ≡ of_sender s done ++ rest)
  first_from s is = (
    (first (rank_of s)).0,
    accepted_by_place p e s is (calls_of b.current) senders ∙ (first (rank_of s)).1
        ∙ ap (λ l. l ++ (first (rank_of s)).0)
        (letters_are_of_place (rank_of s) done ∙ sym (of_sender_by_place s is done first_senders)),
  )

  first_of_base : (n : ℕ) → IsSender (sender.Base n) ⊎ (IsSender (sender.Base n) → ⊥) →
      (rest : List CallData) × (its (sender.Base n) ≡ of_sender (sender.Base n) done ++ rest)
  first_of_base n (inl is) = first_from (sender.Base n) is
  first_of_base n (inr not) =
      ([], none_from n not p e (calls_of b.current) senders ∙ sym (ap (λ l. l ++ []) (none_of n not done first_senders)))

  first_of : (s : Sender) → (rest : List CallData) × (its s ≡ of_sender s done ++ rest)
  first_of (sender.Base n) = first_of_base n (sender_or_not n)
  first_of (sender.Client d) = first_from (sender.Client d) tt

  -- what it executed before, and then these, are the first calls of what was accepted
  pub executes_first : (before : List CallData) → IsFull (accepted (as_begun b) p e) before → IsLegal (accepted b p e) (before ++ done)
  executes_first before full s =
      let f = first_of s in (
        f.0,
        ap (filter (is_from p e s)) (filter_map-append called b.past b.current)
            ∙ filter-append (is_from p e s) (calls_of b.past) (calls_of b.current)
            ∙ ap (λ l. l ++ its s) (sym (full s ∙ ap (λ xs. filter (is_from p e s) (calls_of xs)) (append-nil b.past)))
            ∙ ap (λ l. of_sender s before ++ l) f.1
            ∙ sym (append_assoc (of_sender s before) (of_sender s done) f.0)
            ∙ ap (λ l. l ++ f.0) (sym (filter-append (λ c. same_sender c.sender s) before done)),
      )

-- ---- the cell where the real is

module _ {X : Type 0} (g : ℕ → List X) where
  pub none_in : (a n : ℕ) → ((j : ℕ) → a ≤ j → g j ≡ []) → flat_map g (range_with_len a n) ≡ []
  none_in a zero none = refl
  none_in a (suc n) none =
      ap (λ l. l ++ flat_map g (range_with_len (a + 1) n)) (none a (omega arith))
      ∙ none_in (a + 1) n (λ j le. none j (omega (arith, le)))

  pub one_in : (k a n : ℕ) → a ≤ k → k < a + n → ((j : ℕ) → (j ≡ k → ⊥) → g j ≡ []) → flat_map g (range_with_len a n) ≡ g k
  one_in k a zero from to none = absurd (omega (arith, from, to))
  one_in k a (suc n) from to none = elim (cases_eq a k) [
    | inl is ↦
        ap (λ l. g a ++ l) (none_in (a + 1) n (λ j le. none j (λ same. omega (arith, is, le, same)))) ∙ append-nil (g a) ∙ ap g is
    | inr not ↦
        ap (λ l. l ++ flat_map g (range_with_len (a + 1) n)) (none a not)
        ∙ one_in k (a + 1) n (omega (arith, from, not)) (omega (arith, to)) none
  ]

-- A call that waits at the end of a link waits nowhere else.
use Rattle.seam_law_bounds.proofs.Prelude.{◌≡◌, ℕ, Bool, true, false, ◌==◌, ◌&&◌, List, [], ◌∷◌, ◌++◌, Option, None, Some, refl, sym, ap}
use Rattle.seam_law_bounds.proofs.Prelude.{◌∙◌, inl, inr, AllByRecursion, cases_eq, Call as CallData, Msg, Flow, letters_of, more_letter}
use Rattle.seam_law_bounds.proofs.Prelude.{TokenPlace, In, On, Sole, of_number, Mail, Item, packed, bears, Has, kept_if, is_from}
use Rattle.seam_law_bounds.proofs.Prelude.{cell_order_from, cell_post, cell_mail, as_sender, is_numbered, letters_of-append, both}
use Rattle.seam_law_flow.specs.Prelude.{keeps}
use Rattle.seam_law_flow.specs.Prelude.{held_in, WaitsOnce}
use Rattle.seam_entity.specs.declared.message.Msg.TheVariants.{Call}

nil_before : {A : Type 0} (xs : List A) (y r : A) → xs ++ y ∷ [] ≡ r ∷ [] → xs ≡ []
nil_before [] y r h = refl
nil_before (x ∷ []) y r h = cc
nil_before (x ∷ z ∷ zs) y r h = cc

not_nil : {A : Type 0} (xs : List A) (y : A) → xs ++ y ∷ [] ≡ [] → ⊥
not_nil [] y h = cc
not_nil (x ∷ xs) y h = cc

packed_nil : {A : Type 0} (xs : List A) → packed xs ≡ None → xs ≡ []
packed_nil [] h = refl
packed_nil (x ∷ xs) h = cc

left_nil : {A : Type 0} (xs ys : List A) → xs ++ ys ≡ [] → xs ≡ []
left_nil [] ys h = refl
left_nil (x ∷ xs) ys h = cc

module _ (s n : ℕ) where
  -- the call among a node's orders
  abbrev pub stored : Has → List CallData
  stored h = letters_of (of_number n) (letters_of (cell_order_from s) h.base.orders)

  abbrev pub AreOthers : List Msg → Type 0
  AreOthers ms = AllByRecursion (λ m. is_numbered s n m ≡ false) ms

  abbrev tokens : List (Mail CallData) → List (List CallData)
  tokens ls = letters_of (bears n) ls

  abbrev in_mail : List Msg → List (List CallData)
  in_mail ms = tokens (letters_of (cell_mail s) ms)

  rest_by : (o : Option (List CallData)) (ls : List (List CallData)) → more_letter o ls ≡ [] → ls ≡ []
  rest_by None ls h = h
  rest_by (Some x) ls h = cc

  rest_of : (o : Option (Mail CallData)) (ms : List Msg) → tokens (more_letter o (letters_of (cell_mail s) ms)) ≡ [] → in_mail ms ≡ []
  rest_of None ms h = h
  rest_of (Some m) ms h = rest_by (bears n m) (in_mail ms) h

  by_number : (c : CallData) (b : Bool) (ls : List (List CallData)) →
      more_letter (packed (more_letter (kept_if b c) [])) ls ≡ [] → b ≡ false
  by_number c true ls h = cc
  by_number c false ls h = refl

  by_sender : (c : CallData) (ls : List (Mail CallData)) (a : Bool) → tokens (more_letter (kept_if a (Item c.number c)) ls) ≡ [] →
      (a && (c.number == n)) ≡ false
  by_sender c ls true h = by_number c (c.number == n) (tokens ls) h
  by_sender c ls false h = refl

  head_other : (m : Msg) (ms : List Msg) → in_mail (m ∷ ms) ≡ [] → is_numbered s n m ≡ false
  head_other (Call c) ms h = by_sender c (letters_of (cell_mail s) ms) (is_from s c) h
  head_other _ ms h = refl

  others_in : (ms : List Msg) → in_mail ms ≡ [] → AreOthers ms
  others_in [] h = tt
  others_in (m ∷ ms) h = (head_other m ms h, others_in ms (rest_of (cell_mail s m) ms h))

  seen_call : (c : CallData) → is_numbered s n (Call c) ≡ true → in_mail (Call c ∷ []) ≡ (c ∷ []) ∷ []
  seen_call c h =
      let p = both (is_from s c) (c.number == n) h in
      ap (λ a. tokens (more_letter (kept_if a (Item c.number c)) [])) p.0
      ∙ ap (λ b. more_letter (packed (more_letter (kept_if b c) [])) []) p.1

  seen_last : (l : List Msg) (c : CallData) → is_numbered s n (Call c) ≡ true → in_mail (l ++ Call c ∷ []) ≡ in_mail l ++ (c ∷ []) ∷ []
  seen_last l c h =
      ap tokens (letters_of-append (cell_mail s) l (Call c ∷ []))
      ∙ (letters_of-append (bears n) (letters_of (cell_mail s) l) (letters_of (cell_mail s) (Call c ∷ []))
      ∙ ap (λ x. in_mail l ++ x) (seen_call c h))

  -- an order of that call is seen
  pub stored_first : (c : CallData) (os : List (ℕ × CallData)) → is_numbered s n (Call c) ≡ true →
      letters_of (of_number n) (more_letter (kept_if (is_from s c) (c.number, c)) os) ≡ [] → ⊥
  stored_first c os h none =
      let p = both (is_from s c) (c.number == n) h in
      let a = ap (λ b. letters_of (of_number n) (more_letter (kept_if b (c.number, c)) os)) p.0 in
      let d = ap (λ b. more_letter (kept_if b c) (letters_of (of_number n) os)) p.1 in
      let z = sym none ∙ (a ∙ d) in
      cc

  -- none of the other letters is the call, and no node has it among its orders
  pub record IsAlone (w : Flow Has Msg) (k j : ℕ) (l : List Msg) : Type 0 where
    pub before : AreOthers l
    pub others : (x y : ℕ) → (x ≡ k → y ≡ j → ⊥) → AreOthers (w.mail x y)
    pub orders : (q : ℕ) → stored (w.slot q) ≡ []

  module _ (w : Flow Has Msg) (k j : ℕ) (l : List Msg) (c : CallData) (is : is_numbered s n (Call c) ≡ true)
      (at : w.mail k j ≡ l ++ Call c ∷ []) where
    seen : in_mail (w.mail k j) ≡ in_mail l ++ (c ∷ []) ∷ []
    seen = ap in_mail at ∙ seen_last l c is

    not_empty : in_mail (w.mail k j) ≡ [] → ⊥
    not_empty none = not_nil (in_mail l) (c ∷ []) (sym seen ∙ none)

    alone_at : (u : CallData) (p : TokenPlace) → Sole (keeps n) (bears n) (as_sender s w) p (u ∷ []) → IsAlone w k j l
    alone_at u (In q) h = absurd (not_empty (h.mail k j))
    alone_at u (On a b) h = elim (cases_eq k a) [
      | inl ka ↦ elim (cases_eq j b) [
        | inl jb ↦
            let here : in_mail (w.mail k j) ≡ (u ∷ []) ∷ [] =
            ap (λ x. in_mail (w.mail x j)) ka ∙ (ap (λ y. in_mail (w.mail a y)) jb ∙ h.here) in
            record {
              before = others_in l (nil_before (in_mail l) (c ∷ []) (u ∷ []) (sym seen ∙ here));
              others = λ x y m. others_in (w.mail x y) (h.others x y (λ xa yb. m (xa ∙ sym ka) (yb ∙ sym jb)));
              orders = λ q.
                  left_nil (stored (w.slot q)) (held_in n (cell_post s (w.slot q)).desk)
                  (packed_nil (stored (w.slot q) ++ held_in n (cell_post s (w.slot q)).desk) (h.slots q));
            }
        | inr m ↦ absurd (not_empty (h.others k j (λ x y. m y)))
      ]
      | inr m ↦ absurd (not_empty (h.others k j (λ x y. m x)))
    ]

    pub alone_by : (o : Option CallData) → WaitsOnce (as_sender s w) n o → IsAlone w k j l
    alone_by None h = absurd (not_empty (h.mail k j))
    alone_by (Some u) h = alone_at u h.place h.sole

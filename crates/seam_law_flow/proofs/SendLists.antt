-- The items that a step sends, as one node gets them and as one entity sees them.
use Rattle.std.proofs.Common.{◌≡◌, ℕ, zero, suc, ◌+◌, ◌<◌, ◌≤◌, Bool, true, false, cond, eqb, List, [], ◌∷◌, ◌++◌, map, Option, None, Some}
use Rattle.std.proofs.Common.{refl, sym, ap, ◌∙◌, arith, inl, inr}
use Rattle.std.specs.Prelude.{filter_map}
use Rattle.std.specs.List.{range_with_len, cons_option}
use Rattle.std.proofs.lemmas.Bool.{cases_eq, eq-eqb, ne_eqb}
use Rattle.std.proofs.lemmas.List.{append-nil}
use Rattle.std.proofs.lemmas.List.Elements.{All-nil, All-append, All-map}
use Rattle.seam_machine.specs.Sends.{items_to, spread, AllBelow}
use Rattle.seam_machine.proofs.SendLemmas.{items_to-append}
use Rattle.seam_law_flow.specs.Prelude.{letters_of, more_letter, HasOwnTargets, item_of, IsSilent}
use Rattle.seam_law_flow.proofs.Bridge.{letters_of-append}

module _ {M : Type 0} where
  -- one item, at its target and elsewhere
  pub one_here : (to : ℕ) (m : M) → items_to to ((to, m) ∷ []) ≡ m ∷ []
  one_here to m = ap (λ t. cond t (m ∷ []) []) (eq-eqb to to refl)

  pub one_there : (to j : ℕ) (m : M) → (j ≡ to → ⊥) → items_to j ((to, m) ∷ []) ≡ []
  one_there to j m n = ap (λ t. cond t (m ∷ []) []) (ne_eqb to j (λ e. n (sym e)))

  tagged_by : (n j : ℕ) (m : M) (ms : List M) (t : Bool) → eqb n j ≡ t → items_to j (map (λ x. (n, x)) ms) ≡ cond t ms [] →
      cond t (m ∷ items_to j (map (λ x. (n, x)) ms)) (items_to j (map (λ x. (n, x)) ms)) ≡ cond t (m ∷ ms) []
  tagged_by n j m ms true e h = ap (λ x. m ∷ x) h
  tagged_by n j m ms false e h = h

  nothing : (t : Bool) → [] ≡ cond {A = List M} t [] []
  nothing true = refl
  nothing false = refl

  items_to_tagged : (n j : ℕ) (ms : List M) → items_to j (map (λ x. (n, x)) ms) ≡ cond (eqb n j) ms []
  items_to_tagged n j [] = nothing (eqb n j)
  items_to_tagged n j (m ∷ ms) = tagged_by n j m ms (eqb n j) refl (items_to_tagged n j ms)

  pub spread_past : (n j : ℕ) (f : ℕ → List M) → n ≤ j → items_to j (spread n f) ≡ []
  spread_past zero j f h = refl
  spread_past (suc n) j f h =
      items_to-append j (spread n f) (map (λ x. (n, x)) (f n))
      ∙ (ap (λ x. x ++ items_to j (map (λ x. (n, x)) (f n))) (spread_past n j f (omega (arith, h)))
      ∙ (items_to_tagged n j (f n) ∙ ap (λ t. cond t (f n) []) (ne_eqb n j (λ e. omega (arith, e, h)))))

  spread_last : (n j : ℕ) (f : ℕ → List M) → j ≡ n → items_to j (spread n f) ++ cond (eqb n j) (f n) [] ≡ f j
  spread_last n j f e = rw (eq-eqb n j (sym e), spread_past n j f (omega (arith, e))) (ap f (sym e))

  spread_more : (n j : ℕ) (f : ℕ → List M) → (j ≡ n → ⊥) → items_to j (spread n f) ≡ f j →
      items_to j (spread n f) ++ cond (eqb n j) (f n) [] ≡ f j
  spread_more n j f ne h = rw (ne_eqb n j (λ e. ne (sym e))) (append-nil (items_to j (spread n f)) ∙ h)

  -- what is spread over the nodes comes to each of them
  pub items_to-spread : (n j : ℕ) (f : ℕ → List M) → j < n → items_to j (spread n f) ≡ f j
  items_to-spread zero j f h = absurd (omega (arith, h))
  items_to-spread (suc n) j f h =
      items_to-append j (spread n f) (map (λ x. (n, x)) (f n))
      ∙ (ap (λ x. items_to j (spread n f) ++ x) (items_to_tagged n j (f n)) ∙ elim (cases_eq j n) [
        | inl e ↦ spread_last n j f e
        | inr ne ↦ spread_more n j f ne (items_to-spread n j f (let lt : j < n = grind (arith, h, ne) in lt))
      ])

  pub spread_below : (n p : ℕ) (f : ℕ → List M) → n ≤ p → AllBelow p (spread n f)
  spread_below zero p f h = All-nil (λ q. q.0 < p)
  spread_below (suc n) p f h =
      All-append (λ q. q.0 < p) (spread n f) (map (λ x. (n, x)) (f n)) (spread_below n p f (omega (arith, h)))
      (All-map (λ q. q.0 < p) (λ x. (n, x)) (f n) (λ k d lt. omega (arith, h)))

  -- of a range of nodes, each gets what is chosen for it
  chosen_cons : (j : ℕ) (o : Option (ℕ × M)) (ps : List (ℕ × M)) (a : ℕ) → ((p : ℕ × M) → o ≡ Some p → p.0 ≡ a) →
      items_to j (cons_option o ps) ≡ cond (eqb a j) (item_of o) [] ++ items_to j ps
  chosen_cons j None ps a own = ap (λ l. l ++ items_to j ps) (nothing (eqb a j))
  chosen_cons j (Some p) ps a own = rw (own p refl) (chosen_by (eqb a j) p.1 (items_to j ps))
    where
      chosen_by : (t : Bool) (m : M) (ms : List M) → cond t (m ∷ ms) ms ≡ cond t (m ∷ []) [] ++ ms
      chosen_by true m ms = refl
      chosen_by false m ms = refl

  pub chosen_before : (f : ℕ → Option (ℕ × M)) (a n j : ℕ) → HasOwnTargets f → j < a → items_to j (filter_map f (range_with_len a n)) ≡ []
  chosen_before f a zero j own h = refl
  chosen_before f a (suc n) j own h =
      chosen_cons j (f a) (filter_map f (range_with_len (a + 1) n)) a (own a)
      ∙ rw (ne_eqb a j (λ e. omega (arith, e, h))) (chosen_before f (a + 1) n j own (omega (arith, h)))

  pub chosen_past : (f : ℕ → Option (ℕ × M)) (a n j : ℕ) → HasOwnTargets f → a + n ≤ j → items_to j (filter_map f (range_with_len a n)) ≡ []
  chosen_past f a zero j own h = refl
  chosen_past f a (suc n) j own h =
      chosen_cons j (f a) (filter_map f (range_with_len (a + 1) n)) a (own a)
      ∙ rw (ne_eqb a j (λ e. omega (arith, e, h))) (chosen_past f (a + 1) n j own (omega (arith, h)))

  pub chosen_at : (f : ℕ → Option (ℕ × M)) (a n j : ℕ) → HasOwnTargets f → a ≤ j → j < a + n →
      items_to j (filter_map f (range_with_len a n)) ≡ item_of (f j)
  chosen_at f a zero j own h lt = absurd (omega (arith, h, lt))
  chosen_at f a (suc n) j own h lt =
      chosen_cons j (f a) (filter_map f (range_with_len (a + 1) n)) a (own a) ∙ elim (cases_eq a j) [
        | inl e ↦ rw (eq-eqb a j e, chosen_before f (a + 1) n j own (omega (arith, e))) (append-nil (item_of (f a))
            ∙ ap (λ k. item_of (f k)) e)
        | inr ne ↦ rw (ne_eqb a j ne) (chosen_at f (a + 1) n j own (let le : a + 1 ≤ j = grind (arith, h, ne) in le) (omega (arith, lt)))
      ]

module _ {T L : Type 0} (mine : T → Option L) where
  -- what a list and another after it have of the entity
  pub sees-append : (j : ℕ) (ps qs : List (ℕ × T)) →
      letters_of mine (items_to j (ps ++ qs)) ≡ letters_of mine (items_to j ps) ++ letters_of mine (items_to j qs)
  sees-append j ps qs = ap (letters_of mine) (items_to-append j ps qs) ∙ letters_of-append mine (items_to j ps) (items_to j qs)

  pub sees_one_here : (to : ℕ) (m : T) → letters_of mine (items_to to ((to, m) ∷ [])) ≡ more_letter (mine m) []
  sees_one_here to m = ap (letters_of mine) (one_here to m)

  pub sees_one_there : (to j : ℕ) (m : T) → (j ≡ to → ⊥) → letters_of mine (items_to j ((to, m) ∷ [])) ≡ []
  sees_one_there to j m n = ap (letters_of mine) (one_there to j m n)

  pub sees_one : (to j : ℕ) (m : T) → letters_of mine (items_to j ((to, m) ∷ [])) ≡ cond (eqb j to) (more_letter (mine m) []) []
  sees_one to j m = elim (cases_eq j to) [
    | inl e ↦ rw (e, eq-eqb to to refl) refl
    | inr n ↦ rw (ne_eqb j to n) (sees_one_there to j m n)
  ]

  silent_by : (t : Bool) (m : T) (ms : List T) → mine m ≡ None → letters_of mine (cond t (m ∷ ms) ms) ≡ letters_of mine ms
  silent_by true m ms h = ap (λ o. more_letter o (letters_of mine ms)) h
  silent_by false m ms h = refl

  -- items about others have nothing of it
  pub sees_none : (j : ℕ) (ps : List (ℕ × T)) → IsSilent mine ps → letters_of mine (items_to j ps) ≡ []
  sees_none j [] h = refl
  sees_none j (p ∷ ps) h = silent_by (eqb p.0 j) p.1 (items_to j ps) h.0 ∙ sees_none j ps h.1

  pub sees_after_silent : (j : ℕ) (ps qs : List (ℕ × T)) → IsSilent mine ps →
      letters_of mine (items_to j (ps ++ qs)) ≡ letters_of mine (items_to j qs)
  sees_after_silent j ps qs h = sees-append j ps qs ∙ ap (λ l. l ++ letters_of mine (items_to j qs)) (sees_none j ps h)

  pub sees_before_silent : (j : ℕ) (ps qs : List (ℕ × T)) → IsSilent mine qs →
      letters_of mine (items_to j (ps ++ qs)) ≡ letters_of mine (items_to j ps)
  sees_before_silent j ps qs h =
      sees-append j ps qs ∙ (ap (λ l. letters_of mine (items_to j ps) ++ l) (sees_none j qs h)
      ∙ append-nil (letters_of mine (items_to j ps)))

  silent_cons : (o : Option (ℕ × T)) (ps : List (ℕ × T)) → ((p : ℕ × T) → o ≡ Some p → mine p.1 ≡ None) → IsSilent mine ps →
      IsSilent mine (cons_option o ps)
  silent_cons None ps h s = s
  silent_cons (Some p) ps h s = (h p refl, s)

  pub silent_chosen : (f : ℕ → Option (ℕ × T)) → ((k : ℕ) (p : ℕ × T) → f k ≡ Some p → mine p.1 ≡ None) → (ks : List ℕ) →
      IsSilent mine (filter_map f ks)
  silent_chosen f h [] = tt
  silent_chosen f h (k ∷ ks) = silent_cons (f k) (filter_map f ks) (h k) (silent_chosen f h ks)

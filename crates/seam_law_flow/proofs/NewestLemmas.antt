-- The newest entry of a register, as nodes make steps.
use Rattle.std.proofs.Common.{◌≡◌, ℕ, ◌<◌, ◌⊎◌, Bool, true, false, cond, ltb, List, [], ◌∷◌, ◌++◌, Option, None, Some, refl, sym, ap, ◌∙◌}
use Rattle.std.proofs.Common.{subst, arith, inl, inr}
use Rattle.std.proofs.lemmas.Bool.{cases_eq}
use Rattle.std.proofs.lemmas.Bool.Decides.{nat_tests}
use Rattle.seam_law_flow.specs.Prelude.{Flow, Goes, comes, IsHead, NotAbove, OfEntry, AllBring, Has, entry_in, greater_entry, Newest}
use Rattle.seam_law_flow.proofs.Following.{Rest, whole, tail, More, own, none, change, all_append}

module _ {V : Type 0} where
  taken_not_above : (key : ℕ) (c : V) (e p : ℕ × V) (t : Bool) → NotAbove key c e → NotAbove key c p → NotAbove key c (cond t p e)
  taken_not_above key c e p true h q = q
  taken_not_above key c e p false h q = h

  pub not_above-taken : (key : ℕ) (c : V) (e : ℕ × V) (o : Option (ℕ × V)) → NotAbove key c e → OfEntry (NotAbove key c) o →
      NotAbove key c (greater_entry e o)
  not_above-taken key c e None h q = h
  not_above-taken key c e (Some p) h q = taken_not_above key c e p (ltb e.0 p.0) h q

  -- the newest entry in the register stays there
  stays_by : (key : ℕ) (c : V) (e p : ℕ × V) (t : Bool) → ltb e.0 p.0 ≡ t → e ≡ (key, c) → NotAbove key c p → cond t p e ≡ (key, c)
  stays_by key c e p false u h q = h
  stays_by key c e p true u h (inl lt) =
      let up : e.0 < p.0 = grind (arith, nat_tests) in
      let at = ap (λ x. x.0) h in
      absurd (omega (arith, up, at, lt))
  stays_by key c e p true u h (inr q) =
      let up : e.0 < p.0 = grind (arith, nat_tests) in
      let at = ap (λ x. x.0) h in
      let same = q.0 in
      absurd (omega (arith, up, at, same))

  pub taken_stays : (key : ℕ) (c : V) (e : ℕ × V) (o : Option (ℕ × V)) → e ≡ (key, c) → OfEntry (NotAbove key c) o →
      greater_entry e o ≡ (key, c)
  taken_stays key c e None h q = h
  taken_stays key c e (Some p) h q = stays_by key c e p (ltb e.0 p.0) refl h q

  -- the newest entry comes, and is there then
  comes_by : (key : ℕ) (c : V) (e : ℕ × V) (t : Bool) → ltb e.0 key ≡ t → NotAbove key c e → cond t (key, c) e ≡ (key, c)
  comes_by key c e true u h = refl
  comes_by key c e false u (inl lt) = absurd (grind (arith, nat_tests))
  comes_by key c e false u (inr q) = ap (λ n. (n, e.1)) q.0 ∙ ap (λ x. (key, x)) q.1

  pub taken_comes : (key : ℕ) (c : V) (e : ℕ × V) → NotAbove key c e → greater_entry e (Some (key, c)) ≡ (key, c)
  taken_comes key c e h = comes_by key c e (ltb e.0 key) refl h

  pub not_above_rises : (key next : ℕ) (c d : V) (p : ℕ × V) → key < next → NotAbove key c p → NotAbove next d p
  not_above_rises key next c d p lt (inl h) = inl (omega (arith, h, lt))
  not_above_rises key next c d p lt (inr q) = let e = q.0 in inl (omega (arith, e, lt))

  rises_option : (key next : ℕ) (c d : V) (o : Option (ℕ × V)) → key < next → OfEntry (NotAbove key c) o → OfEntry (NotAbove next d) o
  rises_option key next c d None lt h = tt
  rises_option key next c d (Some p) lt h = not_above_rises key next c d p lt h

  module _ {L : Type 0} (brings : L → Option (ℕ × V)) where
    pub all_rise : (key next : ℕ) (c d : V) (ls : List L) → key < next → AllBring brings (NotAbove key c) ls →
        AllBring brings (NotAbove next d) ls
    all_rise key next c d [] lt h = tt
    all_rise key next c d (l ∷ ls) lt h = (rises_option key next c d (brings l) lt h.0, all_rise key next c d ls lt h.1)

    has_left : (p : ℕ × V) (xs ys : List L) → Has brings p xs → Has brings p (xs ++ ys)
    has_left p [] ys h = absurd h
    has_left p (x ∷ xs) ys (inl h) = inl h
    has_left p (x ∷ xs) ys (inr h) = inr (has_left p xs ys h)

    has_right : (p : ℕ × V) (xs ys : List L) → Has brings p ys → Has brings p (xs ++ ys)
    has_right p [] ys h = h
    has_right p (x ∷ xs) ys h = inr (has_right p xs ys h)

    module _ {S : Type 0} (entry : S → ℕ × V) where
      rest_bring : (Q : ℕ × V → Type 0) (w : Flow S L) (j : ℕ) (input : Option (ℕ × L)) (x k : ℕ) (l : List L) →
          AllBring brings Q (w.mail x k) → Rest w j input x k l → AllBring brings Q l
      rest_bring Q w j input x k l h (whole e n) = rw e h
      rest_bring Q w j input x k l h (tail p i e f s) = (subst (AllBring brings Q) s h).1

      more_bring : (Q : ℕ × V → Type 0) (out : ℕ → List L) (j x k : ℕ) (m : List L) → AllBring brings Q (out k) → More out j x k m →
          AllBring brings Q m
      more_bring Q out j x k m h (own e f) = rw f h
      more_bring Q out j x k m h (none n f) = rw f tt

      -- what came was on its way
      entry_came : (Q : ℕ × V → Type 0) (w : Flow S L) (j : ℕ) (input : Option (ℕ × L)) (rest : List L) → IsHead w.mail j input rest →
          ((x : ℕ) → AllBring brings Q (w.mail x j)) → OfEntry Q (entry_in brings (comes input))
      entry_came Q w j None rest h all = tt
      entry_came Q w j (Some p) rest h all = (subst (AllBring brings Q) h (all p.0)).0

      abbrev IsThere : ℕ → V → Flow S L → ℕ → Type 0
      IsThere key c v k = (entry (v.slot k) ≡ (key, c)) ⊎ ((a : ℕ) × Has brings (key, c) (v.mail a k))

      rests_by : (w : Flow S L) (k : ℕ) (key : ℕ) (c : V) → ((x : ℕ) → w.mail x k ≡ []) → IsThere key c w k → entry (w.slot k) ≡ (key, c)
      rests_by w k key c empty (inl e) = e
      rests_by w k key c empty (inr h) = absurd (subst (Has brings (key, c)) (empty h.0) h.1)

      -- with nothing on its way, the register has the newest entry
      pub newest_rests : (w : Flow S L) (k key : ℕ) (c : V) → Newest entry brings w k key c → ((x : ℕ) → w.mail x k ≡ []) →
          entry (w.slot k) ≡ (key, c)
      newest_rests w k key c n empty = rests_by w k key c empty n.found

      module _ {Moves : ℕ → S → Option L → S → (ℕ → List L) → Type 0} where
        away_goes : (Q : ℕ × V → Type 0) {w v : Flow S L} (g : Goes Moves w v) (k : ℕ) → ((x : ℕ) → AllBring brings Q (w.mail x k)) →
            AllBring brings Q (g.out k) → (x : ℕ) → AllBring brings Q (v.mail x k)
        away_goes Q {w} {v} g k h new x =
            let c = change g x k in
            rw c.is (all_append (λ l. OfEntry Q (brings l)) c.l c.m (rest_bring Q w g.k g.input x k c.l (h x) c.rest)
            (more_bring Q g.out g.k x k c.m new c.more))

        abbrev KeepsGreater : (w v : Flow S L) → Goes Moves w v → ℕ → Type 0
        KeepsGreater w v g k = g.k ≡ k → entry (v.slot k) ≡ greater_entry (entry (w.slot k)) (entry_in brings (comes g.input))

        came_at : {w v : Flow S L} (g : Goes Moves w v) (k : ℕ) (Q : ℕ × V → Type 0) → g.k ≡ k →
            ((x : ℕ) → AllBring brings Q (w.mail x k)) → OfEntry Q (entry_in brings (comes g.input))
        came_at {w} {v} g k Q e all =
            entry_came Q w g.k g.input g.rest g.head (λ x. subst (λ j. AllBring brings Q (w.mail x j)) (sym e) (all x))

        here_stays : {w v : Flow S L} (g : Goes Moves w v) (k key : ℕ) (c : V) (n : Newest entry brings w k key c) → KeepsGreater w v g k →
            NotAbove key c (entry (v.slot k))
        here_stays {w} {v} g k key c n takes = elim (cases_eq g.k k) [
          | inl e ↦ subst (NotAbove key c) (sym (takes e))
              (not_above-taken key c (entry (w.slot k)) (entry_in brings (comes g.input)) n.here (came_at g k (NotAbove key c) e n.away))
          | inr ne ↦ subst (λ s. NotAbove key c (entry s)) (sym (g.others k (λ e. ne (sym e)))) n.here
        ]

        in_register : {w v : Flow S L} (g : Goes Moves w v) (k key : ℕ) (c : V) (n : Newest entry brings w k key c) → KeepsGreater w v g k →
            entry (w.slot k) ≡ (key, c) → IsThere key c v k
        in_register {w} {v} g k key c n takes h = elim (cases_eq g.k k) [
          | inl e ↦ inl (takes e ∙ taken_stays key c (entry (w.slot k)) (entry_in brings (comes g.input)) h
              (came_at g k (NotAbove key c) e n.away))
          | inr ne ↦ inl (ap entry (g.others k (λ e. ne (sym e))) ∙ h)
        ]

        -- the first letter brings it, or the rest has it
        first_or_rest : {w v : Flow S L} (g : Goes Moves w v) (k key : ℕ) (c : V) (n : Newest entry brings w k key c) →
            KeepsGreater w v g k → (a : ℕ) (l m : List L) (p : ℕ × L) → v.mail a k ≡ l ++ m → g.input ≡ Some p → k ≡ g.k →
            Has brings (key, c) (p.1 ∷ l) → IsThere key c v k
        first_or_rest {w} {v} g k key c n takes a l m p is i f (inl b) =
            let came : entry_in brings (comes g.input) ≡ Some (key, c) = ap (λ o. entry_in brings (comes o)) i ∙ b in
            inl (takes (sym f) ∙ (ap (greater_entry (entry (w.slot k))) came ∙ taken_comes key c (entry (w.slot k)) n.here))
        first_or_rest {w} {v} g k key c n takes a l m p is i f (inr h) =
            inr (a, subst (Has brings (key, c)) (sym is) (has_left (key, c) l m h))

        on_its_way : {w v : Flow S L} (g : Goes Moves w v) (k key : ℕ) (c : V) (n : Newest entry brings w k key c) → KeepsGreater w v g k →
            (a : ℕ) → Has brings (key, c) (w.mail a k) → (l m : List L) → v.mail a k ≡ l ++ m → Rest w g.k g.input a k l → IsThere key c v k
        on_its_way {w} {v} g k key c n takes a h l m is (whole e ne) =
            inr (a, subst (Has brings (key, c)) (sym is) (has_left (key, c) l m (subst (Has brings (key, c)) (sym e) h)))
        on_its_way {w} {v} g k key c n takes a h l m is (tail p i e f s) =
            first_or_rest g k key c n takes a l m p is i f (subst (Has brings (key, c)) s h)

        there_goes : {w v : Flow S L} (g : Goes Moves w v) (k key : ℕ) (c : V) (n : Newest entry brings w k key c) → KeepsGreater w v g k →
            IsThere key c w k → IsThere key c v k
        there_goes {w} {v} g k key c n takes (inl h) = in_register g k key c n takes h
        there_goes {w} {v} g k key c n takes (inr h) = let x = change g h.0 k in on_its_way g k key c n takes h.0 h.1 x.l x.m x.is x.rest

        -- where the register keeps what is greater, and nothing newer is sent, the newest entry stays what it is
        pub newest_stays : {w v : Flow S L} (g : Goes Moves w v) (k key : ℕ) (c : V) (n : Newest entry brings w k key c) →
            (g.k ≡ k → entry (v.slot k) ≡ greater_entry (entry (w.slot k)) (entry_in brings (comes g.input))) →
            AllBring brings (NotAbove key c) (g.out k) → Newest entry brings v k key c
        newest_stays {w} {v} g k key c n takes new = record {
          here = here_stays g k key c n takes;
          away = away_goes (NotAbove key c) g k n.away new;
          found = there_goes g k key c n takes n.found;
        }

        sent_there : {w v : Flow S L} (g : Goes Moves w v) (k : ℕ) (next : ℕ) (d : V) (l m : List L) → v.mail g.k k ≡ l ++ m →
            More g.out g.k g.k k m → Has brings (next, d) (g.out k) → Has brings (next, d) (v.mail g.k k)
        sent_there {w} {v} g k next d l m is (own e f) h =
            subst (Has brings (next, d)) (sym is) (has_right (next, d) l m (subst (Has brings (next, d)) (sym f) h))
        sent_there {w} {v} g k next d l m is (none n f) h = absurd (n refl)

        rises_there : {w v : Flow S L} (g : Goes Moves w v) (k : ℕ) (next : ℕ) (d : V) →
            (entry (v.slot k) ≡ (next, d)) ⊎ Has brings (next, d) (g.out k) → IsThere next d v k
        rises_there {w} {v} g k next d (inl e) = inl e
        rises_there {w} {v} g k next d (inr h) = let x = change g g.k k in inr (g.k, sent_there g k next d x.l x.m x.is x.more h)

        -- where a newer entry is sent or written, it is the newest one then
        pub newest_rises : {w v : Flow S L} (g : Goes Moves w v) (k key next : ℕ) (c d : V) (n : Newest entry brings w k key c) →
            key < next → (g.k ≡ k → NotAbove next d (entry (v.slot k))) → AllBring brings (NotAbove next d) (g.out k) →
            (entry (v.slot k) ≡ (next, d)) ⊎ Has brings (next, d) (g.out k) → Newest entry brings v k next d
        newest_rises {w} {v} g k key next c d n lt own_entry new st = record {
          here = elim (cases_eq g.k k) [
            | inl e ↦ own_entry e
            | inr ne ↦ subst (λ s. NotAbove next d (entry s)) (sym (g.others k (λ e. ne (sym e))))
                (not_above_rises key next c d (entry (w.slot k)) lt n.here)
          ];
          away = away_goes (NotAbove next d) g k (λ x. all_rise key next c d (w.mail x k) lt (n.away x)) new;
          found = rises_there g k next d st;
        }

-- The one token stays the one: where it is and what it is after a step.
use Rattle.std.proofs.Common.{◌≡◌, ℕ, List, [], ◌∷◌, ◌++◌, Option, None, Some, refl, sym, ap, ◌∙◌, subst, inl, inr}
use Rattle.std.proofs.lemmas.Bool.{cases_eq}
use Rattle.std.proofs.lemmas.List.{append-nil}
use Rattle.seam_law_flow.specs.Flows.{Flow, Goes, comes, IsHead, more_letter, letters_of}
use Rattle.seam_law_flow.specs.Tokens.{carried_in, TokenPlace, In, On, SoleIn, SoleOn, Sole, SendsNone, SendsOne, Turned, Handles, still}
use Rattle.seam_law_flow.specs.Tokens.{turns, lands, leaves, relays, place_after, token_after, HasOne}
use Rattle.seam_law_flow.proofs.Bridge.{letters_of-append}
use Rattle.seam_law_flow.proofs.Following.{Rest, whole, tail, More, own, none, change}

module _ {R : Type 0} (Acts : R → R → Type 0) where
  turned_of : (x r q : R) → r ≡ x → Turned Acts r q → Turned Acts x q
  turned_of x r q e (inl h) = inl (h ∙ e)
  turned_of x r q e (inr h) = inr (subst (λ y. Acts y q) e h)

  fact_of : (P : R → Type 0) → ((r q : R) → P r → Acts r q → P q) → (r q : R) → P r → Turned Acts r q → P q
  fact_of P keeps r q h (inl e) = subst P (sym e) h
  fact_of P keeps r q h (inr a) = keeps r q h a

module _ {S L R : Type 0} (held : S → Option R) (carried : L → Option R) where
  abbrev pub tokens : List L → List R
  tokens ls = letters_of carried ls

  pub one_more : (l : L) (ls : List L) (o : Option R) → carried l ≡ o → tokens (l ∷ ls) ≡ more_letter o (tokens ls)
  one_more l ls o e = ap (λ x. more_letter x (tokens ls)) e

  pub rest_tokens : (w : Flow S L) (k : ℕ) (i : Option (ℕ × L)) (x y : ℕ) (l : List L) → carried_in carried (comes i) ≡ None →
      Rest w k i x y l → tokens l ≡ tokens (w.mail x y)
  rest_tokens w k i x y l nh (whole e n) = ap tokens e
  rest_tokens w k i x y l nh (tail p e f g s) =
      let plain : carried p.1 ≡ None = subst (λ j. carried_in carried (comes j) ≡ None) e nh in
      sym (ap tokens s ∙ one_more p.1 l None plain)

  pub more_tokens : (out : ℕ → List L) (k x y : ℕ) (m : List L) → SendsNone carried out → More out k x y m → tokens m ≡ []
  more_tokens out k x y m h (own e f) = ap tokens f ∙ h y
  more_tokens out k x y m h (none n f) = ap tokens f

  pub joined : (l m : List L) (h : List R) → tokens l ≡ h → tokens m ≡ [] → tokens (l ++ m) ≡ h
  joined l m h e f = letters_of-append carried l m ∙ (ap (λ n. tokens l ++ n) f ∙ (append-nil (tokens l) ∙ e))

  same_one : (o : Option R) (r s : R) → o ≡ Some s → o ≡ Some r → s ≡ r
  same_one o r s a b = cc

  -- who has a token has the one
  pub sole_here : (w : Flow S L) (p : TokenPlace) (r s : R) (k : ℕ) → Sole held carried w p r → held (w.slot k) ≡ Some s → (p ≡ In k) ×
      (s ≡ r)
  sole_here w (In j) r s k h e = elim (cases_eq k j) [
    | inl f ↦ (ap In (sym f), same_one (held (w.slot k)) r s e (ap (λ x. held (w.slot x)) f ∙ h.here))
    | inr n ↦ let nh = h.others k n in cc
  ]
  sole_here w (On a b) r s k h e = let nh = h.slots k in cc

  pub first_is : (w : Flow S L) (k : ℕ) (i : Option (ℕ × L)) (rest : List L) (s : R) → IsHead w.mail k i rest →
      carried_in carried (comes i) ≡ Some s → (a : ℕ) × (l : L) × (i ≡ Some (a, l)) × (carried l ≡ Some s) × (w.mail a k ≡ l ∷ rest)
  first_is w k None rest s h e = cc
  first_is w k (Some p) rest s h e = (p.0, p.1, refl, e, h)

  pub sole_first : (w : Flow S L) (p : TokenPlace) (r s : R) (a k : ℕ) (l : L) (rest : List L) → Sole held carried w p r →
      carried l ≡ Some s →
      w.mail a k ≡ l ∷ rest → (p ≡ On a k) × (s ≡ r)
  sole_first w (In j) r s a k l rest h t e = let nh = h.mail a k in let yes = ap tokens e ∙ one_more l rest (Some s) t in cc
  sole_first w (On b c) r s a k l rest h t e = elim (cases_eq a b) [
    | inl f ↦ elim (cases_eq k c) [
      | inl m ↦
          let at : tokens (w.mail a k) ≡ r ∷ [] = rw (f, m) h.here in
          let yes = ap tokens e ∙ one_more l rest (Some s) t in
          (rw (f, m) refl, cc)
      | inr n ↦ let nh = h.others a k (λ x y. n y) in let yes = ap tokens e ∙ one_more l rest (Some s) t in cc
    ]
    | inr n ↦ let nh = h.others a k (λ x y. n x) in let yes = ap tokens e ∙ one_more l rest (Some s) t in cc
  ]

  pub sole_still : (w v : Flow S L) (p : TokenPlace) (r : R) → Sole held carried w p r → ((j : ℕ) → held (v.slot j) ≡ held (w.slot j)) →
      ((x y : ℕ) → tokens (v.mail x y) ≡ tokens (w.mail x y)) → Sole held carried v p r
  sole_still w v (In k) r h s m = record { here = s k ∙ h.here; others = λ j n. s j ∙ h.others j n; mail = λ x y. m x y ∙ h.mail x y }
  sole_still w v (On a b) r h s m = record { slots = λ j. s j ∙ h.slots j; here = m a b ∙ h.here; others = λ x y n. m x y ∙ h.others x y n }

  nil_of : (ls : List R) (r s : R) → r ∷ [] ≡ s ∷ ls → ls ≡ []
  nil_of ls r s e = cc

  pub landed_rest : (w : Flow S L) (k : ℕ) (i : Option (ℕ × L)) (a : ℕ) (l0 : L) (x s : R) (y z : ℕ) (l : List L) →
      SoleOn held carried w a k x → i ≡ Some (a, l0) → carried l0 ≡ Some s → Rest w k i y z l → tokens l ≡ []
  landed_rest w k i a l0 x s y z l h e t (whole f n) = ap tokens f ∙ h.others y z (λ p q. n (a, l0) e p q)
  landed_rest w k i a l0 x s y z l h e t (tail p f m n u) =
      let same : p ≡ (a, l0) = let g : Some p ≡ Some (a, l0) = sym f ∙ e in cc in
      let ya : y ≡ a = m ∙ ap (λ q. q.0) same in
      let one : tokens (w.mail y z) ≡ x ∷ [] = rw (ya, n) h.here in
      let letter : carried p.1 ≡ Some s = ap (λ q. carried q.1) same ∙ t in
      let two : tokens (w.mail y z) ≡ s ∷ tokens l = ap tokens u ∙ one_more p.1 l (Some s) letter in
      nil_of (tokens l) x s (sym one ∙ two)

  pub gone_more : (out : ℕ → List L) (k home x y : ℕ) (m : List L) → ((j : ℕ) → (j ≡ home → ⊥) → tokens (out j) ≡ []) →
      (x ≡ k → y ≡ home → ⊥) → More out k x y m → tokens m ≡ []
  gone_more out k home x y m h n (own e f) = ap tokens f ∙ h y (λ z. n e z)
  gone_more out k home x y m h n (none z f) = ap tokens f

  pub sent_more : (out : ℕ → List L) (k home : ℕ) (q : R) (m : List L) → tokens (out home) ≡ q ∷ [] → More out k k home m →
      tokens m ≡ q ∷ []
  sent_more out k home q m h (own e f) = ap tokens f ∙ h
  sent_more out k home q m h (none n f) = absurd (n refl)

  module _ {Moves : ℕ → S → Option L → S → (ℕ → List L) → Type 0} where
    pub same_mail : {w v : Flow S L} (g : Goes Moves w v) → carried_in carried (comes g.input) ≡ None → SendsNone carried g.out →
        (x y : ℕ) → tokens (v.mail x y) ≡ tokens (w.mail x y)
    same_mail {w} {v} g nh h x y =
        let c = change g x y in
        ap tokens c.is ∙ joined c.l c.m (tokens (w.mail x y)) (rest_tokens w g.k g.input x y c.l nh c.rest)
        (more_tokens g.out g.k x y c.m h c.more)

    pub same_held : {w v : Flow S L} (g : Goes Moves w v) → held (v.slot g.k) ≡ held (w.slot g.k) → (j : ℕ) →
        held (v.slot j) ≡ held (w.slot j)
    same_held {w} {v} g e j = elim (cases_eq j g.k) [ inl f ↦ rw f e | inr n ↦ ap held (g.others j n) ]

    sole_turned : {w v : Flow S L} (g : Goes Moves w v) (p : TokenPlace) (x r q : R) → Sole held carried w p x →
        held (w.slot g.k) ≡ Some r →
        held (v.slot g.k) ≡ Some q → carried_in carried (comes g.input) ≡ None → SendsNone carried g.out → Sole held carried v p q
    sole_turned {w} {v} g p x r q h e f nh o =
        let at = sole_here w p x r g.k h e in
        let old : SoleIn held carried w g.k x = subst (λ z. Sole held carried w z x) at.0 h in
        subst (λ z. Sole held carried v z q) (sym at.0) (record {
          here = f;
          others = λ j n. ap held (g.others j n) ∙ old.others j n;
          mail = λ a b. same_mail g nh o a b ∙ old.mail a b;
        })

    pub sole_landed : {w v : Flow S L} (g : Goes Moves w v) (p : TokenPlace) (x r q : R) → Sole held carried w p x →
        carried_in carried (comes g.input) ≡ Some r → held (v.slot g.k) ≡ Some q → SendsNone carried g.out → Sole held carried v (In g.k) q
    sole_landed {w} {v} g p x r q h e f o =
        let i = first_is w g.k g.input g.rest r g.head e in
        let at = sole_first w p x r i.0 g.k i.1 g.rest h i.3 i.4 in
        let old : SoleOn held carried w i.0 g.k x = subst (λ z. Sole held carried w z x) at.0 h in
        record {
          here = f;
          others = λ j n. ap held (g.others j n) ∙ old.slots j;
          mail = λ y z. let c = change g y z in
              ap tokens c.is ∙ joined c.l c.m [] (landed_rest w g.k g.input i.0 i.1 x r y z c.l old i.2 i.3 c.rest)
              (more_tokens g.out g.k y z c.m o c.more);
        }

    pub sole_left : {w v : Flow S L} (g : Goes Moves w v) (p : TokenPlace) (x r q : R) (to : ℕ) → Sole held carried w p x →
        held (w.slot g.k) ≡ Some r → held (v.slot g.k) ≡ None → carried_in carried (comes g.input) ≡ None → SendsOne carried g.out to q →
        Sole held carried v (On g.k to) q
    sole_left {w} {v} g p x r q to h e f nh o =
        let at = sole_here w p x r g.k h e in
        let old : SoleIn held carried w g.k x = subst (λ y. Sole held carried w y x) at.0 h in
        record {
          slots = λ j. elim (cases_eq j g.k) [ inl y ↦ rw y f | inr n ↦ ap held (g.others j n) ∙ old.others j n ];
          here =
              let c = change g g.k to in
              ap tokens c.is ∙ (letters_of-append carried c.l c.m
              ∙ (ap (λ l. l ++ tokens c.m) (rest_tokens w g.k g.input g.k to c.l nh c.rest ∙ old.mail g.k to)
              ∙ sent_more g.out g.k to q c.m o.here c.more));
          others = λ y u n. let c = change g y u in
              ap tokens c.is ∙ joined c.l c.m [] (rest_tokens w g.k g.input y u c.l nh c.rest ∙ old.mail y u)
              (gone_more g.out g.k to y u c.m o.others n c.more);
        }

    -- what comes is passed on
    pub sole_relayed : {w v : Flow S L} (g : Goes Moves w v) (p : TokenPlace) (x r q : R) (to : ℕ) → Sole held carried w p x →
        carried_in carried (comes g.input) ≡ Some r → held (v.slot g.k) ≡ held (w.slot g.k) → SendsOne carried g.out to q →
        Sole held carried v (On g.k to) q
    sole_relayed {w} {v} g p x r q to h e f o =
        let i = first_is w g.k g.input g.rest r g.head e in
        let at = sole_first w p x r i.0 g.k i.1 g.rest h i.3 i.4 in
        let old : SoleOn held carried w i.0 g.k x = subst (λ y. Sole held carried w y x) at.0 h in
        record {
          slots = λ j. same_held g f j ∙ old.slots j;
          here =
              let c = change g g.k to in
              ap tokens c.is ∙ (letters_of-append carried c.l c.m
              ∙ (ap (λ l. l ++ tokens c.m) (landed_rest w g.k g.input i.0 i.1 x r g.k to c.l old i.2 i.3 c.rest)
              ∙ sent_more g.out g.k to q c.m o.here c.more));
          others = λ y u n. let c = change g y u in
              ap tokens c.is ∙ joined c.l c.m [] (landed_rest w g.k g.input i.0 i.1 x r y u c.l old i.2 i.3 c.rest)
              (gone_more g.out g.k to y u c.m o.others n c.more);
        }

    -- the token that came is the one
    pub sole_came : {w v : Flow S L} (g : Goes Moves w v) (p : TokenPlace) (x r : R) → Sole held carried w p x →
        carried_in carried (comes g.input) ≡ Some r → (a : ℕ) × (p ≡ On a g.k) × (r ≡ x)
    sole_came {w} {v} g p x r h e =
        let i = first_is w g.k g.input g.rest r g.head e in
        let at = sole_first w p x r i.0 g.k i.1 g.rest h i.3 i.4 in
        (i.0, at.0, at.1)

    module _ (Acts : R → R → Type 0) where
      -- where each move handles the token, it stays the one, and where it is and what it is are known
      pub sole_goes : {w v : Flow S L} (g : Goes Moves w v) (p : TokenPlace) (r : R) → Sole held carried w p r →
          (m : Handles held carried Acts (w.slot g.k) (comes g.input) (v.slot g.k) g.out) →
          Sole held carried v (place_after g.k m p) (token_after m r)
      sole_goes {w = w} {v = v} g p x h (still e n o) = sole_still w v p x h (same_held g e) (same_mail g n o)
      sole_goes g p x h (turns r q a b c n o) = sole_turned g p x r q h a b n o
      sole_goes g p x h (lands r q a b c o) = sole_landed g p x r q h a b o
      sole_goes g p x h (leaves r q to a b c n o) = sole_left g p x r q to h a b n o
      sole_goes g p x h (relays r q to a b c o) = sole_relayed g p x r q to h a b o

      -- it is the same one, or an action made it of the one before
      pub token_turns : {w v : Flow S L} (g : Goes Moves w v) (p : TokenPlace) (r : R) → Sole held carried w p r →
          (m : Handles held carried Acts (w.slot g.k) (comes g.input) (v.slot g.k) g.out) → Turned Acts r (token_after m r)
      token_turns g p x h (still e n o) = inl refl
      token_turns {w = w} g p x h (turns r q a b c n o) = turned_of Acts x r q (sole_here w p x r g.k h a).1 c
      token_turns g p x h (lands r q a b c o) = turned_of Acts x r q (sole_came g p x r h a).2 c
      token_turns {w = w} g p x h (leaves r q to a b c n o) = turned_of Acts x r q (sole_here w p x r g.k h a).1 c
      token_turns g p x h (relays r q to a b c o) = turned_of Acts x r q (sole_came g p x r h a).2 c

      -- what every action keeps stays true of the one token
      pub one_goes : (P : R → Type 0) → ((r q : R) → P r → Acts r q → P q) → {w v : Flow S L} (g : Goes Moves w v) →
          HasOne held carried P w → Handles held carried Acts (w.slot g.k) (comes g.input) (v.slot g.k) g.out → HasOne held carried P v
      one_goes P keeps g h m = record {
        place = place_after g.k m h.place;
        token = token_after m h.token;
        sole = sole_goes g h.place h.token h.sole m;
        fact = fact_of Acts P keeps h.token (token_after m h.token) h.fact (token_turns g h.place h.token h.sole m);
      }

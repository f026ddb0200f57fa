-- A token that begins and ends: where it is after a step.
use Rattle.std.proofs.Common.{◌≡◌, ℕ, List, [], ◌++◌, Option, None, Some, ap, ◌∙◌, subst, inl, inr}
use Rattle.std.proofs.lemmas.Bool.{cases_eq}
use Rattle.seam_law_flow.specs.Prelude.{Flow, Goes, comes, letters_of, carried_in, TokenPlace, SoleIn, SoleOn, Sole, Nobody, SendsNone}
use Rattle.seam_law_flow.specs.Prelude.{SendsOne, Life}
use Rattle.seam_law_flow.proofs.Bridge.{letters_of-append}
use Rattle.seam_law_flow.proofs.Following.{change}
use Rattle.seam_law_flow.proofs.TokenLemmas.{rest_tokens, more_tokens, joined, sole_here, first_is, sole_first, sole_still, landed_rest}
use Rattle.seam_law_flow.proofs.TokenLemmas.{gone_more, sent_more, same_mail, same_held}

module _ {S L R : Type 0} (held : S → Option R) (carried : L → Option R) {Moves : ℕ → S → Option L → S → (ℕ → List L) → Type 0} where
  pub nobody_still : {w v : Flow S L} (g : Goes Moves w v) → Nobody held carried w → held (v.slot g.k) ≡ held (w.slot g.k) →
      carried_in carried (comes g.input) ≡ None → SendsNone carried g.out → Nobody held carried v
  nobody_still g h e nh o =
      record { slots = λ j. same_held held carried g e j ∙ h.slots j; mail = λ x y. same_mail held carried g nh o x y ∙ h.mail x y }

  pub life_still : {w v : Flow S L} (g : Goes Moves w v) (b : ℕ) (o : Option R) → Life held carried w b o →
      held (v.slot g.k) ≡ held (w.slot g.k) → carried_in carried (comes g.input) ≡ None → SendsNone carried g.out → Life held carried v b o
  life_still g b None h e nh o = nobody_still g h e nh o
  life_still {w} {v} g b (Some r) h e nh o =
      record {
        place = h.place;
        sole = sole_still held carried w v h.place r h.sole (same_held held carried g e)
            (same_mail held carried g nh o);
        toward = h.toward;
      }

  -- a token is sent where none was
  pub sole_born : {w v : Flow S L} (g : Goes Moves w v) → Nobody held carried w → held (v.slot g.k) ≡ held (w.slot g.k) →
      carried_in carried (comes g.input) ≡ None → (home : ℕ) (q : R) → SendsOne carried g.out home q → SoleOn held carried v g.k home q
  sole_born {w} {v} g h e nh home q o = record {
    slots = λ j. same_held held carried g e j ∙ h.slots j;
    here =
        let c = change g g.k home in
        ap (letters_of carried) c.is ∙ (letters_of-append carried c.l c.m
        ∙ (ap (λ l. l ++ letters_of carried c.m) (rest_tokens held carried w g.k g.input g.k home c.l nh c.rest ∙ h.mail g.k home)
        ∙ sent_more held carried g.out g.k home q c.m o.here c.more));
    others = λ y u n. let c = change g y u in
        ap (letters_of carried) c.is ∙ joined held carried c.l c.m [] (rest_tokens held carried w g.k g.input y u c.l nh c.rest
        ∙ h.mail y u) (gone_more held carried g.out g.k home y u c.m o.others n c.more);
  }

  -- it comes, and is no more
  pub nobody_met : {w v : Flow S L} (g : Goes Moves w v) (p : TokenPlace) (x r : R) → Sole held carried w p x →
      carried_in carried (comes g.input) ≡ Some r → held (v.slot g.k) ≡ held (w.slot g.k) → SendsNone carried g.out → Nobody held carried v
  nobody_met {w} {v} g p x r h e s o =
      let i = first_is held carried w g.k g.input g.rest r g.head e in
      let at = sole_first held carried w p x r i.0 g.k i.1 g.rest h i.3 i.4 in
      let old : SoleOn held carried w i.0 g.k x = subst (λ z. Sole held carried w z x) at.0 h in
      record {
        slots = λ j. same_held held carried g s j ∙ old.slots j;
        mail = λ y z. let c = change g y z in
            ap (letters_of carried) c.is ∙ joined held carried c.l c.m []
            (landed_rest held carried w g.k g.input i.0 i.1 x r y z c.l old i.2 i.3 c.rest)
            (more_tokens held carried g.out g.k y z c.m o c.more);
      }

  -- the slot that held it holds it no more
  pub nobody_ends : {w v : Flow S L} (g : Goes Moves w v) (p : TokenPlace) (x r : R) → Sole held carried w p x →
      held (w.slot g.k) ≡ Some r →
      held (v.slot g.k) ≡ None → carried_in carried (comes g.input) ≡ None → SendsNone carried g.out → Nobody held carried v
  nobody_ends {w} {v} g p x r h e f nh o =
      let at = sole_here held carried w p x r g.k h e in
      let old : SoleIn held carried w g.k x = subst (λ z. Sole held carried w z x) at.0 h in
      record {
        slots = λ j. elim (cases_eq j g.k) [ inl y ↦ rw y f | inr n ↦ ap held (g.others j n) ∙ old.others j n ];
        mail = λ a b. same_mail held carried g nh o a b ∙ old.mail a b;
      }

-- A token that may be anywhere, and is passed on: where it is after a step.
use Rattle.std.proofs.Common.{◌≡◌, ℕ, List, Option, None, Some, ap, ◌∙◌, sym, subst}
use Rattle.seam_law_flow.specs.Prelude.{Flow, Goes, comes, letters_of, carried_in, In, On, SoleOn, Sole, Nobody, SendsNone, SendsOne, Lasts}
use Rattle.seam_law_flow.proofs.TokenLemmas.{one_more, sole_here, first_is, sole_first, sole_still, same_mail, same_held, sole_landed}
use Rattle.seam_law_flow.proofs.TokenLemmas.{sole_left, sole_relayed}
use Rattle.seam_law_flow.proofs.Lives.{nobody_still, nobody_met, nobody_ends}

module _ {S L R : Type 0} (held : S → Option R) (carried : L → Option R) where
  -- who has a token has the one that there is
  pub here_is : (w : Flow S L) (k : ℕ) (o : Option R) (r : R) → Lasts held carried w o → held (w.slot k) ≡ Some r → o ≡ Some r
  here_is w k None r h e = let n = h.slots k in cc
  here_is w k (Some x) r h e = ap Some (sym (sole_here held carried w h.place x r k h.sole e).1)

module _ {S L R : Type 0} (held : S → Option R) (carried : L → Option R) {Moves : ℕ → S → Option L → S → (ℕ → List L) → Type 0}
    {w v : Flow S L} (g : Goes Moves w v) where
  -- what comes is the one that there is, and no slot holds it
  pub come_is : (o : Option R) (r : R) → Lasts held carried w o → carried_in carried (comes g.input) ≡ Some r →
      (o ≡ Some r) × (held (w.slot g.k) ≡ None)
  come_is None r h e =
      let i = first_is held carried w g.k g.input g.rest r g.head e in
      let n = h.mail i.0 g.k in
      let yes = ap (letters_of carried) i.4 ∙ one_more held carried i.1 g.rest (Some r) i.3 in
      cc
  come_is (Some x) r h e =
      let i = first_is held carried w g.k g.input g.rest r g.head e in
      let at = sole_first held carried w h.place x r i.0 g.k i.1 g.rest h.sole i.3 i.4 in
      let old : SoleOn held carried w i.0 g.k x = subst (λ z. Sole held carried w z x) at.0 h.sole in
      (ap Some (sym at.1), old.slots g.k)

  pub lasts_still : (o : Option R) → Lasts held carried w o → held (v.slot g.k) ≡ held (w.slot g.k) →
      carried_in carried (comes g.input) ≡ None → SendsNone carried g.out → Lasts held carried v o
  lasts_still None h e nh o = nobody_still held carried g h e nh o
  lasts_still (Some r) h e nh o =
      record {
        place = h.place;
        sole = sole_still held carried w v h.place r h.sole (same_held held carried g e)
            (same_mail held carried g nh o);
      }

  pub lasts_lands : (o : Option R) (r : R) → Lasts held carried w o → carried_in carried (comes g.input) ≡ Some r →
      held (v.slot g.k) ≡ Some r → SendsNone carried g.out → Lasts held carried v o
  lasts_lands None r h e f o = let c = (come_is None r h e).0 in cc
  lasts_lands (Some x) r h e f o =
      let c = (come_is (Some x) r h e).0 in
      let s : x ≡ r = cc in
      record { place = In g.k; sole = sole_landed held carried g h.place x r x h.sole e (f ∙ ap Some (sym s)) o }

  pub lasts_leaves : (o : Option R) (r : R) (home : ℕ) → Lasts held carried w o → held (w.slot g.k) ≡ Some r → held (v.slot g.k) ≡ None →
      carried_in carried (comes g.input) ≡ None → SendsOne carried g.out home r → Lasts held carried v o
  lasts_leaves None r home h e f nh o = let c = here_is held carried w g.k None r h e in cc
  lasts_leaves (Some x) r home h e f nh o =
      let c = here_is held carried w g.k (Some x) r h e in
      let s : x ≡ r = cc in
      record {
        place = On g.k home;
        sole = sole_left held carried g h.place x r x home h.sole e f nh
            (subst (SendsOne carried g.out home) (sym s) o);
      }

  -- it comes, and is passed on
  pub lasts_relayed : (o : Option R) (r : R) (home : ℕ) → Lasts held carried w o → carried_in carried (comes g.input) ≡ Some r →
      held (v.slot g.k) ≡ held (w.slot g.k) → SendsOne carried g.out home r → Lasts held carried v o
  lasts_relayed None r home h e f o = let c = (come_is None r h e).0 in cc
  lasts_relayed (Some x) r home h e f o =
      let c = come_is (Some x) r h e in
      let d = c.0 in
      let s : x ≡ r = cc in
      record {
        place = On g.k home;
        sole = sole_relayed held carried g h.place x r x home h.sole e f
            (subst (SendsOne carried g.out home) (sym s) o);
      }

  -- it comes and is no more, or the slot that held it holds it no more
  pub lasts_met : (o : Option R) (r : R) → Lasts held carried w o → carried_in carried (comes g.input) ≡ Some r →
      held (v.slot g.k) ≡ held (w.slot g.k) → SendsNone carried g.out → Nobody held carried v
  lasts_met None r h e s o = let c = (come_is None r h e).0 in cc
  lasts_met (Some x) r h e s o = nobody_met held carried g h.place x r h.sole e s o

  pub lasts_ends : (o : Option R) (r : R) → Lasts held carried w o → held (w.slot g.k) ≡ Some r → held (v.slot g.k) ≡ None →
      carried_in carried (comes g.input) ≡ None → SendsNone carried g.out → Nobody held carried v
  lasts_ends None r h e f nh o = let c = here_is held carried w g.k None r h e in cc
  lasts_ends (Some x) r h e f nh o = nobody_ends held carried g h.place x r h.sole e f nh o

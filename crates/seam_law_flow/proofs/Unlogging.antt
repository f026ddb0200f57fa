-- A delivery without a list of what was delivered is one with a list beside it.
use Rattle.std.proofs.Common.{◌≡◌, ℕ, ◌+◌, Bool, true, false, cond, eqb, List, [], ◌∷◌, ◌++◌, length, Option, refl, sym, ap, ◌∙◌, subst}
use Rattle.std.proofs.lemmas.Bool.{eq-eqb, ne_eqb}
use Rattle.std.proofs.lemmas.List.{append-nil}
use Rattle.seam_law_flow.specs.Flows.{Flow, Goes, comes}
use Rattle.seam_order.specs.Held.{OrderView}
use Rattle.seam_law_flow.specs.Deliveries.{Delivery, Passes, more_issued}
use Rattle.seam_law_flow.specs.Deliveries as step
use Rattle.seam_law_flow.specs.Unlogged.{beside, DeliveryOf, IssuesOrDelivers, rests, issues, offers, gives}
use Rattle.seam_law_flow.proofs.Delivering.{delivery_goes}

module _ {S L U : Type 0} (order : S → OrderView U) (brings : L → Option (ℕ × U)) {Moves : ℕ → S → Option L → S → (ℕ → List L) → Type 0}
    {w v : Flow S L} (g : Goes Moves w v) (b first : ℕ) (issued given : List U) (d : DeliveryOf order brings w b first issued given) where
  abbrev longer : List U → ℕ → List U
  longer more k = cond (eqb k g.k) (d.log k ++ more) (d.log k)

  longer_here : (more : List U) → longer more g.k ≡ d.log g.k ++ more
  longer_here more = ap (λ t. cond t (d.log g.k ++ more) (d.log g.k)) (eq-eqb g.k g.k refl)

  longer_there : (more : List U) (j : ℕ) → (j ≡ g.k → ⊥) → longer more j ≡ d.log j
  longer_there more j n = ap (λ t. cond t (d.log j ++ more) (d.log j)) (ne_eqb j g.k n)

  longer_none : (j : ℕ) (t : Bool) → cond t (d.log j ++ []) (d.log j) ≡ d.log j
  longer_none j true = append-nil (d.log j)
  longer_none j false = refl

  abbrev Moves2 : ℕ → S × List U → Option L → S × List U → (ℕ → List L) → Type 0
  Moves2 k s i t out = Moves k s.0 i t.0 out

  abbrev goes : (more : List U) → Goes Moves2 (beside w d.log) (beside v (longer more))
  goes more = record {
    k = g.k;
    input = g.input;
    rest = g.rest;
    out = g.out;
    head = g.head;
    moves = g.moves;
    others = λ j n. ap (λ x. (x, longer more j)) (g.others j n) ∙ ap (λ l. (w.slot j, l)) (longer_there more j n);
    mail_is = g.mail_is;
  }

  abbrev Step : List U → Type 0
  Step more = Passes {S = S × List U} (λ s. order s.0) (λ s. s.1) brings b (first + length issued) (w.slot g.k, d.log g.k) (comes g.input)
      (v.slot g.k, longer more g.k) g.out

  taken : (more us : List U) (p : Step more) → more_issued p ≡ us → longer more b ≡ given ++ more →
      DeliveryOf order brings v b first (issued ++ us) (given ++ more)
  taken more us p e h = record {
    log = longer more;
    here = h;
    delivery = subst (λ x. Delivery {S = S × List U} (λ s. order s.0) (λ s. s.1) brings (beside v (longer more)) b first (issued ++ x)) e
        (delivery_goes {S = S × List U} (λ s. order s.0) (λ s. s.1) brings (goes more) first issued b d.delivery p);
  }

  none_more : longer [] b ≡ given ++ []
  none_more = longer_none b (eqb b g.k) ∙ (d.here ∙ sym (append-nil given))

  at_b : (more : List U) → g.k ≡ b → longer more b ≡ given ++ more
  at_b more e =
      subst (λ x. longer more x ≡ d.log x ++ more) e (longer_here more) ∙ ap (λ l. l ++ more) d.here

  pub takes_go : (us gs : List U) →
      IssuesOrDelivers order brings b (first + length issued) g.k (w.slot g.k) (comes g.input) (v.slot g.k) g.out us gs →
      DeliveryOf order brings v b first (issued ++ us) (given ++ gs)
  takes_go us gs (rests eo nh o) = taken [] [] (step.rests eo (longer_none g.k (eqb g.k g.k)) nh o) refl none_more
  takes_go us gs (issues ms eo nh o z few) = taken [] ms (step.issues ms eo (longer_none g.k (eqb g.k g.k)) nh o z few) refl none_more
  takes_go us gs (offers n u at i eo o) =
      let more = step.at_once (order (w.slot g.k)).next n u in taken more [] (step.offers n u i eo (longer_here more) o) refl (at_b more at)
  takes_go us gs (gives u at due eo nh o) =
      taken (u ∷ []) [] (step.gives u due eo (longer_here (u ∷ [])) nh o) refl (at_b (u ∷ []) at)

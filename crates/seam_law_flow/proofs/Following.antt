-- What a step of a flow leaves of each slot and of each letter.
use Rattle.std.proofs.Common.{◌≡◌, ℕ, Bool, true, false, cond, eqb, ◌&&◌, List, [], ◌∷◌, ◌++◌, Option, None, Some, refl, sym, ap, ◌∙◌}
use Rattle.std.proofs.Common.{subst, inl, inr}
use Rattle.std.specs.List.{AllByRecursion}
use Rattle.std.proofs.lemmas.Bool.{cases_eq, eqb-true, eqb-false}
use Rattle.seam_machine.specs.Sends.{items_to}
use Rattle.seam_law_flow.specs.Flows.{Flow, Goes, comes, IsHead, mail_left, mail_added}

pub all_append : {X : Type 0} (P : X → Type 0) (xs ys : List X) → AllByRecursion P xs → AllByRecursion P ys → AllByRecursion P (xs ++ ys)
all_append P [] ys a b = b
all_append P (x ∷ xs) ys a b = (a.0, all_append P xs ys a.1 b)

-- a fact of each item that is sent, by the node to which it goes, is one of what each node gets
module _ {L : Type 0} (P : ℕ → L → Type 0) (j : ℕ) where
  item_fits : (p : ℕ × L) (ls : List L) (b : Bool) → eqb p.0 j ≡ b → P p.0 p.1 → AllByRecursion (P j) ls →
      AllByRecursion (P j) (cond b (p.1 ∷ ls) ls)
  item_fits p ls true is h more = (subst (λ x. P x p.1) (eqb-true p.0 j is) h, more)
  item_fits p ls false is h more = more

  pub items_fit : (ps : List (ℕ × L)) → AllByRecursion (λ p. P p.0 p.1) ps → AllByRecursion (P j) (items_to j ps)
  items_fit [] h = tt
  items_fit (p ∷ ps) h = item_fits p (items_to j ps) (eqb p.0 j) refl h.0 (items_fit ps h.1)

-- what was left of a link: all of it, or all but the letter that node k was fed
pub data Rest {S L : Type 0} (w : Flow S L) (k : ℕ) (input : Option (ℕ × L)) (x y : ℕ) (l : List L) : Type 0 where
  whole : l ≡ w.mail x y → ((p : ℕ × L) → input ≡ Some p → x ≡ p.0 → y ≡ k → ⊥) → Rest w k input x y l
  tail : (p : ℕ × L) → input ≡ Some p → x ≡ p.0 → y ≡ k → w.mail x y ≡ p.1 ∷ l → Rest w k input x y l

-- what was put at its end: what node k sends there, or nothing
pub data More {L : Type 0} (out : ℕ → List L) (k x y : ℕ) (m : List L) : Type 0 where
  own : x ≡ k → m ≡ out y → More out k x y m
  none : (x ≡ k → ⊥) → m ≡ [] → More out k x y m

rest_by : {S L : Type 0} (w : Flow S L) (k : ℕ) (p : ℕ × L) (rest : List L) (x y : ℕ) (s t : Bool) → eqb x p.0 ≡ s → eqb y k ≡ t →
    w.mail p.0 k ≡ p.1 ∷ rest → Rest w k (Some p) x y (cond (s && t) rest (w.mail x y))
rest_by w k p rest x y true true a b h =
    tail p refl (eqb-true x p.0 a) (eqb-true y k b) (ap (λ i. w.mail i y) (eqb-true x p.0 a) ∙ (ap (w.mail p.0) (eqb-true y k b) ∙ h))
rest_by w k p rest x y true false a b h = whole refl (λ q e f g. eqb-false y k b g)
rest_by w k p rest x y false t a b h = whole refl (λ q e f g. let same : p ≡ q = cc in eqb-false x p.0 a (f ∙ sym (ap (λ i. i.0) same)))

rest_is : {S L : Type 0} (w : Flow S L) (k : ℕ) (input : Option (ℕ × L)) (rest : List L) (x y : ℕ) → IsHead w.mail k input rest →
    Rest w k input x y (mail_left w.mail k input rest x y)
rest_is w k None rest x y h = whole refl (λ p e f g. cc)
rest_is w k (Some p) rest x y h = rest_by w k p rest x y (eqb x p.0) (eqb y k) refl refl h

more_by : {L : Type 0} (out : ℕ → List L) (k x y : ℕ) (s : Bool) → eqb x k ≡ s → More out k x y (cond s (out y) [])
more_by out k x y true a = own (eqb-true x k a) refl
more_by out k x y false a = none (eqb-false x k a) refl

module _ {L : Type 0} (P : ℕ → ℕ → L → Type 0) where
  rest_all : {S : Type 0} (w : Flow S L) (k : ℕ) (input : Option (ℕ × L)) (x y : ℕ) (l : List L) → AllByRecursion (P x y) (w.mail x y) →
      Rest w k input x y l → AllByRecursion (P x y) l
  rest_all w k input x y l h (whole e n) = rw e h
  rest_all w k input x y l h (tail p i e f s) = (subst (AllByRecursion (P x y)) s h).1

  more_all : (out : ℕ → List L) (k x y : ℕ) (m : List L) → ((y : ℕ) → AllByRecursion (P k y) (out y)) → More out k x y m →
      AllByRecursion (P x y) m
  more_all out k x y m h (own e f) = rw (e, f) (h y)
  more_all out k x y m h (none n f) = rw f tt

  came_by : {S : Type 0} (w : Flow S L) (k : ℕ) (input : Option (ℕ × L)) (rest : List L) (l : L) → IsHead w.mail k input rest →
      comes input ≡ Some l → ((x y : ℕ) → AllByRecursion (P x y) (w.mail x y)) → (a : ℕ) × P a k l
  came_by w k None rest l h e all = cc
  came_by w k (Some p) rest l h e all =
      let same : p.1 ≡ l = cc in
      (p.0, subst (P p.0 k) same ((subst (AllByRecursion (P p.0 k)) h (all p.0 k)).0))

module _ {S L : Type 0} {Moves : ℕ → S → Option L → S → (ℕ → List L) → Type 0} where
  -- each link after a step, in two parts
  pub record Change {w v : Flow S L} (g : Goes Moves w v) (x y : ℕ) : Type 0 where
    pub l : List L
    pub m : List L
    pub is : v.mail x y ≡ l ++ m
    pub rest : Rest w g.k g.input x y l
    pub more : More g.out g.k x y m

  pub change : {w v : Flow S L} (g : Goes Moves w v) (x y : ℕ) → Change g x y
  change {w} {v} g x y = record {
    l = mail_left w.mail g.k g.input g.rest x y;
    m = mail_added g.out g.k x y;
    is = g.mail_is x y;
    rest = rest_is w g.k g.input g.rest x y g.head;
    more = more_by g.out g.k x y (eqb x g.k) refl;
  }

  -- P is true of each slot
  pub slots_kept : {w v : Flow S L} (P : ℕ → S → Type 0) (g : Goes Moves w v) → ((k : ℕ) → P k (w.slot k)) → P g.k (v.slot g.k) → (k : ℕ) →
      P k (v.slot k)
  slots_kept P g h new k = elim (cases_eq k g.k) [ inl e ↦ rw e new | inr n ↦ rw (g.others k n) (h k) ]

  -- P is true of each letter in each link
  module _ (P : ℕ → ℕ → L → Type 0) where
    pub letters_kept : {w v : Flow S L} (g : Goes Moves w v) → ((x y : ℕ) → AllByRecursion (P x y) (w.mail x y)) →
        ((y : ℕ) → AllByRecursion (P g.k y) (g.out y)) → (x y : ℕ) → AllByRecursion (P x y) (v.mail x y)
    letters_kept {w} {v} g h new x y =
        let c = change g x y in
        rw c.is (all_append (P x y) c.l c.m (rest_all P w g.k g.input x y c.l (h x y) c.rest) (more_all P g.out g.k x y c.m new c.more))

    -- the letter that came is one of them
    pub came : {w v : Flow S L} (g : Goes Moves w v) (l : L) → comes g.input ≡ Some l → ((x y : ℕ) → AllByRecursion (P x y) (w.mail x y)) →
        (a : ℕ) × P a g.k l
    came {w} {v} g l e all = came_by P w g.k g.input g.rest l g.head e all

    -- the same, of the list of what is sent
    pub sent_kept : {w v : Flow S L} (g : Goes Moves w v) (sent : List (ℕ × L)) → ((j : ℕ) → g.out j ≡ items_to j sent) →
        ((x y : ℕ) → AllByRecursion (P x y) (w.mail x y)) → AllByRecursion (λ p. P g.k p.0 p.1) sent →
        (x y : ℕ) → AllByRecursion (P x y) (v.mail x y)
    sent_kept g sent items h new =
        letters_kept g h (λ j. subst (AllByRecursion (P g.k j)) (sym (items j)) (items_fit (P g.k) j sent new))

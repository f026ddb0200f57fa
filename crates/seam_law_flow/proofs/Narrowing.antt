-- A step of a flow is a step of the flow through other eyes.
use Rattle.std.proofs.Common.{◌≡◌, ℕ, Bool, true, false, cond, eqb, ◌&&◌, List, [], ◌∷◌, ◌++◌, Option, None, Some, refl, sym, ap, ◌∙◌}
use Rattle.std.proofs.Common.{subst}
use Rattle.std.proofs.lemmas.Bool.{eqb-true, eqb-false, ne_eqb}
use Rattle.seam_law_flow.specs.Flows.{Flow, Goes, comes, IsHead, mail_left, mail_added, letters_of, more_letter, given_from}
use Rattle.seam_law_flow.specs.Narrow.{narrow, narrowed, toward}
use Rattle.seam_law_flow.specs.Tokens.{carried_in}
use Rattle.seam_law_flow.proofs.Bridge.{letters_of-append}

module _ {S L S' L' : Type 0} (f : S → S') (mine : L → Option L') where
  comes_by : (a : ℕ) (o : Option L') → comes (given_from a o) ≡ o
  comes_by a None = refl
  comes_by a (Some x) = refl

  comes_narrowed : (i : Option (ℕ × L)) → carried_in mine (comes i) ≡ comes (narrowed mine i)
  comes_narrowed None = refl
  comes_narrowed (Some p) = sym (comes_by p.0 (mine p.1))

  head_by : (mail : ℕ → ℕ → List L) (k : ℕ) (p : ℕ × L) (rest : List L) (o : Option L') → mine p.1 ≡ o → mail p.0 k ≡ p.1 ∷ rest →
      IsHead (λ a b. letters_of mine (mail a b)) k (given_from p.0 o) (letters_of mine rest)
  head_by mail k p rest None e h = tt
  head_by mail k p rest (Some x) e h = ap (letters_of mine) h ∙ ap (λ y. more_letter y (letters_of mine rest)) e

  head_narrowed : (mail : ℕ → ℕ → List L) (k : ℕ) (i : Option (ℕ × L)) (rest : List L) → IsHead mail k i rest →
      IsHead (λ a b. letters_of mine (mail a b)) k (narrowed mine i) (letters_of mine rest)
  head_narrowed mail k None rest h = tt
  head_narrowed mail k (Some p) rest h = head_by mail k p rest (mine p.1) refl h

  letters_cond : (t : Bool) (xs ys : List L) → letters_of mine (cond t xs ys) ≡ cond t (letters_of mine xs) (letters_of mine ys)
  letters_cond true xs ys = refl
  letters_cond false xs ys = refl

  unseen : (mail : ℕ → ℕ → List L) (k : ℕ) (p : ℕ × L) (rest : List L) (x y : ℕ) (s t : Bool) → eqb x p.0 ≡ s → eqb y k ≡ t →
      mine p.1 ≡ None → mail p.0 k ≡ p.1 ∷ rest → letters_of mine (cond (s && t) rest (mail x y)) ≡ letters_of mine (mail x y)
  unseen mail k p rest x y true true a b e h =
      let whole : mail x y ≡ p.1 ∷ rest = ap (λ z. mail z y) (eqb-true x p.0 a) ∙ (ap (λ z. mail p.0 z) (eqb-true y k b) ∙ h) in
      sym (ap (letters_of mine) whole ∙ ap (λ z. more_letter z (letters_of mine rest)) e)
  unseen mail k p rest x y true false a b e h = refl
  unseen mail k p rest x y false t a b e h = refl

  left_by : (mail : ℕ → ℕ → List L) (k : ℕ) (p : ℕ × L) (rest : List L) (x y : ℕ) (o : Option L') → mine p.1 ≡ o → mail p.0 k ≡ p.1 ∷ rest →
      letters_of mine (mail_left mail k (Some p) rest x y)
      ≡ mail_left (λ a b. letters_of mine (mail a b)) k (given_from p.0 o) (letters_of mine rest) x y
  left_by mail k p rest x y None e h = unseen mail k p rest x y (eqb x p.0) (eqb y k) refl refl e h
  left_by mail k p rest x y (Some z) e h = letters_cond (eqb x p.0 && eqb y k) rest (mail x y)

  left_narrowed : (mail : ℕ → ℕ → List L) (k : ℕ) (i : Option (ℕ × L)) (rest : List L) (x y : ℕ) → IsHead mail k i rest →
      letters_of mine (mail_left mail k i rest x y) ≡ mail_left (λ a b. letters_of mine (mail a b)) k (narrowed mine i)
      (letters_of mine rest) x y
  left_narrowed mail k None rest x y h = refl
  left_narrowed mail k (Some p) rest x y h = left_by mail k p rest x y (mine p.1) refl h

  pub narrow_goes : {Moves : ℕ → S → Option L → S → (ℕ → List L) → Type 0} {w v : Flow S L} (Seen : ℕ → S' → Option L' → S' →
      (ℕ → List L') → Type 0) (g : Goes Moves w v) →
      Seen g.k (f (w.slot g.k)) (carried_in mine (comes g.input)) (f (v.slot g.k)) (λ j. letters_of mine (g.out j)) →
      Goes Seen (narrow f mine w) (narrow f mine v)
  narrow_goes {w = w} {v = v} Seen g m = record {
    k = g.k;
    input = narrowed mine g.input;
    rest = letters_of mine g.rest;
    out = λ j. letters_of mine (g.out j);
    head = head_narrowed w.mail g.k g.input g.rest g.head;
    moves = subst (λ i. Seen g.k (f (w.slot g.k)) i (f (v.slot g.k)) (λ j. letters_of mine (g.out j))) (comes_narrowed g.input) m;
    others = λ j n. ap f (g.others j n);
    mail_is = λ x y.
        ap (letters_of mine) (g.mail_is x y)
        ∙ (letters_of-append mine (mail_left w.mail g.k g.input g.rest x y) (mail_added g.out g.k x y)
        ∙ (ap (λ l. l ++ letters_of mine (mail_added g.out g.k x y)) (left_narrowed w.mail g.k g.input g.rest x y g.head)
        ∙ ap (λ l. mail_left (λ a b. letters_of mine (w.mail a b)) g.k (narrowed mine g.input) (letters_of mine g.rest) x y ++ l)
        (letters_cond (eqb x g.k) (g.out y) [])));
  }

-- ---- the links to one node

not_by : (a b c : ℕ) → eqb a c ≡ true → eqb b c ≡ false → eqb a b ≡ false
not_by a b c s t = ne_eqb a b (λ e. eqb-false b c t (sym e ∙ eqb-true a c s))

not_and : {L : Type 0} (a b : Bool) (xs ys : List L) → b ≡ false → cond (a && b) xs ys ≡ ys
not_and true b xs ys e = ap (λ t. cond t xs ys) e
not_and false b xs ys e = refl

added_none : {L : Type 0} (t : Bool) → cond {A = List L} t [] [] ≡ []
added_none true = refl
added_none false = refl

comes_to : {A : Type 0} (t : Bool) (i : Option (ℕ × A)) → cond t (comes i) None ≡ comes (cond t i None)
comes_to true i = refl
comes_to false i = refl

module _ {L : Type 0} (home : ℕ) where
  abbrev mail_to : (ℕ → ℕ → List L) → ℕ → ℕ → List L
  mail_to mail x y = cond (eqb y home) (mail x y) []

  head_some : (mail : ℕ → ℕ → List L) (k : ℕ) (o : Option (ℕ × L)) (rest : List L) → eqb k home ≡ true → IsHead mail k o rest →
      IsHead (mail_to mail) k o rest
  head_some mail k None rest e h = tt
  head_some mail k (Some p) rest e h = ap (λ t. cond t (mail p.0 k) []) e ∙ h

  head_to : (mail : ℕ → ℕ → List L) (k : ℕ) (o : Option (ℕ × L)) (rest : List L) (t : Bool) → eqb k home ≡ t → IsHead mail k o rest →
      IsHead (mail_to mail) k (cond t o None) rest
  head_to mail k o rest true e h = head_some mail k o rest e h
  head_to mail k o rest false e h = tt

  left_some : (mail : ℕ → ℕ → List L) (k : ℕ) (o : Option (ℕ × L)) (rest : List L) (x y : ℕ) → eqb y home ≡ true →
      mail_left (mail_to mail) k o rest x y ≡ mail_left mail k o rest x y
  left_some mail k None rest x y e = ap (λ t. cond t (mail x y) []) e
  left_some mail k (Some p) rest x y e = ap (λ l. cond (eqb x p.0 && eqb y k) rest l) (ap (λ t. cond t (mail x y) []) e)

  left_away : (mail : ℕ → ℕ → List L) (k : ℕ) (o : Option (ℕ × L)) (rest : List L) (x y : ℕ) → eqb y home ≡ true → eqb k home ≡ false →
      mail x y ≡ mail_left mail k o rest x y
  left_away mail k None rest x y e f = refl
  left_away mail k (Some p) rest x y e f = sym (not_and (eqb x p.0) (eqb y k) rest (mail x y) (not_by y k home e f))

  left_here : (mail : ℕ → ℕ → List L) (k : ℕ) (o : Option (ℕ × L)) (rest : List L) (x y : ℕ) (t : Bool) → eqb k home ≡ t →
      eqb y home ≡ true → mail_left (mail_to mail) k (cond t o None) rest x y ≡ mail_left mail k o rest x y
  left_here mail k o rest x y true e f = left_some mail k o rest x y f
  left_here mail k o rest x y false e f = ap (λ t. cond t (mail x y) []) f ∙ left_away mail k o rest x y f e

  left_there : (mail : ℕ → ℕ → List L) (k : ℕ) (o : Option (ℕ × L)) (rest : List L) (x y : ℕ) (t : Bool) → eqb k home ≡ t →
      eqb y home ≡ false → mail_left (mail_to mail) k (cond t o None) rest x y ≡ []
  left_there mail k None rest x y true e f = ap (λ t. cond t (mail x y) []) f
  left_there mail k (Some p) rest x y true e f =
      not_and (eqb x p.0) (eqb y k) rest (mail_to mail x y)
      (ne_eqb y k (λ s. let g : false ≡ true = sym f ∙ (ap (λ z. eqb z home) s ∙ e) in cc)) ∙ ap (λ t. cond t (mail x y) []) f
  left_there mail k o rest x y false e f = ap (λ t. cond t (mail x y) []) f

  mail_by : (mail : ℕ → ℕ → List L) (out : ℕ → List L) (k : ℕ) (o : Option (ℕ × L)) (rest m : List L) (x y : ℕ) (t : Bool) →
      eqb y home ≡ t → m ≡ mail_left mail k o rest x y ++ mail_added out k x y
      → cond t m [] ≡ mail_left (mail_to mail) k (cond (eqb k home) o None) rest x y ++ cond (eqb x k) (cond t (out y) []) []
  mail_by mail out k o rest m x y true e h =
      h ∙ ap (λ l. l ++ cond (eqb x k) (out y) []) (sym (left_here mail k o rest x y (eqb k home) refl e))
  mail_by mail out k o rest m x y false e h =
      sym (ap (λ l. l ++ cond (eqb x k) [] []) (left_there mail k o rest x y (eqb k home) refl e) ∙ added_none (eqb x k))

  -- node `home` is fed its letter as before, the others none, and what goes elsewhere is not seen
  pub toward_goes : {S : Type 0} {Moves : ℕ → S → Option L → S → (ℕ → List L) → Type 0} {w v : Flow S L} (Seen : ℕ → S → Option L → S →
      (ℕ → List L) → Type 0) (g : Goes Moves w v) →
      Seen g.k (w.slot g.k) (cond (eqb g.k home) (comes g.input) None) (v.slot g.k) (λ j. cond (eqb j home) (g.out j) []) →
      Goes Seen (toward home w) (toward home v)
  toward_goes {w = w} {v = v} Seen g m = record {
    k = g.k;
    input = cond (eqb g.k home) g.input None;
    rest = g.rest;
    out = λ j. cond (eqb j home) (g.out j) [];
    head = head_to w.mail g.k g.input g.rest (eqb g.k home) refl g.head;
    moves = subst (λ i. Seen g.k (w.slot g.k) i (v.slot g.k) (λ j. cond (eqb j home) (g.out j) [])) (comes_to (eqb g.k home) g.input) m;
    others = g.others;
    mail_is = λ x y. mail_by w.mail g.out g.k g.input g.rest (v.mail x y) x y (eqb y home) refl (g.mail_is x y);
  }

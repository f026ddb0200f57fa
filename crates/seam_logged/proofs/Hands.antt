-- A hand out of which the letters of one node are taken: each letter in turn is taken away, or put to the end.
use Rattle.std.proofs.Common.{◌≡◌, ◌≢◌, ℕ, ◌+◌, ◌<◌, List, [], ◌∷◌, ◌++◌, length, refl, sym, ap, ◌∙◌, arith, cond, append_assoc}
use Rattle.std.proofs.lemmas.List.{append-nil, length-append, nil_from_length}
use Rattle.seam_machine.specs.Sends.{items_to}
use Rattle.seam_machine.proofs.SendLemmas.{items_to-append}
use Rattle.seam_stamp.specs.declared.Letter.{Letter}
use Rattle.seam_stamp.specs.Acts.{items}
use Rattle.seam_stamp.proofs.Moves.{items_append, eq_yes, eq_no}

-- k letters of the hand were looked at: the others are first in it, and then come those that were put to the end
pub record IsTurned {T : Type 0} (from k : ℕ) (old hand : List (ℕ × Letter T)) (given : List T) : Type 0 where
  pub seen : List (ℕ × Letter T)
  pub rest : List (ℕ × Letter T)
  pub kept : List (ℕ × Letter T)
  pub many : length seen ≡ k
  pub old_is : seen ++ rest ≡ old
  pub hand_is : hand ≡ rest ++ kept
  pub given_is : given ≡ items (items_to from seen)
  pub others : (a : ℕ) → a ≢ from → items_to a kept ≡ items_to a seen

to_here : {M : Type 0} (a : ℕ) (p : ℕ × M) → p.0 ≡ a → items_to a (p ∷ []) ≡ p.1 ∷ []
to_here a p e = ap (λ y. cond y (p.1 ∷ []) []) (eq_yes p.0 a e)

to_other : {M : Type 0} (a : ℕ) (p : ℕ × M) → p.0 ≢ a → items_to a (p ∷ []) ≡ []
to_other a p e = ap (λ y. cond y (p.1 ∷ []) []) (eq_no p.0 a e)

-- the first of the rest is the first in hand
first_of_rest : {X : Type 0} (rest kept : List X) (p : X) (hand : List X) → 0 < length rest → p ∷ hand ≡ rest ++ kept →
    (more : List X) × (rest ≡ p ∷ more) × (hand ≡ more ++ kept)
first_of_rest [] kept p hand lt e = absurd (omega (arith, lt))
first_of_rest (x ∷ more) kept p hand lt e =
    let same : x ≡ p = cc in
    let tail : hand ≡ more ++ kept = cc in
    (more, ap (λ y. y ∷ more) same, tail)

module _ {T : Type 0} (from : ℕ) (old : List (ℕ × Letter T)) where
  pub turned_none : IsTurned from 0 old old []
  turned_none = record {
    seen = [];
    rest = old;
    kept = [];
    many = refl;
    old_is = refl;
    hand_is = sym (append-nil old);
    given_is = refl;
    others = λ a differ. refl;
  }

  -- how many letters are not looked at
  pub rest_many : (k : ℕ) (hand : List (ℕ × Letter T)) (given : List T) (t : IsTurned from k old hand given) →
      k + length t.rest ≡ length old
  rest_many k hand given t = omega (arith, ap length t.old_is, length-append t.seen t.rest, t.many)

  -- while some are not looked at, the hand is not empty
  pub hand_not_empty : (k : ℕ) (hand : List (ℕ × Letter T)) (given : List T) → IsTurned from k old hand given → k < length old →
      0 < length hand
  hand_not_empty k hand given t lt =
      omega (arith, lt, rest_many k hand given t, ap length t.hand_is, length-append t.rest t.kept)

  module _ (k : ℕ) (p : ℕ × Letter T) (hand whole : List (ℕ × Letter T)) (given : List T) (t : IsTurned from k old whole given)
      (lt : k < length old) (is : whole ≡ p ∷ hand) where
    first : (more : List (ℕ × Letter T)) × (t.rest ≡ p ∷ more) × (hand ≡ more ++ t.kept)
    first = first_of_rest t.rest t.kept p hand (omega (arith, lt, rest_many k whole given t)) (sym is ∙ t.hand_is)

    one_more : length (t.seen ++ p ∷ []) ≡ k + 1
    one_more = omega (arith, length-append t.seen (p ∷ []), t.many)

    old_is : (t.seen ++ p ∷ []) ++ first.0 ≡ old
    old_is = append_assoc t.seen (p ∷ []) first.0 ∙ (ap (λ l. t.seen ++ l) (sym first.1) ∙ t.old_is)

    -- the first letter is taken
    pub turned_given : p.0 ≡ from → IsTurned from (k + 1) old hand (given ++ p.1.item ∷ [])
    turned_given e = record {
      seen = t.seen ++ p ∷ [];
      rest = first.0;
      kept = t.kept;
      many = one_more;
      old_is = old_is;
      hand_is = first.2;
      given_is =
          ap (λ l. l ++ p.1.item ∷ []) t.given_is
          ∙ (sym (items_append (items_to from t.seen) (p.1 ∷ []))
          ∙ ap items (ap (λ l. items_to from t.seen ++ l) (sym (to_here from p e)) ∙ sym (items_to-append from t.seen (p ∷ []))));
      others = λ a differ.
          let none : p.0 ≢ a = λ h. differ (sym h ∙ e) in
          t.others a differ ∙ (sym (append-nil (items_to a t.seen))
          ∙ (ap (λ l. items_to a t.seen ++ l) (sym (to_other a p none)) ∙ sym (items_to-append a t.seen (p ∷ []))));
    }

    -- the first letter is put to the end
    pub turned_kept : p.0 ≢ from → IsTurned from (k + 1) old (hand ++ p ∷ []) given
    turned_kept n = record {
      seen = t.seen ++ p ∷ [];
      rest = first.0;
      kept = t.kept ++ p ∷ [];
      many = one_more;
      old_is = old_is;
      hand_is = ap (λ l. l ++ p ∷ []) first.2 ∙ append_assoc first.0 t.kept (p ∷ []);
      given_is =
          t.given_is
          ∙ ap items (sym (append-nil (items_to from t.seen))
          ∙ (ap (λ l. items_to from t.seen ++ l) (sym (to_other from p n)) ∙ sym (items_to-append from t.seen (p ∷ []))));
      others = λ a differ.
          items_to-append a t.kept (p ∷ [])
          ∙ (ap (λ l. l ++ items_to a (p ∷ [])) (t.others a differ) ∙ sym (items_to-append a t.seen (p ∷ [])));
    }

  -- all letters were looked at
  module _ (k : ℕ) (hand : List (ℕ × Letter T)) (given : List T) (t : IsTurned from k old hand given) (all : k ≡ length old) where
    no_rest : t.rest ≡ []
    no_rest = nil_from_length t.rest (omega (arith, rest_many k hand given t, all))

    all_seen : t.seen ≡ old
    all_seen = sym (append-nil t.seen) ∙ (ap (λ l. t.seen ++ l) (sym no_rest) ∙ t.old_is)

    pub turned_all_given : given ≡ items (items_to from old)
    turned_all_given = t.given_is ∙ ap (λ l. items (items_to from l)) all_seen

    pub turned_all_others : (a : ℕ) → a ≢ from → items_to a hand ≡ items_to a old
    turned_all_others a differ =
        ap (items_to a) (t.hand_is ∙ ap (λ l. l ++ t.kept) no_rest) ∙ (t.others a differ ∙ ap (items_to a) all_seen)

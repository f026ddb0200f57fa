-- The place of a property's value among those of its group, and what a projection shows of the values.
use Rattle.std.proofs.Common.{◌≡◌, ℕ, zero, suc, refl, sym, ap, ◌∙◌, List, [], ◌∷◌, true, false, inl, inr, ◌⊎◌, arith}
use Rattle.std.specs.List.{zip}
use Rattle.std.proofs.lemmas.Bool.{cases_Bool}
use Rattle.seam_value.specs.declared.values.Value.{Value}
use Rattle.seam_defs.specs.declared.flags.Group.{Group}
use Rattle.seam_defs.specs.declared.types.Property.{Property}
use Rattle.seam_defs.specs.declared.groups.OfGroup.{OfGroup}
use Rattle.seam_defs.specs.declared.props.KeptValues.{KeptValues}
use Rattle.seam_defs.specs.Groups.{in_group}
use Rattle.seam_defs.specs.Remaining.{properties_left, values_left}
use Rattle.seam_defs.specs.Deeds.{properties_of, projected, place_of}
use Rattle.seam_defs.specs.Fitting.{is_in}

module _ (p : Property) (ps : List Property) (g : Group) (k : ℕ) where
  pub place-in : in_group p.flag g ≡ true → place_of (p ∷ ps) g (suc k) ≡ suc (place_of ps g k)
  place-in h = rw h refl

  pub place-out : in_group p.flag g ≡ false → place_of (p ∷ ps) g (suc k) ≡ place_of ps g k
  place-out h = rw h refl

pub one-place : (ps : List Property) (g : Group) (k j : ℕ) → is_in ps g k ≡ true → is_in ps g j ≡ true → place_of ps g k ≡ place_of ps g j →
    k ≡ j
one-place [] g k j at_k at_j same = absurd cc
one-place (p ∷ ps) g zero zero at_k at_j same = refl
one-place (p ∷ ps) g zero (suc j) at_k at_j same = let later = place-in p ps g j at_k in absurd (omega arith)
one-place (p ∷ ps) g (suc k) zero at_k at_j same = let later = place-in p ps g k at_j in absurd (omega arith)
one-place (p ∷ ps) g (suc k) (suc j) at_k at_j same =
    elim (cases_Bool (in_group p.flag g)) [
      | inl h ↦ ap suc (one-place ps g k j at_k at_j (let e = place-in p ps g k h in let f = place-in p ps g j h in omega arith))
      | inr h ↦ ap suc (one-place ps g k j at_k at_j (sym (place-out p ps g k h) ∙ same ∙ place-out p ps g j h))
    ]

pub zip-nil : {A B : Type 0} (xs : List A) → zip {X = B} xs [] ≡ []
zip-nil [] = refl
zip-nil (x ∷ xs) = refl

-- of two lists that the code goes through together one has come to its end
pub zip-done : (ps : List Property) (vs : List Value) → ((s : OfGroup) × ((ps ≡ []) × (properties_left s ≡ [])))
    ⊎ ((s : KeptValues) × ((vs ≡ []) × (values_left s ≡ []))) → zip ps vs ≡ []
zip-done ps vs (inl (s, (done, _))) = rw done refl
zip-done ps vs (inr (s, (done, _))) = rw done (zip-nil ps)

module _ (p : Property) (ps : List Property) (held g : Group) where
  pub projected-out : (vs : List Value) → in_group p.flag held ≡ false → projected (p ∷ ps) held g vs ≡ projected ps held g vs
  projected-out vs h = rw h refl

  pub projected-shown : (v : Value) (vs : List Value) → in_group p.flag held ≡ true → in_group p.flag g ≡ true →
      projected (p ∷ ps) held g (v ∷ vs) ≡ v ∷ projected ps held g vs
  projected-shown v vs h s = rw (h, s) refl

  pub projected-hidden : (v : Value) (vs : List Value) → in_group p.flag held ≡ true → in_group p.flag g ≡ false →
      projected (p ∷ ps) held g (v ∷ vs) ≡ projected ps held g vs
  projected-hidden v vs h s = rw (h, s) refl

pub projected-nil : (ps : List Property) (held g : Group) → projected ps held g [] ≡ []
projected-nil ps held g = rw (zip-nil {B = Value} (properties_of ps held)) refl

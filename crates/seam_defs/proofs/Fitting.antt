-- Lists of values that fit a group, or a method, place by place.
use Rattle.std.proofs.Common.{◌≡◌, ℕ, zero, suc, ◌+◌, ◌<◌, refl, sym, ap, ◌∙◌, List, [], ◌∷◌, length, get_or, true, false, inl, inr, arith}
use Rattle.std.proofs.lemmas.Bool.{cases_Bool, cases_eq}
use Rattle.std.proofs.lemmas.List.{get_or_default}
use Rattle.seam_value.specs.Values.{Fits}
use Rattle.seam_value.specs.declared.types.ValueType.{ValueType}
use Rattle.seam_value.specs.declared.values.Value.{Value}
use Rattle.seam_defs.specs.declared.flags.Group.{Group}
use Rattle.seam_defs.specs.declared.types.Property.{Property}
use Rattle.seam_defs.specs.Groups.{in_group}
use Rattle.seam_defs.specs.Deeds.{properties_of, IsOfGroup, AreArgsOf}
use Rattle.seam_defs.specs.Fitting.{FitsAt, FitBelow, ArgsFitBelow}
use Rattle.seam_defs.proofs.PropertyPlaces.{place-in, place-out}

pub takes-to : (types : List ValueType) (values : List Value) → length types ≡ length values → ArgsFitBelow types values (length types) →
    AreArgsOf types values
takes-to [] [] long fit = tt
takes-to [] (v ∷ values) long fit = absurd (omega arith)
takes-to (t ∷ types) [] long fit = absurd (omega arith)
takes-to (t ∷ types) (v ∷ values) long fit =
    (fit zero t (omega arith), takes-to types values (omega arith) (λ k d below. fit (suc k) d (omega arith)))

takes-at : (t : ValueType) (types : List ValueType) (v : Value) (values : List Value) → Fits v t →
    ArgsFitBelow types values (length types) → ArgsFitBelow (t ∷ types) (v ∷ values) (suc (length types))
takes-at t types v values fits rest zero d below = fits
takes-at t types v values fits rest (suc k) d below = rest k d (omega arith)

pub takes-from : (types : List ValueType) (values : List Value) → AreArgsOf types values →
    (length types ≡ length values) × ArgsFitBelow types values (length types)
takes-from [] [] takes = (refl, λ k d below. absurd (omega arith))
takes-from [] (v ∷ values) takes = absurd takes
takes-from (t ∷ types) [] takes = absurd takes
takes-from (t ∷ types) (v ∷ values) (fits, takes) =
    let rest = takes-from types values takes in
    (ap suc rest.0, takes-at t types v values fits rest.1)

-- one argument more
pub args-more : (types : List ValueType) (values : List Value) (i : ℕ) → i < length types → (e : ValueType) →
    FitsAt (get_or types i e) values i → ArgsFitBelow types values i → ArgsFitBelow types values (i + 1)
args-more types values i within e fits before k d below =
    elim (cases_eq k i) [
      | inl last ↦ rw (last, get_or_default types i d e within) fits
      | inr earlier ↦ before k d (omega arith)
    ]

fit-in : (p : Property) (ps : List Property) (g : Group) (v : Value) (values : List Value) → in_group p.flag g ≡ true → Fits v p.ty →
    FitBelow ps g values (length ps) → FitBelow (p ∷ ps) g (v ∷ values) (suc (length ps))
fit-in p ps g v values inside fits rest zero d below at = fits
fit-in p ps g v values inside fits rest (suc k) d below at = rw (place-in p ps g k inside) (rest k d (omega arith) at)

fit-out : (p : Property) (ps : List Property) (g : Group) (values : List Value) → in_group p.flag g ≡ false →
    FitBelow ps g values (length ps) → FitBelow (p ∷ ps) g values (suc (length ps))
fit-out p ps g values out rest zero d below at = absurd cc
fit-out p ps g values out rest (suc k) d below at = rw (place-out p ps g k out) (rest k d (omega arith) at)

abbrev pub AreOf : List Property → Group → List Value → Type 0
AreOf ps g values = (length (properties_of ps g) ≡ length values) × FitBelow ps g values (length ps)

in-length : (p : Property) (ps : List Property) (g : Group) → in_group p.flag g ≡ true →
    length (properties_of (p ∷ ps) g) ≡ suc (length (properties_of ps g))
in-length p ps g h = rw h refl

out-length : (p : Property) (ps : List Property) (g : Group) → in_group p.flag g ≡ false →
    length (properties_of (p ∷ ps) g) ≡ length (properties_of ps g)
out-length p ps g h = rw h refl

fit-in-back : (p : Property) (ps : List Property) (g : Group) (v : Value) (values : List Value) → in_group p.flag g ≡ true →
    FitBelow (p ∷ ps) g (v ∷ values) (suc (length ps)) → FitBelow ps g values (length ps)
fit-in-back p ps g v values inside fits k d below at = rw (place-in p ps g k inside) at (fits (suc k) d (omega arith) at)

fit-out-back : (p : Property) (ps : List Property) (g : Group) (values : List Value) → in_group p.flag g ≡ false →
    FitBelow (p ∷ ps) g values (suc (length ps)) → FitBelow ps g values (length ps)
fit-out-back p ps g values out fits k d below at = rw (place-out p ps g k out) at (fits (suc k) d (omega arith) at)

pub of-to : (ps : List Property) (g : Group) (values : List Value) → length (properties_of ps g) ≡ length values →
    FitBelow ps g values (length ps) → IsOfGroup ps g values
of-to [] g [] long fit = tt
of-to [] g (v ∷ values) long fit = absurd (omega arith)
of-to (p ∷ ps) g [] long fit =
    elim (cases_Bool (in_group p.flag g)) [
      | inl inside ↦ absurd (let e = in-length p ps g inside in omega arith)
      | inr out ↦ rw out (of-to ps g [] (sym (out-length p ps g out) ∙ long) (fit-out-back p ps g [] out fit))
    ]
of-to (p ∷ ps) g (v ∷ values) long fit =
    elim (cases_Bool (in_group p.flag g)) [
      | inl inside ↦ rw inside (
        fit zero p (omega arith) inside,
        of-to ps g values (let e = in-length p ps g inside in omega arith) (fit-in-back p ps g v values inside fit),
      )
      | inr out ↦ rw out (of-to ps g (v ∷ values) (sym (out-length p ps g out) ∙ long) (fit-out-back p ps g (v ∷ values) out fit))
    ]

pub of-from : (ps : List Property) (g : Group) (values : List Value) → IsOfGroup ps g values → AreOf ps g values
of-from [] g [] are = (refl, λ k d below at. absurd (omega arith))
of-from [] g (v ∷ values) are = absurd are
of-from (p ∷ ps) g [] are =
    elim (cases_Bool (in_group p.flag g)) [
      | inl inside ↦ absurd (rw inside at are)
      | inr out ↦ let rest = of-from ps g [] (rw out at are) in (out-length p ps g out ∙ rest.0, fit-out p ps g [] out rest.1)
    ]
of-from (p ∷ ps) g (v ∷ values) are =
    elim (cases_Bool (in_group p.flag g)) [
      | inl inside ↦
          let both = rw inside at are in
          let rest = of-from ps g values both.1 in
          (in-length p ps g inside ∙ ap suc rest.0, fit-in p ps g v values inside both.0 rest.1)
      | inr out ↦ let rest = of-from ps g (v ∷ values) (rw out at are) in
          (out-length p ps g out ∙ rest.0, fit-out p ps g (v ∷ values) out rest.1)
    ]

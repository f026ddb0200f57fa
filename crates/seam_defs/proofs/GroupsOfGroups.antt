-- Groups of groups.
use Rattle.std.proofs.Common.{◌≡◌, refl, sym, ap, ◌∙◌, List, [], ◌∷◌, false, inl, inr}
use Rattle.std.proofs.lemmas.Bool.{cases_Bool}
use Rattle.seam_value.specs.declared.values.Value.{Value}
use Rattle.seam_defs.specs.declared.flags.Flag.{Flag}
use Rattle.seam_defs.specs.declared.flags.Flag.TheVariants as flag
use Rattle.seam_defs.specs.declared.flags.Group.{Group}
use Rattle.seam_defs.specs.declared.flags.Group.TheVariants as group
use Rattle.seam_defs.specs.declared.flags.Part.{Part}
use Rattle.seam_defs.specs.declared.flags.Part.TheVariants as part
use Rattle.seam_defs.specs.declared.states.State.{State}
use Rattle.seam_defs.specs.declared.types.Property.{Property}
use Rattle.seam_defs.specs.Groups.{in_group, IsWithin, held_by, shown_by}
use Rattle.seam_defs.specs.Deeds.{projected, ghost_of, other_of, values_text, text_of_projected, SameShown, IsOfGroup}
use Rattle.seam_defs.proofs.Running.{shown-within}
use Rattle.seam_defs.proofs.PropertyPlaces.{projected-out, projected-shown, projected-hidden, projected-nil}

-- what is not in a group is not in one within it
outside : (f : Flag) (inner outer : Group) → IsWithin inner outer → in_group f outer ≡ false → in_group f inner ≡ false
outside f inner outer within out =
    elim (cases_Bool (in_group f inner)) [ inl inside ↦ (let h = within f inside in absurd cc) | inr not_inside ↦ not_inside ]

module _ (held middle inner : Group) (below : IsWithin middle held) (within : IsWithin inner middle) where
  pub projected-projected : (ps : List Property) (values : List Value) →
      projected ps middle inner (projected ps held middle values) ≡ projected ps held inner values
  projected-projected [] values = refl
  projected-projected (p ∷ ps) [] =
      ap (projected (p ∷ ps) middle inner) (projected-nil (p ∷ ps) held middle) ∙ projected-nil (p ∷ ps) middle inner
      ∙ sym (projected-nil (p ∷ ps) held inner)
  projected-projected (p ∷ ps) (v ∷ values) =
      elim (cases_Bool (in_group p.flag held)) [
        | inl in_held ↦ elim (cases_Bool (in_group p.flag middle)) [
          | inl in_middle ↦
              let middle_is = ap (projected (p ∷ ps) middle inner) (projected-shown p ps held middle v values in_held in_middle) in
              elim (cases_Bool (in_group p.flag inner)) [
                | inl in_inner ↦ middle_is ∙ projected-shown p ps middle inner v (projected ps held middle values) in_middle in_inner
                    ∙ ap (λ l. v ∷ l) (projected-projected ps values) ∙ sym (projected-shown p ps held inner v values in_held in_inner)
                | inr out ↦ middle_is ∙ projected-hidden p ps middle inner v (projected ps held middle values) in_middle out
                    ∙ projected-projected ps values ∙ sym (projected-hidden p ps held inner v values in_held out)
              ]
          | inr out ↦
              ap (projected (p ∷ ps) middle inner) (projected-hidden p ps held middle v values in_held out)
              ∙ projected-out p ps middle inner (projected ps held middle values) out ∙ projected-projected ps values
              ∙ sym (projected-hidden p ps held inner v values in_held (outside p.flag inner middle within out))
        ]
        | inr out ↦
            ap (projected (p ∷ ps) middle inner) (projected-out p ps held middle (v ∷ values) out)
            ∙ projected-out p ps middle inner (projected ps held middle (v ∷ values)) (outside p.flag middle held below out)
            ∙ projected-projected ps (v ∷ values) ∙ sym (projected-out p ps held inner (v ∷ values) out)
      ]

other-within : IsWithin group.Other group.Ghost
other-within flag.Base h = absurd cc
other-within flag.BaseAndClient h = absurd cc
other-within flag.CellPrivate h = absurd cc
other-within flag.CellPublic h = refl
other-within flag.CellPublicAndOwn h = refl
other-within flag.OwnClient h = absurd cc
other-within flag.OtherClients h = refl
other-within flag.AllClients h = refl

pub other-of-ghost : (ps : List Property) (s : State) → projected ps group.Ghost group.Other (ghost_of ps s).props ≡ (other_of ps s).props
other-of-ghost ps s = projected-projected group.Real group.Ghost group.Other (shown-within part.Cell) other-within ps s.props

pub others-see-ghost : (ps : List Property) (s t : State) → ghost_of ps s ≡ ghost_of ps t → other_of ps s ≡ other_of ps t
others-see-ghost ps s t same =
    let placed : s.pos ≡ t.pos = ap (λ u. u.pos) same in
    let values : (other_of ps s).props ≡ (other_of ps t).props =
    sym (other-of-ghost ps s) ∙ ap (λ u. projected ps group.Ghost group.Other u.props) same ∙ other-of-ghost ps t in
    rw (placed, values) refl

same-values : (ps : List Property) (part : Part) (s t : State) → SameShown ps part s t →
    projected ps (held_by part) (shown_by part) s.props ≡ projected ps (held_by part) (shown_by part) t.props
same-values ps part.Cell s t same = ap (λ u. u.props) same
same-values ps part.Base s t same = same

pub same-text : (ps : List Property) (part : Part) (s t : State) → SameShown ps part s t → (g : Group) → IsWithin g (shown_by part) →
    text_of_projected ps (held_by part) g s ≡ text_of_projected ps (held_by part) g t
same-text ps part s t same g within =
    let whole = projected-projected (held_by part) (shown_by part) g (shown-within part) within ps in
    ap (values_text ps g) (sym (whole s.props) ∙ ap (projected ps (shown_by part) g) (same-values ps part s t same) ∙ whole t.props)

-- the values of a group projected to a group within it are of that group
pub projected_of_group : (held g : Group) → IsWithin g held → (ps : List Property) (values : List Value) → IsOfGroup ps held values →
    IsOfGroup ps g (projected ps held g values)
projected_of_group held g within [] [] are = tt
projected_of_group held g within [] (v ∷ values) are = absurd are
projected_of_group held g within (p ∷ ps) [] are =
    elim (cases_Bool (in_group p.flag held)) [
      | inl in_held ↦ absurd (rw in_held at are)
      | inr out ↦ rw (projected-out p ps held g [] out, outside p.flag g held within out)
          (projected_of_group held g within ps [] (rw out at are))
    ]
projected_of_group held g within (p ∷ ps) (v ∷ values) are =
    elim (cases_Bool (in_group p.flag held)) [
      | inl in_held ↦
          let both = rw in_held at are in
          elim (cases_Bool (in_group p.flag g)) [
            | inl in_g ↦ rw (projected-shown p ps held g v values in_held in_g, in_g)
                (both.0, projected_of_group held g within ps values both.1)
            | inr out ↦ rw (projected-hidden p ps held g v values in_held out, out) (projected_of_group held g within ps values both.1)
          ]
      | inr out ↦ rw (projected-out p ps held g (v ∷ values) out, outside p.flag g held within out)
          (projected_of_group held g within ps (v ∷ values) (rw out at are))
    ]

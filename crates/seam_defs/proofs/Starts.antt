-- The values of a new entity are of its type's groups.
use Rattle.std.proofs.Common.{List, [], ◌∷◌, All, inl, inr}
use Rattle.std.proofs.lemmas.Bool.{cases_Bool}
use Rattle.std.proofs.lemmas.List.Elements.{All-head, All-tail}
use Rattle.seam_value.specs.Values.{Fits}
use Rattle.seam_defs.specs.declared.flags.Group.{Group}
use Rattle.seam_defs.specs.declared.types.Property.{Property}
use Rattle.seam_defs.specs.Groups.{in_group}
use Rattle.seam_defs.specs.Deeds.{start_values, IsOfGroup}

abbrev HasDefault : Property → Type 0
HasDefault p = Fits p.default p.ty

pub start_of_group : (ps : List Property) (g : Group) → All HasDefault ps → IsOfGroup ps g (start_values ps g)
start_of_group [] g fit = tt
start_of_group (p ∷ ps) g fit =
    elim (cases_Bool (in_group p.flag g)) [
      | inl inside ↦ rw inside (All-head HasDefault p ps fit, start_of_group ps g (All-tail HasDefault p ps fit))
      | inr out ↦ rw out (start_of_group ps g (All-tail HasDefault p ps fit))
    ]

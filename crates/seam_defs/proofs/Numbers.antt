-- What a number of well-formed definitions means.
use Rattle.std.proofs.Common.{◌≡◌, ℕ, refl, List, length, true, lit≤, inl, inr}
use Rattle.std.proofs.lemmas.Bool.{cases_lt}
use Rattle.std.proofs.lemmas.List.{get_or_past}
use Rattle.std.proofs.lemmas.List.Elements.{All-nil}
use Rattle.seam_defs.specs.declared.types.TypeDef.{TypeDef}
use Rattle.seam_defs.specs.Types.{no_type, type_of, names_of_methods, are_rising, AreDefs, IsType}

no_type-is : IsType no_type
no_type-is =
    record { properties = lit≤ tt; property_names = refl; defaults = All-nil _; methods = lit≤ tt; method_names = refl; bodies = All-nil _ }

-- every number means a well-formed type
pub type_of-is : (defs : List TypeDef) → AreDefs defs → (ty : ℕ) → IsType (type_of defs ty)
type_of-is defs are ty =
    elim (cases_lt ty (length defs)) [
      | inl within ↦ are.types ty no_type within
      | inr past ↦ rw (get_or_past defs ty no_type past) no_type-is
    ]

pub rising-methods : (defs : List TypeDef) → AreDefs defs → (ty : ℕ) → are_rising (names_of_methods (type_of defs ty).methods) ≡ true
rising-methods defs are ty = let is = type_of-is defs are ty in is.method_names

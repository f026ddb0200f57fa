-- Values that fit place by place: what steps of the code say, and no public contract.
use Rattle.std.specs.Prelude.{◌≡◌, ℕ, ◌<◌, Bool, true, false, List, Option, Some, None, slice_get, slice_index_or}
use Rattle.seam_value.specs.Values.{Fits}
use Rattle.seam_value.specs.declared.types.ValueType.{ValueType}
use Rattle.seam_value.specs.declared.values.Value.{Value}
use Rattle.seam_defs.specs.declared.flags.Group.{Group}
use Rattle.seam_defs.specs.declared.types.Property.{Property}
use Rattle.seam_defs.specs.Groups.{in_group}
use Rattle.seam_defs.specs.Deeds.{place_of}

abbrev pub is_held : Option Property → Group → Bool
is_held (Some p) g = in_group p.flag g
is_held None g = false

-- whether there is a property of the number, and it is in the group
abbrev pub is_in : List Property → Group → ℕ → Bool
is_in ps g k = is_held (slice_get ps k) g

abbrev pub IsFitting : ValueType → Option Value → Type 0
IsFitting t (Some v) = Fits v t
IsFitting t None = ⊥

-- there is a value at a place, and it fits a type
abbrev pub FitsAt : ValueType → List Value → ℕ → Type 0
FitsAt t values place = IsFitting t (slice_get values place)

abbrev pub property_at : List Property → ℕ → Property → Property
property_at ps k d = slice_index_or ps k d

-- the values of the group's properties below `n` fit their types
abbrev pub FitBelow : List Property → Group → List Value → ℕ → Type 0
FitBelow ps g values n =
    (k : ℕ) (d : Property) → k < n → in_group (property_at ps k d).flag g ≡ true → FitsAt (property_at ps k d).ty values (place_of ps g k)

-- the first `n` arguments fit their types
abbrev pub ArgsFitBelow : List ValueType → List Value → ℕ → Type 0
ArgsFitBelow types values n = (k : ℕ) (d : ValueType) → k < n → FitsAt (slice_index_or types k d) values k

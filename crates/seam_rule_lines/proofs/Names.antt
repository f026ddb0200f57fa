-- The places of names among the types and the methods.
use Rattle.std.proofs.Common.{◌≡◌, ◌<◌, ℕ, List, length, ◌∙◌, ap, Some}
use Rattle.std.specs.Prelude.{slice_get, option_map}
use Rattle.std.proofs.lemmas.Option.{slice_get-map, slice_get-get_or}
use Rattle.seam_defs.specs.Types.{type_of, method_of, no_type, no_method, names_of_types, names_of_methods}
use Rattle.seam_defs.specs.declared.types.TypeDef.{TypeDef}
use Rattle.seam_defs.specs.declared.types.Method.{Method}

pub place_of_type : (defs : List TypeDef) (name : List ℕ) (ty : ℕ) → ty < length defs → (type_of defs ty).name ≡ name →
    slice_get (names_of_types defs) ty ≡ Some name
place_of_type defs name ty has named =
    slice_get-map (λ (t : TypeDef). t.name) defs ty ∙ ap (option_map (λ (t : TypeDef). t.name)) (slice_get-get_or defs ty no_type has)
    ∙ ap (λ (n : List ℕ). Some n) named

pub place_of_method : (t : TypeDef) (name : List ℕ) (m : ℕ) → m < length t.methods → (method_of t m).name ≡ name
    → slice_get (names_of_methods t.methods) m ≡ Some name
place_of_method t name m has named =
    let methods : List Method = t.methods in
    slice_get-map (λ (x : Method). x.name) methods m ∙ ap (option_map (λ (x : Method). x.name)) (slice_get-get_or methods m no_method has)
    ∙ ap (λ (n : List ℕ). Some n) named

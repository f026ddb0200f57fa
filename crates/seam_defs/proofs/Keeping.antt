-- A deed that fits leaves the values of a group those of the group.
use Rattle.std.proofs.Common.{◌≡◌, ◌≢◌, ℕ, ℤ, pos, zero, suc, ◌-◌, ◌<◌, ◌≤ℤ◌, refl, sym, ap, ◌∙◌, List, [], ◌∷◌, length, get_or, set}
use Rattle.std.proofs.Common.{slice_get, Some, All, true, inl, inr, rules, arith}
use Rattle.std.specs.Int.{int_max, int_min}
use Rattle.std.proofs.lemmas.Int.{ints, clamps}
use Rattle.std.proofs.lemmas.Bool.{cases_eq}
use Rattle.std.proofs.lemmas.List.{length-set}
use Rattle.std.proofs.lemmas.List.Elements.{All-tail, All-head}
use Rattle.std.proofs.lemmas.Option.{slice_get_within, get_or_from_slice_get}
use Rattle.seam_value.specs.Types.{least, greatest}
use Rattle.seam_value.specs.Values.{Fits}
use Rattle.seam_value.specs.declared.types.ValueType.{ValueType}
use Rattle.seam_value.specs.declared.types.ValueType.TheVariants.{Int8, Int16, Int32, Int64, Uint8, Uint16, Uint32, Uint64, Text}
use Rattle.seam_value.specs.declared.values.Value.{Value}
use Rattle.seam_value.specs.declared.values.Value.TheVariants.{Number}
use Rattle.seam_defs.specs.declared.flags.Group.{Group}
use Rattle.seam_defs.specs.declared.types.Property.{Property}
use Rattle.seam_defs.specs.declared.types.Method.{Method}
use Rattle.seam_defs.specs.declared.types.Operand.{Operand}
use Rattle.seam_defs.specs.declared.types.Operand.TheVariants.{Arg, Constant}
use Rattle.seam_defs.specs.declared.types.Operation.{Operation}
use Rattle.seam_defs.specs.declared.types.Operation.TheVariants.{Put, Add, Sub}
use Rattle.seam_defs.specs.Groups.{in_group, held_by}
use Rattle.seam_defs.specs.Types.{IsMethod, IsOperation, OperandFits}
use Rattle.seam_defs.specs.Deeds.{nearest, place_of, type_at, value_at, number_of, operated, target, operand, operand_value}
use Rattle.seam_defs.specs.Deeds.{after_operation, after_body, IsOfGroup, AreArgsOf}
use Rattle.seam_defs.specs.Fitting.{is_in, FitsAt, FitBelow}
use Rattle.seam_defs.proofs.Fitting.{of-to, of-from, takes-from}
use Rattle.seam_defs.proofs.PropertyPlaces.{one-place}

between : (l h z : ℤ) → l ≤ℤ h → (l ≤ℤ int_max (int_min z h) l) × (int_max (int_min z h) l ≤ℤ h)
between l h z proper = (omega (arith, ints, clamps), omega (arith, ints, clamps))

proper-range : (t : ValueType) → least t ≤ℤ greatest t
proper-range Int8 = search rules
proper-range Int16 = search rules
proper-range Int32 = search rules
proper-range Int64 = search rules
proper-range Uint8 = search rules
proper-range Uint16 = search rules
proper-range Uint32 = search rules
proper-range Uint64 = search rules
proper-range Text = search rules

nearest-fits : (t : ValueType) (z : ℤ) → t ≢ Text → Fits (Number (nearest t z)) t
nearest-fits t z numeric = let both = between (least t) (greatest t) z (proper-range t) in (numeric, both.0, both.1)

fits-value : (t : ValueType) (values : List Value) (j : ℕ) (d : Value) → FitsAt t values j → Fits (get_or values j d) t
fits-value t [] j d fits = absurd fits
fits-value t (v ∷ values) zero d fits = fits
fits-value t (v ∷ values) (suc j) d fits = fits-value t values j d fits

operand-fits : (types : List ValueType) (args : List Value) (t : ValueType) (a : Operand) → AreArgsOf types args → OperandFits types t a →
    Fits (operand_value args a) t
operand-fits types args t (Constant v) takes fits = fits
operand-fits types args t (Arg k) takes (counted, at) =
    let within = slice_get_within types (k - 1) t at in
    let placed = (takes-from types args takes).1 (k - 1) t within in
    fits-value t args (k - 1) (Number (pos 0)) (rw (get_or_from_slice_get types (k - 1) t t at) at placed)

fits-within : (t : ValueType) (values : List Value) (j : ℕ) → FitsAt t values j → j < length values
fits-within t [] j fits = absurd fits
fits-within t (v ∷ values) zero fits = omega arith
fits-within t (v ∷ values) (suc j) fits = let rest = fits-within t values j fits in omega arith

set-same : (t : ValueType) (values : List Value) (j : ℕ) (v : Value) → j < length values → Fits v t → FitsAt t (set values j v) j
set-same t [] j v within fits = absurd (omega arith)
set-same t (w ∷ values) zero v within fits = fits
set-same t (w ∷ values) (suc j) v within fits = set-same t values j v (omega arith) fits

set-other : (t : ValueType) (values : List Value) (i j : ℕ) (v : Value) → j ≢ i → FitsAt t values j → FitsAt t (set values i v) j
set-other t [] i j v apart fits = fits
set-other t (w ∷ values) zero zero v apart fits = absurd (apart refl)
set-other t (w ∷ values) zero (suc j) v apart fits = fits
set-other t (w ∷ values) (suc i) zero v apart fits = fits
set-other t (w ∷ values) (suc i) (suc j) v apart fits = set-other t values i j v (λ same. apart (ap suc same)) fits

type-at : (ps : List Property) (k : ℕ) (p : Property) → slice_get ps k ≡ Some p → type_at ps k ≡ p.ty
type-at [] k p at = absurd cc
type-at (q ∷ ps) zero p at = let one : q ≡ p = cc in ap (λ r. r.ty) one
type-at (q ∷ ps) (suc k) p at = type-at ps k p at

is-in-at : (ps : List Property) (g : Group) (k : ℕ) (d : Property) → k < length ps → in_group (get_or ps k d).flag g ≡ true →
    is_in ps g k ≡ true
is-in-at [] g k d within at = absurd (omega arith)
is-in-at (p ∷ ps) g zero d within at = at
is-in-at (p ∷ ps) g (suc k) d within at = is-in-at ps g k d (omega arith) at

module _ (ps : List Property) (m : Method) (args : List Value) (takes : AreArgsOf m.args args) where
  -- the property that an operation is on, and that what the operation gives fits it
  given : (op : Operation) → IsOperation ps m op → (p : Property) × (slice_get ps (target op) ≡ Some p)
      × (in_group p.flag (held_by m.part) ≡ true) × ((z : ℤ) → Fits (operated op p.ty z (operand_value args (operand op))) p.ty)
  given (Put k a) (p, at, held, fits) = (p, at, held, λ z. operand-fits m.args args p.ty a takes fits)
  given (Add k a) ((p, at, held, fits), (q, at_q, numeric)) =
      let one : p ≡ q = cc in
      (p, at, held, λ z. nearest-fits p.ty _ (rw one numeric))
  given (Sub k a) ((p, at, held, fits), (q, at_q, numeric)) =
      let one : p ≡ q = cc in
      (p, at, held, λ z. nearest-fits p.ty _ (rw one numeric))

  operation-keeps : (op : Operation) → IsOperation ps m op → (values : List Value) → FitBelow ps (held_by m.part) values (length ps) →
      FitBelow ps (held_by m.part) (after_operation ps (held_by m.part) args values op) (length ps)
  operation-keeps op is values fit k d below at =
      let g = held_by m.part in
      let (p, found, held, fits) = given op is in
      let place = place_of ps g (target op) in
      elim (cases_eq k (target op)) [
        | inl same ↦
            let there : get_or ps k d ≡ p = ap (λ q. get_or ps q d) same ∙ get_or_from_slice_get ps (target op) p d found in
            let before : FitsAt p.ty values place = rw (there, same) at (fit k d below at) in
            let z = number_of (value_at values place) in
            let now : FitsAt p.ty (set values place (operated op p.ty z (operand_value args (operand op)))) place =
            set-same p.ty values place _ (fits-within p.ty values place before) (fits z) in
            rw (there, same, type-at ps (target op) p found) now
        | inr other ↦ set-other (get_or ps k d).ty values place (place_of ps g k) _
            (λ e. other (one-place ps g k (target op) (is-in-at ps g k d below at) (rw found held) e)) (fit k d below at)
      ]

  body-keeps : (body : List Operation) → All (IsOperation ps m) body → (values : List Value) →
      FitBelow ps (held_by m.part) values (length ps) →
      FitBelow ps (held_by m.part) (after_body ps (held_by m.part) args body values) (length ps)
  body-keeps [] is values fit = fit
  body-keeps (op ∷ body) is values fit =
      body-keeps body (All-tail (IsOperation ps m) op body is) (after_operation ps (held_by m.part) args values op)
      (operation-keeps op (All-head (IsOperation ps m) op body is) values fit)

  body-length : (body : List Operation) (values : List Value) → length (after_body ps (held_by m.part) args body values) ≡ length values
  body-length [] values = refl
  body-length (op ∷ body) values =
      body-length body (after_operation ps (held_by m.part) args values op) ∙ length-set values (place_of ps (held_by m.part) (target op)) _

  pub method-keeps : IsMethod ps m → (values : List Value) → IsOfGroup ps (held_by m.part) values →
      IsOfGroup ps (held_by m.part) (after_body ps (held_by m.part) args m.body values)
  method-keeps is values of =
      let are = of-from ps (held_by m.part) values of in
      of-to ps (held_by m.part) (after_body ps (held_by m.part) args m.body values) (are.0 ∙ sym (body-length m.body values))
      (body-keeps m.body is.body values are.1)

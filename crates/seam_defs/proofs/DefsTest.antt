-- A test of well-formed definitions, which computes.
use Rattle.std.proofs.Common.{◌≡◌, ◌≢◌, ℕ, ◌-◌, Bool, true, false, not, ◌&&◌, eqb, List, [], ◌∷◌, length, All, Option, Some, None, refl, ap}
use Rattle.std.proofs.Common.{◌∙◌, sym}
use Rattle.std.specs.Prelude.{nat_le, nat_lt, slice_get, slice_index_or, codes}
use Rattle.std.specs.List.{list_all}
use Rattle.std.specs.Str.{bytes_eq}
use Rattle.std.proofs.lemmas.Bool.{eqb-true, leb-true, ltb-true}
use Rattle.std.proofs.lemmas.List.Elements.{All-cons, All-nil}
use Rattle.std.proofs.lemmas.Slice.Eq.{bytes_eq-Decides}
use Rattle.seam_value.specs.Values.{Fits}
use Rattle.seam_value.specs.declared.types.ValueType.{ValueType}
use Rattle.seam_value.specs.declared.types.ValueType.TheVariants as type
use Rattle.seam_defs.specs.declared.types.Property.{Property}
use Rattle.seam_defs.specs.declared.types.Operand.{Operand}
use Rattle.seam_defs.specs.declared.types.Operand.TheVariants.{Arg, Constant}
use Rattle.seam_defs.specs.declared.types.Operation.{Operation}
use Rattle.seam_defs.specs.declared.types.Operation.TheVariants.{Put, Add, Sub}
use Rattle.seam_defs.specs.declared.types.Method.{Method}
use Rattle.seam_defs.specs.declared.types.TypeDef.{TypeDef}
use Rattle.seam_defs.specs.Groups.{in_group, held_by}
use Rattle.seam_defs.specs.Tests.{is_text, fits_value}
use Rattle.seam_defs.specs.Types.{are_rising, names_of_properties, names_of_methods, names_of_types, OperandFits, WorksOn, IsNumeric}
use Rattle.seam_defs.specs.Types.{IsOperation, IsMethod, IsType, AreDefs}
use Rattle.seam_defs.proofs.TestLemmas.{text-Decides, fits-Decides}

-- ---- the test

abbrev number_of : ValueType → ℕ
number_of type.Int8 = 0
number_of type.Int16 = 1
number_of type.Int32 = 2
number_of type.Int64 = 3
number_of type.Uint8 = 4
number_of type.Uint16 = 5
number_of type.Uint32 = 6
number_of type.Uint64 = 7
number_of type.Text = 8

abbrev has_type : Option ValueType → ValueType → Bool
has_type (Some s) t = eqb (number_of s) (number_of t)
has_type None t = false

abbrev is_operand : List ValueType → ValueType → Operand → Bool
is_operand args t (Arg k) = nat_lt 0 k && has_type (slice_get args (k - 1)) t
is_operand args t (Constant v) = fits_value t v

abbrev works_on : Option Property → Method → Operand → Bool
works_on (Some p) m a = in_group p.flag (held_by m.part) && is_operand m.args p.ty a
works_on None m a = false

abbrev is_numeric : Option Property → Bool
is_numeric (Some p) = not (is_text p.ty)
is_numeric None = false

abbrev is_operation : List Property → Method → Operation → Bool
is_operation ps m (Put k a) = works_on (slice_get ps k) m a
is_operation ps m (Add k a) = works_on (slice_get ps k) m a && is_numeric (slice_get ps k)
is_operation ps m (Sub k a) = works_on (slice_get ps k) m a && is_numeric (slice_get ps k)

abbrev is_method : List Property → Method → Bool
is_method ps m =
    not (bytes_eq m.name (codes "move")) && (nat_le (length m.args) 8 && (nat_le (length m.body) 32 && list_all (is_operation ps m) m.body))

abbrev has_default : Property → Bool
has_default p = fits_value p.ty p.default

abbrev is_type : TypeDef → Bool
is_type t =
    nat_le (length t.properties) 32
    && (are_rising (names_of_properties t.properties)
    && (list_all has_default t.properties
    && (nat_le (length t.methods) 32 && (are_rising (names_of_methods t.methods) && list_all (is_method t.properties) t.methods))))

abbrev pub are_defs : List TypeDef → Bool
are_defs ds = nat_le (length ds) 64 && (are_rising (names_of_types ds) && list_all is_type ds)

-- ---- what it tells

both : (a b : Bool) → (a && b) ≡ true → (a ≡ true) × (b ≡ true)
both true b h = (refl, h)
both false b h = cc

all_if : {X : Type 0} (p : X → Bool) (P : X → Type 0) → ((x : X) → p x ≡ true → P x) → (xs : List X) → list_all p xs ≡ true → All P xs
all_if p P each [] h = All-nil P
all_if p P each (x ∷ xs) h = let two = both (p x) (list_all p xs) h in All-cons P x xs (each x two.0) (all_if p P each xs two.1)

abbrev numbered : ℕ → ValueType
numbered n =
    slice_index_or (type.Int8 ∷ type.Int16 ∷ type.Int32 ∷ type.Int64 ∷ type.Uint8 ∷ type.Uint16 ∷ type.Uint32 ∷ type.Uint64 ∷ []) n
    type.Text

back : (t : ValueType) → numbered (number_of t) ≡ t
back type.Int8 = refl
back type.Int16 = refl
back type.Int32 = refl
back type.Int64 = refl
back type.Uint8 = refl
back type.Uint16 = refl
back type.Uint32 = refl
back type.Uint64 = refl
back type.Text = refl

typed : (o : Option ValueType) (t : ValueType) → has_type o t ≡ true → o ≡ Some t
typed (Some s) t h = ap Some (sym (back s) ∙ ap numbered (eqb-true (number_of s) (number_of t) h) ∙ back t)
typed None t h = absurd cc

operand : (args : List ValueType) (t : ValueType) (a : Operand) → is_operand args t a ≡ true → OperandFits args t a
operand args t (Arg k) h =
    let two = both (nat_lt 0 k) (has_type (slice_get args (k - 1)) t) h in
    (ltb-true 0 k two.0, typed (slice_get args (k - 1)) t two.1)
operand args t (Constant v) h = (fits-Decides t v).0 h

works : (ps : List Property) (k : ℕ) (o : Option Property) (m : Method) (a : Operand) → slice_get ps k ≡ o → works_on o m a ≡ true →
    WorksOn ps m k a
works ps k (Some p) m a e h =
    let two = both (in_group p.flag (held_by m.part)) (is_operand m.args p.ty a) h in
    (p, e, two.0, operand m.args p.ty a two.1)
works ps k None m a e h = absurd cc

not_text : (t : ValueType) → not (is_text t) ≡ true → t ≢ type.Text
not_text t h e = let text = (text-Decides t).1 e in untrue (is_text t) h text
  where
    untrue : (b : Bool) → not b ≡ true → b ≡ true → ⊥
    untrue true h k = cc
    untrue false h k = cc

numeric : (ps : List Property) (k : ℕ) (o : Option Property) → slice_get ps k ≡ o → is_numeric o ≡ true → IsNumeric ps k
numeric ps k (Some p) e h = (p, e, not_text p.ty h)
numeric ps k None e h = absurd cc

sum : (ps : List Property) (m : Method) (k : ℕ) (a : Operand) → (works_on (slice_get ps k) m a && is_numeric (slice_get ps k)) ≡ true →
    WorksOn ps m k a × IsNumeric ps k
sum ps m k a h =
    let two = both (works_on (slice_get ps k) m a) (is_numeric (slice_get ps k)) h in
    (works ps k (slice_get ps k) m a refl two.0, numeric ps k (slice_get ps k) refl two.1)

operation : (ps : List Property) (m : Method) (op : Operation) → is_operation ps m op ≡ true → IsOperation ps m op
operation ps m (Put k a) h = works ps k (slice_get ps k) m a refl h
operation ps m (Add k a) h = sum ps m k a h
operation ps m (Sub k a) h = sum ps m k a h

other_name : (name : List ℕ) → not (bytes_eq name (codes "move")) ≡ true → name ≢ codes "move"
other_name name h same = untrue (bytes_eq name (codes "move")) h ((bytes_eq-Decides name (codes "move")).1 same)
  where
    untrue : (b : Bool) → not b ≡ true → b ≡ true → ⊥
    untrue true h k = cc
    untrue false h k = cc

method : (ps : List Property) (m : Method) → is_method ps m ≡ true → IsMethod ps m
method ps m h =
    let name = both (not (bytes_eq m.name (codes "move"))) _ h in
    let args = both (nat_le (length m.args) 8) _ name.1 in
    let body = both (nat_le (length m.body) 32) _ args.1 in
    record {
      not_move = other_name m.name name.0;
      args = leb-true (length m.args) 8 args.0;
      operations = leb-true (length m.body) 32 body.0;
      body = all_if (is_operation ps m) (IsOperation ps m) (operation ps m) m.body body.1;
    }

type_ : (t : TypeDef) → is_type t ≡ true → IsType t
type_ t h =
    let properties = both (nat_le (length t.properties) 32) _ h in
    let names = both (are_rising (names_of_properties t.properties)) _ properties.1 in
    let defaults = both (list_all has_default t.properties) _ names.1 in
    let methods = both (nat_le (length t.methods) 32) _ defaults.1 in
    let method_names = both (are_rising (names_of_methods t.methods)) _ methods.1 in
    record {
      properties = leb-true (length t.properties) 32 properties.0;
      property_names = names.0;
      defaults = all_if has_default (λ p. Fits p.default p.ty) (λ p e. (fits-Decides p.ty p.default).0 e) t.properties defaults.0;
      methods = leb-true (length t.methods) 32 methods.0;
      method_names = method_names.0;
      bodies = all_if (is_method t.properties) (IsMethod t.properties) (method t.properties) t.methods method_names.1;
    }

pub defs : (ds : List TypeDef) → are_defs ds ≡ true → AreDefs ds
defs ds h =
    let count = both (nat_le (length ds) 64) _ h in
    let names = both (are_rising (names_of_types ds)) _ count.1 in
    record { count = leb-true (length ds) 64 count.0; names = names.0; types = all_if is_type IsType type_ ds names.1 }

-- What a header's tables define is well formed.
use Rattle.std.proofs.Common.{◌≡◌, ◌≢◌, ◌<◌, ◌≤◌, ◌-◌, ℕ, Bool, true, false, not, IsTrue, List, [], ◌∷◌, length, All, Option, Some, None}
use Rattle.std.proofs.Common.{codes, refl, sym, arith}
use Rattle.std.specs.Str.{bytes_eq}
use Rattle.std.proofs.lemmas.Bool.{false≢true}
use Rattle.std.proofs.lemmas.List.Elements.{All-cons, All-nil}
use Rattle.std.proofs.lemmas.Option.{slice_get_within}
use Rattle.toml.specs.Data.{Data, string, array, table, Members, no_members, member, get_member, Items, no_items, item}
use Rattle.toml.specs.declared.value.Value.{Value}
use Rattle.toml.proofs.Views.{Entry}
use Rattle.toml.specs.View.{items_view, members_view}
use Rattle.seam_value.specs.Values.{Fits}
use Rattle.seam_value.specs.declared.types.ValueType.{ValueType}
use Rattle.seam_defs.specs.declared.flags.Part.{Part}
use Rattle.seam_defs.specs.declared.types.Property.{Property}
use Rattle.seam_defs.specs.declared.types.Operation.{Operation}
use Rattle.seam_defs.specs.declared.types.Operation.TheVariants.{Put, Add, Sub}
use Rattle.seam_defs.specs.declared.types.Operand.{Operand}
use Rattle.seam_defs.specs.declared.types.Method.{Method}
use Rattle.seam_defs.specs.declared.types.TypeDef.{TypeDef}
use Rattle.seam_defs.specs.declared.limits.TheConstants.{MOST_PROPERTIES, MOST_METHODS, MOST_ARGUMENTS, MOST_OPERATIONS}
use Rattle.seam_defs.specs.Types.{is_name, are_rising, names_of_properties, names_of_methods, IsOperation, OperandFits, IsMethod, IsType}
use Rattle.seam_defs.specs.Deeds.{target, operand}
use Rattle.seam_defs.proofs.NameSearch.{and-left, and-right}
use Rattle.seam_toml.specs.declared.operations.Verb.{Verb}
use Rattle.seam_toml.specs.declared.operations.Verb.TheVariants as verb
use Rattle.seam_toml.specs.declared.operations.Given.{Given}
use Rattle.seam_toml.specs.declared.operations.Given.TheVariants as given
use Rattle.seam_toml.specs.declared.operations.Step.{Step}
use Rattle.seam_toml.specs.Roles.{is_method_name}
use Rattle.seam_toml.specs.Tables.{Each, EachUnder, EachItem, EachItemUnder}
use Rattle.seam_toml.specs.Operations.{signature, IsOperationText}
use Rattle.seam_toml.specs.Steps.{made, operand_of, operation_of, IsSmallGiven, IsSmall}
use Rattle.seam_toml.specs.Definitions.{HasPart, HasArguments, exposed_or_not, IsOperationData, DefinesProperty, DefinesMethod, DefinesType}
use Rattle.seam_toml.proofs.OperationLemmas.{operand_fits}
use Rattle.seam_toml.proofs.Uniqueness.{table_is_one, part_is_one, arguments_are_one, properties_are_one}

pub method_name_is_name : (key : List ℕ) → IsTrue (is_method_name key) → IsTrue (is_name key)
method_name_is_name key named = and-left (is_name key) (not (bytes_eq key (codes "move"))) named

not_and_is : (b : Bool) → not b ≡ true → b ≡ false
not_and_is false e = refl
not_and_is true e = absurd cc

name_is_not_move : (key : List ℕ) → IsTrue (is_method_name key) → key ≢ codes "move"
name_is_not_move key named e =
    let other = not_and_is _ (and-right (is_name key) (not (bytes_eq key (codes "move"))) named) in
    let same : bytes_eq (codes "move") (codes "move") ≡ false = rw e at other in
    false≢true (sym same)

-- ---- operations

typed_so : (ps : List Property) (m : Method) (op : Operation) → IsOperation ps (signature m.part m.args) op → IsOperation ps m op
typed_so ps m (Put k x) typed = typed
typed_so ps m (Add k x) typed = typed
typed_so ps m (Sub k x) typed = typed

said_is_typed : (ps : List Property) (m : Method) (d : Data) (op : Operation) → IsOperationData ps m.part m.args d op → IsOperation ps m op
said_is_typed ps m (string text) op says = typed_so ps m op says.spell.typed
said_is_typed ps m d op says = absurd says

all_typed : (ps : List Property) (m : Method) (ds : Items) (ops : List Operation) → EachItem (IsOperationData ps m.part m.args) ds ops →
    All (IsOperation ps m) ops
all_typed ps m no_items [] each = All-nil _
all_typed ps m no_items (op ∷ ops) each = absurd each
all_typed ps m (item d ds) [] each = absurd each
all_typed ps m (item d ds) (op ∷ ops) each =
    All-cons (IsOperation ps m) op ops (said_is_typed ps m d op each.0) (all_typed ps m ds ops each.1)

body_is_typed : (ps : List Property) (m : Method) (o : Option Data) → EachItemUnder (IsOperationData ps m.part m.args) o m.body →
    All (IsOperation ps m) m.body
body_is_typed ps m None each = rw each (All-nil _)
body_is_typed ps m (Some (array ds)) each = all_typed ps m ds m.body each
body_is_typed ps m (Some d) each = absurd each

target_made : (v : Verb) (k : ℕ) (x : Operand) → target (made v k x) ≡ k
target_made verb.Set k x = refl
target_made verb.Add k x = refl
target_made verb.Sub k x = refl

operand_made : (v : Verb) (k : ℕ) (x : Operand) → operand (made v k x) ≡ x
operand_made verb.Set k x = refl
operand_made verb.Add k x = refl
operand_made verb.Sub k x = refl

small_given : (args : List ValueType) (t : ValueType) (g : Given) → length args ≤ MOST_ARGUMENTS →
    OperandFits args t (operand_of g) → IsSmallGiven g
small_given args t (given.Argument k) few fits =
    let within = slice_get_within args (k - 1) t fits.1 in omega (arith, within, few)
small_given args t (given.Constant v) few fits = tt

-- among few properties and few arguments an operation has small numbers
pub small_step : (ps : List Property) (p : Part) (args : List ValueType) (text : List ℕ) (s : Step) → length ps ≤ MOST_PROPERTIES →
    length args ≤ MOST_ARGUMENTS → IsOperationText ps p args text (operation_of s) → IsSmall s
small_step ps p args text s few few_args says =
    let there = says.spell.there in
    let within = slice_get_within ps (target (operation_of s)) says.spell.property there in
    let k = target_made s.verb s.property (operand_of s.given) in
    let fits = operand_fits ps p args says.spell.property (operation_of s) there says.spell.typed in
    record {
      property = omega (arith, within, k, few);
      given = small_given args _ s.given few_args (rw (operand_made s.verb s.property (operand_of s.given)) at fits);
    }

-- ---- methods and types

pub method_is_sound : (ps : List Property) (key : List ℕ) (d : Data) (m : Method) → DefinesMethod ps key d m → IsMethod ps m
method_is_sound ps key d m defines = record {
  not_move = rw defines.name (name_is_not_move key defines.named);
  args = defines.few_arguments;
  operations = defines.few_operations;
  body = body_is_typed ps m (get_member (codes "body") defines.ms) defines.body;
}

module _ {X : Type 0} (R : List ℕ → Data → X → Type 0) (P : X → Type 0) (sound : (key : List ℕ) (d : Data) (x : X) → R key d x → P x) where
  all_sound : (ms : Members) (xs : List X) → Each R ms xs → All P xs
  all_sound no_members [] each = All-nil P
  all_sound no_members (x ∷ xs) each = absurd each
  all_sound (member key d ms) [] each = absurd each
  all_sound (member key d ms) (x ∷ xs) each = All-cons P x xs (sound key d x each.0) (all_sound ms xs each.1)

  under_sound : (o : Option Data) (xs : List X) → EachUnder R o xs → All P xs
  under_sound None xs each = rw each (All-nil P)
  under_sound (Some (table ms)) xs each = all_sound ms xs each
  under_sound (Some d) xs each = absurd each

pub type_is_sound : (key : List ℕ) (d : Data) (t : TypeDef) → DefinesType key d t → are_rising (names_of_properties t.properties) ≡ true →
    are_rising (names_of_methods t.methods) ≡ true → IsType t
type_is_sound key d t defines up methods_up = record {
  properties = defines.few_properties;
  property_names = up;
  defaults = under_sound DefinesProperty (λ p. Fits p.default p.ty) (λ k e p one. one.fits) _ t.properties defines.properties;
  methods = defines.few_methods;
  method_names = methods_up;
  bodies = under_sound (DefinesMethod t.properties) (IsMethod t.properties) (method_is_sound t.properties) _ t.methods defines.methods;
}

-- ---- as many entries as members

pub as_many : {X : Type 0} (R : List ℕ → Data → X → Type 0) (es : List Entry) (xs : List X) → Each R (members_view es) xs →
    length xs ≡ length es
as_many R [] [] each = refl
as_many R [] (x ∷ xs) each = absurd each
as_many R (e ∷ es) [] each = absurd each
as_many R (e ∷ es) (x ∷ xs) each = omega (arith, as_many R es xs each.1)

pub as_many_items : {X : Type 0} (R : Data → X → Type 0) (vs : List Value) (xs : List X) → EachItem R (items_view vs) xs →
    length xs ≡ length vs
as_many_items R [] [] each = refl
as_many_items R [] (x ∷ xs) each = absurd each
as_many_items R (v ∷ vs) [] each = absurd each
as_many_items R (v ∷ vs) (x ∷ xs) each = omega (arith, as_many_items R vs xs each.1)

-- ---- tables that define nothing

module _ (ps : List Property) (key : List ℕ) (ms : Members) (args : List ValueType) (has_args : HasArguments ms args) where
  pub too_many_arguments : MOST_ARGUMENTS < length args → (m : Method) → ¬ (DefinesMethod ps key (table ms) m)
  too_many_arguments many m defines =
      let same = table_is_one ms defines.ms defines.is in
      let one = arguments_are_one ms args m.args has_args (rw (← same) at defines.args) in
      let few : length args ≤ MOST_ARGUMENTS = rw one defines.few_arguments in
      absurd (omega (arith, many, few))

  pub no_body : (p : Part) → HasPart ms p →
      ((ops : List Operation) → EachItemUnder (IsOperationData ps p args) (get_member (codes "body") ms) ops →
      ¬ (length ops ≤ MOST_OPERATIONS)) → (m : Method) → ¬ (DefinesMethod ps key (table ms) m)
  no_body p has_p none m defines =
      let same = table_is_one ms defines.ms defines.is in
      let one = arguments_are_one ms args m.args has_args (rw (← same) at defines.args) in
      let part = part_is_one ms p m.part has_p (rw (← same) at defines.part) in
      none m.body (rw (part, one) (rw (← same) at defines.body)) defines.few_operations

pub is_method : (ps : List Property) (key : List ℕ) (ms : Members) (m : Method) → m.name ≡ key → IsTrue (is_method_name key) →
    HasPart ms m.part → exposed_or_not (get_member (codes "exposed") ms) ≡ Some m.exposed → HasArguments ms m.args →
    length m.args ≤ MOST_ARGUMENTS → EachItemUnder (IsOperationData ps m.part m.args) (get_member (codes "body") ms) m.body →
    length m.body ≤ MOST_OPERATIONS → DefinesMethod ps key (table ms) m
is_method ps key ms m name named part exposed args few body few_operations = record {
  ms = ms;
  is = refl;
  name = name;
  named = named;
  part = part;
  exposed = exposed;
  args = args;
  few_arguments = few;
  body = body;
  few_operations = few_operations;
}

module _ (key : List ℕ) (ms : Members) (ps : List Property) (each : EachUnder DefinesProperty (get_member (codes "properties") ms) ps) where
  pub too_many_properties : MOST_PROPERTIES < length ps → (t : TypeDef) → ¬ (DefinesType key (table ms) t)
  too_many_properties many t defines =
      let same = table_is_one ms defines.ms defines.is in
      let one = properties_are_one _ ps t.properties each (rw (← same) at defines.properties) in
      let few : length ps ≤ MOST_PROPERTIES = rw one defines.few_properties in
      absurd (omega (arith, many, few))

  pub no_methods : ((xs : List Method) → EachUnder (DefinesMethod ps) (get_member (codes "methods") ms) xs → ¬ (length xs ≤ MOST_METHODS)) →
      (t : TypeDef) → ¬ (DefinesType key (table ms) t)
  no_methods none t defines =
      let same = table_is_one ms defines.ms defines.is in
      let one = properties_are_one _ ps t.properties each (rw (← same) at defines.properties) in
      none t.methods (rw one (rw (← same) at defines.methods)) defines.few_methods

pub is_type : (key : List ℕ) (ms : Members) (t : TypeDef) → t.name ≡ key → IsTrue (is_name key) →
    EachUnder DefinesProperty (get_member (codes "properties") ms) t.properties → length t.properties ≤ MOST_PROPERTIES →
    EachUnder (DefinesMethod t.properties) (get_member (codes "methods") ms) t.methods → length t.methods ≤ MOST_METHODS →
    DefinesType key (table ms) t
is_type key ms t name named properties few methods few_methods = record {
  ms = ms;
  is = refl;
  name = name;
  named = named;
  properties = properties;
  few_properties = few;
  methods = methods;
  few_methods = few_methods;
}

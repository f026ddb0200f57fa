-- A header without a fault defines something: no table of it can fail to.
use Rattle.std.proofs.Common.{◌≡◌, ◌<◌, ◌≤◌, inl, inr, ℕ, Bool, true, false, if◌then◌else◌, IsSome, IsNone, List, [], ◌∷◌, length, Option}
use Rattle.std.proofs.Common.{Some, None, codes, Ordering, Less, Equal, Greater, nat_cmp, refl, sym, ap, ◌∙◌, arith}
use Rattle.std.specs.Cmp.Lexicographic.{slice_cmp}
use Rattle.std.specs.Ordering.{match_ordering}
use Rattle.std.proofs.lemmas.Map.Lookups.{exact_bytes}
use Rattle.std.proofs.lemmas.Bool.{false≢true, cases_lt}
use Rattle.std.proofs.lemmas.Option.{none-some, same_Some}
use Rattle.toml.specs.Data.{Data, string, integer, float, boolean, datetime, array, table, as_table, as_str, as_bool}
use Rattle.toml.specs.Data.{Members, no_members, member, get_member, Items, no_items, item}
use Rattle.seam_value.specs.Types.{name_of}
use Rattle.seam_value.specs.Values.{Fits}
use Rattle.seam_value.specs.declared.types.ValueType.{ValueType}
use Rattle.seam_value.specs.declared.values.Value.{Value}
use Rattle.seam_value.specs.declared.values.Value.TheVariants.{Number, Text}
use Rattle.seam_defs.specs.declared.flags.Flag.{Flag}
use Rattle.seam_defs.specs.declared.flags.Part.{Part}
use Rattle.seam_defs.specs.declared.types.Property.{Property}
use Rattle.seam_defs.specs.declared.types.Operation.{Operation}
use Rattle.seam_defs.specs.declared.types.Method.{Method}
use Rattle.seam_defs.specs.declared.types.TypeDef.{TypeDef}
use Rattle.seam_defs.specs.Names.{flag_name, part_name}
use Rattle.seam_defs.specs.Types.{is_name}
use Rattle.seam_defs.specs.Builtin.{builtin}
use Rattle.seam_defs.specs.declared.limits.TheConstants.{MOST_PROPERTIES, MOST_METHODS, MOST_ARGUMENTS, MOST_OPERATIONS}
use Rattle.seam_toml.specs.declared.roles.Role.{Role}
use Rattle.seam_toml.specs.declared.roles.Role.TheVariants as role
use Rattle.seam_toml.specs.declared.faults.Fault.{Fault}
use Rattle.seam_toml.specs.declared.faults.Fault.TheVariants.{NoSuchKey, BadType, BadFlag, BadDefault, BadBody, TooManyNames, GhostTooNear}
use Rattle.seam_toml.specs.Roles.{role_under, is_method_name}
use Rattle.seam_toml.specs.Tables.{Each, EachUnder, EachItem, EachItemUnder}
use Rattle.seam_toml.specs.Definitions.{HasType, HasPart, NamesType, IsOperationData, data_of, exposed_or_not}
use Rattle.seam_toml.specs.Definitions.{DefinesProperty, DefinesMethod, DefinesType, DefinesTypes}
use Rattle.seam_toml.specs.Faults.{HasStrangeKey, LacksKey, IsTypeName, AreTypeNames, AreTexts, IsPartName, IsOfKind}
use Rattle.seam_toml.specs.Faults.{FitsType, HasBadText, AreBadTexts, HasBadBody, IsBadMethod, HasBadMethod, AreBadMethods}
use Rattle.seam_defs.specs.declared.settings.Settings.{Settings}
use Rattle.seam_defs.specs.Settings.{GhostsReach}
use Rattle.seam_toml.specs.declared.settings.Setting.{Setting}
use Rattle.seam_toml.specs.declared.settings.Setting.TheVariants as setting
use Rattle.seam_toml.specs.Settings.{key_of, number_or_standard, Sets, HasBadSetting}
use Rattle.seam_toml.specs.Header.{HasFaultUnder}
use Rattle.seam_toml.specs.Faults.{HeaderHas, count, count_items, IsAtFault, HasFault, HasFaultBelow}

abbrev Faultless : Role → Data → Type 0
Faultless r d = (f : Fault) → ¬ (HasFault f r d)

abbrev FaultlessBelow : Role → Members → Type 0
FaultlessBelow r ms = (f : Fault) → ¬ (HasFaultBelow f r ms)

at_fault : (f : Fault) (r : Role) (d : Data) → IsAtFault f r d → HasFault f r d
at_fault f r (table ms) bad = inl bad
at_fault f r (string s) bad = bad
at_fault f r (integer z) bad = bad
at_fault f r (float x) bad = bad
at_fault f r (boolean b) bad = bad
at_fault f r (datetime t) bad = bad
at_fault f r (array ds) bad = bad

kind_of : (r : Role) (d : Data) → Faultless r d → ¬ (¬ (IsOfKind r d))
kind_of r d none other = none BadType (at_fault BadType r d other)

below : (r : Role) (ms : Members) → Faultless r (table ms) → FaultlessBelow r ms
below r ms none f bad = none f (inr bad)

-- ---- what is under a key

module _ (f : Fault) (r : Role) (key : List ℕ) (d : Data) (b : Role) (is : role_under r key ≡ Some b) (bad : HasFault f b d) where
  at_entry : (own : List ℕ) (e : Data) (rest : Members) (o : Ordering) → slice_cmp nat_cmp key own ≡ o →
      (get_member key rest ≡ Some d → HasFaultBelow f r rest) →
      match_ordering o (get_member key rest) (Some e) (get_member key rest) ≡ Some d → HasFaultBelow f r (member own e rest)
  at_entry own e rest Less same more found = inr (more found)
  at_entry own e rest Greater same more found = inr (more found)
  at_entry own e rest Equal same more found =
      inl (b, rw (← exact_bytes key own same) is, rw (same_Some _ _ found) bad)

  fault_under : (ms : Members) → get_member key ms ≡ Some d → HasFaultBelow f r ms
  fault_under no_members found = absurd (none-some _ found)
  fault_under (member own e rest) found = at_entry own e rest (slice_cmp nat_cmp key own) refl (fault_under rest) found

under : (r : Role) (key : List ℕ) (ms : Members) (d : Data) (b : Role) → FaultlessBelow r ms → role_under r key ≡ Some b →
    get_member key ms ≡ Some d → Faultless b d
under r key ms d b none is found f bad = none f (fault_under f r key d b is bad ms found)

-- ---- kinds

as_table_case : (P : Data → Type 0) (d : Data) → ¬ (¬ (IsSome (as_table d))) → ((ms : Members) → P (table ms)) → P d
as_table_case P (table ms) h f = f ms
as_table_case P (string s) h f = absurd (h (λ e. false≢true e))
as_table_case P (integer z) h f = absurd (h (λ e. false≢true e))
as_table_case P (float x) h f = absurd (h (λ e. false≢true e))
as_table_case P (boolean b) h f = absurd (h (λ e. false≢true e))
as_table_case P (datetime t) h f = absurd (h (λ e. false≢true e))
as_table_case P (array ds) h f = absurd (h (λ e. false≢true e))

some_of : {X : Type 0} (o : Option X) → ¬ (o ≡ None) → (x : X) × (o ≡ Some x)
some_of None h = absurd (h refl)
some_of (Some x) h = (x, refl)

is_none_if : {X : Type 0} (o : Option X) → o ≡ None → IsNone o
is_none_if None e = refl
is_none_if (Some x) e = absurd (none-some x (sym e))

type_in : (d : Data) → IsTypeName d → (t : ValueType) × (d ≡ string (name_of t))
type_in (string s) is = (is.0, ap string (sym is.1))
type_in d is = absurd is

part_in : (d : Data) → IsPartName d → (p : Part) × (d ≡ string (part_name p))
part_in (string s) is = (is.0, ap string (sym is.1))
part_in d is = absurd is

flag_in : (d : Data) → ¬ (¬ (IsSome (as_str d))) → ¬ (IsAtFault BadFlag role.Flag d) → ((f : Flag) → ¬ (d ≡ string (flag_name f))) → ⊥
flag_in (string s) h bad k = bad (λ f e. k f (ap string (sym e)))
flag_in (table ms) h bad k = h (λ e. false≢true e)
flag_in (integer z) h bad k = h (λ e. false≢true e)
flag_in (float x) h bad k = h (λ e. false≢true e)
flag_in (boolean b) h bad k = h (λ e. false≢true e)
flag_in (datetime t) h bad k = h (λ e. false≢true e)
flag_in (array ds) h bad k = h (λ e. false≢true e)

value_in : (t : ValueType) (d : Data) → FitsType t d → (v : Value) × (d ≡ data_of v) × Fits v t
value_in t (integer z) fits = (Number z, refl, fits)
value_in t (string s) fits = (Text s, refl, fits)
value_in t d fits = absurd fits

if_some : (b : Bool) (x c : Role) → (if b then Some x else None) ≡ Some c → (b ≡ true) × (x ≡ c)
if_some true x c e = (refl, same_Some _ _ e)
if_some false x c e = absurd (none-some c e)

-- ---- members

module _ {X : Type 0} (R : List ℕ → Data → X → Type 0) (r : Role) (step : (key : List ℕ) (d : Data) (c : Role) → role_under r key ≡ Some c →
    Faultless c d → ((x : X) → ¬ (R key d x)) → ⊥) where
  each_there : (ms : Members) → FaultlessBelow r ms → ¬ (HasStrangeKey r ms) → ((xs : List X) → ¬ (Each R ms xs)) → ⊥
  each_there no_members none strange nothing = nothing [] tt
  each_there (member key d rest) none strange nothing =
      let c = some_of (role_under r key) (λ e. strange (inl (is_none_if _ e))) in
      step key d c.0 c.1 (λ f bad. none f (inl (c.0, c.1, bad)))
      (λ x here. each_there rest (λ f bad. none f (inr bad)) (λ bad. strange (inr bad)) (λ xs each. nothing (x ∷ xs) (here, each)))

as_many : {X : Type 0} (R : List ℕ → Data → X → Type 0) (ms : Members) (xs : List X) → Each R ms xs → length xs ≡ count ms
as_many R no_members [] each = refl
as_many R no_members (x ∷ xs) each = absurd each
as_many R (member key d ms) [] each = absurd each
as_many R (member key d ms) (x ∷ xs) each = omega (arith, as_many R ms xs each.1)

as_many_items : {X : Type 0} (R : Data → X → Type 0) (ds : Items) (xs : List X) → EachItem R ds xs → length xs ≡ count_items ds
as_many_items R no_items [] each = refl
as_many_items R no_items (x ∷ xs) each = absurd each
as_many_items R (item d ds) [] each = absurd each
as_many_items R (item d ds) (x ∷ xs) each = omega (arith, as_many_items R ds xs each.1)

few : (n m most : ℕ) → n ≡ m → ¬ (most < m) → n ≤ most
few n m most same many = elim (cases_lt most m) [ inl over ↦ absurd (many over) | inr within ↦ omega (arith, same, within) ]

-- ---- properties

property_in : (key : List ℕ) (ms : Members) → is_name key ≡ true → Faultless role.Property (table ms) →
    ((p : Property) → ¬ (DefinesProperty key (table ms) p)) → ⊥
property_in key ms named none nothing =
    let keys : ¬ (LacksKey role.Property ms) = λ lacks. none NoSuchKey (inl (refl, inr lacks)) in
    let inside = below role.Property ms none in
    let dt = some_of (get_member (codes "type") ms) (λ e. keys (inl e)) in
    let df = some_of (get_member (codes "flag") ms) (λ e. keys (inr (inl e))) in
    let dd = some_of (get_member (codes "default") ms) (λ e. keys (inr (inr e))) in
    let ft = under role.Property (codes "type") ms dt.0 role.TypeName inside refl dt.1 in
    let ff = under role.Property (codes "flag") ms df.0 role.Flag inside refl df.1 in
    kind_of role.TypeName dt.0 ft (λ names.
    let t = type_in dt.0 names in
    let has_type : HasType ms t.0 = dt.1 ∙ ap Some t.1 in
    flag_in df.0 (kind_of role.Flag df.0 ff) (λ bad. ff BadFlag (at_fault BadFlag role.Flag df.0 bad)) (λ f is_flag.
    none BadDefault (inl (
      t.0,
      dd.0,
      has_type,
      dd.1,
      λ fits.
          let v = value_in t.0 dd.0 fits in
          nothing (record { name = key; ty = t.0; flag = f; default = v.0 }) (record {
            ms = ms;
            is = refl;
            name = refl;
            named = named;
            ty = has_type;
            flag = df.1 ∙ ap Some is_flag;
            default = dd.1 ∙ ap Some v.1;
            fits = v.2;
          }),
    ))))

property_there : (key : List ℕ) (d : Data) (c : Role) → role_under role.Properties key ≡ Some c → Faultless c d →
    ((p : Property) → ¬ (DefinesProperty key d p)) → ⊥
property_there key d c is none nothing =
    let named = if_some (is_name key) role.Property c is in
    let own : Faultless role.Property d = rw named.1 none in
    as_table_case (λ e. Faultless role.Property e → ((p : Property) → ¬ (DefinesProperty key e p)) → ⊥) d (kind_of role.Property d own)
    (λ ms. property_in key ms named.0) own nothing

-- the properties of a type are there, and few
properties_there : (ms : Members) (o : Option Data) → get_member (codes "properties") ms ≡ o → FaultlessBelow role.Type ms →
    ((ps : List Property) → EachUnder DefinesProperty o ps → ¬ (length ps ≤ MOST_PROPERTIES)) → ⊥
properties_there ms None is inside nothing = nothing [] refl (omega arith)
properties_there ms (Some d) is inside nothing =
    let own = under role.Type (codes "properties") ms d role.Properties inside refl is in
    as_table_case (λ e. Faultless role.Properties e →
    ((ps : List Property) → EachUnder DefinesProperty (Some e) ps → ¬ (length ps ≤ MOST_PROPERTIES)) → ⊥) d
    (kind_of role.Properties d own)
    (λ es none k. each_there DefinesProperty role.Properties property_there es (below role.Properties es none)
    (λ bad. none NoSuchKey (inl (refl, inl bad)))
    (λ ps each. k ps each (few _ _ _ (as_many DefinesProperty es ps each) (λ many. none TooManyNames (inl many)))))
    own nothing

-- ---- methods

types_in : (ds : Items) → AreTypeNames ds → (ts : List ValueType) × EachItem NamesType ds ts
types_in no_items are = ([], tt)
types_in (item d ds) are = let t = type_in d are.0 in let ts = types_in ds are.1 in (t.0 ∷ ts.0, (t.1, ts.1))

arguments_there : (ms : Members) (o : Option Data) → get_member (codes "args") ms ≡ o → FaultlessBelow role.Method ms →
    ((ts : List ValueType) → EachItemUnder NamesType o ts → ¬ (length ts ≤ MOST_ARGUMENTS)) → ⊥
arguments_there ms None is inside nothing = nothing [] refl (omega arith)
arguments_there ms (Some (array ds)) is inside nothing =
    let own = under role.Method (codes "args") ms (array ds) role.Arguments inside refl is in
    own BadType (λ are. let ts = types_in ds are in
    nothing ts.0 ts.1 (few _ _ _ (as_many_items NamesType ds ts.0 ts.1) (own TooManyNames)))
arguments_there ms (Some (table ns)) is inside nothing =
    under role.Method (codes "args") ms (table ns) role.Arguments inside refl is BadType (inl (λ are. are))
arguments_there ms (Some d) is inside nothing =
    let own = under role.Method (codes "args") ms d role.Arguments inside refl is in
    kind_of role.Arguments d own (λ are. absurd are)

texts_there : (ps : List Property) (p : Part) (args : List ValueType) (ds : Items) → AreTexts ds → ¬ (HasBadText ps p args ds) →
    ((ops : List Operation) → ¬ (EachItem (IsOperationData ps p args) ds ops)) → ⊥
texts_there ps p args no_items are good nothing = nothing [] tt
texts_there ps p args (item (string text) ds) are good nothing =
    good (inl (λ op says. texts_there ps p args ds are.1 (λ bad. good (inr bad)) (λ ops each. nothing (op ∷ ops) (says, each))))
texts_there ps p args (item d ds) are good nothing = absurd (false≢true are.0)

body_there : (ps : List Property) (p : Part) (args : List ValueType) (ms : Members) (o : Option Data) → get_member (codes "body") ms ≡ o →
    FaultlessBelow role.Method ms → ¬ (AreBadTexts ps p args o) →
    ((ops : List Operation) → EachItemUnder (IsOperationData ps p args) o ops → ¬ (length ops ≤ MOST_OPERATIONS)) → ⊥
body_there ps p args ms None is inside good nothing = nothing [] refl (omega arith)
body_there ps p args ms (Some (array ds)) is inside good nothing =
    let own = under role.Method (codes "body") ms (array ds) role.Body inside refl is in
    own BadType (λ are. texts_there ps p args ds are good
    (λ ops each. nothing ops each (few _ _ _ (as_many_items (IsOperationData ps p args) ds ops each) (own TooManyNames))))
body_there ps p args ms (Some (table ns)) is inside good nothing =
    under role.Method (codes "body") ms (table ns) role.Body inside refl is BadType (inl (λ are. are))
body_there ps p args ms (Some d) is inside good nothing =
    let own = under role.Method (codes "body") ms d role.Body inside refl is in
    kind_of role.Body d own (λ are. absurd are)

bool_of : (d : Data) → IsSome (as_bool d) → (b : Bool) × (as_bool d ≡ Some b)
bool_of (boolean b) is = (b, refl)
bool_of d is = absurd (false≢true is)

exposed_there : (ms : Members) (o : Option Data) → get_member (codes "exposed") ms ≡ o → FaultlessBelow role.Method ms →
    ((b : Bool) → ¬ (exposed_or_not o ≡ Some b)) → ⊥
exposed_there ms None is inside nothing = nothing false refl
exposed_there ms (Some d) is inside nothing =
    kind_of role.Exposed d (under role.Method (codes "exposed") ms d role.Exposed inside refl is)
    (λ some. let b = bool_of d some in nothing b.0 b.1)

method_in : (ps : List Property) (key : List ℕ) (ms : Members) → is_method_name key ≡ true → Faultless role.Method (table ms) →
    ¬ (HasBadBody ps ms) → ((m : Method) → ¬ (DefinesMethod ps key (table ms) m)) → ⊥
method_in ps key ms named none good nothing =
    let inside = below role.Method ms none in
    let dp = some_of (get_member (codes "part") ms) (λ e. none NoSuchKey (inl (refl, inr e))) in
    let fp = under role.Method (codes "part") ms dp.0 role.Part inside refl dp.1 in
    kind_of role.Part dp.0 fp (λ names.
    let p = part_in dp.0 names in
    let has_part : HasPart ms p.0 = dp.1 ∙ ap Some p.1 in
    exposed_there ms _ refl inside (λ b is_exposed.
    arguments_there ms _ refl inside (λ args has_args few_args.
    body_there ps p.0 args ms _ refl inside
    (λ bad. good (record { part = p.0; has_part = has_part; args = args; has_arguments = has_args; bad = bad }))
    (λ ops says few_ops.
    nothing (record { name = key; part = p.0; exposed = b; args = args; body = ops }) (record {
      ms = ms;
      is = refl;
      name = refl;
      named = named;
      part = has_part;
      exposed = is_exposed;
      args = has_args;
      few_arguments = few_args;
      body = says;
      few_operations = few_ops;
    })))))

method_there : (ps : List Property) (key : List ℕ) (d : Data) (c : Role) → role_under role.Methods key ≡ Some c → Faultless c d →
    ¬ (IsBadMethod ps d) → ((m : Method) → ¬ (DefinesMethod ps key d m)) → ⊥
method_there ps key d c is none good nothing =
    let named = if_some (is_method_name key) role.Method c is in
    let own : Faultless role.Method d = rw named.1 none in
    as_table_case (λ e. Faultless role.Method e → ¬ (IsBadMethod ps e) → ((m : Method) → ¬ (DefinesMethod ps key e m)) → ⊥) d
    (kind_of role.Method d own) (λ ms. method_in ps key ms named.0) own good nothing

each_method_there : (ps : List Property) (ms : Members) → FaultlessBelow role.Methods ms → ¬ (HasStrangeKey role.Methods ms) →
    ¬ (HasBadMethod ps ms) → ((xs : List Method) → ¬ (Each (DefinesMethod ps) ms xs)) → ⊥
each_method_there ps no_members none strange good nothing = nothing [] tt
each_method_there ps (member key d rest) none strange good nothing =
    let c = some_of (role_under role.Methods key) (λ e. strange (inl (is_none_if _ e))) in
    method_there ps key d c.0 c.1 (λ f bad. none f (inl (c.0, c.1, bad))) (λ bad. good (inl bad))
    (λ x here. each_method_there ps rest (λ f bad. none f (inr bad)) (λ bad. strange (inr bad)) (λ bad. good (inr bad))
    (λ xs each. nothing (x ∷ xs) (here, each)))

methods_there : (ps : List Property) (ms : Members) (o : Option Data) → get_member (codes "methods") ms ≡ o → FaultlessBelow role.Type ms →
    ¬ (AreBadMethods ps o) → ((xs : List Method) → EachUnder (DefinesMethod ps) o xs → ¬ (length xs ≤ MOST_METHODS)) → ⊥
methods_there ps ms None is inside good nothing = nothing [] refl (omega arith)
methods_there ps ms (Some d) is inside good nothing =
    let own = under role.Type (codes "methods") ms d role.Methods inside refl is in
    as_table_case (λ e. Faultless role.Methods e → ¬ (AreBadMethods ps (Some e)) →
    ((xs : List Method) → EachUnder (DefinesMethod ps) (Some e) xs → ¬ (length xs ≤ MOST_METHODS)) → ⊥) d (kind_of role.Methods d own)
    (λ es none fine k. each_method_there ps es (below role.Methods es none) (λ bad. none NoSuchKey (inl (refl, inl bad))) fine
    (λ xs each. k xs each (few _ _ _ (as_many (DefinesMethod ps) es xs each) (λ many. none TooManyNames (inl many)))))
    own good nothing

-- ---- types

type_in_table : (key : List ℕ) (ms : Members) → is_name key ≡ true → Faultless role.Type (table ms) →
    ((t : TypeDef) → ¬ (DefinesType key (table ms) t)) → ⊥
type_in_table key ms named none nothing =
    let inside = below role.Type ms none in
    properties_there ms _ refl inside (λ ps each_property few_properties.
    methods_there ps ms _ refl inside (λ bad. none BadBody (inl (record { ps = ps; properties = each_property; bad = bad })))
    (λ xs each_method few_methods.
    nothing (record { name = key; properties = ps; methods = xs }) (record {
      ms = ms;
      is = refl;
      name = refl;
      named = named;
      properties = each_property;
      few_properties = few_properties;
      methods = each_method;
      few_methods = few_methods;
    })))

type_there : (key : List ℕ) (d : Data) (c : Role) → role_under role.Types key ≡ Some c → Faultless c d →
    ((t : TypeDef) → ¬ (DefinesType key d t)) → ⊥
type_there key d c is none nothing =
    let named = if_some (is_name key) role.Type c is in
    let own : Faultless role.Type d = rw named.1 none in
    as_table_case (λ e. Faultless role.Type e → ((t : TypeDef) → ¬ (DefinesType key e t)) → ⊥) d (kind_of role.Type d own)
    (λ ms. type_in_table key ms named.0) own nothing

-- the types of a header without a fault are there
pub types_there : (ms : Members) (o : Option Data) → get_member (codes "type") ms ≡ o → FaultlessBelow role.Header ms →
    ¬ ((ts : List TypeDef) → ¬ (DefinesTypes o ts))
types_there ms None is inside nothing = nothing builtin refl
types_there ms (Some d) is inside nothing =
    let own = under role.Header (codes "type") ms d role.Types inside refl is in
    as_table_case (λ e. Faultless role.Types e → ((ts : List TypeDef) → ¬ (DefinesTypes (Some e) ts)) → ⊥) d (kind_of role.Types d own)
    (λ es none k. each_there DefinesType role.Types type_there es (below role.Types es none) (λ bad. none NoSuchKey (inl (refl, inl bad)))
    (λ ts each. k ts (each, few _ _ _ (as_many DefinesType es ts each) (λ many. none TooManyNames (inl many)))))
    own nothing

-- ---- settings

is_setting : (one : Setting) → role_under role.Settings (key_of one) ≡ Some (role.Setting one)
is_setting setting.Size = refl
is_setting setting.ViewRadius = refl
is_setting setting.ViewHysteresis = refl
is_setting setting.OffloadHysteresis = refl
is_setting setting.GhostDistance = refl
is_setting setting.GhostHysteresis = refl
is_setting setting.BalanceShift = refl
is_setting setting.Bases = refl

bad_under : (ms : Members) (one : Setting) (o : Option Data) → get_member (key_of one) ms ≡ o → number_or_standard one o ≡ None →
    HasFaultBelow BadType role.Settings ms
bad_under ms one None is bad = absurd (none-some _ (sym bad))
bad_under ms one (Some d) is bad =
    fault_under BadType role.Settings (key_of one) d (role.Setting one) (is_setting one)
    (at_fault BadType (role.Setting one) d (λ good. false≢true (rw bad at good))) ms is

pub bad_setting_is_fault : (ms : Members) → HasBadSetting ms → (f : Fault) × HasFault f role.Settings (table ms)
bad_setting_is_fault ms bad = (BadType, inr (bad_under ms bad.0 _ refl bad.1))

pub near_is_fault : (ms : Members) (s : Settings) → Sets ms s → ¬ (GhostsReach s) → (f : Fault) × HasFault f role.Settings (table ms)
near_is_fault ms s sets near = (GhostTooNear, inl (s, sets, near))

pub no_table_is_fault : (d : Data) → None ≡ as_table d → (f : Fault) × HasFault f role.Settings d
no_table_is_fault d none = (BadType, at_fault BadType role.Settings d (λ some. false≢true (rw (← none) at some)))

pub settings_fault : (ms : Members) (o : Option Data) → get_member (codes "settings") ms ≡ o → HasFaultUnder role.Settings o →
    (f : Fault) × HeaderHas ms f
settings_fault ms None is bad = absurd bad
settings_fault ms (Some d) is bad = (bad.0, inr (fault_under bad.0 role.Header (codes "settings") d role.Settings refl bad.1 ms is))

-- a header without a fault defines types
pub types_are_there : (ms : Members) → ((ts : List TypeDef) → ¬ (DefinesTypes (get_member (codes "type") ms) ts)) →
    ¬ ((f : Fault) → ¬ (HeaderHas ms f))
types_are_there ms nothing none = types_there ms _ refl (below role.Header ms none) nothing

-- What a header's tables define is one thing at most.
use Rattle.std.proofs.Common.{◌≡◌, ℕ, if◌then◌else◌, List, [], ◌∷◌, Option, Some, None, codes, refl, sym, ap, ◌∙◌}
use Rattle.std.specs.Str.{bytes_eq}
use Rattle.std.proofs.lemmas.Option.{same_Some}
use Rattle.toml.specs.Data.{Data, string, array, table, Members, no_members, member, get_member, Items, no_items, item}
use Rattle.seam_value.specs.Types.{name_of}
use Rattle.seam_value.specs.declared.types.ValueType.{ValueType}
use Rattle.seam_value.specs.declared.types.ValueType.TheVariants as type
use Rattle.seam_value.specs.declared.values.Value.{Value}
use Rattle.seam_value.specs.declared.values.Value.TheVariants.{Number, Text}
use Rattle.seam_defs.specs.declared.flags.Flag.{Flag}
use Rattle.seam_defs.specs.declared.flags.Flag.TheVariants as flag
use Rattle.seam_defs.specs.declared.flags.Part.{Part}
use Rattle.seam_defs.specs.declared.flags.Part.TheVariants as part
use Rattle.seam_defs.specs.declared.types.Property.{Property}
use Rattle.seam_defs.specs.Names.{flag_name, part_name}
use Rattle.seam_toml.specs.Tables.{Each, EachUnder, EachItem, EachItemUnder}
use Rattle.seam_toml.specs.Definitions.{HasType, HasFlag, HasPart, HasArguments, NamesType, data_of, DefinesProperty}

-- ---- names tell what they name

type_named : List ℕ → ValueType
type_named s =
    if bytes_eq s (codes "INT8") then type.Int8 else if bytes_eq s (codes "INT16") then type.Int16
    else if bytes_eq s (codes "INT32") then type.Int32 else if bytes_eq s (codes "INT64") then type.Int64
    else if bytes_eq s (codes "UINT8") then type.Uint8 else if bytes_eq s (codes "UINT16") then type.Uint16
    else if bytes_eq s (codes "UINT32") then type.Uint32 else if bytes_eq s (codes "UINT64") then type.Uint64
    else type.Text

type_is_named : (t : ValueType) → type_named (name_of t) ≡ t
unfolding type_named
type_is_named type.Int8 = refl
type_is_named type.Int16 = refl
type_is_named type.Int32 = refl
type_is_named type.Int64 = refl
type_is_named type.Uint8 = refl
type_is_named type.Uint16 = refl
type_is_named type.Uint32 = refl
type_is_named type.Uint64 = refl
type_is_named type.Text = refl

pub name_of-injective : (t u : ValueType) → name_of t ≡ name_of u → t ≡ u
name_of-injective t u e = sym (type_is_named t) ∙ ap type_named e ∙ type_is_named u

flag_named : List ℕ → Flag
flag_named s =
    if bytes_eq s (codes "BASE") then flag.Base else if bytes_eq s (codes "BASE_AND_CLIENT") then flag.BaseAndClient
    else if bytes_eq s (codes "CELL_PRIVATE") then flag.CellPrivate else if bytes_eq s (codes "CELL_PUBLIC") then flag.CellPublic
    else if bytes_eq s (codes "CELL_PUBLIC_AND_OWN") then flag.CellPublicAndOwn
    else if bytes_eq s (codes "OWN_CLIENT") then flag.OwnClient else if bytes_eq s (codes "OTHER_CLIENTS") then flag.OtherClients
    else flag.AllClients

flag_is_named : (f : Flag) → flag_named (flag_name f) ≡ f
unfolding flag_named
flag_is_named flag.Base = refl
flag_is_named flag.BaseAndClient = refl
flag_is_named flag.CellPrivate = refl
flag_is_named flag.CellPublic = refl
flag_is_named flag.CellPublicAndOwn = refl
flag_is_named flag.OwnClient = refl
flag_is_named flag.OtherClients = refl
flag_is_named flag.AllClients = refl

pub flag_name-injective : (f g : Flag) → flag_name f ≡ flag_name g → f ≡ g
flag_name-injective f g e = sym (flag_is_named f) ∙ ap flag_named e ∙ flag_is_named g

part_named : List ℕ → Part
part_named s = if bytes_eq s (codes "cell") then part.Cell else part.Base

part_is_named : (p : Part) → part_named (part_name p) ≡ p
unfolding part_named
part_is_named part.Cell = refl
part_is_named part.Base = refl

pub part_name-injective : (p q : Part) → part_name p ≡ part_name q → p ≡ q
part_name-injective p q e = sym (part_is_named p) ∙ ap part_named e ∙ part_is_named q

-- ---- texts under keys

text_or : Data → List ℕ
text_or (string s) = s
text_or d = []

string-injective : (s t : List ℕ) → string s ≡ string t → s ≡ t
unfolding text_or
string-injective s t e = ap text_or e

under_one : (key : List ℕ) (ms : Members) (d e : Data) → get_member key ms ≡ Some d → get_member key ms ≡ Some e → d ≡ e
under_one key ms d e one other = same_Some _ _ (sym one ∙ other)

pub type_is_one : (ms : Members) (t u : ValueType) → HasType ms t → HasType ms u → t ≡ u
type_is_one ms t u one other = name_of-injective t u (string-injective _ _ (under_one (codes "type") ms _ _ one other))

pub flag_is_one : (ms : Members) (f g : Flag) → HasFlag ms f → HasFlag ms g → f ≡ g
flag_is_one ms f g one other = flag_name-injective f g (string-injective _ _ (under_one (codes "flag") ms _ _ one other))

pub part_is_one : (ms : Members) (p q : Part) → HasPart ms p → HasPart ms q → p ≡ q
part_is_one ms p q one other = part_name-injective p q (string-injective _ _ (under_one (codes "part") ms _ _ one other))

pub data_of-injective : (v w : Value) → data_of v ≡ data_of w → v ≡ w
data_of-injective (Number y) (Number z) e = cc
data_of-injective (Number y) (Text s) e = absurd cc
data_of-injective (Text s) (Number z) e = absurd cc
data_of-injective (Text s) (Text t) e = cc

pub type_named_is_one : (d : Data) (t u : ValueType) → NamesType d t → NamesType d u → t ≡ u
type_named_is_one d t u one other = name_of-injective t u (string-injective _ _ (sym one ∙ other))

-- ---- members

module _ {X : Type 0} (R : List ℕ → Data → X → Type 0) (one : (key : List ℕ) (d : Data) (x y : X) → R key d x → R key d y → x ≡ y) where
  pub each_is_one : (ms : Members) (xs ys : List X) → Each R ms xs → Each R ms ys → xs ≡ ys
  each_is_one no_members [] [] h k = refl
  each_is_one no_members [] (y ∷ ys) h k = absurd k
  each_is_one no_members (x ∷ xs) ys h k = absurd h
  each_is_one (member key d ms) [] ys h k = absurd h
  each_is_one (member key d ms) (x ∷ xs) [] h k = absurd k
  each_is_one (member key d ms) (x ∷ xs) (y ∷ ys) h k =
      let first = one key d x y h.0 k.0 in
      let rest = each_is_one ms xs ys h.1 k.1 in
      cc

  pub under_is_one : (o : Option Data) (xs ys : List X) → EachUnder R o xs → EachUnder R o ys → xs ≡ ys
  under_is_one None xs ys h k = h ∙ sym k
  under_is_one (Some (table ms)) xs ys h k = each_is_one ms xs ys h k
  under_is_one (Some d) xs ys h k = absurd h

module _ {X : Type 0} (R : Data → X → Type 0) (one : (d : Data) (x y : X) → R d x → R d y → x ≡ y) where
  each_item_is_one : (ds : Items) (xs ys : List X) → EachItem R ds xs → EachItem R ds ys → xs ≡ ys
  each_item_is_one no_items [] [] h k = refl
  each_item_is_one no_items [] (y ∷ ys) h k = absurd k
  each_item_is_one no_items (x ∷ xs) ys h k = absurd h
  each_item_is_one (item d ds) [] ys h k = absurd h
  each_item_is_one (item d ds) (x ∷ xs) [] h k = absurd k
  each_item_is_one (item d ds) (x ∷ xs) (y ∷ ys) h k =
      let first = one d x y h.0 k.0 in
      let rest = each_item_is_one ds xs ys h.1 k.1 in
      cc

  pub items_under_are_one : (o : Option Data) (xs ys : List X) → EachItemUnder R o xs → EachItemUnder R o ys → xs ≡ ys
  items_under_are_one None xs ys h k = h ∙ sym k
  items_under_are_one (Some (array ds)) xs ys h k = each_item_is_one ds xs ys h k
  items_under_are_one (Some d) xs ys h k = absurd h

pub arguments_are_one : (ms : Members) (ts us : List ValueType) → HasArguments ms ts → HasArguments ms us → ts ≡ us
arguments_are_one ms ts us one other = items_under_are_one NamesType type_named_is_one (get_member (codes "args") ms) ts us one other

pub table_is_one : (ms ns : Members) → table ms ≡ table ns → ms ≡ ns
table_is_one ms ns e = cc

record_is : (name other : List ℕ) (t u : ValueType) (f g : Flag) (v w : Value) → name ≡ other → t ≡ u → f ≡ g → v ≡ w →
    ◌≡◌ {A = Property} (record { name = name; ty = t; flag = f; default = v }) (record { name = other; ty = u; flag = g; default = w })
record_is name other t u f g v w a b c d = rw (a, b, c, d) refl

pub property_is_one : (key : List ℕ) (d : Data) (p q : Property) → DefinesProperty key d p → DefinesProperty key d q → p ≡ q
property_is_one key d p q one other =
    let same = table_is_one one.ms other.ms (sym one.is ∙ other.is) in
    let ty = type_is_one one.ms p.ty q.ty one.ty (rw (← same) at other.ty) in
    let flag = flag_is_one one.ms p.flag q.flag one.flag (rw (← same) at other.flag) in
    let default = data_of-injective p.default q.default (under_one (codes "default") one.ms _ _ one.default (rw (← same) at
    other.default)) in
    record_is p.name q.name p.ty q.ty p.flag q.flag p.default q.default (one.name ∙ sym other.name) ty flag default

pub properties_are_one : (o : Option Data) (ps qs : List Property) → EachUnder DefinesProperty o ps →
    EachUnder DefinesProperty o qs → ps ≡ qs
properties_are_one o ps qs one other = under_is_one DefinesProperty property_is_one o ps qs one other

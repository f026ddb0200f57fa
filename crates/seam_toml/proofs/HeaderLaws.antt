-- What a text that stands for a header says of the header, and that it stands for no other.
use Rattle.std.proofs.Common.{◌≡◌, ◌≢◌, ℕ, pos, negsuc, Bool, true, List, [], ◌∷◌, Option, Some, None, codes, drop, get_or}
use Rattle.std.proofs.Common.{refl, sym, ap, ◌∙◌, arith}
use Rattle.std.specs.Prelude.{slice_index}
use Rattle.std.proofs.lemmas.Option.{same_Some}
use Rattle.std.proofs.lemmas.List.Elements.{recursion_from_All}
use Rattle.std.specs.List.{AllByRecursion}
use Rattle.toml.specs.Data.{Data, string, table, Members, no_members, member, get_member}
use Rattle.seam_words.proofs.WordTexts.{words_are_one_list}
use Rattle.seam_value.specs.Numerals.{IsNumeral}
use Rattle.seam_value.specs.Texts.{quoted}
use Rattle.seam_value.specs.Values.{decimal_of, text_of}
use Rattle.seam_value.specs.declared.types.ValueType.{ValueType}
use Rattle.seam_value.specs.declared.values.Value.{Value}
use Rattle.seam_value.specs.declared.values.Value.TheVariants.{Number, Text}
use Rattle.seam_value.proofs.Answers.{text_of-injective}
use Rattle.seam_value.proofs.Decimals.{decimal_of-injective, decimal_of_numeral, glyph_is, and_left}
use Rattle.seam_defs.specs.declared.flags.Part.{Part}
use Rattle.seam_defs.specs.declared.settings.Settings.{Settings}
use Rattle.seam_defs.specs.declared.types.Property.{Property}
use Rattle.seam_defs.specs.declared.types.Operand.{Operand}
use Rattle.seam_defs.specs.declared.types.Operand.TheVariants.{Arg, Constant}
use Rattle.seam_defs.specs.declared.types.Operation.{Operation}
use Rattle.seam_defs.specs.declared.types.Operation.TheVariants.{Put, Add, Sub}
use Rattle.seam_defs.specs.declared.types.Method.{Method}
use Rattle.seam_defs.specs.declared.types.TypeDef.{TypeDef}
use Rattle.seam_defs.specs.Settings.{AreInRange, AreLegal}
use Rattle.seam_defs.specs.Types.{are_rising, names_of_properties, IsType, AreDefs}
use Rattle.seam_defs.specs.Deeds.{target, operand}
use Rattle.seam_defs.proofs.NameSearch.{one_place}
use Rattle.seam_toml.specs.declared.header.Header.{Header}
use Rattle.seam_toml.specs.Tables.{Each}
use Rattle.seam_toml.specs.Operations.{verb_of, word_of, SpellOperation}
use Rattle.seam_toml.specs.Definitions.{IsOperationData, DefinesMethod, DefinesType, DefinesTypes}
use Rattle.seam_toml.specs.Header.{Reads}
use Rattle.seam_toml.proofs.OperationLemmas.{name_at, letter}
use Rattle.seam_toml.proofs.SettingsLemmas.{settings_are_one}
use Rattle.seam_toml.proofs.Uniqueness.{table_is_one, part_is_one, arguments_are_one, properties_are_one}
use Rattle.seam_toml.proofs.Uniqueness.{each_is_one, under_is_one, items_under_are_one}

-- the types that a text defines are well formed
pub reads_defs : (text : List ℕ) (h : Header) → Reads text h → AreDefs h.defs
reads_defs text h reads = reads.defines.sound

-- the settings that a text sets are legal
pub reads_legal : (text : List ℕ) (h : Header) → Reads text h → AreLegal h.settings
reads_legal text h reads = reads.defines.legal

-- so each is in its range
pub reads_in_range : (text : List ℕ) (h : Header) → Reads text h → AreInRange h.settings
reads_in_range text h reads = (reads_legal text h reads).in_range

-- ---- operands

no_dollar : (ds : List ℕ) → IsNumeral ds → slice_index ds 0 ≢ 36
no_dollar [] h e = cc
no_dollar (c ∷ cs) h e = omega (arith, glyph_is c (and_left _ _ h.all))

-- an argument is not spelled as a value is
argument_is_no_value : (k : ℕ) (v : Value) → 36 ∷ decimal_of k ≢ text_of v
unfolding quoted
argument_is_no_value k (Number (pos n)) e =
    no_dollar (decimal_of n) (decimal_of_numeral n) (ap (λ (xs : List ℕ). slice_index xs 0) (sym e))
argument_is_no_value k (Number (negsuc n)) e = let l : 36 ≡ 45 = ap (λ (xs : List ℕ). slice_index xs 0) e in absurd (omega (arith, l))
argument_is_no_value k (Text s) e = let l : 36 ≡ 34 = ap (λ (xs : List ℕ). slice_index xs 0) e in absurd (omega (arith, l))

operand_is_one : (x y : Operand) → word_of x ≡ word_of y → x ≡ y
operand_is_one (Arg k) (Arg n) e = ap Arg (decimal_of-injective k n (ap (drop 1) e))
operand_is_one (Arg k) (Constant w) e = absurd (argument_is_no_value k w e)
operand_is_one (Constant v) (Arg n) e = absurd (argument_is_no_value n v (sym e))
operand_is_one (Constant v) (Constant w) e = ap Constant (text_of-injective v w e)

-- ---- operations

same_operation : (a b : Operation) → verb_of a ≡ verb_of b → target a ≡ target b → operand a ≡ operand b → a ≡ b
same_operation (Put k x) (Put n y) e f g = cc
same_operation (Put k x) (Add n y) e f g = let l : 101 ≡ 100 = letter _ _ e in absurd (omega (arith, l))
same_operation (Put k x) (Sub n y) e f g = let l : 101 ≡ 117 = letter _ _ e in absurd (omega (arith, l))
same_operation (Add k x) (Put n y) e f g = let l : 100 ≡ 101 = letter _ _ e in absurd (omega (arith, l))
same_operation (Add k x) (Add n y) e f g = cc
same_operation (Add k x) (Sub n y) e f g = let l : 100 ≡ 117 = letter _ _ e in absurd (omega (arith, l))
same_operation (Sub k x) (Put n y) e f g = let l : 117 ≡ 101 = letter _ _ e in absurd (omega (arith, l))
same_operation (Sub k x) (Add n y) e f g = let l : 117 ≡ 100 = letter _ _ e in absurd (omega (arith, l))
same_operation (Sub k x) (Sub n y) e f g = cc

word : ℕ → List (List ℕ) → List ℕ
word k words = get_or words k []

module _ (ps : List Property) (up : are_rising (names_of_properties ps) ≡ true) where
  module _ (part : Part) (args : List ValueType) where
    -- words spell one operation
    spelled_is_one : (words : List (List ℕ)) (a b : Operation) → SpellOperation ps part args words a →
        SpellOperation ps part args words b → a ≡ b
    unfolding word
    spelled_is_one words a b one other =
        let same = sym one.spelled ∙ other.spelled in
        let name : one.property.name ≡ other.property.name = ap (word 1) same in
        let there = name_at ps (target b) other.property other.there ∙ ap Some (sym name) in
        let place = one_place (λ (p : Property). p.name) ps up one.property.name (target a) (target b)
        (name_at ps (target a) one.property one.there) there in
        same_operation a b (ap (word 0) same) place (operand_is_one (operand a) (operand b) (ap (word 2) same))

    operation_is_one : (d : Data) (a b : Operation) → IsOperationData ps part args d a → IsOperationData ps part args d b → a ≡ b
    operation_is_one (string text) a b one other =
        let same = words_are_one_list text one.words other.words one.has other.has in
        spelled_is_one one.words a b one.spell (rw same other.spell)
    operation_is_one d a b one other = absurd one

  -- ---- methods

  same_method : (n o : List ℕ) (p q : Part) (x y : Bool) (a b : List ValueType) (s t : List Operation) → n ≡ o → p ≡ q → x ≡ y →
      a ≡ b → s ≡ t → ◌≡◌ {A = Method} (record { name = n; part = p; exposed = x; args = a; body = s })
      (record { name = o; part = q; exposed = y; args = b; body = t })
  same_method n o p q x y a b s t e f g h i = rw (e, f, g, h, i) refl

  method_is_one : (key : List ℕ) (d : Data) (m n : Method) → DefinesMethod ps key d m → DefinesMethod ps key d n → m ≡ n
  method_is_one key d m n one other =
      let same = table_is_one one.ms other.ms (sym one.is ∙ other.is) in
      let part = part_is_one one.ms m.part n.part one.part (rw (← same) at other.part) in
      let exposed = same_Some _ _ (sym one.exposed ∙ rw (← same) at other.exposed) in
      let args = arguments_are_one one.ms m.args n.args one.args (rw (← same) at other.args) in
      let body = items_under_are_one (IsOperationData ps m.part m.args) (operation_is_one m.part m.args) (get_member (codes "body") one.ms)
      m.body n.body one.body (rw (part, args) (rw (← same) at other.body)) in
      same_method m.name n.name m.part n.part m.exposed n.exposed m.args n.args m.body n.body (one.name ∙ sym other.name)
      part exposed args body

-- ---- types

same_type : (n o : List ℕ) (p q : List Property) (a b : List Method) → n ≡ o → p ≡ q → a ≡ b →
    ◌≡◌ {A = TypeDef} (record { name = n; properties = p; methods = a }) (record { name = o; properties = q; methods = b })
same_type n o p q a b e f g = rw (e, f, g) refl

-- well-formed types
abbrev DefinesSound : List ℕ → Data → TypeDef → Type 0
DefinesSound key d t = DefinesType key d t × IsType t

sound_each : (ms : Members) (ts : List TypeDef) → Each DefinesType ms ts → AllByRecursion IsType ts → Each DefinesSound ms ts
sound_each no_members [] each all = tt
sound_each no_members (t ∷ ts) each all = absurd each
sound_each (member key d ms) [] each all = absurd each
sound_each (member key d ms) (t ∷ ts) each all = ((each.0, all.0), sound_each ms ts each.1 all.1)

defined_type_is_one : (key : List ℕ) (d : Data) (t u : TypeDef) → DefinesSound key d t → DefinesSound key d u → t ≡ u
defined_type_is_one key d t u (one, sound) (other, _) =
    let same = table_is_one one.ms other.ms (sym one.is ∙ other.is) in
    let properties = properties_are_one (get_member (codes "properties") one.ms) t.properties u.properties one.properties
    (rw (← same) at other.properties) in
    let methods = under_is_one (DefinesMethod t.properties) (method_is_one t.properties sound.property_names)
    (get_member (codes "methods") one.ms) t.methods u.methods one.methods (rw properties (rw (← same) at other.methods)) in
    same_type t.name u.name t.properties u.properties t.methods u.methods (one.name ∙ sym other.name) properties methods

-- what is under the key of the types defines one list of well-formed types
types_are_one : (o : Option Data) (ts us : List TypeDef) → AreDefs ts → AreDefs us → DefinesTypes o ts → DefinesTypes o us → ts ≡ us
types_are_one None ts us sound also one other = one ∙ sym other
types_are_one (Some (table ms)) ts us sound also one other =
    each_is_one DefinesSound defined_type_is_one ms ts us (sound_each ms ts one.0 (recursion_from_All IsType ts sound.types))
    (sound_each ms us other.0 (recursion_from_All IsType us also.types))
types_are_one (Some d) ts us sound also one other = absurd one

-- ---- headers

same_header : (s t : Settings) (d e : List TypeDef) → s ≡ t → d ≡ e →
    ◌≡◌ {A = Header} (record { settings = s; defs = d }) (record { settings = t; defs = e })
same_header s t d e f g = rw (f, g) refl

-- a text stands for one header at most
pub reads_one : (text : List ℕ) (h k : Header) → Reads text h → Reads text k → h ≡ k
reads_one text h k one other =
    let same = same_Some _ _ (sym one.document.parsed ∙ other.document.parsed) in
    let settings = settings_are_one (get_member (codes "settings") one.ms) h.settings k.settings one.defines.settings
    (rw same other.defines.settings) in
    let defs = types_are_one (get_member (codes "type") one.ms) h.defs k.defs one.defines.sound other.defines.sound one.defines.types
    (rw same other.defines.types) in
    same_header h.settings k.settings h.defs k.defs settings defs

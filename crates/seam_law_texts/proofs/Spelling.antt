-- The words of a line are words.
use Rattle.std.proofs.Common.{◌≡◌, ℕ, Bool, true, false, ◌&&◌, List, [], ◌∷◌, ◌++◌, map, refl, ◌∙◌, arith, inl, inr, zero, suc}
use Rattle.std.proofs.Common.{pos, negsuc, append_assoc, subst}
use Rattle.std.proofs.Common.{cond, slice_index_or, zip}
use Rattle.std.specs.Prelude.{⊤, codes}
use Rattle.std.specs.List.{list_all}
use Rattle.std.proofs.lemmas.Grind.{common_steps}
use Rattle.std.proofs.lemmas.List.Folds.{list_all-append}
use Rattle.seam_value.specs.Numerals.{is_digit}
use Rattle.seam_value.specs.Values.{decimal_of, text_of}
use Rattle.seam_value.specs.declared.values.Value.{Value}
use Rattle.seam_value.specs.declared.values.Value.TheVariants.{Number, Text}
use Rattle.seam_value.proofs.Decimals.{decimal_of_numeral}
use Rattle.seam_tree.specs.declared.boundary.Axis.{Axis}
use Rattle.seam_tree.specs.declared.boundary.Axis.TheVariants as axis
use Rattle.seam_defs.specs.Types.{is_letter, is_name_byte, is_name, type_of, method_of, no_method, no_type, are_rising}
use Rattle.seam_defs.specs.Types.{names_of_properties, names_of_types, names_of_methods, AreDefs, IsType}
use Rattle.seam_defs.specs.Groups.{in_group}
use Rattle.seam_defs.specs.Deeds.{properties_of}
use Rattle.seam_defs.specs.declared.types.TypeDef.{TypeDef}
use Rattle.seam_defs.specs.declared.types.Property.{Property}
use Rattle.seam_defs.specs.declared.types.Method.{Method as MethodDef}
use Rattle.seam_defs.specs.declared.flags.Group.{Group}
use Rattle.seam_defs.specs.declared.flags.Group.TheVariants as group
use Rattle.seam_defs.specs.declared.states.State.{State}
use Rattle.seam_defs.specs.declared.states.Deed.{Deed}
use Rattle.seam_defs.specs.declared.states.Deed.TheVariants.{Move, Method}
use Rattle.seam_defs.proofs.Numbers.{type_of-is}
use Rattle.seam_call.specs.declared.sender.Sender.{Sender}
use Rattle.seam_call.specs.declared.sender.Sender.TheVariants as sender
use Rattle.seam_call.specs.declared.shown.Shown.{Shown}
use Rattle.seam_call.specs.declared.shown.Shown.TheVariants.{Own, Enter, Set, Leave}
use Rattle.seam_call.specs.declared.shown.GhostCopy.{GhostCopy}
use Rattle.seam_call.specs.declared.shown.ClientText.{ClientText}
use Rattle.seam_call.specs.declared.shown.ClientText.TheVariants as text
use Rattle.seam_rule_lines.specs.Language.{sender_text, axis_text}
use Rattle.seam_rule_lines.specs.Round.{DoneLine}
use Rattle.seam_law_texts.specs.Words.{is_plain, ArePlain, IsWord, AreWords}
use Rattle.seam_law_texts.specs.declared.kinds.Kind.{Kind}
use Rattle.seam_law_texts.specs.declared.kinds.Kind.TheVariants.{Begin, Did, Dob, Home, Base, Ghost, To, Bound, End}
use Rattle.seam_law_texts.specs.TextLines.{LineData, word_of, property_word}
use Rattle.seam_law_texts.specs.TextLines.{value_words, state_words, deed_words, done_words, shown_words, told_words, data_words}

-- ---- plain bytes

both : (a b : Bool) → a ≡ true → b ≡ true → (a && b) ≡ true
both true b p q = q
both false b p q = absurd (cc)

and_left : (a b : Bool) → (a && b) ≡ true → a ≡ true
and_left true b h = refl
and_left false b h = cc

and_right : (a b : Bool) → (a && b) ≡ true → b ≡ true
and_right true b h = h
and_right false b h = cc

digit_is_plain : (b : ℕ) → is_digit b ≡ true → is_plain b ≡ true
digit_is_plain b h = grind (arith, common_steps)

name_byte_is_plain : (b : ℕ) → is_name_byte b ≡ true → is_plain b ≡ true
name_byte_is_plain b h = grind (arith, common_steps)

letter_is_plain : (b : ℕ) → is_letter b ≡ true → is_plain b ≡ true
letter_is_plain b h = grind (arith, common_steps)

plain_of : (p : ℕ → Bool) → ((b : ℕ) → p b ≡ true → is_plain b ≡ true) → (bytes : List ℕ) → list_all p bytes ≡ true → ArePlain bytes
plain_of p is [] h = refl
plain_of p is (b ∷ bytes) h = both _ _ (is b (and_left _ _ h)) (plain_of p is bytes (and_right _ _ h))

digits_are_plain : (n : ℕ) → ArePlain (decimal_of n)
digits_are_plain n = plain_of is_digit digit_is_plain (decimal_of n) (decimal_of_numeral n).all

name_is_plain : (name : List ℕ) → is_name name ≡ true → ArePlain name
name_is_plain [] h = refl
name_is_plain (b ∷ bytes) h =
    both _ _ (letter_is_plain b (and_left _ _ h))
    (plain_of is_name_byte name_byte_is_plain bytes (and_left (list_all is_name_byte bytes) _ (and_right _ _ h)))

appended : (xs ys : List ℕ) → ArePlain xs → ArePlain ys → ArePlain (xs ++ ys)
appended xs ys px py = list_all-append is_plain xs ys ∙ both _ _ px py

-- ---- words

pub plain_word : (w : List ℕ) → ArePlain w → IsWord w
plain_word w p = (w, p, inl refl)

pub number_word : (n : ℕ) → IsWord (decimal_of n)
number_word n = plain_word (decimal_of n) (digits_are_plain n)

pub sender_word : (s : Sender) → IsWord (sender_text s)
sender_word (sender.Base n) = plain_word (98 ∷ decimal_of n) (digits_are_plain n)
sender_word (sender.Client e) = plain_word (99 ∷ decimal_of e) (digits_are_plain e)

axis_word : (a : Axis) → IsWord (axis_text a)
axis_word axis.X = plain_word (axis_text axis.X) refl
axis_word axis.Z = plain_word (axis_text axis.Z) refl

-- the spelling of a value, after plain bytes
value_after : (front : List ℕ) → ArePlain front → (v : Value) → IsWord (front ++ text_of v)
value_after front p (Number (pos n)) = plain_word _ (appended front (decimal_of n) p (digits_are_plain n))
value_after front p (Number (negsuc n)) = plain_word _ (appended front (45 ∷ decimal_of (suc n)) p (digits_are_plain (suc n)))
value_after front p (Text bytes) = (front, p, inr (bytes, refl))

value_word : (v : Value) → IsWord (text_of v)
value_word v = value_after [] refl v

values_words : (args : List Value) → AreWords (map text_of args)
values_words [] = tt
values_words (v ∷ args) = (value_word v, values_words args)

-- ---- names

-- the properties have plain names
abbrev ArePlainNamed : List Property → Type 0
ArePlainNamed [] = ⊤
ArePlainNamed (p ∷ ps) = ArePlain p.name × ArePlainNamed ps

plain_named : (ps : List Property) → are_rising (names_of_properties ps) ≡ true → ArePlainNamed ps
plain_named [] h = tt
plain_named (p ∷ ps) h = (name_is_plain p.name (and_left _ _ (and_left _ _ h)), plain_named ps (and_right _ _ h))

-- so have those of a group
group_plain_named : (ps : List Property) (g : Group) → ArePlainNamed ps → ArePlainNamed (properties_of ps g)
group_plain_named [] g h = tt
group_plain_named (p ∷ ps) g h = by (in_group p.flag g) (group_plain_named ps g h.1)
  where
    by : (b : Bool) → ArePlainNamed (properties_of ps g) → ArePlainNamed (cond b (p ∷ properties_of ps g) (properties_of ps g))
    by true rest = (h.0, rest)
    by false rest = rest

-- a property's word: its name and `=`, and the value's spelling
property_is_word : (p : Property) (v : Value) → ArePlain p.name → IsWord (property_word (p, v))
property_is_word p v plain = by (value_after (p.name ++ 61 ∷ []) (appended p.name (61 ∷ []) plain refl) v)
  where
    by : IsWord ((p.name ++ 61 ∷ []) ++ text_of v) → IsWord (p.name ++ 61 ∷ text_of v)
    by h = subst IsWord (append_assoc p.name (61 ∷ []) (text_of v)) h

zipped_words : (ps : List Property) (values : List Value) → ArePlainNamed ps → AreWords (map property_word (zip ps values))
zipped_words [] values h = tt
zipped_words (p ∷ ps) [] h = tt
zipped_words (p ∷ ps) (v ∷ values) h = (property_is_word p v h.0, zipped_words ps values h.1)

value_words_are : (t : TypeDef) (g : Group) (values : List Value) → IsType t → AreWords (value_words t.properties g values)
value_words_are t g values is =
    zipped_words (properties_of t.properties g) values
    (group_plain_named t.properties g (plain_named t.properties is.property_names))

state_words_are : (t : TypeDef) (g : Group) (s : State) → IsType t → AreWords (state_words t g s)
state_words_are t g s is = (number_word s.pos.x, (number_word s.pos.z, value_words_are t g s.props is))

-- a name among rising ones, or an empty one, is plain
method_name_is_plain : (ms : List MethodDef) (m : ℕ) → are_rising (names_of_methods ms) ≡ true →
    ArePlain (slice_index_or ms m no_method).name
method_name_is_plain [] m h = refl
method_name_is_plain (x ∷ ms) zero h = name_is_plain x.name (and_left _ _ (and_left _ _ h))
method_name_is_plain (x ∷ ms) (suc m) h = method_name_is_plain ms m (and_right _ _ h)

type_name_is_plain : (defs : List TypeDef) (ty : ℕ) → are_rising (names_of_types defs) ≡ true →
    ArePlain (slice_index_or defs ty no_type).name
type_name_is_plain [] ty h = refl
type_name_is_plain (t ∷ defs) zero h = name_is_plain t.name (and_left _ _ (and_left _ _ h))
type_name_is_plain (t ∷ defs) (suc ty) h = type_name_is_plain defs ty (and_right _ _ h)

deed_words_are : (t : TypeDef) (d : Deed) → IsType t → AreWords (deed_words t d)
deed_words_are t (Move p) is = (plain_word (codes "move") refl, (number_word p.x, (number_word p.z, tt)))
deed_words_are t (Method m args) is =
    (plain_word (method_of t m).name (method_name_is_plain t.methods m is.method_names), values_words args)

-- of a copy's version and state
copy_words_are : (defs : List TypeDef) → AreDefs defs → (k : GhostCopy) →
    AreWords (decimal_of k.version ∷ state_words (type_of defs k.ty) group.Other k.state)
copy_words_are defs are k =
    (number_word k.version, state_words_are (type_of defs k.ty) group.Other k.state (type_of-is defs are k.ty))

shown_words_are : (defs : List TypeDef) (ty : ℕ) (x : Shown) → AreDefs defs → AreWords (shown_words defs ty x)
shown_words_are defs ty (Own v s) are =
    (plain_word (codes "own") refl, (number_word v, state_words_are (type_of defs ty) group.Own s (type_of-is defs are ty)))
shown_words_are defs ty (Enter e k) are =
    let name = plain_word (type_of defs k.ty).name (type_name_is_plain defs k.ty are.names) in
    (plain_word (codes "enter") refl, (number_word e, (name, copy_words_are defs are k)))
shown_words_are defs ty (Set e k) are = (plain_word (codes "set") refl, (number_word e, copy_words_are defs are k))
shown_words_are defs ty (Leave e) are = (plain_word (codes "leave") refl, (number_word e, tt))

told_words_are : (defs : List TypeDef) (ty : ℕ) (x : ClientText) → AreDefs defs → AreWords (told_words defs ty x)
told_words_are defs ty (text.Shown x) are = shown_words_are defs ty x are
told_words_are defs ty (text.Base v props) are =
    (plain_word (codes "base") refl, (number_word v, value_words_are (type_of defs ty) group.BaseClient props (type_of-is defs are ty)))

done_words_are : (defs : List TypeDef) → AreDefs defs → (l : DoneLine) → AreWords (done_words defs l)
done_words_are defs are l =
    let deed = deed_words_are (type_of defs l.ty) l.call.deed (type_of-is defs are l.ty) in
    (number_word l.call.entity, (sender_word l.call.sender, (number_word l.call.number, deed)))

-- what comes after the first word of a line are words
pub said_words_are : (defs : List TypeDef) → AreDefs defs → (k : Kind) (x : LineData k) → AreWords (data_words defs k x)
said_words_are defs are Begin n = (number_word n, tt)
said_words_are defs are Did l = done_words_are defs are l
said_words_are defs are Dob l = done_words_are defs are l
said_words_are defs are Home l =
    let state = state_words_are (type_of defs l.ty) group.Real l.state (type_of-is defs are l.ty) in
    (number_word l.entity, (number_word l.cell, (number_word l.version, state)))
said_words_are defs are Base l =
    (number_word l.entity, (number_word l.version, value_words_are (type_of defs l.ty) group.Base l.props (type_of-is defs are l.ty)))
said_words_are defs are Ghost l = (number_word l.entity, (number_word l.cell, (number_word l.version, tt)))
said_words_are defs are To l = (number_word l.entity, (number_word l.line.number, told_words_are defs l.ty l.line.text are))
said_words_are defs are Bound x =
    (number_word x.0, (axis_word x.1.boundary.axis, (number_word x.1.boundary.at, tt)))
said_words_are defs are End n = (number_word n, tt)

-- and so is the first word
pub kind_is_word : (k : Kind) → IsWord (word_of k)
kind_is_word Begin = plain_word (word_of Begin) refl
kind_is_word Did = plain_word (word_of Did) refl
kind_is_word Dob = plain_word (word_of Dob) refl
kind_is_word Home = plain_word (word_of Home) refl
kind_is_word Base = plain_word (word_of Base) refl
kind_is_word Ghost = plain_word (word_of Ghost) refl
kind_is_word To = plain_word (word_of To) refl
kind_is_word Bound = plain_word (word_of Bound) refl
kind_is_word End = plain_word (word_of End) refl

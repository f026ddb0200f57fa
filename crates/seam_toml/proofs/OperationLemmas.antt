-- What the words of an operation say.
use Rattle.std.proofs.Common.{◌≡◌, ◌≢◌, ◌≤◌, ℕ, List, [], ◌∷◌, length, Option, Some, None, MatchOption, slice_get, slice_index}
use Rattle.std.proofs.Common.{option_map, refl, sym, ap, ◌∙◌, arith}
use Rattle.std.proofs.Common.{Result, Ok, Err, IfOk}
use Rattle.std.proofs.lemmas.Option.{same_Some, slice_get-map}
use Rattle.seam_words.specs.SplitWords.{HasWords}
use Rattle.seam_words.proofs.WordTexts.{words_are_one_list}
use Rattle.seam_value.specs.declared.types.ValueType.{ValueType}
use Rattle.seam_defs.specs.declared.flags.Part.{Part}
use Rattle.seam_defs.specs.declared.types.Property.{Property}
use Rattle.seam_defs.specs.declared.types.Operand.{Operand}
use Rattle.seam_defs.specs.declared.types.Operation.{Operation}
use Rattle.seam_defs.specs.declared.types.Operation.TheVariants.{Put, Add, Sub}
use Rattle.seam_defs.specs.Types.{OperandFits, IsOperation, names_of_properties}
use Rattle.seam_defs.specs.Deeds.{target, operand}
use Rattle.seam_toml.specs.declared.operations.Verb.{Verb}
use Rattle.seam_toml.specs.declared.operations.Verb.TheVariants as verb
use Rattle.seam_toml.specs.declared.operations.ThreeWords.{ThreeWords}
use Rattle.seam_toml.specs.declared.operations.Step.{Step}
use Rattle.seam_toml.specs.declared.operations.TheConstants.{LONGEST_OPERATION}
use Rattle.seam_toml.specs.Operations.{verb_of, word_of, signature, SpellOperation, IsOperationText}
use Rattle.seam_toml.specs.Steps.{word_of_verb, made, MayDo, operation_of}

-- words that are three or not are the words of a text or not
pub three_or_none : (text : List ℕ) (words : List (List ℕ)) (r : Option ThreeWords) → HasWords text words →
    MatchOption r ((a b c : List ℕ) → words ≢ a ∷ b ∷ c ∷ []) (λ w. words ≡ w.verb.now ∷ w.property.now ∷ w.operand.now ∷ []) →
    MatchOption r ((a b c : List ℕ) → ¬ (HasWords text (a ∷ b ∷ c ∷ [])))
    (λ w. HasWords text (w.verb.now ∷ w.property.now ∷ w.operand.now ∷ []))
three_or_none text words None has none = λ a b c other. none a b c (words_are_one_list text words (a ∷ b ∷ c ∷ []) has other)
three_or_none text words (Some w) has is = rw (← is) has

-- ---- the words of an operation

name_of : Property → List ℕ
name_of p = p.name

pub name_at : (ps : List Property) (k : ℕ) (p : Property) → slice_get ps k ≡ Some p → slice_get (names_of_properties ps) k ≡ Some p.name
name_at ps k p there = slice_get-map (λ (p : Property). p.name) ps k ∙ ap (option_map (λ (p : Property). p.name)) there

pub named_at : (ps : List Property) (k : ℕ) (p : Property) (name : List ℕ) → slice_get ps k ≡ Some p →
    slice_get (names_of_properties ps) k ≡ Some name → p.name ≡ name
named_at ps k p name there named = same_Some _ _ (sym (name_at ps k p there) ∙ named)

module _ (ps : List Property) (part : Part) (args : List ValueType) (a b w : List ℕ) (op : Operation) where
  abbrev Spell : Type 0
  Spell = SpellOperation ps part args (a ∷ b ∷ w ∷ []) op

  verb_is : Spell → verb_of op ≡ a
  verb_is s = let e = s.spelled in cc

  operand_is : Spell → word_of (operand op) ≡ w
  operand_is s = let e = s.spelled in cc

  name_is : (s : Spell) → s.property.name ≡ b
  name_is s = let e = s.spelled in cc

  -- the property has the name that is the second word
  pub target_named : Spell → slice_get (names_of_properties ps) (target op) ≡ Some b
  target_named s = name_at ps (target op) s.property s.there ∙ ap Some (name_is s)

abbrev verb_word : Operation → Verb
verb_word (Put k x) = verb.Set
verb_word (Add k x) = verb.Add
verb_word (Sub k x) = verb.Sub

verb_word_is : (op : Operation) → word_of_verb (verb_word op) ≡ verb_of op
verb_word_is (Put k x) = refl
verb_word_is (Add k x) = refl
verb_word_is (Sub k x) = refl

pub unknown_verb : (ps : List Property) (part : Part) (args : List ValueType) (a b w : List ℕ) → ((v : Verb) → word_of_verb v ≢ a) →
    (op : Operation) → ¬ (SpellOperation ps part args (a ∷ b ∷ w ∷ []) op)
unknown_verb ps part args a b w none op s = none (verb_word op) (verb_word_is op ∙ verb_is ps part args a b w op s)

fits_here : (ps : List Property) (k : ℕ) (p q : Property) → slice_get ps k ≡ Some p → slice_get ps k ≡ Some q → q ≡ p
fits_here ps k p q one other = same_Some _ _ (sym other ∙ one)

-- the second letter of a verb tells it
pub letter : (xs ys : List ℕ) → xs ≡ ys → slice_index xs 1 ≡ slice_index ys 1
letter xs ys e = ap (λ (zs : List ℕ). slice_index zs 1) e

-- a well typed operation may be done by its verb
pub may_do : (ps : List Property) (part : Part) (args : List ValueType) (p : Property) (op : Operation) (v : Verb) →
    word_of_verb v ≡ verb_of op →
    slice_get ps (target op) ≡ Some p → IsOperation ps (signature part args) op → MayDo v part p
may_do ps part args p (Put k x) verb.Set e there typed = rw (← fits_here ps k p typed.0 there typed.1) typed.2
may_do ps part args p (Put k x) verb.Add e there typed = let l : 100 ≡ 101 = letter _ _ e in absurd (omega (arith, l))
may_do ps part args p (Put k x) verb.Sub e there typed = let l : 117 ≡ 101 = letter _ _ e in absurd (omega (arith, l))
may_do ps part args p (Add k x) verb.Set e there typed = let l : 101 ≡ 100 = letter _ _ e in absurd (omega (arith, l))
may_do ps part args p (Add k x) verb.Add e there typed =
    (rw (← fits_here ps k p typed.0.0 there typed.0.1) typed.0.2, rw (← fits_here ps k p typed.1.0 there typed.1.1) typed.1.2)
may_do ps part args p (Add k x) verb.Sub e there typed = let l : 117 ≡ 100 = letter _ _ e in absurd (omega (arith, l))
may_do ps part args p (Sub k x) verb.Set e there typed = let l : 101 ≡ 117 = letter _ _ e in absurd (omega (arith, l))
may_do ps part args p (Sub k x) verb.Add e there typed = let l : 100 ≡ 117 = letter _ _ e in absurd (omega (arith, l))
may_do ps part args p (Sub k x) verb.Sub e there typed =
    (rw (← fits_here ps k p typed.0.0 there typed.0.1) typed.0.2, rw (← fits_here ps k p typed.1.0 there typed.1.1) typed.1.2)

-- the operand of a well typed operation fits its property
pub operand_fits : (ps : List Property) (part : Part) (args : List ValueType) (p : Property) (op : Operation) →
    slice_get ps (target op) ≡ Some p → IsOperation ps (signature part args) op → OperandFits args p.ty (operand op)
operand_fits ps part args p (Put k x) there typed = rw (← fits_here ps k p typed.0 there typed.1) typed.3
operand_fits ps part args p (Add k x) there typed = rw (← fits_here ps k p typed.0.0 there typed.0.1) typed.0.3
operand_fits ps part args p (Sub k x) there typed = rw (← fits_here ps k p typed.0.0 there typed.0.1) typed.0.3

module _ (ps : List Property) (part : Part) (args : List ValueType) (a b w : List ℕ) (k : ℕ) (p : Property)
    (found : (i : ℕ) → slice_get (names_of_properties ps) i ≡ Some b → Some k ≡ Some i) (here : slice_get ps k ≡ Some p) where
  place_is : (op : Operation) → SpellOperation ps part args (a ∷ b ∷ w ∷ []) op → slice_get ps (target op) ≡ Some p
  place_is op s = rw (← same_Some _ _ (found (target op) (target_named ps part args a b w op s))) here

  pub not_allowed : (v : Verb) → word_of_verb v ≡ a → ¬ (MayDo v part p) → (op : Operation) →
      ¬ (SpellOperation ps part args (a ∷ b ∷ w ∷ []) op)
  not_allowed v e never op s = never (may_do ps part args p op v (e ∙ sym (verb_is ps part args a b w op s)) (place_is op s) s.typed)

  pub no_operand : ((x : Operand) → word_of x ≡ w → ¬ (OperandFits args p.ty x)) → (op : Operation) →
      ¬ (SpellOperation ps part args (a ∷ b ∷ w ∷ []) op)
  no_operand none op s = none (operand op) (operand_is ps part args a b w op s) (operand_fits ps part args p op (place_is op s) s.typed)

module _ (ps : List Property) (part : Part) (args : List ValueType) (k : ℕ) (p : Property) (x : Operand) (here : slice_get ps k ≡ Some p)
    (fits : OperandFits args p.ty x) where
  well_typed : (v : Verb) → MayDo v part p → IsOperation ps (signature part args) (made v k x)
  well_typed verb.Set may = (p, here, may, fits)
  well_typed verb.Add may = ((p, here, may.0, fits), (p, here, may.1))
  well_typed verb.Sub may = ((p, here, may.0, fits), (p, here, may.1))

  spelled_so : (v : Verb) → word_of_verb v ∷ p.name ∷ word_of x ∷ [] ≡ verb_of (made v k x) ∷ p.name ∷ word_of (operand (made v k x)) ∷ []
  spelled_so verb.Set = refl
  spelled_so verb.Add = refl
  spelled_so verb.Sub = refl

  there_so : (v : Verb) → slice_get ps (target (made v k x)) ≡ Some p
  there_so verb.Set = here
  there_so verb.Add = here
  there_so verb.Sub = here

  spelled_of : (v : Verb) → MayDo v part p → SpellOperation ps part args (word_of_verb v ∷ p.name ∷ word_of x ∷ []) (made v k x)
  spelled_of v may = record { property = p; there = there_so v; spelled = spelled_so v; typed = well_typed v may }

  -- what was found makes an operation that the words spell
  pub is_spelled : (v : Verb) (a b w : List ℕ) → word_of_verb v ≡ a → p.name ≡ b → word_of x ≡ w → MayDo v part p →
      SpellOperation ps part args (a ∷ b ∷ w ∷ []) (made v k x)
  is_spelled v a b w e f g may = rw (← e, ← f, ← g) (spelled_of v may)

-- ---- the text of an operation

three_of : (ps : List Property) (part : Part) (args : List ValueType) (words : List (List ℕ)) (op : Operation) →
    SpellOperation ps part args words op → (a b w : List ℕ) × (words ≡ a ∷ b ∷ w ∷ [])
three_of ps part args words op s = (verb_of op, s.property.name, word_of (operand op), s.spelled)

pub no_three_words : (ps : List Property) (part : Part) (args : List ValueType) (text : List ℕ) →
    ((a b c : List ℕ) → ¬ (HasWords text (a ∷ b ∷ c ∷ []))) → (op : Operation) → ¬ (IsOperationText ps part args text op)
no_three_words ps part args text none op says =
    let three = three_of ps part args says.words op says.spell in none three.0 three.1 three.2 (rw three.3 at says.has)

spells_these : (ps : List Property) (part : Part) (args : List ValueType) (text : List ℕ) (words : List (List ℕ)) → HasWords text words →
    (op : Operation) → IsOperationText ps part args text op → SpellOperation ps part args words op
spells_these ps part args text words has op says = rw (words_are_one_list text words says.words has says.has) says.spell

module _ {E : Type 0} (ps : List Property) (part : Part) (args : List ValueType) (text : List ℕ) (words : List (List ℕ))
    (has : HasWords text words) (short : length text ≤ LONGEST_OPERATION) where
  -- what the words of a text say is what the text says
  pub read_text : (r : Result (Option Step) E) → IfOk r (λ read. MatchOption read
      ((op : Operation) → ¬ (SpellOperation ps part args words op)) (λ s. SpellOperation ps part args words (operation_of s))) →
      IfOk r (λ read. MatchOption read
      ((op : Operation) → ¬ (IsOperationText ps part args text op)) (λ s. IsOperationText ps part args text (operation_of s)))
  read_text (Err e) h = tt
  read_text (Ok None) h = λ op says. h op (spells_these ps part args text words has op says)
  read_text (Ok (Some s)) h = record { short = short; words = words; has = has; spell = h }

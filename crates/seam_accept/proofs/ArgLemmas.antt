-- Arguments that words spell, one after another.
use Rattle.std.proofs.Common.{◌≡◌, ◌+◌, ◌<◌, Bor, ℕ, zero, suc, List, [], ◌∷◌, ◌++◌, length, map, take, get_or, refl, sym, ◌∙◌}
use Rattle.std.proofs.Common.{ap, subst, pos, arith}
use Rattle.std.specs.List.{AllZip}
use Rattle.std.proofs.lemmas.List.{take_more, take_all, get_or-map, length-map, map-append}
use Rattle.seam_value.specs.Values.{Fits, text_of}
use Rattle.seam_value.specs.declared.types.ValueType.{ValueType}
use Rattle.seam_value.specs.declared.values.Value.{Value}
use Rattle.seam_value.specs.declared.values.Value.TheVariants.{Number}
use Rattle.seam_defs.specs.Deeds.{AreArgsOf}
use Rattle.seam_defs.specs.declared.types.Method.{Method}
use Rattle.seam_rule_lines.specs.Judging.{SpellsArgs}
use Rattle.seam_rule_lines.specs.declared.verdict.Cause.TheVariants as cause
use Rattle.seam_accept.specs.Commands.{texts_of}
use Rattle.seam_accept.specs.Judging.{IsIllTyped}
use Rattle.seam_accept.specs.declared.answers.Refusal.{Refusal}
use Rattle.seam_accept.specs.declared.answers.Refusal.TheVariants as refusal

-- the values are of the first types, and the first words spell them
pub record SpellFirst (types : List ValueType) (arguments : List (Bor (List ℕ))) (i : ℕ) (values : List Value) : Type 0 where
  pub takes : AreArgsOf (take i types) values
  pub spelled : map text_of values ≡ texts_of (take i arguments)

all_zip_more : {A B : Type 0} (R : A → B → Type 0) (xs : List A) (ys : List B) (x : A) (y : B) → AllZip R xs ys → R x y →
    AllZip R (xs ++ x ∷ []) (ys ++ y ∷ [])
all_zip_more R [] [] x y all one = (one, tt)
all_zip_more R [] (z ∷ ys) x y all one = absurd all
all_zip_more R (z ∷ xs) [] x y all one = absurd all
all_zip_more R (z ∷ xs) (w ∷ ys) x y (first, rest) one = (first, all_zip_more R xs ys x y rest one)

all_zip_at : {A B : Type 0} (R : A → B → Type 0) (xs : List A) (ys : List B) (i : ℕ) (x : A) (y : B) → AllZip R xs ys → i < length xs →
    R (get_or xs i x) (get_or ys i y)
all_zip_at R [] ys i x y all within = absurd (omega arith)
all_zip_at R (z ∷ xs) [] i x y all within = absurd all
all_zip_at R (z ∷ xs) (w ∷ ys) zero x y (first, rest) within = first
all_zip_at R (z ∷ xs) (w ∷ ys) (suc i) x y (first, rest) within = all_zip_at R xs ys i x y rest (omega arith)

all_zip_length : {A B : Type 0} (R : A → B → Type 0) (xs : List A) (ys : List B) → AllZip R xs ys → length xs ≡ length ys
all_zip_length R [] [] all = refl
all_zip_length R [] (y ∷ ys) all = absurd all
all_zip_length R (x ∷ xs) [] all = absurd all
all_zip_length R (x ∷ xs) (y ∷ ys) (first, rest) = ap suc (all_zip_length R xs ys rest)

-- one word more
pub spell_more : (types : List ValueType) (arguments : List (Bor (List ℕ))) (i : ℕ) (values : List Value) (t : ValueType)
    (w : Bor (List ℕ)) (v : Value) → SpellFirst types arguments i values → i < length types → i < length arguments
    → Fits v (get_or types i t) → text_of v ≡ (get_or arguments i w).now → SpellFirst types arguments (i + 1) (values ++ v ∷ [])
spell_more types arguments i values t w v before in_types in_arguments fits spelled = record {
  takes = subst (λ (ts : List ValueType). AreArgsOf ts (values ++ v ∷ [])) (sym (take_more types i t in_types))
      (all_zip_more (λ s u. Fits u s) (take i types) values (get_or types i t) v before.takes fits);
  spelled =
      map-append text_of values (v ∷ [])
      ∙ ap (λ (text : List ℕ). map text_of values ++ text ∷ []) spelled
      ∙ ap (λ (texts : List (List ℕ)). texts ++ (get_or arguments i w).now ∷ []) before.spelled
      ∙ sym (map-append (λ (u : Bor (List ℕ)). u.now) (take i arguments) (get_or arguments i w ∷ []))
      ∙ ap texts_of (sym (take_more arguments i w in_arguments));
}

-- all words
pub spell_all : (m : Method) (types : List ValueType) (arguments : List (Bor (List ℕ))) (values : List Value) (i : ℕ) → types ≡ m.args →
    length arguments ≡ length types → i ≡ length arguments → SpellFirst types arguments i values
    → SpellsArgs m (texts_of arguments) values
spell_all m types arguments values i are long is spells = record {
  takes = subst (λ (ts : List ValueType). AreArgsOf ts values) (take_all i types (omega (arith, long, is)) ∙ are) spells.takes;
  spelled = spells.spelled ∙ ap texts_of (take_all i arguments (omega (arith, is)));
}

-- words are as many as the arguments that they spell
pub not_as_many : (m : Method) (types : List ValueType) (arguments : List (Bor (List ℕ))) → types ≡ m.args →
    ¬ (length arguments ≡ length types) → (args : List Value) → ¬ (SpellsArgs m (texts_of arguments) args)
not_as_many m types arguments are other args spells =
    let texts = ap (λ (texts : List (List ℕ)). length texts) spells.spelled in
    let long = all_zip_length (λ s u. Fits u s) m.args args spells.takes in
    other (sym (ap length are ∙ long ∙ sym (length-map args text_of) ∙ texts ∙ length-map arguments (λ (u : Bor (List ℕ)). u.now)))

-- where a word spells no value of its type, the words spell no arguments
pub one_is_none : (m : Method) (types : List ValueType) (arguments : List (Bor (List ℕ))) (i : ℕ) (t : ValueType) (w : Bor (List ℕ)) →
    types ≡ m.args → i < length types → i < length arguments
    → ((v : Value) → Fits v (get_or types i t) → text_of v ≡ (get_or arguments i w).now → ⊥) → (args : List Value) →
    ¬ (SpellsArgs m (texts_of arguments) args)
one_is_none m types arguments i t w are in_types in_arguments none args spells =
    let v : Value = get_or args i (Number (pos 0)) in
    let takes = subst (λ (ts : List ValueType). AreArgsOf ts args) (sym are) spells.takes in
    let same = all_zip_length (λ s u. Fits u s) types args takes in
    none v (all_zip_at (λ s u. Fits u s) types args i t (Number (pos 0)) takes in_types)
    (sym (get_or-map text_of args i (Number (pos 0)) [] (omega (arith, same, in_types)))
    ∙ ap (λ (texts : List (List ℕ)). get_or texts i []) spells.spelled
    ∙ get_or-map (λ (u : Bor (List ℕ)). u.now) arguments i w [] in_arguments)

-- what follows where words are ill-typed
pub ill_typed : {P Q : Type 0} → (P → Q) → (r : Refusal) → IsIllTyped P r → IsIllTyped Q r
ill_typed f (refusal.Cause cause.IllTyped) ill = f ill
ill_typed f refusal.NoMemory ill = tt
ill_typed f (refusal.Cause k) ill = absurd ill

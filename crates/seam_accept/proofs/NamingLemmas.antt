-- What words name.
use Rattle.std.proofs.Common.{◌≡◌, ◌≢◌, ◌-◌, ◌<◌, ℕ, zero, suc, List, [], ◌∷◌, length, map, take, drop, get_or, sym, ◌∙◌, subst}
use Rattle.std.proofs.Common.{arith, Option, Some, None}
use Rattle.std.specs.Prelude.{slice_get, IfSome, MatchOption}
use Rattle.std.proofs.lemmas.List.{take_all}
use Rattle.std.proofs.lemmas.Option.{none-some}
use Rattle.seam_value.specs.Values.{decimal_of}
use Rattle.seam_value.proofs.Decimals.{decimal_of-injective}
use Rattle.seam_defs.specs.Types.{no_type, no_method, names_of_types, names_of_methods}
use Rattle.seam_defs.specs.declared.types.TypeDef.{TypeDef}
use Rattle.seam_defs.specs.declared.types.Method.{Method}
use Rattle.seam_call.specs.BaseNodes.{IsBaseNodeOf}
use Rattle.seam_call.specs.declared.sender.Sender.TheVariants.{Base}
use Rattle.seam_rule_lines.specs.Language.{sender_text}
use Rattle.seam_rule_lines.specs.Judging.{NamesType, NamesMethod}
use Rattle.seam_rule_lines.proofs.Names.{place_of_type, place_of_method}

-- ---- senders

-- the number after the first letter of a base node's name
number_after_letter : (name : List ℕ) (m n : ℕ) → 98 ∷ decimal_of n ≡ name → decimal_of m ≡ take (length name - 1) (drop 1 name) → m ≡ n
number_after_letter name m n is number =
    let rest : take (length name - 1) (drop 1 name) ≡ decimal_of n =
    subst (λ (xs : List ℕ). take (length xs - 1) (drop 1 xs) ≡ decimal_of n) is
    (take_all (length (98 ∷ decimal_of n) - 1) (decimal_of n) (omega arith)) in
    decimal_of-injective m n (number ∙ rest)

-- a number outside the base nodes names none of them
pub no_node : (bases m : ℕ) (name : List ℕ) (n : ℕ) → ¬ (IsBaseNodeOf bases m) → decimal_of m ≡ take (length name - 1) (drop 1 name)
    → IsBaseNodeOf bases n → sender_text (Base n) ≢ name
no_node bases m name n outside number among is =
    outside (subst (IsBaseNodeOf bases) (sym (number_after_letter name m n is number)) among)

-- the number after the first letter of a client's name
pub number_of_client : (name : List ℕ) (e : ℕ) → 99 ∷ decimal_of e ≡ name → decimal_of e ≡ take (length name - 1) (drop 1 name)
number_of_client name e is =
    subst (λ (xs : List ℕ). decimal_of e ≡ take (length xs - 1) (drop 1 xs)) is
    (sym (take_all (length (99 ∷ decimal_of e) - 1) (decimal_of e) (omega arith)))

-- a client of the name has the number that the word after the letter spells
pub same_client : (name : List ℕ) (m e : ℕ) → 99 ∷ decimal_of e ≡ name → decimal_of m ≡ take (length name - 1) (drop 1 name) → m ≡ e
same_client name m e is number = decimal_of-injective m e (number ∙ sym (number_of_client name e is))

-- ---- types and methods

-- the place of a name among the names of things, and the name at that place
named : {X : Type 0} (key : X → List ℕ) (xs : List X) (k : ℕ) (name : List ℕ) (d : X) → slice_get (map key xs) k ≡ Some name →
    (k < length xs) × (key (get_or xs k d) ≡ name)
named key [] k name d e = absurd cc
named key (x ∷ xs) zero name d e = (omega arith, cc)
named key (x ∷ xs) (suc k) name d e = let rest = named key xs k name d e in (omega arith, rest.1)

-- what a search of the types' names finds is what the name names
pub found_type : (defs : List TypeDef) (name : List ℕ) (found : Option ℕ) →
    IfSome found (λ k. slice_get (names_of_types defs) k ≡ Some name) →
    ((k : ℕ) → slice_get (names_of_types defs) k ≡ Some name → found ≡ Some k)
    → MatchOption found ((ty : ℕ) → ¬ (NamesType defs name ty)) (NamesType defs name)
found_type defs name None here all = λ ty names. none-some ty (all ty (place_of_type defs name ty names.has names.named))
found_type defs name (Some k) here all =
    let is = named (λ (t : TypeDef). t.name) defs k name no_type here in
    record { has = is.0; named = is.1 }

-- and so is what one of a type's methods finds
pub found_method : (t : TypeDef) (name : List ℕ) (found : Option ℕ) →
    IfSome found (λ k. slice_get (names_of_methods t.methods) k ≡ Some name) →
    ((k : ℕ) → slice_get (names_of_methods t.methods) k ≡ Some name → found ≡ Some k)
    → MatchOption found ((m : ℕ) → ¬ (NamesMethod t name m)) (NamesMethod t name)
found_method t name None here all = λ m names. none-some m (all m (place_of_method t name m names.has names.named))
found_method t name (Some k) here all =
    let is = named (λ (m : Method). m.name) t.methods k name no_method here in
    record { has = is.0; named = is.1 }

-- the method of a name is one
pub only_method : (t : TypeDef) (name : List ℕ) (found : Option ℕ) →
    ((k : ℕ) → slice_get (names_of_methods t.methods) k ≡ Some name → found ≡ Some k) → (m : ℕ) → NamesMethod t name m → found ≡ Some m
only_method t name found all m names = all m (place_of_method t name m names.has names.named)

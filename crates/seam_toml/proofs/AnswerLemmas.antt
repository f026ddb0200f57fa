-- From what is answered of a part to what is answered of the whole.
use Rattle.std.proofs.Common.{◌≡◌, ◌↔◌, ◌⊎◌, inl, inr, Bool, true, false, not, Option, Some, None, MatchOption, Result, Ok, Err, IfOk}
use Rattle.std.proofs.Common.{IsTrue, codes, refl, List, ℕ}
use Rattle.std.specs.Prelude.{is_some}
use Rattle.std.proofs.lemmas.Option.{same_Some}
use Rattle.std.proofs.lemmas.Bool.{false≢true}
use Rattle.toml.specs.Data.{Data, string, integer, float, boolean, datetime, array, table, as_table, as_str, Members, get_member}
use Rattle.seam_value.specs.declared.types.ValueType.{ValueType}
use Rattle.seam_defs.specs.declared.flags.Part.{Part}
use Rattle.seam_defs.specs.declared.types.Property.{Property}
use Rattle.seam_defs.specs.declared.types.Operation.{Operation}
use Rattle.seam_toml.specs.declared.operations.Step.{Step}
use Rattle.seam_toml.specs.declared.roles.Role.{Role}
use Rattle.seam_toml.specs.declared.roles.Role.TheVariants as role
use Rattle.seam_toml.specs.declared.faults.Fault.{Fault}
use Rattle.seam_toml.specs.Tables.{EachUnder}
use Rattle.seam_toml.specs.Definitions.{DefinesProperty, HasPart, HasArguments}
use Rattle.seam_toml.specs.Operations.{IsOperationText}
use Rattle.seam_toml.specs.Steps.{operation_of}
use Rattle.seam_toml.specs.Faults.{IsAtFault, HasFault, HasFaultBelow, TopIsAtFault, HeaderHas}
use Rattle.seam_toml.specs.Faults.{IsBadText, AreBadTexts, HasBadBody, AreBadMethods, HasBadBodies}
use Rattle.seam_toml.proofs.Uniqueness.{properties_are_one, part_is_one, arguments_are_one}

pub is_table : (d : Data) (ms : Members) → Some ms ≡ as_table d → d ≡ table ms
is_table (table ns) ms is = let same = same_Some _ _ is in cc
is_table (string s) ms is = absurd cc
is_table (integer z) ms is = absurd cc
is_table (float x) ms is = absurd cc
is_table (boolean b) ms is = absurd cc
is_table (datetime t) ms is = absurd cc
is_table (array ds) ms is = absurd cc

pub from_answer : {E : Type 0} (P Q : Type 0) (r : Result Bool E) → (P → Q) → (Q → P) → IfOk r (λ answer. IsTrue answer ↔ P) →
    IfOk r (λ answer. IsTrue answer ↔ Q)
from_answer P Q (Err e) f g h = tt
from_answer P Q (Ok answer) f g h = ((λ yes. f (h.0 yes)), λ q. h.1 (g q))

pub below_or_here : {E : Type 0} (P Q : Type 0) (r : Result Bool E) → ¬ P → IfOk r (λ answer. IsTrue answer ↔ Q) →
    IfOk r (λ answer. IsTrue answer ↔ (P ⊎ Q))
below_or_here P Q r none h = from_answer Q (P ⊎ Q) r (λ q. inr q) (λ w. elim w [ inl here ↦ absurd (none here) | inr below ↦ below ]) h

pub header_answer : {E : Type 0} (r : Result Bool E) (ms : Members) (f : Fault) → ¬ (TopIsAtFault ms f) →
    IfOk r (λ answer. IsTrue answer ↔ HasFaultBelow f role.Header ms) → IfOk r (λ answer. IsTrue answer ↔ HeaderHas ms f)
header_answer r ms f none h = below_or_here _ _ r none h

pub table_answer : {E : Type 0} (r : Result Bool E) (d : Data) (ms : Members) (f : Fault) (own : Role) → Some ms ≡ as_table d →
    ¬ (IsAtFault f own d) → IfOk r (λ answer. IsTrue answer ↔ HasFaultBelow f own ms) → IfOk r (λ answer. IsTrue answer ↔ HasFault f own d)
table_answer r (table ns) ms f own is none h = below_or_here _ _ r none (rw (same_Some _ _ is) at h)
table_answer r (string s) ms f own is none h = absurd cc
table_answer r (integer z) ms f own is none h = absurd cc
table_answer r (float x) ms f own is none h = absurd cc
table_answer r (boolean b) ms f own is none h = absurd cc
table_answer r (datetime t) ms f own is none h = absurd cc
table_answer r (array ds) ms f own is none h = absurd cc

-- ---- bodies

nothing_said : (b : Bool) (o : Option Step) (P : Type 0) (Q : Step → Type 0) → is_some o ≡ not b → MatchOption o P Q → (P →
    (s : Step) → ¬ (Q s)) →
    IsTrue b ↔ P
nothing_said true None P Q e h apart = ((λ _. h), λ _. refl)
nothing_said false (Some s) P Q e h apart = ((λ never. absurd (false≢true never)), λ p. absurd (apart p s h))
nothing_said false None P Q e h apart = absurd cc
nothing_said true (Some s) P Q e h apart = absurd cc

pub text_answer : (ps : List Property) (part : Part) (args : List ValueType) (d : Data) (text : List ℕ) (b : Bool) (o : Option Step) →
    Some text ≡ as_str d → is_some o ≡ not b → MatchOption o ((op : Operation) → ¬ (IsOperationText ps part args text op))
    (λ s. IsOperationText ps part args text (operation_of s)) → IsTrue b ↔ IsBadText ps part args d
text_answer ps part args (string s) text b o is e h =
    rw (← same_Some _ _ is) (nothing_said b o _ _ e h (λ none step says. none (operation_of step) says))
text_answer ps part args (table ns) text b o is e h = absurd cc
text_answer ps part args (integer z) text b o is e h = absurd cc
text_answer ps part args (float x) text b o is e h = absurd cc
text_answer ps part args (boolean y) text b o is e h = absurd cc
text_answer ps part args (datetime t) text b o is e h = absurd cc
text_answer ps part args (array ds) text b o is e h = absurd cc

pub body_answer : {E : Type 0} (r : Result Bool E) (ps : List Property) (ms : Members) (p : Part) (args : List ValueType) → HasPart ms p →
    HasArguments ms args → IfOk r (λ answer. IsTrue answer ↔ AreBadTexts ps p args (get_member (codes "body") ms)) →
    IfOk r (λ answer. IsTrue answer ↔ HasBadBody ps ms)
body_answer r ps ms p args has_p has_args h =
    from_answer _ _ r (λ w. record { part = p; has_part = has_p; args = args; has_arguments = has_args; bad = w })
    (λ w. rw (part_is_one ms p w.part has_p w.has_part, arguments_are_one ms args w.args has_args w.has_arguments) w.bad) h

pub bodies_answer : {E : Type 0} (r : Result Bool E) (ms : Members) (ps : List Property) →
    EachUnder DefinesProperty (get_member (codes "properties") ms) ps →
    IfOk r (λ answer. IsTrue answer ↔ AreBadMethods ps (get_member (codes "methods") ms)) →
    IfOk r (λ answer. IsTrue answer ↔ HasBadBodies ms)
bodies_answer r ms ps each h =
    from_answer _ _ r (λ w. record { ps = ps; properties = each; bad = w })
    (λ w. rw (properties_are_one (get_member (codes "properties") ms) ps w.ps each w.properties) w.bad) h

-- The tests decide their relations.
use Rattle.std.proofs.Common.{◌≡◌, ℕ, ◌≤◌, ℤ, ◌≤ℤ◌, Bool, true, false, not, ◌&&◌, T, eqb, ◌↔◌, List, [], ◌∷◌, length, map, refl, ap, ◌∙◌}
use Rattle.std.proofs.Common.{IsTrue, Result, Ok, Err}
use Rattle.std.specs.Prelude.{IfOk}
use Rattle.std.specs.Bool.{Decides}
use Rattle.std.specs.Prelude.{int_le, nat_le}
use Rattle.std.specs.List.{AllZip}
use Rattle.std.specs.Str.{IsUtf8, is_utf8}
use Rattle.std.proofs.lemmas.Str.{IsUtf8-from_is_utf8, is_utf8-from_IsUtf8}
use Rattle.std.proofs.lemmas.Slice.Eq.{slice_eq-Decides, bytes_eq-Decides}
use Rattle.std.proofs.lemmas.Bool.{leb-true, le-leb}
use Rattle.std.proofs.lemmas.Bool.Decides.{Decides-int_eq, Decides-eqb, Decides-and, Decides-not}
use Rattle.std.proofs.lemmas.Float.{T_from_true}
use Rattle.std.specs.Int.Signed.{le_z_yes}
use Rattle.seam_value.specs.Types.{least, greatest}
use Rattle.seam_value.specs.Values.{Fits}
use Rattle.seam_value.specs.declared.types.ValueType.{ValueType}
use Rattle.seam_value.specs.declared.types.ValueType.TheVariants as type
use Rattle.seam_value.specs.declared.values.Value.{Value}
use Rattle.seam_value.specs.declared.values.Value.TheVariants.{Number, Text}
use Rattle.seam_defs.specs.declared.flags.Group.{Group}
use Rattle.seam_defs.specs.declared.flags.Part.{Part}
use Rattle.seam_defs.specs.declared.flags.Part.TheVariants as part
use Rattle.seam_defs.specs.declared.types.Property.{Property}
use Rattle.seam_defs.specs.declared.types.TypeDef.{TypeDef}
use Rattle.seam_defs.specs.declared.states.Later.{Later}
use Rattle.seam_defs.specs.declared.states.State.{State}
use Rattle.seam_defs.specs.declared.states.Deed.{Deed}
use Rattle.seam_defs.specs.Deeds.{properties_of, ghost_of, client_of, after, part_of_deed, SameShown, IsOfGroup, with_later}
use Rattle.seam_defs.specs.Tests.{is_text, fits_value, fit_values, are_of_group, same_value, same_values, same_state, same_shown, changes}

-- a test that is true exactly where a relation holds is the one that decides it
pub test_is : {P : Type 0} (a b : Bool) → IsTrue a ↔ P → Decides b P → a ≡ b
test_is true true h d = refl
test_is true false h d = let f : false ≡ true = d.1 (h.0 refl) in cc
test_is false true h d = let f : false ≡ true = h.1 (d.0 refl) in cc
test_is false false h d = refl

-- ---- values of a type

pub text-Decides : (t : ValueType) → Decides (is_text t) (t ≡ type.Text)
text-Decides type.Text = ((λ e. refl), (λ e. refl))
text-Decides type.Int8 = ((λ e. cc), (λ e. cc))
text-Decides type.Int16 = ((λ e. cc), (λ e. cc))
text-Decides type.Int32 = ((λ e. cc), (λ e. cc))
text-Decides type.Int64 = ((λ e. cc), (λ e. cc))
text-Decides type.Uint8 = ((λ e. cc), (λ e. cc))
text-Decides type.Uint16 = ((λ e. cc), (λ e. cc))
text-Decides type.Uint32 = ((λ e. cc), (λ e. cc))
text-Decides type.Uint64 = ((λ e. cc), (λ e. cc))

true_of : (b : Bool) → T b → b ≡ true
true_of true t = refl
true_of false t = absurd t

int_le-Decides : (a b : ℤ) → Decides (int_le a b) (a ≤ℤ b)
int_le-Decides a b = ((λ e. le_z_yes (T_from_true (int_le a b) e)), (λ h. true_of (int_le a b) h.le))

nat_le-Decides : (a b : ℕ) → Decides (nat_le a b) (a ≤ b)
nat_le-Decides a b = (leb-true a b, le-leb a b)

utf8-Decides : (bytes : List ℕ) → Decides (is_utf8 bytes) (IsUtf8 bytes)
utf8-Decides bytes = (IsUtf8-from_is_utf8 bytes, is_utf8-from_IsUtf8 bytes)

pub fits-Decides : (t : ValueType) (v : Value) → Decides (fits_value t v) (Fits v t)
fits-Decides t (Number z) =
    let number = Decides-not (is_text t) (text-Decides t) in
    let both =
    Decides-and (not (is_text t) && int_le (least t) z) (int_le z (greatest t))
    (Decides-and (not (is_text t)) (int_le (least t) z) number (int_le-Decides (least t) z)) (int_le-Decides z (greatest t)) in
    ((λ e. let h = both.0 e in (h.0.0, h.0.1, h.1)), (λ h. both.1 ((h.0, h.1), h.2)))
fits-Decides t (Text bytes) =
    let both =
    Decides-and (is_text t && is_utf8 bytes) (nat_le (length bytes) 255)
    (Decides-and (is_text t) (is_utf8 bytes) (text-Decides t) (utf8-Decides bytes)) (nat_le-Decides (length bytes) 255) in
    ((λ e. let h = both.0 e in (h.0.0, record { utf8 = h.0.1; short = h.1 })), (λ h. both.1 ((h.0, h.1.utf8), h.1.short)))

-- values of types, place by place
pub fit-Decides : (types : List ValueType) (values : List Value) → Decides (fit_values types values) (AllZip (λ t v. Fits v t) types values)
fit-Decides [] [] = ((λ e. tt), (λ h. refl))
fit-Decides [] (v ∷ values) = ((λ e. absurd cc), (λ h. absurd h))
fit-Decides (t ∷ types) [] = ((λ e. absurd cc), (λ h. absurd h))
fit-Decides (t ∷ types) (v ∷ values) = Decides-and (fits_value t v) (fit_values types values) (fits-Decides t v) (fit-Decides types values)

-- the values of a group
pub of_group-Decides : (ps : List Property) (g : Group) (values : List Value) → Decides (are_of_group ps g values) (IsOfGroup ps g values)
of_group-Decides ps g values = each (properties_of ps g) values
  where
    each : (qs : List Property) (vs : List Value) → Decides (fit_values (map (λ p. p.ty) qs) vs) (AllZip (λ p v. Fits v p.ty) qs vs)
    each [] [] = ((λ e. tt), (λ h. refl))
    each [] (v ∷ vs) = ((λ e. absurd cc), (λ h. absurd h))
    each (q ∷ qs) [] = ((λ e. absurd cc), (λ h. absurd h))
    each (q ∷ qs) (v ∷ vs) = Decides-and (fits_value q.ty v) (fit_values (map (λ p. p.ty) qs) vs) (fits-Decides q.ty v) (each qs vs)

-- ---- values and states

pub value-Decides : (a b : Value) → Decides (same_value a b) (a ≡ b)
value-Decides (Number a) (Number b) = let d = Decides-int_eq a b in ((λ t. ap Number (d.0 t)), (λ e. d.1 (let h : a ≡ b = cc in h)))
value-Decides (Number a) (Text b) = ((λ t. cc), (λ e. cc))
value-Decides (Text a) (Number b) = ((λ t. cc), (λ e. cc))
value-Decides (Text a) (Text b) = let d = bytes_eq-Decides a b in ((λ t. ap Text (d.0 t)), (λ e. d.1 (let h : a ≡ b = cc in h)))

values-Decides : (a b : List Value) → Decides (same_values a b) (a ≡ b)
values-Decides a b = slice_eq-Decides value-Decides a b (same_values a b) refl

same_states : (a b : State) → a.pos.x ≡ b.pos.x → a.pos.z ≡ b.pos.z → a.props ≡ b.props → a ≡ b
same_states a b x z p = λ i. record { pos = record { x = x i; z = z i }; props = p i }

state-Decides : (a b : State) → Decides (same_state a b) (a ≡ b)
state-Decides a b =
    let place = Decides-and (eqb a.pos.x b.pos.x) (eqb a.pos.z b.pos.z) (Decides-eqb a.pos.x b.pos.x) (Decides-eqb a.pos.z b.pos.z) in
    let both =
    Decides-and (eqb a.pos.x b.pos.x && eqb a.pos.z b.pos.z) (same_values a.props b.props) place (values-Decides a.props b.props) in (
      (λ e. let h = both.0 e in same_states a b h.0.0 h.0.1 h.1),
      (λ e. both.1 ((ap (λ s. s.pos.x) e, ap (λ s. s.pos.z) e), ap (λ s. s.props) e)),
    )

shown-Decides : (ps : List Property) (q : Part) (old new : State) → Decides (same_shown ps q old new) (SameShown ps q old new)
shown-Decides ps part.Cell old new = state-Decides (ghost_of ps old) (ghost_of ps new)
shown-Decides ps part.Base old new = values-Decides (client_of ps old) (client_of ps new)

-- the answer of a deed is the test
pub changed_is : (t : TypeDef) (s new : State) (d : Deed) (c : Bool) → (c ≡ false) ↔ SameShown t.properties (part_of_deed t d) s new →
    new ≡ after t s d → c ≡ changes t s d
changed_is t s new d c h e =
    not_by c (same_shown t.properties (part_of_deed t d) s new) h (shown-Decides t.properties (part_of_deed t d) s new)
    ∙ ap (λ x. not (same_shown t.properties (part_of_deed t d) s x)) e
  where
    not_by : {P : Type 0} (c r : Bool) → (c ≡ false) ↔ P → Decides r P → c ≡ not r
    not_by true true h d = let f : true ≡ false = h.1 (d.0 refl) in cc
    not_by true false h d = refl
    not_by false true h d = refl
    not_by false false h d = let f : false ≡ true = d.1 (h.0 refl) in cc

pub later_changes : {E : Type 0} (t : TypeDef) (s : State) (d : Deed) (r : Result Later E) →
    IfOk r (λ l. with_later s l ≡ after t s d) →
    IfOk r (λ l. (l.changed ≡ false) ↔ SameShown t.properties (part_of_deed t d) s (with_later s l)) →
    IfOk r (λ l. l.changed ≡ changes t s d)
later_changes t s d (Ok l) is same = changed_is t s (with_later s l) d l.changed same is
later_changes t s d (Err x) is same = tt

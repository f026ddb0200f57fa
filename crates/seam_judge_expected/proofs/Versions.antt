-- Whether states are the same, and at which versions they changed.
use Rattle.std.proofs.Common.{◌≡◌, ◌+◌, ◌-◌, ◌≤◌, ℕ, zero, suc, Bool, true, false, cond, List, [], ◌∷◌, ◌++◌, refl, sym, ◌∙◌, ap}
use Rattle.std.proofs.Common.{arith, length}
use Rattle.std.specs.Prelude.{filter, ◌&&◌, ◌==◌}
use Rattle.std.specs.Bool.{Decides}
use Rattle.std.specs.List.{range_with_len}
use Rattle.std.proofs.lemmas.Bool.Decides.{Decides-eqb, Decides-int_eq, Decides-and}
use Rattle.std.proofs.lemmas.Slice.Eq.{slice_eq-Decides, bytes_eq-Decides}
use Rattle.std.proofs.lemmas.List.Elements.{filter-append}
use Rattle.seam_rule_rounds.specs.Prelude.{Value, Number, same_values, same_state, State, Call, Create, Header, has_changed_at, public_at}
use Rattle.seam_value.specs.declared.values.Value.TheVariants.{Text}
use Rattle.seam_defs.specs.Tests.{same_value}
use Rattle.seam_defs.specs.declared.flags.Part.TheVariants as part
use Rattle.seam_rule_rounds.proofs.Public.{range_more, public_more}

same_value_decides : (a b : Value) → Decides (same_value a b) (a ≡ b)
same_value_decides (Number a) (Number b) =
    ((λ is. ap Number ((Decides-int_eq a b).0 is)), (λ same. (Decides-int_eq a b).1 (cc)))
same_value_decides (Number a) (Text b) = ((λ is. absurd (cc)), (λ same. absurd (cc)))
same_value_decides (Text a) (Number b) = ((λ is. absurd (cc)), (λ same. absurd (cc)))
same_value_decides (Text a) (Text b) =
    ((λ is. ap Text ((bytes_eq-Decides a b).0 is)), (λ same. (bytes_eq-Decides a b).1 (cc)))

pub same_values_decides : (a b : List Value) → Decides (same_values a b) (a ≡ b)
same_values_decides a b = slice_eq-Decides same_value_decides a b (same_values a b) refl

pub same_state_decides : (a b : State) → Decides (same_state a b) (a ≡ b)
same_state_decides a b =
    let parts =
    Decides-and ((a.pos.x == b.pos.x) && (a.pos.z == b.pos.z)) (same_values a.props b.props)
    (Decides-and (a.pos.x == b.pos.x) (a.pos.z == b.pos.z) (Decides-eqb a.pos.x b.pos.x) (Decides-eqb a.pos.z b.pos.z))
    (same_values_decides a.props b.props) in (
      (λ is. let all = parts.0 is in
          λ i. record { pos = record { x = all.0.0 i; z = all.0.1 i }; props = all.1 i }),
      (λ same. parts.1 ((ap (λ (s : State). s.pos.x) same, ap (λ (s : State). s.pos.z) same), ap (λ (s : State). s.props) same)),
    )

-- the numbers past one that pass a test, up to one more
pub filtered_more : (test : ℕ → Bool) (from n : ℕ) (found more : List ℕ) → from ≤ n →
    found ≡ filter test (range_with_len (from + 1) (n - from)) →
    more ≡ found ++ cond (test (n + 1)) ((n + 1) ∷ []) [] → more ≡ filter test (range_with_len (from + 1) (n + 1 - from))
filtered_more test from n found more low was is =
    let long : n + 1 - from ≡ suc (n - from) = omega arith in
    let here : from + 1 + (n - from) ≡ n + 1 = omega arith in
    is ∙ ap (λ (xs : List ℕ). xs ++ cond (test (n + 1)) ((n + 1) ∷ []) []) was
    ∙ sym (filter-append test (range_with_len (from + 1) (n - from)) ((n + 1) ∷ []))
    ∙ ap (filter test) (ap (λ (k : ℕ). range_with_len (from + 1) (n - from) ++ k ∷ []) (sym here)
    ∙ sym (range_more (from + 1) (n - from)) ∙ ap (range_with_len (from + 1)) (sym long))

-- the public version where something changed, and where nothing did
pub public_here : (h : Header) (c : Create) (order : List Call) (v : ℕ) → 1 ≤ v → has_changed_at h part.Cell c order v ≡ true →
    public_at h c order v ≡ v
public_here h c order zero from is = absurd (omega (arith, from))
public_here h c order (suc n) from is =
    public_more h c order n ∙ ap (λ (b : Bool). cond b (suc n) (public_at h c order n)) is

pub public_before : (h : Header) (c : Create) (order : List Call) (v : ℕ) → 1 ≤ v → has_changed_at h part.Cell c order v ≡ false →
    public_at h c order v ≡ public_at h c order (v - 1)
public_before h c order zero from is = absurd (omega (arith, from))
public_before h c order (suc n) from is =
    let before : suc n - 1 ≡ n = omega arith in
    public_more h c order n ∙ ap (λ (b : Bool). cond b (suc n) (public_at h c order n)) is ∙ ap (public_at h c order) (sym before)

pub public_of_all : (h : Header) (c : Create) (order other : List Call) (n : ℕ) → order ≡ other → n ≡ length order →
    public_at h c order n ≡ public_at h c other (length other)
public_of_all h c order other n same long =
    ap (public_at h c order) long ∙ ap (λ (os : List Call). public_at h c os (length os)) same

-- Where an entity is among those in view.
use Rattle.std.proofs.Common.{◌≡◌, ℕ, zero, suc, Bool, true, false, cond, List, [], ◌∷◌, ◌++◌, take, refl, sym, ap, ◌∙◌, arith}
use Rattle.std.specs.Prelude.{nat_eq, ◌||◌, slice_set}
use Rattle.std.specs.List.{remove}
use Rattle.std.proofs.lemmas.Bool.Decides.{nat_tests}
use Rattle.std.specs.List.{list_any}
use Rattle.seam_view.specs.Replica.{placed, without}
use Rattle.seam_judge_looks.specs.Replicas.{IsNotAmong, IsIndexOf}

neither : (a b : Bool) → (a || b) ≡ false → (a ≡ false) × (b ≡ false)
neither true b is = absurd (cc)
neither false b is = (refl, is)

pub placed_last : (e v : ℕ) (es : List (ℕ × ℕ)) → IsNotAmong e es → es ++ (e, v) ∷ [] ≡ placed e v es
placed_last e v [] none = refl
placed_last e v (p ∷ ps) none =
    let both = neither (nat_eq e p.0) (list_any (λ (q : ℕ × ℕ). nat_eq e q.0) ps) none in
    ap (λ (qs : List (ℕ × ℕ)). p ∷ qs) (placed_last e v ps both.1)
    ∙ sym (ap (λ (b : Bool). cond b ((p.0, v) ∷ ps) (p ∷ placed e v ps)) both.0)

pub without_none : (e : ℕ) (es : List (ℕ × ℕ)) → IsNotAmong e es → es ≡ without e es
without_none e [] none = refl
without_none e (p ∷ ps) none =
    let both = neither (nat_eq e p.0) (list_any (λ (q : ℕ × ℕ). nat_eq e q.0) ps) none in
    ap (λ (qs : List (ℕ × ℕ)). p ∷ qs) (without_none e ps both.1) ∙ sym (ap (λ (b : Bool). cond b ps (p ∷ without e ps)) both.0)

same_key : (e k : ℕ) → nat_eq e k ≡ true → e ≡ k
same_key e k is = grind (arith, nat_tests, is)

-- an entity that is among them keeps its place
pub placed_there : (e v : ℕ) (es : List (ℕ × ℕ)) (i : ℕ) → IsIndexOf e es i → slice_set es i (e, v) ≡ placed e v es
placed_there e v [] i (within, none, is) = absurd (omega (arith, within))
placed_there e v (p ∷ ps) zero (within, none, is) =
    ap (λ (k : ℕ). (k, v) ∷ ps) (same_key e p.0 is) ∙ sym (ap (λ (b : Bool). cond b ((p.0, v) ∷ ps) (p ∷ placed e v ps)) is)
placed_there e v (p ∷ ps) (suc i) (within, none, is) =
    let both = neither (nat_eq e p.0) (list_any (λ (q : ℕ × ℕ). nat_eq e q.0) (take i ps)) none in
    ap (λ (qs : List (ℕ × ℕ)). p ∷ qs) (placed_there e v ps i (omega (arith, within), both.1, is))
    ∙ sym (ap (λ (b : Bool). cond b ((p.0, v) ∷ ps) (p ∷ placed e v ps)) both.0)

-- and is taken from its place
pub without_there : (e : ℕ) (es : List (ℕ × ℕ)) (i : ℕ) → IsIndexOf e es i → remove es i ≡ without e es
without_there e [] i (within, none, is) = absurd (omega (arith, within))
without_there e (p ∷ ps) zero (within, none, is) = sym (ap (λ (b : Bool). cond b ps (p ∷ without e ps)) is)
without_there e (p ∷ ps) (suc i) (within, none, is) =
    let both = neither (nat_eq e p.0) (list_any (λ (q : ℕ × ℕ). nat_eq e q.0) (take i ps)) none in
    ap (λ (qs : List (ℕ × ℕ)). p ∷ qs) (without_there e ps i (omega (arith, within), both.1, is))
    ∙ sym (ap (λ (b : Bool). cond b ps (p ∷ without e ps)) both.0)

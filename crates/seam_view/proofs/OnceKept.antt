-- The entities that a pass leaves in view are each there once.
use Rattle.std.proofs.Common.{ℕ, true, false, cond, not, ◌≡◌, eqb, List, [], ◌∷◌}
use Rattle.std.specs.Map.{keys_of}
use Rattle.std.specs.List.{IsDistinct, AllByRecursion}
use Rattle.std.proofs.lemmas.Map.Keys.{IsDistinct-head, IsDistinct-tail, IsDistinct-cons}
use Rattle.seam_view.specs.declared.Look.{Look}
use Rattle.seam_view.specs.Together.{leaves_next, looks_past, kept_past_all}

absent_kept : (e : ℕ) (looks : List Look) (es : List (ℕ × ℕ)) → AllByRecursion (λ y. eqb e y ≡ false) (keys_of es) →
    AllByRecursion (λ y. eqb e y ≡ false) (keys_of (kept_past_all looks es))
absent_kept e looks [] h = tt
absent_kept e looks (p ∷ es) h =
    let rest = absent_kept e (looks_past p.0 looks) es h.1 in
    let kept = kept_past_all (looks_past p.0 looks) es in
    elim (leaves_next p.0 looks) as (λ b. AllByRecursion (λ y. eqb e y ≡ false) (keys_of (cond (not b) (p ∷ kept) kept))) [
      | true ↦ rest
      | false ↦ (h.0, rest)
    ]

-- each that the pass leaves in view is there once
pub once_kept : (looks : List Look) (es : List (ℕ × ℕ)) → IsDistinct eqb (keys_of es) → IsDistinct eqb (keys_of (kept_past_all looks es))
once_kept looks [] u = u
once_kept looks (p ∷ es) u =
    let rest = once_kept (looks_past p.0 looks) es (IsDistinct-tail eqb p.0 (keys_of es) u) in
    let once = absent_kept p.0 (looks_past p.0 looks) es (IsDistinct-head eqb p.0 (keys_of es) u) in
    let kept = kept_past_all (looks_past p.0 looks) es in
    elim (leaves_next p.0 looks) as (λ b. IsDistinct eqb (keys_of (cond (not b) (p ∷ kept) kept))) [
      | true ↦ rest
      | false ↦ IsDistinct-cons eqb p.0 (keys_of kept) once rest
    ]

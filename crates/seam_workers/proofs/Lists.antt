-- Lists of places.
use Rattle.std.proofs.Common.{◌≡◌, ℕ, Bool, zero, suc, ◌+◌, ◌≤◌, ◌⊎◌, List, [], ◌∷◌, ◌++◌, length, Option, None, Some, set, refl, sym, ap}
use Rattle.std.proofs.Common.{◌∙◌, subst, arith, inl, inr, append_assoc}
use Rattle.std.specs.Prelude.{slice_get}
use Rattle.std.specs.Option.{IsSome}
use Rattle.std.specs.List.{All}
use Rattle.std.proofs.lemmas.List.{append-nil}
use Rattle.std.proofs.lemmas.Option.{slice_get_within, get_or_from_slice_get}
use Rattle.seam_machine.specs.Views.{Stepped}
use Rattle.seam_machine.specs.declared.machines.Input.{Input}
use Rattle.seam_logged.specs.Logs.{LoggedView, EndsView, Root}
use Rattle.seam_workers.specs.Seats.{Placed, filled, IsRun, AreRuns, roots_of}

-- the second list goes on after the first
abbrev pub Begins : {X : Type 0} → List X → List X → Type 0
Begins {X} xs ys = (rest : List X) × (xs ++ rest ≡ ys)

abbrev pub AreRunsFrom : {N M H : Type 0} → (N → Bool) → (N → Input M → Stepped N M) → (N → ℕ) → List (Root N M H) → ℕ →
    List (LoggedView N M H) → Type 0
AreRunsFrom {N} {M} {H} has_work steps peers roots from vs =
    (k : ℕ) (v : LoggedView N M H) → slice_get vs k ≡ Some v → IsRun has_work steps peers roots (from + k) v

module _ {X : Type 0} where
  get_seam : (xs : List X) (x : X) (rest : List X) → slice_get ((xs ++ x ∷ []) ++ rest) (length xs) ≡ Some x
  get_seam [] x rest = refl
  get_seam (y ∷ xs) x rest = get_seam xs x rest

  -- the last of a prefix is in the whole
  pub begins_last : (xs ys : List X) (x : X) → Begins (xs ++ x ∷ []) ys → slice_get ys (length xs) ≡ Some x
  begins_last xs ys x b = subst (λ l. slice_get l (length xs) ≡ Some x) b.1 (get_seam xs x b.0)

  pub begins_shorter : (xs ys : List X) (x : X) → Begins (xs ++ x ∷ []) ys → Begins xs ys
  begins_shorter xs ys x b = (x ∷ b.0, sym (append_assoc xs (x ∷ []) b.0) ∙ b.1)

  pub all_get : (P : X → Type 0) (xs : List X) (k : ℕ) (x : X) → slice_get xs k ≡ Some x → All P xs → P x
  all_get P xs k x e all = subst P (get_or_from_slice_get xs k x x e) (all k x (slice_get_within xs k x e))

  pub filled_none : (xs : List (Option X)) → filled (xs ++ None ∷ []) ≡ filled xs
  filled_none [] = refl
  filled_none (None ∷ xs) = filled_none xs
  filled_none (Some x ∷ xs) = ap suc (filled_none xs)

  -- one place more is filled
  pub filled_set : (xs : List (Option X)) (i : ℕ) (y : Option X) (z : X) → slice_get xs i ≡ Some None →
      filled (set (set xs i y) i (Some z)) ≡ filled xs + 1
  filled_set [] i y z e = absurd (cc)
  filled_set (None ∷ xs) zero y z e = omega arith
  filled_set (Some x ∷ xs) zero y z e = absurd (cc)
  filled_set (None ∷ xs) (suc i) y z e = filled_set xs i y z e
  filled_set (Some x ∷ xs) (suc i) y z e = let h = filled_set xs i y z e in omega arith

  filled_most : (xs : List (Option X)) → filled xs ≤ length xs
  filled_most [] = omega arith
  filled_most (None ∷ xs) = let h = filled_most xs in omega arith
  filled_most (Some x ∷ xs) = let h = filled_most xs in omega arith

  -- where all places are filled, the last is, and all before it
  pub full_last : (xs : List (Option X)) (p : Option X) → filled (xs ++ p ∷ []) ≡ length (xs ++ p ∷ []) → IsSome p × (filled xs ≡ length xs)
  full_last [] None e = absurd (omega arith)
  full_last [] (Some x) e = (refl, refl)
  full_last (None ∷ xs) p e = absurd (let h = filled_most (xs ++ p ∷ []) in omega arith)
  full_last (Some x ∷ xs) p e = let h = full_last xs p (omega arith) in (h.0, ap suc h.1)

  get_front : (xs : List X) (y x : X) (k : ℕ) → slice_get xs k ≡ Some x → slice_get (xs ++ y ∷ []) k ≡ Some x
  get_front [] y x k e = absurd (cc)
  get_front (z ∷ xs) y x zero e = e
  get_front (z ∷ xs) y x (suc k) e = get_front xs y x k e

  snoc_none : (xs : List (Option X)) (x : X) (k : ℕ) → slice_get (xs ++ None ∷ []) k ≡ Some (Some x) → slice_get xs k ≡ Some (Some x)
  snoc_none [] x zero e = absurd (cc)
  snoc_none [] x (suc k) e = absurd (cc)
  snoc_none (z ∷ xs) x zero e = e
  snoc_none (z ∷ xs) x (suc k) e = snoc_none xs x k e

  -- what is in a list after a write
  set_either : (xs : List X) (i : ℕ) (y x : X) (k : ℕ) → slice_get (set xs i y) k ≡ Some x → ((k ≡ i) × (y ≡ x)) ⊎ (slice_get xs k ≡ Some x)
  set_either [] i y x k e = inr e
  set_either (z ∷ xs) zero y x zero e = inl (refl, cc)
  set_either (z ∷ xs) zero y x (suc k) e = inr e
  set_either (z ∷ xs) (suc i) y x zero e = inr e
  set_either (z ∷ xs) (suc i) y x (suc k) e = elim (set_either xs i y x k e) [ inl h ↦ inl (ap suc h.0, h.1) | inr h ↦ inr h ]

module _ {N M H : Type 0} where
  pub placed_front : (vs : List (Option (LoggedView N M H))) (p : Option (LoggedView N M H)) → Placed (vs ++ p ∷ []) → Placed vs
  placed_front vs p h k v e = h k v (get_front vs p (Some v) k e)

  pub placed_last : (vs : List (Option (LoggedView N M H))) (v : LoggedView N M H) → Placed (vs ++ Some v ∷ []) → v.me ≡ length vs
  placed_last vs v h = h (length vs) v (begins_last vs (vs ++ Some v ∷ []) (Some v) ([], append-nil (vs ++ Some v ∷ [])))

  pub placed_none : (vs : List (Option (LoggedView N M H))) → Placed vs → Placed (vs ++ None ∷ [])
  placed_none vs h k v e = h k v (snoc_none vs v k e)

  module _ (has_work : N → Bool) (steps : N → Input M → Stepped N M) (peers : N → ℕ) (roots : List (Root N M H)) where
    pub runs_cons : (from : ℕ) (v : LoggedView N M H) (vs : List (LoggedView N M H)) → IsRun has_work steps peers roots from v →
        AreRunsFrom has_work steps peers roots (suc from) vs → AreRunsFrom has_work steps peers roots from (v ∷ vs)
    runs_cons from v vs d ds zero u e =
        let same : v ≡ u = cc in
        let at : from + 0 ≡ from = omega arith in
        subst (λ (k : ℕ). IsRun has_work steps peers roots k u) (sym at) (subst (IsRun has_work steps peers roots from) same d)
    runs_cons from v vs d ds (suc k) u e =
        let at : suc from + k ≡ from + suc k = omega arith in
        subst (λ (j : ℕ). IsRun has_work steps peers roots j u) at (ds k u e)

    pub runs_start : (vs : List (LoggedView N M H)) → AreRunsFrom has_work steps peers roots 0 vs → AreRuns has_work steps peers roots vs
    runs_start vs ds k v e = let at : 0 + k ≡ k = omega arith in subst (λ (j : ℕ). IsRun has_work steps peers roots j v) at (ds k v e)

  pub roots_get : (ns : List N) (es : List (EndsView M H)) (k : ℕ) (n : N) (e : EndsView M H) → slice_get ns k ≡ Some n →
      slice_get es k ≡ Some e → slice_get (roots_of ns es) k ≡ Some (record { start = n; first = e })
  roots_get [] es k n e a b = absurd (cc)
  roots_get (m ∷ ns) [] k n e a b = absurd (cc)
  roots_get (m ∷ ns) (f ∷ es) zero n e a b =
      let p : m ≡ n = cc in
      let q : f ≡ e = cc in
      ap (λ x. Some (record { start = x; first = f })) p ∙ ap (λ y. Some (record { start = n; first = y })) q
  roots_get (m ∷ ns) (f ∷ es) (suc k) n e a b = roots_get ns es k n e a b

  pub placed_settled : (vs : List (Option (LoggedView N M H))) (k : ℕ) (y : Option (LoggedView N M H)) (v : LoggedView N M H) → Placed vs →
      y ≡ None → v.me ≡ k → Placed (set (set vs k y) k (Some v))
  placed_settled vs k y v p none me j u e = elim (set_either (set vs k y) k (Some v) (Some u) j e) [
    | inl h ↦ let same : v ≡ u = cc (h.1) in sym (ap (λ (x : LoggedView N M H). x.me) same) ∙ (me ∙ sym h.0)
    | inr h ↦ elim (set_either vs k y (Some u) j h) [ inl f ↦ absurd (cc (none, f.1)) | inr f ↦ p j u f ]
  ]

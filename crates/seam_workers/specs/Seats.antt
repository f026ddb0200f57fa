-- Logged nodes under locks, and at their places after it.
use Rattle.std.specs.Prelude.{◌≡◌, ℕ, suc, Bool, false, List, [], ◌∷◌, length, Option, None, Some, slice_get}
use Rattle.seam_machine.specs.Views.{Stepped}
use Rattle.seam_machine.specs.declared.machines.Input.{Input}
use Rattle.seam_logged.specs.Logs.{LoggedView, EndsView, Root, IsReplay}

-- each node, with its ends, is where its log begins
abbrev pub roots_of : {N M H : Type 0} → List N → List (EndsView M H) → List (Root N M H)
roots_of [] es = []
roots_of (n ∷ ns) [] = []
roots_of (n ∷ ns) (e ∷ es) = record { start = n; first = e } ∷ roots_of ns es

-- a node has one end from and one to each of its peers
abbrev pub HasEnds : {N M H : Type 0} → (N → ℕ) → List (Root N M H) → Type 0
HasEnds {N} {M} {H} peers roots =
    (k : ℕ) (r : Root N M H) → slice_get roots k ≡ Some r → (length r.first.ins ≡ peers r.start) × (length r.first.outs ≡ peers r.start)

-- each is at the place of its number
abbrev pub Placed : {N M H : Type 0} → List (Option (LoggedView N M H)) → Type 0
Placed {N} {M} {H} vs = (k : ℕ) (v : LoggedView N M H) → slice_get vs k ≡ Some (Some v) → v.me ≡ k

-- how many places hold something
abbrev pub filled : {X : Type 0} → List (Option X) → ℕ
filled [] = 0
filled (None ∷ xs) = filled xs
filled (Some x ∷ xs) = suc (filled xs)

-- the one at k has the number k and is the replay of its log from the root of that number; all that it sent is put, and where it has a
-- task it made a step
pub record IsRun {N M H : Type 0} (has_work : N → Bool) (steps : N → Input M → Stepped N M) (peers : N → ℕ) (roots : List (Root N M H))
    (k : ℕ) (v : LoggedView N M H) : Type 0 where
  pub me_is : v.me ≡ k
  pub replay : IsReplay has_work steps peers roots v
  pub unsent : v.unsent ≡ []
  pub worked : v.log ≡ [] → has_work v.node ≡ false

abbrev pub AreRuns : {N M H : Type 0} → (N → Bool) → (N → Input M → Stepped N M) → (N → ℕ) → List (Root N M H) → List (LoggedView N M H) →
    Type 0
AreRuns {N} {M} {H} has_work steps peers roots vs =
    (k : ℕ) (v : LoggedView N M H) → slice_get vs k ≡ Some v → IsRun has_work steps peers roots k v

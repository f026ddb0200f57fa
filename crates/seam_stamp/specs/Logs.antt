-- Logs of the nodes of a net, and their merge.
use Rattle.std.specs.Prelude.{◌≡◌, ℕ, ◌+◌, ◌<◌, ◌≤◌, ◌⊎◌, List, [], ◌∷◌, map, slice_index_or, if◌then◌else◌, ◌==◌}
use Rattle.seam_stamp.specs.declared.Stamped.{Stamped}

-- entries of node k, whose stamps rise strictly and are at least t
abbrev pub IsLogFrom : {E : Type 0} → ℕ → ℕ → List (Stamped E) → Type 0
IsLogFrom k t [] = Unit {0}
IsLogFrom k t (e ∷ es) = (e.node ≡ k) × (t ≤ e.stamp) × IsLogFrom k (e.stamp + 1) es

-- log k is that of node k
abbrev pub AreLogs : {E : Type 0} → List (List (Stamped E)) → Type 0
AreLogs logs = (k : ℕ) → IsLogFrom k 0 (slice_index_or logs k [])

-- the entries of node k, in their order
abbrev pub by_node : {E : Type 0} → ℕ → List (Stamped E) → List (Stamped E)
by_node k [] = []
by_node k (e ∷ es) = if e.node == k then e ∷ by_node k es else by_node k es

-- the entry's stamp is greater than t, or is t and its node at least k
abbrev pub IsFrom : {E : Type 0} → ℕ → ℕ → Stamped E → Type 0
IsFrom t k e = (t < e.stamp) ⊎ ((t ≡ e.stamp) × (k ≤ e.node))

-- the entries rise strictly by stamp and, where stamps are equal, by node, from stamp t and node k on
abbrev pub RiseFrom : {E : Type 0} → ℕ → ℕ → List (Stamped E) → Type 0
RiseFrom t k [] = Unit {0}
RiseFrom t k (e ∷ es) = IsFrom t k e × RiseFrom e.stamp (e.node + 1) es

-- each log's entries are there in their order, nothing else is, and all are ordered by stamp and by node
pub record IsMerge {E : Type 0} (logs : List (List (Stamped E))) (merged : List (Stamped E)) : Type 0 where
  pub whole : (k : ℕ) → by_node k merged ≡ slice_index_or logs k []
  pub order : RiseFrom 0 0 merged

-- the items of a merge
abbrev pub IsMergeOf : {E : Type 0} → List (List (Stamped E)) → List E → Type 0
IsMergeOf {E} logs items = (merged : List (Stamped E)) × IsMerge logs merged × (items ≡ map (λ e. e.item) merged)

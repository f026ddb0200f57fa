-- The first entries of what is left of the logs.
use Rattle.std.specs.Prelude.{◌≡◌, ◌≢◌, ℕ, ◌<◌, ◌≤◌, List, [], ◌∷◌, ◌++◌, length, map, slice_index_or}
use Rattle.seam_stamp.specs.declared.Stamped.{Stamped}
use Rattle.seam_stamp.specs.Logs.{AreLogs, by_node, RiseFrom}

-- the first entry of log k has the least stamp of all that are first, and no lower log has it too
pub record IsFirst {E : Type 0} (logs : List (List (Stamped E))) (k : ℕ) : Type 0 where
  pub entry : Stamped E
  pub rest : List (Stamped E)
  pub log_is : slice_index_or logs k [] ≡ entry ∷ rest
  pub within : k < length logs
  pub least : (j : ℕ) (d : Stamped E) (ds : List (Stamped E)) → slice_index_or logs j [] ≡ d ∷ ds → entry.stamp ≤ d.stamp
  pub lowest : (j : ℕ) (d : Stamped E) (ds : List (Stamped E)) → slice_index_or logs j [] ≡ d ∷ ds → j < k → entry.stamp < d.stamp

abbrev pub AllEmpty : {E : Type 0} → List (List (Stamped E)) → Type 0
AllEmpty logs = (j : ℕ) → slice_index_or logs j [] ≡ []

-- what is merged and what is left of the logs: each log's entries are there in their order, and all that is left may come next
pub record Merging {E : Type 0} (logs heads : List (List (Stamped E))) (merged : List (Stamped E)) : Type 0 where
  pub whole : (k : ℕ) → by_node k merged ++ slice_index_or heads k [] ≡ slice_index_or logs k []
  pub order : RiseFrom 0 0 merged
  pub logs_left : AreLogs heads
  pub next : (k : ℕ) (d : Stamped E) (ds : List (Stamped E)) → slice_index_or heads k [] ≡ d ∷ ds → RiseFrom 0 0 (merged ++ d ∷ [])

-- the same with the items of what is merged
abbrev pub IsMergingTo : {E : Type 0} → List (List (Stamped E)) → List (List (Stamped E)) → List E → Type 0
IsMergingTo {E} logs heads items = (merged : List (Stamped E)) × Merging logs heads merged × (items ≡ map (λ e. e.item) merged)

-- no first entry has a lower stamp, and none of the first n logs has it
abbrev pub AreLater : {E : Type 0} → ℕ → ℕ → List (List (Stamped E)) → Type 0
AreLater {E} n stamp heads =
    (j : ℕ) (d : Stamped E) (ds : List (Stamped E)) → slice_index_or heads j [] ≡ d ∷ ds → (stamp ≤ d.stamp) × (j < n → stamp < d.stamp)

-- the first entry of a log had this stamp and was merged
pub record HasMoved {E : Type 0} (stamp : ℕ) (old new : List (Stamped E)) (before after : List E) : Type 0 where
  pub entry : Stamped E
  pub old_is : old ≡ entry ∷ new
  pub stamp_is : entry.stamp ≡ stamp
  pub merged : after ≡ before ++ entry.item ∷ []

-- the first entry of a log had another stamp, or there was none
pub record HasOther {E : Type 0} (stamp : ℕ) (old new : List (Stamped E)) (before after : List E) : Type 0 where
  pub other : (d : Stamped E) (ds : List (Stamped E)) → old ≡ d ∷ ds → d.stamp ≢ stamp
  pub same : new ≡ old
  pub kept : after ≡ before

-- What the haunts of a real are told, cell by cell.
use Rattle.std.specs.Prelude.{◌≡◌, ℕ, ◌+◌, List, [], ◌∷◌, filter_map, Option, None, Some}
use Rattle.std.specs.List.{range_with_len}
use Rattle.seam_node_steps.specs.Prelude.{GhostCopy, RealView, Here, copy_of_real, Msg, GhostSet, GhostDrop, State, word, Telling, Nothing}
use Rattle.seam_cell_parts.specs.declared.news.Subject.{Subject}
use Rattle.seam_haunt.specs.declared.telling.Told.{Told}
use Rattle.seam_haunt.specs.declared.telling.Told.TheVariants.{Set, Drop}

-- the state of the real of which is told
abbrev pub state_of : Subject → State
state_of of = record { pos = of.pos; props = of.props.now }

abbrev pub message_for : Telling → GhostCopy → ℕ → Told → Option (ℕ × Msg)
message_for t g k Nothing = None
message_for t g k Set = Some (k, GhostSet t.entity t.beat g)
message_for t g k Drop = Some (k, GhostDrop t.entity t.beat)

abbrev pub listed : {A : Type 0} → Option A → List A
listed None = []
listed (Some x) = x ∷ []

abbrev pub told_by : Telling → GhostCopy → ℕ → Option (ℕ × Msg)
told_by t g k = message_for t g k (word t k)

-- what the cells below n are told, in rising number
abbrev pub news : Telling → GhostCopy → ℕ → List (ℕ × Msg)
news t g n = filter_map (told_by t g) (range_with_len 0 n)

-- the telling is that of cell h about its real r, of which the copy is g, under the next beat
pub record IsTellingOf (h : Here) (r : RealView) (t : Telling) (g : GhostCopy) : Type 0 where
  pub me : t.me ≡ h.me
  pub entity : t.entity ≡ r.entity
  pub beat : t.beat ≡ r.beat + 1
  pub old : t.old ≡ r.haunts
  pub copy : g ≡ copy_of_real h r

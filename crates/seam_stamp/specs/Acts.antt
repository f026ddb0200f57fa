-- The steps that one node made, by stamps, and what it received and sent.
use Rattle.std.specs.Prelude.{◌≡◌, ℕ, ◌<◌, Bool, true, List, [], ◌∷◌, ◌++◌, Option, None, Some, if◌then◌else◌, ◌==◌}
use Rattle.seam_machine.specs.Views.{Stepped}
use Rattle.seam_machine.specs.Sends.{AllBelow}
use Rattle.seam_machine.specs.declared.machines.Input.{Input}
use Rattle.seam_machine.specs.declared.machines.Input.TheVariants.{Task, From}
use Rattle.seam_machine.specs.declared.machines.Event.{Event}
use Rattle.seam_stamp.specs.declared.Letter.{Letter}
use Rattle.seam_stamp.specs.declared.Stamped.{Stamped}

-- one step: its stamp, and the letter that it received with the number of its sender; none where it was the task's
pub record Act (M : Type 0) : Type 0 where
  pub stamp : ℕ
  pub took : Option (ℕ × Letter M)

abbrev pub input_by : {M : Type 0} → Option (ℕ × Letter M) → Input M
input_by None = Task
input_by (Some p) = From p.0 p.1.item

abbrev pub from_by : {M : Type 0} → Option (ℕ × Letter M) → Option ℕ
from_by None = None
from_by (Some p) = Some p.0

-- the stamp of the letter, 0 for a task
abbrev pub stamp_by : {M : Type 0} → Option (ℕ × Letter M) → ℕ
stamp_by None = 0
stamp_by (Some p) = p.1.stamp

-- the letter, where it came from node a
abbrev pub taken_by : {M : Type 0} → ℕ → Option (ℕ × Letter M) → List (Letter M)
taken_by a None = []
taken_by a (Some p) = if p.0 == a then p.1 ∷ [] else []

-- the letters that the steps received from node a
abbrev pub received : {M : Type 0} → ℕ → List (Act M) → List (Letter M)
received a [] = []
received a (d ∷ ds) = taken_by a d.took ++ received a ds

-- the state after the steps
abbrev pub state_after : {N M : Type 0} → (N → Input M → Stepped N M) → N → List (Act M) → N
state_after steps s [] = s
state_after steps s (d ∷ ds) = state_after steps (steps s (input_by d.took)).state ds

-- items as letters with the stamp t, each with its target
abbrev pub stamped : {M : Type 0} → ℕ → List (ℕ × M) → List (ℕ × Letter M)
stamped t [] = []
stamped t (p ∷ ps) = (p.0, record { stamp = t; item = p.1 }) ∷ stamped t ps

-- the letters that the steps sent, each with the stamp of its step
abbrev pub sends : {N M : Type 0} → (N → Input M → Stepped N M) → N → List (Act M) → List (ℕ × Letter M)
sends steps s [] = []
sends steps s (d ∷ ds) = stamped d.stamp (steps s (input_by d.took)).sent ++ sends steps (steps s (input_by d.took)).state ds

-- a task is taken where there is one; a letter comes from one of the n nodes
abbrev pub may_do : {N M : Type 0} → (N → Bool) → ℕ → N → Option (ℕ × Letter M) → Type 0
may_do has_work n s None = has_work s ≡ true
may_do has_work n s (Some p) = p.0 < n

-- stamps rise from `last` on and are above those of the letters received; each step may be made, and sends to the n nodes alone
abbrev pub Legal : {N M : Type 0} → (N → Bool) → (N → Input M → Stepped N M) → ℕ → ℕ → N → List (Act M) → Type 0
Legal has_work steps n last s [] = Unit {0}
Legal has_work steps n last s (d ∷ ds) =
    (last < d.stamp) × (stamp_by d.took < d.stamp) × may_do has_work n s d.took
    × AllBelow n (steps s (input_by d.took)).sent × Legal has_work steps n d.stamp (steps s (input_by d.took)).state ds

abbrev pub event_by : {M : Type 0} → ℕ → Act M → Event
event_by me d = record { node = me; from = from_by d.took }

-- the log of node `me` after the steps
abbrev pub entries : {M : Type 0} → ℕ → List (Act M) → List (Stamped Event)
entries me [] = []
entries me (d ∷ ds) = record { stamp = d.stamp; node = me; item = event_by me d } ∷ entries me ds

-- letters without their stamps
abbrev pub items : {M : Type 0} → List (Letter M) → List M
items [] = []
items (l ∷ ls) = l.item ∷ items ls

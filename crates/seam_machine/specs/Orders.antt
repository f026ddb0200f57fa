-- The order in which enabled events happen.
use Rattle.std.specs.Prelude.{◌≡◌, ℕ, ◌<◌, ◌⊎◌, Option, None, Some}
use Rattle.seam_machine.specs.declared.machines.Event.{Event}

-- messages come before tasks; of either those to the lower node, and of the messages to one node those from the lower node
abbrev pub IsBeforeBy : ℕ → Option ℕ → ℕ → Option ℕ → Type 0
IsBeforeBy k (Some a) n (Some b) = (k < n) ⊎ ((k ≡ n) × (a < b))
IsBeforeBy k (Some a) n None = Unit {0}
IsBeforeBy k None n (Some b) = ⊥
IsBeforeBy k None n None = k < n

abbrev pub IsBefore : Event → Event → Type 0
IsBefore d e = IsBeforeBy d.node d.from e.node e.from

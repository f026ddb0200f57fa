-- Nets that come to rest.
use Rattle.std.specs.Prelude.{ℕ, ◌≤◌, Bool, List, length}
use Rattle.seam_machine.specs.Views.{Stepped, NetView}
use Rattle.seam_machine.specs.Nets.{LeadsTo}
use Rattle.seam_machine.specs.declared.machines.Input.{Input}
use Rattle.seam_machine.specs.declared.machines.Event.{Event}

-- no list of the net's events, each enabled in turn, is longer than n
abbrev pub EndsWithin : {N M : Type 0} → (N → Bool) → (N → Input M → Stepped N M) → NetView N M → ℕ → Type 0
EndsWithin {N} {M} has_work steps w n = (es : List Event) (v : NetView N M) → LeadsTo has_work steps w es v → length es ≤ n

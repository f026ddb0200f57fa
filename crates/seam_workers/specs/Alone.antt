-- A net in which more than one node has something to do.
use Rattle.std.specs.Prelude.{◌≡◌, ◌<◌, Bool, true}
use Rattle.seam_machine.specs.Views.{NetView}
use Rattle.seam_machine.specs.Nets.{enabled}
use Rattle.seam_machine.specs.declared.machines.Event.{Event}

-- two nodes have an event each
abbrev pub TwoHaveEvents : {N M : Type 0} → (N → Bool) → NetView N M → Type 0
TwoHaveEvents has_work w = (d e : Event) × (enabled has_work w d ≡ true) × (enabled has_work w e ≡ true) × (d.node < e.node)

-- Looks of a cell's witnesses. What is known of others, and what a witness tells its client, stand with the real.
use Rattle.std.specs.Prelude.{ℕ, ◌+◌, Bool, true, false, not, List, length, Option, None, Some}
use Rattle.seam_call.specs.declared.shown.Shown.{Shown}
use Rattle.seam_entity.specs.Reals.{RealView, WitnessView}
use Rattle.seam_entity.specs.Numbers.{is_small}
use Rattle.seam_entity.specs.Here.{Here, base_of}
use Rattle.seam_node_steps.specs.Slots.{Slot, SlotStep, rests}
pub use Rattle.seam_entity.specs.WitnessLooks.{other_of_real, other_of_copy, Known, seen_as, is_of, shown_of_known, known_of, shown_for}
pub use Rattle.seam_entity.specs.WitnessLooks.{own_due}
pub use Rattle.seam_entity.specs.WitnessLooks.{all_shown, numbered, after_looking, looks_of, shown_of}

abbrev pub looks_with : Here → Slot → RealView → WitnessView → List Known → List Shown → SlotStep
looks_with h s r w known shown = record {
  slot = Some (record s { real = Some (record r { witness = Some (after_looking known (looks_of r w known) shown r w) }) });
  unlisted = false;
  sent = numbered (base_of h r.entity) r.entity w.sent shown;
}

abbrev pub look_by : Here → Slot → RealView → Option WitnessView → List Known → SlotStep
look_by h s r (Some w) known = looks_with h s r w known (shown_of h r w known)
look_by h s r None known = rests

-- look task: the real's witness looks at what the cell knows of others, and its updates go to the entity's base node
abbrev pub look_task : Here → Slot → Option RealView → List Known → SlotStep
look_task h s (Some r) known = look_by h s r r.witness known
look_task h s None known = rests

abbrev pub stray_look_by : Here → RealView → Option WitnessView → List Known → Bool
stray_look_by h r (Some w) known = not (is_small (w.sent + length (shown_of h r w known)))
stray_look_by h r None known = true

-- the real is not here or has no witness, or its updates would reach the limit of numbers
abbrev pub stray_look : Here → Option RealView → List Known → Bool
stray_look h (Some r) known = stray_look_by h r r.witness known
stray_look h None known = true

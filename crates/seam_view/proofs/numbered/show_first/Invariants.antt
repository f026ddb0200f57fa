use Rattle.std.proofs.Common.{◌≤◌, drop, length}
use Rattle.std.specs.Map.{keys_of}
use Rattle.std.specs.Vec.{vec_len, vec_capacity}
use Rattle.seam_view.specs.ByNumber.{IsByNumber, entries_of}
use Rattle.seam_view.specs.Passing.{places_of, HasSlots}
use Rattle.seam_view.specs.Replica.{enters_in}
use Rattle.seam_view.specs.Run.{AreKept}
use Rattle.seam_view.proofs.numbered.show_first.Given as goal

abbrev pub invariant-loop-i : goal.invariant-loop-i
invariant-loop-i l = record {
  by_number : IsByNumber (keys_of (entries_of l.slots.items)) (places_of l.passing);
  within : l.passing.next ≤ length l.passing.all.items;
  kept : AreKept l.known (entries_of l.fn.slots.items) l.looks (entries_of l.slots.items) (drop l.i l.looks);
  room : HasSlots (enters_in (drop l.i l.looks)) (vec_len l.slots) (vec_capacity l.slots) l.passing;
}

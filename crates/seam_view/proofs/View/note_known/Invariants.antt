use Rattle.std.proofs.Common.{◌≡◌, ◌++◌, take, drop}
use Rattle.seam_view.specs.ViewLooks.{entering}
use Rattle.seam_view.specs.Notes.{notes_of}
use Rattle.seam_view.proofs.View.note_known.Given as goal

abbrev pub invariant-loop-seen : goal.invariant-loop-seen
invariant-loop-seen l = record {
  notes : l.notes.items ≡ notes_of l.self.core l.own (take l.seen-index l.known);
  enters : l.enters.items ++ entering l.self.core l.own (drop l.seen-index l.known) ≡ entering l.self.core l.own l.known;
}

use Rattle.std.proofs.Common.{◌≡◌, ◌++◌, drop, map}
use Rattle.std.specs.Map.{keys_of}
use Rattle.seam_view.specs.declared.Look.TheVariants.{Leave, Set}
use Rattle.seam_view.specs.Notes.{is_leave, is_change, noted}
use Rattle.seam_view.proofs.View.push_noted.Given as goal

abbrev pub invariant-loop-i : goal.invariant-loop-i
invariant-loop-i l = record {
  looks : l.looks.items ++ map (λ e. Leave e) (noted is_leave (drop l.i l.notes) (drop l.i (keys_of l.self.core.entries)))
      ≡ l.initial.looks.items ++ map (λ e. Leave e) (noted is_leave l.notes (keys_of l.self.core.entries));
  sets : l.sets.items ++ map (λ e. Set e) (noted is_change (drop l.i l.notes) (drop l.i (keys_of l.self.core.entries)))
      ≡ l.initial.sets.items ++ map (λ e. Set e) (noted is_change l.notes (keys_of l.self.core.entries));
}

use Rattle.std.proofs.Common.{◌≡◌, ◌<◌, ◌^◌, ◌++◌, take, drop}
use Rattle.seam_defs.specs.Deeds.{projected}
use Rattle.seam_defs.specs.Remaining.{properties_left, shown_of}
use Rattle.seam_defs.specs.Marks.{kept}
use Rattle.seam_defs.proofs.props.left_out_of_kept.Given as goal

abbrev pub invariant-loop : goal.invariant-loop
invariant-loop l = record {
  mark : l.mark ≡ 2 ^ l.index;
  below : l.left_out < l.mark;
  kept : kept l.left_out (take l.index l.values)
      ++ shown_of l.group (properties_left l.of_held) (kept l.rest (drop l.index l.values))
      ≡ projected l.properties l.fn.held l.group (kept l.fn.before l.values);
}

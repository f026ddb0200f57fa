use Rattle.std.proofs.Common.{◌≡◌, ◌<◌, ◌≤◌, ◌^◌, ◌++◌, List, take, drop, length}
use Rattle.seam_value.specs.declared.values.Value.{Value}
use Rattle.seam_defs.specs.Deeds.{projected, properties_of}
use Rattle.seam_defs.specs.Remaining.{shown_of}
use Rattle.seam_defs.specs.Marks.{kept}
use Rattle.seam_defs.proofs.props.left_out_of_all.Given as goal

abbrev pub invariant-loop-property : goal.invariant-loop-property
invariant-loop-property l = record {
  mark : l.mark ≡ 2 ^ l.passed;
  below : l.left_out < l.mark;
  within : l.passed ≤ l.count;
  kept : (values : List Value) → length values ≡ l.count → kept l.left_out (take l.passed values)
      ++ shown_of l.group (properties_of (drop l.property-index l.properties) l.held) (drop l.passed values)
      ≡ projected l.properties l.held l.group values;
}

abbrev pub invariant-loop : goal.invariant-loop
invariant-loop l = record {
  mark : l.mark ≡ 2 ^ l.counter;
  below : l.left_out < l.mark;
  within : l.counter ≤ l.fn.count;
  kept : (values : List Value) → length values ≡ l.fn.count →
      kept l.left_out (take l.counter values) ≡ projected l.properties l.fn.held l.fn.group values;
}

use Rattle.std.proofs.Common.{◌≡◌, ◌<◌}
use Rattle.toml.specs.View.{members_view}
use Rattle.seam_toml.specs.declared.faults.Fault.{Fault}
use Rattle.seam_toml.specs.Faults.{HeaderHas, order}
use Rattle.seam_toml.proofs.FaultOrder.{in_order}
use Rattle.seam_toml.proofs.faults.first_fault.Given as goal

abbrev pub invariant-faults : goal.invariant-faults
invariant-faults l = record {
  all : l.fault-items ≡ in_order;
  none_before : (g : Fault) → order g < l.fault-index → ¬ (HeaderHas (members_view l.document.entries) g);
}

use Rattle.std.proofs.Common.{◌≡◌, take}
use Rattle.seam_defs.specs.Groups.{held_by}
use Rattle.seam_defs.specs.Deeds.{after_body}
use Rattle.seam_defs.proofs.deeds.operate_all.Given as goal

abbrev pub invariant-loop-operation : goal.invariant-loop-operation
invariant-loop-operation l =
    l.values ≡ after_body l.properties (held_by l.method.part) l.args (take l.operation-index l.operation-items) l.initial.values

use Rattle.std.proofs.Common.{◌≡◌, ◌↔◌, drop}
use Rattle.seam_defs.specs.Marks.{kept}
use Rattle.seam_defs.proofs.props.are_same_kept.Given as goal

-- the kept values are the same exactly where those from the place on are
abbrev pub invariant-loop-i : goal.invariant-loop-i
invariant-loop-i l = (kept l.left_out l.values ≡ kept l.left_out l.others)
    ↔ (kept l.marks (drop l.i l.values) ≡ kept l.marks (drop l.i l.others))

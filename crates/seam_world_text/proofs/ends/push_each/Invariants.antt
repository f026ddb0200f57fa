use Rattle.std.proofs.Common.{◌≡◌, ◌++◌, take}
use Rattle.seam_report.specs.Spelled.{Versions, GoesBy}
use Rattle.seam_world_text.specs.RoundParts.{lines_text}
use Rattle.seam_world_text.specs.Told.{ShowOf}
use Rattle.seam_world_text.proofs.ends.push_each.Given as goal

abbrev pub invariant-loop-line : goal.invariant-loop-line
invariant-loop-line l = record {
  defs : l.spellings.defs ≡ l.initial.spellings.defs;
  told : (vs : Versions) → GoesBy vs l.initial.spellings → ShowOf vs l.lines → GoesBy vs l.spellings
      × (l.out.items ≡ l.initial.out.items ++ lines_text l.initial.spellings.defs l.made (take l.line-index l.lines));
}

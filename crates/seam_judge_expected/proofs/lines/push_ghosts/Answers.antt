use Rattle.std.proofs.Common.{ℕ}
use Rattle.std.specs.FinSet as set
use Rattle.seam_rule_rounds.specs.Lines.{GhostLine}
use Rattle.seam_judge_expected.proofs.Settlings.{chosen_more}
use Rattle.seam_judge_expected.proofs.lines.push_ghosts.Goals as goal

pub loop-cell-preserved : goal.loop-cell-preserved
loop-cell-preserved c =
    chosen_more {X = GhostLine} (λ (x : ℕ). record { entity = c.args.entity; cell = x; version = c.args.version })
    (λ (x : ℕ). set.contains c.args.cells.now x) c.loop-cell.cell c.args.ghosts.now.items c.loop-cell.ghosts.items
    c.add_ghost.new.ghosts.items c.loop-cell.invariant c.in_ok-add_ghost.ensures

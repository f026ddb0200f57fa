use Rattle.std.proofs.Common.{◌++◌, ◌∷◌, [], ◌∙◌, sym, ap, take, List, if◌then◌else◌}
use Rattle.std.specs.FinSet as set
use Rattle.std.proofs.lemmas.List.{take_more}
use Rattle.seam_rule_rounds.specs.Lines.{GhostLine}
use Rattle.seam_judge_rounds.specs.After.{is_ghost_of, ghosts_among}
use Rattle.seam_judge_rounds.proofs.Leaving.{ghosts_more}
use Rattle.seam_judge_rounds.proofs.after.ghosts_among.Goals as goal

pub loop-line-preserved : goal.loop-line-preserved
loop-line-preserved c =
    let x : GhostLine = c.line-item.result in
    let before : List GhostLine = take c.loop-line.line-index c.args.lines.now in
    c.with_ghost-cells.ensures
    ∙ (λ i. if is_ghost_of c.args.entity x then set.insert (c.loop-line.invariant i) x.cell else c.loop-line.invariant i)
    ∙ ghosts_more before x c.args.entity
    ∙ ap (λ (ls : List GhostLine). ghosts_among ls c.args.entity)
    (ap (λ (y : GhostLine). before ++ y ∷ []) c.line-item.is
    ∙ sym (take_more c.args.lines.now c.loop-line.line-index _ c.loop-line-test.true))

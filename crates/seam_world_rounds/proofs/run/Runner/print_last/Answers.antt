use Rattle.std.proofs.Common.{[], ◌≡◌, refl, subst, sym}
use Rattle.std.specs.Option.{option_to_list}
use Rattle.seam_world_rounds.specs.Following.{InputEnded}
use Rattle.seam_world_rounds.specs.Script.{Gives}
use Rattle.seam_world_ends.proofs.PrintLemmas.{cleared_first, gathered_prints, nothing_prints}
use Rattle.seam_world_rounds.proofs.run.Runner.print_last.Goals as goal

pub returns-in-Ok : goal.returns-in-Ok
returns-in-Ok g c = λ h t sink text refines printed.
    let ended = c.in-Ok.ensures h t refines in
    let steps = option_to_list c.in-Ok.ended in
    let output = c.args.playing.now.output in
    let was = c.args.self.now.script in
    let piece : c.finish.new.out.items ≡ ended.0 = cleared_first _ _ _ ended.0 refl ended.2 c.empty.ensures in
    gathered_prints _ c.finish.new.out.items steps sink _ _ text _ _ c.show_last.result
    (subst (λ now. InputEnded output h t (Gives output h was now) c.finish.new.out.items steps) (sym c.show_last.ensures.script)
    (subst (λ xs. InputEnded output h t (Gives output h was c.finish.new.self) xs steps) (sym piece) ended.1))
    (c.show_last.ensures.prints sink text printed)

pub returns-in-Err : goal.returns-in-Err
returns-in-Err g c = λ h t sink text refines printed.
    nothing_prints _ sink _ [] text _ _ c.stop.result refl (c.stop.ensures sink text printed)

use Rattle.std.proofs.Common.{◌≡◌, refl, subst, sym}
use Rattle.std.specs.Option.{option_to_list}
use Rattle.seam_io.specs.Lines.{Content}
use Rattle.seam_world_rounds.specs.Following.{LineRead}
use Rattle.seam_world_rounds.specs.Script.{ScriptRefines, Refines}
use Rattle.seam_world_rounds.proofs.Results.{if_none}
use Rattle.seam_world_ends.proofs.PrintLemmas.{cleared_first, gathered_prints, nothing_prints}
use Rattle.seam_world_rounds.proofs.run.Runner.print_line.Goals as goal

pub returns-in-Ok-clause-prints : goal.returns-in-Ok-clause-prints
returns-in-Ok-clause-prints g c = λ h t sink text refines printed.
    let read = c.in-Ok.ensures h t refines in
    let steps = option_to_list c.in-Ok.ended in
    let written = c.read_line.new.out.items in
    let output = c.args.playing.now.output in
    let was = c.args.self.now.script in
    let piece : written ≡ read.0 = cleared_first _ _ _ read.0 refl read.2 c.empty.ensures in
    gathered_prints _ written steps sink _ _ text _ _ c.show.result
    (subst (λ now. LineRead output h t (Content c.args.self.now.lines.line) (Refines output h was now) written steps)
    (sym c.show.ensures.script)
    (subst (λ xs. LineRead output h t (Content c.args.self.now.lines.line) (Refines output h was c.read_line.new.self) xs steps) (sym piece)
    (rw c.line.ensures.content at read.1)))
    (c.show.ensures.prints sink text printed)

pub returns-in-Err-clause-prints : goal.returns-in-Err-clause-prints
returns-in-Err-clause-prints g c = λ h t sink text refines printed.
    nothing_prints _ sink _ c.stop.new.pending text _ _ c.stop.result refl (c.stop.ensures sink text printed)

pub returns-in-Ok-clause-ready : goal.returns-in-Ok-clause-ready
returns-in-Ok-clause-ready g c =
    let read = c.in-Ok.ensures c.requires.ready.0 c.requires.ready.1 c.requires.ready.2 in
    if_none c.show.result _
    (c.requires.ready.0, read.1.next, subst (ScriptRefines c.requires.ready.0 read.1.next) (sym c.show.ensures.script) read.1.after.0)

use Rattle.std.proofs.Common.{◌≡◌, [], refl, subst, sym}
use Rattle.seam_io.specs.Lines.{Long}
use Rattle.seam_world_ends.specs.Ends.{the_space}
use Rattle.seam_world_rounds.specs.Following.{LineRead}
use Rattle.seam_world_rounds.specs.Script.{Refines}
use Rattle.seam_watch.proofs.Told.{told_nothing}
use Rattle.seam_world_rounds.proofs.Results.{if_none}
use Rattle.seam_world_ends.proofs.PrintLemmas.{cleared_first, gathered_prints, told_prints, nothing_prints}
use Rattle.seam_world_rounds.proofs.run.Runner.print_long.Goals as goal

pub returns-in-Ok-clause-prints : goal.returns-in-Ok-clause-prints
returns-in-Ok-clause-prints g c = λ h t sink text told refines printed.
    let read = c.in-Ok.ensures h t refines in
    let piece : c.deref.result.now ≡ read.0 = cleared_first _ _ _ read.0 c.deref.ensures.value read.2 c.empty.ensures in
    gathered_prints _ c.deref.result.now [] sink _ _ text told told c.print.result
    (subst (λ xs. LineRead c.args.output h t Long (Refines c.args.output h c.args.self.now.script c.read_long.new.self) xs []) (sym piece)
    read.1)
    (told_prints c.deref.result.now [] sink _ _ text told told c.print.result (told_nothing the_space told)
    (c.print.ensures sink text printed))

pub returns-in-Err-clause-prints : goal.returns-in-Err-clause-prints
returns-in-Err-clause-prints g c = λ h t sink text told refines printed.
    nothing_prints _ sink _ c.stop.new.pending text told told c.stop.result refl (c.stop.ensures sink text printed)

pub returns-in-Ok-clause-ready : goal.returns-in-Ok-clause-ready
returns-in-Ok-clause-ready g c =
    let read = c.in-Ok.ensures c.requires.ready.0 c.requires.ready.1 c.requires.ready.2 in
    if_none c.print.result _ (c.requires.ready.0, read.1.next, read.1.after.0)

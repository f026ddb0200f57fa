use Rattle.std.proofs.Common.{refl}
use Rattle.seam_world_rounds.proofs.ScriptLemmas.{script_begins}
use Rattle.seam_world_rounds.proofs.script.Script.new.Goals as goal

pub returns-clause-refines : goal.returns-clause-refines
returns-clause-refines c =
    let h = c.args.header in
    script_begins h c.args.lines _ c.requires.few refl refl refl c.in_ok-new.ensures c.in_ok-open.field-0 refl c.in_ok-open.ensures.opened
    (c.a_course_begins_and_goes_on.ensures.opened h c.args.lines c.requires.legal c.requires.sound)
    (c.new-2.ensures h.settings.size)

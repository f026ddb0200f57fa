use Rattle.std.proofs.Common.{refl, subst}
use Rattle.std.specs.Option.{option_to_list}
use Rattle.seam_io.specs.Lines.{Content}
use Rattle.seam_accept.specs.Refines.{LineRefused}
use Rattle.seam_world_rounds.specs.Output.{refusal_output}
use Rattle.seam_world_rounds.specs.Script.{Refines}
use Rattle.seam_world_rounds.proofs.Results.{if_ok}
use Rattle.seam_world_rounds.proofs.Following.{line_read}
use Rattle.seam_world_rounds.proofs.ScriptLemmas.{has_accepted, refused_line}
use Rattle.seam_world_rounds.proofs.script.Script.read_line.Goals as goal

pub follow-requires-clause-accepted : goal.follow-requires-clause-accepted
follow-requires-clause-accepted g c κs within =
    let h = c.requires.ready.0 in
    let t = c.requires.ready.1 in
    let was = c.requires.ready.2 in
    let line = Content c.args.line.now in (
      h,
      t,
      line,
      has_accepted h t line c.in-Ok.accepted c.args.self.now _ was refl refl refl refl c.in_ok-self.ensures.next c.in_ok-self.ensures.most
          (c.in-Ok.ensures.accepted h t.book was.book),
    )

pub returns-in-Ok : goal.returns-in-Ok
returns-in-Ok g c = if_ok c.follow.result
    (λ ended followed h t was.
    let line = Content c.args.line.now in
    let accepted =
    has_accepted h t line c.in-Ok.accepted c.args.self.now _ was refl refl refl refl c.in_ok-self.ensures.next c.in_ok-self.ensures.most
    (c.in-Ok.ensures.accepted h t.book was.book) in
    let f = followed h t line accepted in (
      f.0,
      line_read c.args.playing.now.output h t line (Refines c.args.playing.now.output h c.args.self.now c.follow.new.self) f.0
          (option_to_list ended) f.1,
      f.2,
    ))
    c.follow.ensures

pub returns-in_ok-refuse-in-Err-Cause : goal.returns-in_ok-refuse-in-Err-Cause
returns-in_ok-refuse-in-Err-Cause g c = λ h t was. (
  refusal_output c.args.playing.now.output c.in_ok-self.field-0 c.in-Err-Cause.cause,
  refused_line h t (c.a_course_begins_and_goes_on.ensures.line h t) (Content c.args.line.now) c.in-Err-Cause.cause c.args.self.now _ was
      refl refl refl refl c.in_ok-self.ensures.next c.in_ok-self.ensures.most c.in-Err-Cause.ensures.unchanged refl
      (subst (LineRefused h t.book (Content c.args.line.now)) c.in-Err-Cause.field-0-is
      (c.in-Err-Cause.ensures.refused h t.book was.book)) c.args.playing.now.output,
  c.in_ok-refuse-in-Err-Cause.ensures,
)

use Rattle.std.proofs.Common.{◌≢◌, [], refl, sym, ◌∙◌, subst, append-nil}
use Rattle.seam_rule_rounds.specs.Prelude.{open_lines, with_entry, MOST_LINES, with_line, with_book}
use Rattle.seam_accept.specs.declared.answers.Accepted.{Accepted}
use Rattle.seam_world_rounds.specs.Script.{HasAccepted, Refines}
use Rattle.seam_world_rounds.proofs.Counting.{no_pieces_counted}
use Rattle.seam_world_rounds.proofs.Worlds.{none_played}
use Rattle.seam_world_rounds.proofs.Following.{skipped, synced, kept_last, kept_open}
use Rattle.seam_world_rounds.proofs.ScriptLemmas.{skipped_refines, sync_ready, full_may_end, sync_may_end, kept_ready, kept_refines}
use Rattle.seam_world_rounds.proofs.script.Script.follow.Goals as goal

pub end_round-requires-clause-ready : goal.end_round-requires-clause-ready
end_round-requires-clause-ready g c κs within =
    let h = c.requires.accepted.0 in
    let t = c.requires.accepted.1 in
    let line = c.requires.accepted.2 in
    let was = subst (λ (a : Accepted). HasAccepted h t line a c.args.self.now) c.in-Kept.is c.requires.accepted.3 in
    let goes = c.a_course_begins_and_goes_on.ensures.entry h t in
    let full = sym (c.count.ensures h (with_entry t.book was.answered.0) was.answered.2) ∙ c.if-count-eq-MOST_LINES.true in (
      h,
      with_book (with_line t) (with_entry t.book was.answered.0),
      kept_ready h t goes line c.args.self.now was
          (full_may_end h t goes line c.args.self.now was (c.a_round_may_be_run.ensures.some h) full),
    )

pub end_round-requires-in-Synced-clause-ready : goal.end_round-requires-in-Synced-clause-ready
end_round-requires-in-Synced-clause-ready g c κs within =
    let h = c.requires.accepted.0 in
    let t = c.requires.accepted.1 in
    let line = c.requires.accepted.2 in
    let was = subst (λ (a : Accepted). HasAccepted h t line a c.args.self.now) c.in-Synced.is c.requires.accepted.3 in (
      h,
      with_line t,
      sync_ready h t (c.a_course_begins_and_goes_on.ensures.line h t) line c.args.self.now was
          (sync_may_end h t line c.args.self.now was (c.a_round_may_be_run.ensures.synced h t)),
    )

pub returns-then-count-eq-MOST_LINES : goal.returns-then-count-eq-MOST_LINES
returns-then-count-eq-MOST_LINES g c = λ h t line accepted.
    let was = subst (λ (a : Accepted). HasAccepted h t line a c.args.self.now) c.in-Kept.is accepted in
    let goes = c.a_course_begins_and_goes_on.ensures.entry h t in
    let full = sym (c.count.ensures h (with_entry t.book was.answered.0) was.answered.2) ∙ c.if-count-eq-MOST_LINES.true in
    let e = c.in_ok-end_round-in-Kept.ensures h (with_book (with_line t) (with_entry t.book was.answered.0))
    (kept_ready h t goes line c.args.self.now was
    (full_may_end h t goes line c.args.self.now was (c.a_round_may_be_run.ensures.some h) full)) in (
      e.0,
      kept_last c.args.playing.now.output h (with_line t) line was.answered.0
          (Refines c.args.playing.now.output h c.args.self.now c.end_round.new.self) e.0 _
          was.answered.1 full e.1,
      e.2,
    )

pub returns-else-count-eq-MOST_LINES : goal.returns-else-count-eq-MOST_LINES
returns-else-count-eq-MOST_LINES g c = λ h t line accepted.
    let was = subst (λ (a : Accepted). HasAccepted h t line a c.args.self.now) c.in-Kept.is accepted in
    let open_ : open_lines (with_entry t.book was.answered.0) ≢ MOST_LINES =
    λ full. c.if-count-eq-MOST_LINES.false (c.count.ensures h (with_entry t.book was.answered.0) was.answered.2 ∙ full) in (
      [],
      kept_open c.args.playing.now.output h (with_line t) line was.answered.0
          (Refines c.args.playing.now.output h c.args.self.now c.args.self.now) was.answered.1 open_ (
            kept_refines h t (c.a_course_begins_and_goes_on.ensures.entry h t) line c.args.self.now was open_,
            no_pieces_counted c.args.playing.now.output _ _ refl,
            none_played h _ _ refl,
          ),
      sym (append-nil c.args.out.now.items),
    )

pub returns-in_ok-end_round-in-Synced : goal.returns-in_ok-end_round-in-Synced
returns-in_ok-end_round-in-Synced g c = λ h t line accepted.
    let was = subst (λ (a : Accepted). HasAccepted h t line a c.args.self.now) c.in-Synced.is accepted in
    let e = c.in_ok-end_round-in-Synced.ensures h (with_line t)
    (sync_ready h t (c.a_course_begins_and_goes_on.ensures.line h t) line c.args.self.now was
    (sync_may_end h t line c.args.self.now was (c.a_round_may_be_run.ensures.synced h t))) in (
      e.0,
      synced c.args.playing.now.output h (with_line t) line
          (Refines c.args.playing.now.output h c.args.self.now c.end_round-in-Synced.new.self) e.0 _ was.answered.0 e.1,
      e.2,
    )

pub returns-in-Skipped : goal.returns-in-Skipped
returns-in-Skipped g c = λ h t line accepted.
    let was = subst (λ (a : Accepted). HasAccepted h t line a c.args.self.now) c.in-Skipped.is accepted in (
      [],
      skipped c.args.playing.now.output h (with_line t) line (Refines c.args.playing.now.output h c.args.self.now c.args.self.now)
          was.answered.0 (
            skipped_refines h t (c.a_course_begins_and_goes_on.ensures.line h t) line c.args.self.now was,
            no_pieces_counted c.args.playing.now.output _ _ refl,
            none_played h _ _ refl,
          ),
      sym (append-nil c.args.out.now.items),
    )

use Rattle.std.proofs.Common.{◌≢◌, [], refl, sym, ◌∙◌, append-nil}
use Rattle.seam_rule_lines.specs.Book.{open_lines}
use Rattle.seam_world_rounds.specs.Script.{Gives, Refines}
use Rattle.seam_world_rounds.proofs.Counting.{no_pieces_counted}
use Rattle.seam_world_rounds.proofs.Worlds.{none_played}
use Rattle.seam_world_rounds.proofs.Following.{last_round, nothing_open}
use Rattle.seam_world_rounds.proofs.ScriptLemmas.{open_ready}
use Rattle.seam_world_rounds.proofs.script.Script.finish.Goals as goal

pub returns-then-count-eq0 : goal.returns-then-count-eq0
returns-then-count-eq0 g c =
    λ h t was. (
      [],
      nothing_open c.args.playing.now.output h t (Gives c.args.playing.now.output h c.args.self.now c.args.self.now)
          (no_pieces_counted c.args.playing.now.output _ _ refl, none_played h _ _ refl) (sym (c.count.ensures h t.book was.book)
          ∙ c.if-count-eq0.true),
      sym (append-nil c.args.out.now.items),
    )

pub end_round-requires-clause-ready : goal.end_round-requires-clause-ready
end_round-requires-clause-ready g c κs within =
    let h = c.requires.refines.0 in
    let t = c.requires.refines.1 in
    let was = c.requires.refines.2 in (
      h,
      t,
      open_ready h t c.args.self.now was (c.a_round_may_be_run.ensures.some h t)
          (λ none. c.if-count-eq0.false (c.count.ensures h t.book was.book ∙ none)),
    )

pub returns : goal.returns
returns g c = λ h t was.
    let some : open_lines t.book ≢ 0 = λ none. c.if-count-eq0.false (c.count.ensures h t.book was.book ∙ none) in
    let e = c.in_ok-end_round.ensures h t (open_ready h t c.args.self.now was (c.a_round_may_be_run.ensures.some h t) some) in
    let output = c.args.playing.now.output in (
      e.0,
      last_round output h t (Gives output h c.args.self.now c.end_round.new.self)
          (Refines output h c.args.self.now c.end_round.new.self) e.0 _ (λ pieces next after. (after.1, after.2)) some e.1,
      e.2,
    )

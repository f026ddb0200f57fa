use Rattle.std.proofs.Common.{ℕ, ◌+◌, refl, sym, ap, ◌∙◌}
use Rattle.seam_rule_rounds.specs.Standing.{replica_of}
use Rattle.seam_law_book.specs.Going.{frame_of}
use Rattle.seam_world_rounds.proofs.ScriptLemmas.{may_run, played_in, beside_in}
use Rattle.seam_world_rounds.proofs.PlayedRounds.{round_ended}
use Rattle.seam_world_rounds.proofs.script.Script.end_round.Goals as goal

pub play-requires : goal.play-requires
play-requires g c κs within =
    let h = c.requires.ready.0 in
    let t = c.requires.ready.1 in
    let ready = c.requires.ready.2 in
    let may =
    may_run h t c.args.self.now ready c.in-Some.world (sym c.in-Some.ensures.value) c.take_batch-batch.result
    (c.take_batch-batch.ensures.batch h t.book ready.book)
    (c.a_round_may_be_run.ensures.given h t ready.has.tree ready.has.world ready.has.goes_on ready.may) in (
      within.0,
      (
        within.1,
        (c.type_bounds.sync-G, (c.type_bounds.sync-R, (refl, (refl, (frame_of h ready.has.tree, replica_of h t, may))))),
      ),
    )

pub returns : goal.returns
returns g c = λ h t ready.
    let old = c.args.self.now in
    let batch = c.take_batch-batch.result in
    let brings = c.take_batch-batch.ensures.batch h t.book ready.book in
    let is = sym c.in-Some.ensures.value in
    let legal = ready.has.goes_on.legal in
    let of_lines = ready.has.goes_on.of_lines in
    let present = c.in_ok-begin.ensures h t.book legal of_lines brings ready.has.residents in
    let stands = c.a_round_may_be_run.ensures.stands h t ready.has.tree ready.has.world ready.has.goes_on ready.may in
    let number = c.in_ok-self.ensures.next ∙ ap (λ (n : ℕ). n + 1) ready.has.round in
    let left = c.in_ok-played.played in
    let has =
    played_in h t old ready c.in-Some.world is batch brings c.args.playing.now.output left c.play.new.residents c.args.out.now.items
    c.play.new.out.items
    (c.in_ok-played.ensures h t ready.has.tree (beside_in h t old ready c.in-Some.world is batch brings stands) brings ready.has.header
    number present) in
    let p = has.played in
    let law = c.a_run_round_is_legal.ensures in (
      _,
      round_ended c.args.playing.now.output h t old _ ready left c.play.new.residents c.args.out.now.items c.play.new.out.items has
          (λ none. law.kept h t ready.has.tree ready.has.world ready.has.goes_on ready.may left.world p.round p.ended p.made p.live
          p.made_listed p.live_listed none)
          (λ some u is_tree same balanced. law.balanced h t ready.has.tree ready.has.world ready.has.goes_on ready.may left.world p.round
          p.ended p.made p.live p.made_listed p.live_listed some u is_tree same balanced)
          (c.each_entity_has_one_real_through_a_round.ensures h t ready.has.tree ready.has.world ready.has.goes_on ready.may)
          (c.each_part_executes_in_turn.ensures h t ready.has.tree ready.has.world ready.has.goes_on ready.may)
          (λ r u. c.clients_see_all_within_their_radius.ensures h t ready.has.tree ready.has.world ready.has.goes_on r u)
          refl refl refl refl c.in_ok-self.ensures.next
          (c.begin_next.ensures h _ (c.take_batch-batch.ensures.ended h t.book ready.book)) c.in_ok-self-2.ensures,
      has.whole,
    )

use Rattle.std.proofs.Common.{◌≡◌, ◌∙◌, ℕ, List, map, sym, ap}
use Rattle.seam_judge_data.specs.Standings.{standing_of}
use Rattle.seam_judge_reader.proofs.Feeds.{empty_is, some_is_left}
use Rattle.seam_judge_reader.proofs.Adding.{same_adds, same_keeps}
use Rattle.seam_judge_reader.proofs.RoundSteps.{line_read, to_begin, to_end}
use Rattle.seam_judge_reader.proofs.rounds.read_lines.Goals as goal

pub loop-rest-init : goal.loop-rest-init
loop-rest-init c = record {
  form = c.no_round-round.ensures.form c.args.header.now.defs;
  told = λ r form e.
      to_begin c.args.header.now.defs (standing_of c.args.standing.now).book c.args.text.now c.no_round-round.result r form e
      (c.no_round-round.ensures.told r.bounds form.bounds);
}

pub loop-rest-preserved : goal.loop-rest-preserved
loop-rest-preserved c =
    let h = c.args.header.now in
    let s = c.args.standing.now in
    let old = c.loop-rest.round in
    let new = c.add_line.new.round in
    let words = map (λ w. w.now) c.deref.result.now in
    record {
      form =
          same_keeps c.in_ok-known.known.header.now h c.in_ok-known.known.standing.now s old new c.in_ok-known.ensures.header
          c.in_ok-known.ensures.standing c.in_ok-add_line.ensures.form c.loop-rest.invariant.form;
      told = λ r form e.
          line_read h.defs c.known.ensures (standing_of s).book c.loop-rest.rest.now old r new c.first_line.result.0.now
          c.first_line.result.1.now words form.bounds
          (some_is_left c.loop-rest.rest.now c.is_empty.result c.is_empty.ensures c.loop-rest-test.true)
          (c.loop-rest.invariant.told r form e) c.first_line.ensures.told
          (λ first more is_word are at. ap (map (λ w. w.now)) c.deref.ensures.value ∙ c.in_ok-words.ensures first more is_word are at)
          (same_adds c.in_ok-known.known.header.now h c.in_ok-known.known.standing.now s old new words c.in_ok-known.ensures.header
          c.in_ok-known.ensures.standing c.in_ok-add_line.ensures.told);
    }

pub returns-clause-told : goal.returns-clause-told
returns-clause-told c = λ r form e.
    to_end c.args.header.now.defs (standing_of c.args.standing.now).book c.loop-rest.rest.now c.loop-rest.round r
    (empty_is c.loop-rest.rest.now c.is_empty.result c.is_empty.ensures c.loop-rest-test.false) (c.loop-rest.invariant.told r form e)

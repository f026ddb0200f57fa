use Rattle.std.proofs.Common.{◌≡◌, ◌∙◌, ap, map, take, length, List, arith}
use Rattle.std.proofs.lemmas.List.{take_all}
use Rattle.seam_rule_rounds.specs.Prelude.{HomeLine, RoundData}
use Rattle.seam_judge_data.specs.Standings.{place_among}
use Rattle.seam_judge_data.specs.declared.standing.Held.{Held}
use Rattle.seam_judge_rounds.proofs.Leaving.{held_of, held_is}
use Rattle.seam_judge_rounds.proofs.after.held_in.Goals as goal

pub returns : goal.returns
returns c = λ e.
    let homes : List HomeLine = c.args.round.now.homes in
    let same : c.deref-home-items.result.now ≡ homes =
    c.deref-home-items.ensures.value ∙ ap (λ (r : RoundData). r.homes) c.round.view_is in
    let long = ap length same in
    let all : take c.loop-home.home-index homes ≡ homes =
    take_all c.loop-home.home-index homes (omega (arith, long, c.loop-home-test.false)) in
    ap (λ (hs : List Held). place_among hs e) (c.loop-home.invariant ∙ ap (map (held_of c.args.round.now)) all)
    ∙ held_is c.args.round.now e homes

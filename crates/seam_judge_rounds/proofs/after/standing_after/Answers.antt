use Rattle.std.proofs.Common.{◌∙◌, ap, refl}
use Rattle.seam_rule_rounds.specs.Lines.{RoundData}
use Rattle.seam_judge_rounds.proofs.Leaving.{standing_is}
use Rattle.seam_judge_rounds.proofs.after.standing_after.Goals as goal

pub returns : goal.returns
returns c =
    standing_is c.args.before.now c.args.round.now
    (record {
      lines = c.args.before.now.lines;
      rounds = c.round.inside.number;
      past = c.in_ok-past.past;
      tree = c.tree_after.result;
      current = c.new.result;
      calls = c.in_ok-calls.calls;
      places = c.in_ok-places.places;
      told = c.in_ok-told.told;
    })
    refl (ap (λ (r : RoundData). r.number) c.round.view_is ∙ c.requires)
    c.in_ok-past.ensures c.new.ensures.items c.tree_after.ensures.none c.tree_after.ensures.some c.in_ok-calls.ensures
    c.in_ok-places.ensures c.in_ok-told.ensures

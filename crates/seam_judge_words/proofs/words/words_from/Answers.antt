use Rattle.seam_judge_words.proofs.WordSteps.{from_place}
use Rattle.seam_judge_words.proofs.words.words_from.Goals as goal

pub returns : goal.returns
returns c = from_place (λ w. w.now) c.args.words.now c.args.place c.min.result c.min.ensures

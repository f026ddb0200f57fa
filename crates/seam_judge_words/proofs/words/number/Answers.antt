use Rattle.seam_judge_words.proofs.NumberSteps.{spells_this, spells_it}
use Rattle.seam_judge_words.proofs.words.number.Goals as goal

pub returns-in-Some : goal.returns-in-Some
returns-in-Some c = λ n whole e. spells_this c.args.word.now n c.in-Some.number c.in-Some.ensures e

pub returns-in-None : goal.returns-in-None
returns-in-None c = λ n whole e. absurd (c.in-None.ensures n (spells_it c.args.word.now n whole e))

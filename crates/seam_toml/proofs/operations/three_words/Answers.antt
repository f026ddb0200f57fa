use Rattle.seam_words.proofs.WordTexts.{no_words_at_fault}
use Rattle.seam_toml.proofs.OperationLemmas.{three_or_none}
use Rattle.seam_toml.proofs.operations.three_words.Goals as goal

pub returns-in-Ok : goal.returns-in-Ok
returns-in-Ok c = three_or_none c.args.text.now _ _ c.in-Ok.ensures.words c.as_three.ensures

pub returns-in-Err : goal.returns-in-Err
returns-in-Err c x y z has = no_words_at_fault c.args.text.now _ _ c.in-Err.ensures.cause has

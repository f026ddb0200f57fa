use Rattle.seam_toml.proofs.OperationLemmas.{read_text, no_three_words}
use Rattle.seam_toml.proofs.operations.read_step.Goals as goal

pub returns-in-Some : goal.returns-in-Some
returns-in-Some c =
    read_text _ _ _ c.args.text.now _ (rw c.as_bytes.ensures.value at c.in-Some.ensures) c.if-text-gt-LONGEST_OPERATION.false _
    c.step_of.ensures

pub returns-in-None : goal.returns-in-None
returns-in-None c = no_three_words _ _ _ c.args.text.now (rw c.as_bytes.ensures.value at c.in-None.ensures)

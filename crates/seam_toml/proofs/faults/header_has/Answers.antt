use Rattle.std.proofs.lemmas.Bool.{false≢true}
use Rattle.std.proofs.Common.{sym, ◌∙◌}
use Rattle.seam_toml.proofs.AnswerLemmas.{header_answer}
use Rattle.seam_toml.proofs.faults.header_has.Goals as goal

pub returns : goal.returns
returns c =
    header_answer _ _ c.args.fault (λ bad. false≢true (sym c.if-top_is_at_fault.false ∙ c.top_is_at_fault.ensures.1 bad))
    c.has_fault_below.ensures

use Rattle.std.proofs.Common.{◌<◌, sym, ◌∙◌, arith}
use Rattle.std.proofs.lemmas.Bool.{false≢true}
use Rattle.seam_toml.proofs.AnswerLemmas.{table_answer}
use Rattle.seam_toml.proofs.Depths.{depth, depth_under}
use Rattle.seam_toml.proofs.faults.+has_fault.Goals as goal

pub has_fault_below-has_fault-requires : goal.has_fault_below-has_fault-requires
has_fault_below-has_fault-requires t c =
    let less : depth c.in-Some-under.below < depth c.args.role.now =
    depth_under c.args.role.now c.as_str.result.now c.in-Some-under.below (sym c.under.ensures ∙ c.in-Some-under.is) in
    (omega (arith, less, c.decreases), tt)

pub has_fault-returns-in-Some : goal.has_fault-returns-in-Some
has_fault-returns-in-Some t c =
    table_answer _ _ _ c.args.fault c.args.role.now c.in-Some.ensures
    (λ bad. false≢true (sym c.if-branch.false ∙ c.in_ok-is_at_fault.ensures.1 bad)) c.has_fault_below.ensures

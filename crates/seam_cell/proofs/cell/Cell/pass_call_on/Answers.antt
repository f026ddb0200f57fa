use Rattle.std.proofs.Common.{◌++◌, ap, sym, ◌∙◌}
use Rattle.std.specs.FinMap as table
use Rattle.std.proofs.lemmas.Result.{on_ok_weaker}
use Rattle.seam_node_steps.specs.Prelude.{call_next_place}
use Rattle.seam_cell.proofs.CellLemmas.{passed_state, passed_sent}
use Rattle.seam_cell.proofs.cell.Cell.pass_call_on.Goals as goal

pub returns-clause-state : goal.returns-clause-state
returns-clause-state c from = passed_state c.args.self.now from c.args.call c.requires

pub returns-clause-sent : goal.returns-clause-sent
returns-clause-sent c from =
    let k = c.args.call in
    on_ok_weaker c.pass_on.result
    (λ e. e
    ∙ ap (λ v. c.args.out.now.items ++ (call_next_place k (table.get v.nexts k.entity)).sent) c.self.view_is
    ∙ ap (λ s. c.args.out.now.items ++ s) (sym (passed_sent c.args.self.now from k c.requires)))
    c.pass_on.ensures.sent

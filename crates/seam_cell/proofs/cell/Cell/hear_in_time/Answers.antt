use Rattle.std.proofs.Common.{◌++◌, sym, ap, ◌∙◌}
use Rattle.seam_cell.proofs.LoadLemmas.{comes_in_time}
use Rattle.seam_cell.proofs.cell.Cell.hear_in_time.Goals as goal

pub returns-in-Ok-clause-state : goal.returns-in-Ok-clause-state
returns-in-Ok-clause-state c from =
    c.in-Ok.ensures.state
    ∙ sym (ap (λ t. t.state) (comes_in_time c.args.self.now from c.args.parcel c.args.brought.now c.requires.same c.requires.in_time))

pub returns-in-Ok-clause-sent : goal.returns-in-Ok-clause-sent
returns-in-Ok-clause-sent c from =
    c.in-Ok.ensures.sent
    ∙ sym (ap (λ t. c.args.out.now.items ++ t.sent)
    (comes_in_time c.args.self.now from c.args.parcel c.args.brought.now c.requires.same c.requires.in_time))

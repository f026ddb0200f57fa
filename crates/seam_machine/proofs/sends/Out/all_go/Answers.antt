use Rattle.std.proofs.Common.{ap, ◌∙◌}
use Rattle.seam_machine.proofs.SendLemmas.{all_go_both}
use Rattle.seam_machine.proofs.sends.Out.all_go.Goals as goal

pub returns-then-all_go : goal.returns-then-all_go
returns-then-all_go g c = λ yes.
    all_go_both c.args.to c.as_slices.result.0.now c.as_slices.result.1.now c.args.self.now.items
    (c.as_slices.ensures.items ∙ ap (λ o. o.items) c.self.view_is) (c.all_go.ensures c.if-all_go.true) (c.all_go-then-all_go.ensures yes)

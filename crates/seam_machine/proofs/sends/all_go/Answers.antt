use Rattle.seam_machine.proofs.SendLemmas.{all_go_more, all_go_whole}
use Rattle.seam_machine.proofs.sends.all_go.Goals as goal

pub loop-sent-preserved : goal.loop-sent-preserved
loop-sent-preserved g c =
    all_go_more c.args.to c.args.items.now c.loop-sent.sent-index c.sent-item.result c.loop-sent-test.true c.sent-item.is c.if-sent-to.false
    c.loop-sent.invariant

pub returns : goal.returns
returns g c = λ _. all_go_whole c.args.to c.args.items.now c.loop-sent.sent-index c.loop-sent-test.false c.loop-sent.invariant

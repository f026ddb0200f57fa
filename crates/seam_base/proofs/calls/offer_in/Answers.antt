use Rattle.seam_entity.specs.Preparing.{node_with}
use Rattle.seam_base.specs.Parts.{part_of}
use Rattle.seam_base.proofs.PartLemmas.{offered_turn}
use Rattle.seam_base.proofs.calls.offer_in.Goals as goal

pub returns-clause-after : goal.returns-clause-after
returns-clause-after c = λ me settings.
    offered_turn (node_with c.args.defs.now me settings) (part_of c.args.body.now) c.args.call c.next_number-next.result
    c.execute_turn.result (part_of c.execute_turn.new.body) c.next_number-next.ensures c.if-call-next.false c.if-call-next-2.false
    (c.execute_turn.ensures.after me settings)

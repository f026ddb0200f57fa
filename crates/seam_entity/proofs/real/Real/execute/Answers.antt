use Rattle.seam_entity.specs.Preparing.{node_with}
use Rattle.seam_entity.proofs.RealLemmas.{met_turn, offered_turn}
use Rattle.seam_entity.proofs.real.Real.execute.Goals as goal

pub returns-then-is_turn-clause-answer : goal.returns-then-is_turn-clause-answer
returns-then-is_turn-clause-answer c = λ me settings.
    met_turn (node_with c.args.defs.now me settings) c.args.self.now.core c.args.call c.is_turn.result c.is_turn.ensures c.if-is_turn.true
    c.execute_turn.result (c.execute_turn.ensures.answer me settings)

pub returns-then-is_turn-clause-after : goal.returns-then-is_turn-clause-after
returns-then-is_turn-clause-after c = λ me settings.
    offered_turn (node_with c.args.defs.now me settings) c.args.self.now.core c.args.call c.is_turn.result c.is_turn.ensures
    c.if-is_turn.true c.execute_turn.result c.execute_turn.new.self.core (c.execute_turn.ensures.after me settings)

pub returns-clause-answer : goal.returns-clause-answer
returns-clause-answer c = λ me settings. c.put_off.ensures.answer (node_with c.args.defs.now me settings)

pub returns-clause-after : goal.returns-clause-after
returns-clause-after c = λ me settings. c.put_off.ensures.after (node_with c.args.defs.now me settings)

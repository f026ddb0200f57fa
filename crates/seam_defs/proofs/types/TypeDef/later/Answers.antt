use Rattle.seam_defs.proofs.TestLemmas.{later_changes}
use Rattle.seam_defs.proofs.types.TypeDef.later.Goals as goal

pub returns-clause-changed : goal.returns-clause-changed
returns-clause-changed c =
    later_changes c.args.self.now c.args.state.now c.args.deed.now c.perform.result c.perform.ensures.after c.perform.ensures.changed

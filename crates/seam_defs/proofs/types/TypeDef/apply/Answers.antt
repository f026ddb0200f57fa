use Rattle.seam_defs.specs.Deeds.{with_later}
use Rattle.seam_defs.proofs.TestLemmas.{changed_is}
use Rattle.seam_defs.proofs.types.TypeDef.apply.Goals as goal

pub returns-clause-test : goal.returns-clause-test
returns-clause-test c =
    let s = c.args.state.now in
    let l = c.in_ok-later.later in
    changed_is c.args.self.now s (with_later s l) c.args.deed.now l.changed c.in_ok-later.ensures.changed c.in_ok-later.ensures.after

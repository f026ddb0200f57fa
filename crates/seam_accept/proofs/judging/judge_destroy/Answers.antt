use Rattle.seam_accept.proofs.ClientLemmas.{destroy_accepted, is_some_of}
use Rattle.seam_accept.proofs.judging.judge_destroy.Goals as goal

pub returns-in-Some-live_entity-clause-judged : goal.returns-in-Some-live_entity-clause-judged
returns-in-Some-live_entity-clause-judged c = λ h b dead was.
    let at = c.in-Some-live_entity.ensures.live b dead was in (
      destroy_accepted h b c.args.word.now c.in-Some.entity c.in-Some.ensures at.refines.made at.lives,
      is_some_of b c.in-Some.entity at.refines.made at.lives,
    )

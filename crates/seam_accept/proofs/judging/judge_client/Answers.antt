use Rattle.std.proofs.Common.{sym, ◌∙◌, arith}
use Rattle.seam_accept.proofs.ClientLemmas.{client_accepted, client_dead_first, clients_full_first, is_some_of}
use Rattle.seam_accept.proofs.judging.judge_client.Goals as goal

pub returns-in_default-live_entity-clause-refused : goal.returns-in_default-live_entity-clause-refused
returns-in_default-live_entity-clause-refused c = λ h b dead was clients.
    client_dead_first h b c.args.word.now c.in-Some.entity c.in-Some.ensures (c.in_default-live_entity.ensures.live b dead was)
    (sym (clients.each c.in-Some.entity) ∙ sym c.contains.ensures ∙ c.if-contains.false)

pub returns-then-len-ge-MOST_CLIENTS-clause-refused : goal.returns-then-len-ge-MOST_CLIENTS-clause-refused
returns-then-len-ge-MOST_CLIENTS-clause-refused c = λ h b dead was clients.
    let at = c.in-Some-live_entity.ensures.live b dead was in
    clients_full_first h b c.args.word.now c.in-Some.entity c.in-Some.ensures at.refines.made at.lives
    (sym (clients.each c.in-Some.entity) ∙ sym c.contains.ensures ∙ c.if-contains.false)
    (let count = clients.count in omega (arith, count, c.len.ensures.len, c.if-len-ge-MOST_CLIENTS.true))

pub returns-clause-judged : goal.returns-clause-judged
returns-clause-judged c = λ h b dead was clients.
    let at = c.in-Some-live_entity.ensures.live b dead was in
    let clientless = sym (clients.each c.in-Some.entity) ∙ sym c.contains.ensures ∙ c.if-contains.false in (
      client_accepted h b c.args.word.now c.in-Some.entity c.in-Some.ensures at.refines.made at.lives clientless
          (let count = clients.count in omega (arith, count, c.len.ensures.len, c.if-len-ge-MOST_CLIENTS.false)),
      record { lives = is_some_of b c.in-Some.entity at.refines.made at.lives; clientless = clientless },
    )

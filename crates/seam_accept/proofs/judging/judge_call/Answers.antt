use Rattle.std.proofs.Common.{◌≡◌, ◌+◌, ℕ, ◌∙◌, ap, subst}
use Rattle.std.proofs.lemmas.Result.{err_from_is_err_and}
use Rattle.seam_defs.specs.Types.{type_of}
use Rattle.seam_defs.specs.declared.types.TypeDef.{TypeDef}
use Rattle.seam_defs.specs.Deeds.{part_of_deed}
use Rattle.seam_accept.specs.Judging.{NoDeed, Asks, MayAsk}
use Rattle.seam_accept.proofs.CallLemmas.{no_deed_first, call_accepted, is_sender}
use Rattle.seam_accept.proofs.Lines.{accepted_is_next}
use Rattle.seam_accept.proofs.judging.judge_call.Goals as goal

pub returns-in_err-deed-clause-refused : goal.returns-in_err-deed-clause-refused
returns-in_err-deed-clause-refused c =
    let p = err_from_is_err_and c.from_residual.result c.from_residual.ensures.1 in
    rw (p.1, p.2) (λ b dead was clients.
    let h = c.args.header.now in
    let who = c.in-Some-sender_named.sender in
    let at = c.in-Some-live_entity.ensures.live b dead was in
    let t : c.type_at-t.result.now ≡ type_of h.defs at.refines.made.ty =
    c.type_at-t.ensures.value ∙ ap (type_of h.defs) at.refines.ty in
    no_deed_first h b c.args.words.now.sender_name.now c.args.words.now.entity.now who c.in-Some.entity at.refines.made
    (record { number = c.in-Some.ensures; sender = c.in-Some-sender_named.ensures b c.args.entities.now.entries dead was clients })
    at.lives c.args.words.now.deed c.in_err-deed.field-0.0
    (subst (λ (x : TypeDef). NoDeed h who c.in-Some.entity c.args.words.now.deed x c.in_err-deed.field-0.0) t c.in_err-deed.ensures.none))

pub returns-clause-judged : goal.returns-clause-judged
returns-clause-judged c = λ b dead was clients.
    let h = c.args.header.now in
    let who = c.in-Some-sender_named.sender in
    let names = c.in-Some-sender_named.ensures b c.args.entities.now.entries dead was clients in
    let at = c.in-Some-live_entity.ensures.live b dead was in
    let t : c.type_at-t.result.now ≡ type_of h.defs at.refines.made.ty =
    c.type_at-t.ensures.value ∙ ap (type_of h.defs) at.refines.ty in
    let accepts =
    call_accepted h b c.args.words.now.sender_name.now c.args.words.now.entity.now who c.in-Some.entity at.refines.made
    (record { number = c.in-Some.ensures; sender = names }) at.lives c.known.ensures c.in_ok-deed.deed c.part_of-part.result
    c.in_ok-number.number
    (c.part_of-part.ensures ∙ ap (λ (x : TypeDef). part_of_deed x c.in_ok-deed.deed) t)
    (c.in_ok-number.ensures
    ∙ ap (λ (n : ℕ). n + 1)
    (at.refines.last c.part_of-part.result who (is_sender h b c.args.words.now.sender_name.now who names)))
    c.args.words.now.deed (subst (λ (x : TypeDef). Asks h c.args.words.now.deed x c.in_ok-deed.deed) t c.in_ok-deed.ensures.deed)
    (subst (λ (x : TypeDef). MayAsk who c.in-Some.entity x c.in_ok-deed.deed) t c.in_ok-deed.ensures.may) in
    (accepts, accepted_is_next h b c.args.words.now _ accepts)

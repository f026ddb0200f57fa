use Rattle.std.proofs.Common.{inl, inr, ap, subst}
use Rattle.std.specs.Prelude.{◌≡◌, ◌⊎◌}
use Rattle.seam_args.specs.Words.{AreRefused}
use Rattle.seam_world.specs.Requests.{Request, Nothing, request_of}
use Rattle.seam_world.proofs.EndLemmas.{ends_as_asked, ends_unasked, completes_as_asked, never_both, refused_is_nothing}
use Rattle.seam_world.proofs.run.run_seamless.Goals as goal

pub returns-clause-ends : goal.returns-clause-ends
returns-clause-ends g c =
    let s = rw (← c.in-Ok.ensures.request) at c.answer-status.ensures.stopped in
    let w = c.put_fault-2.ensures.written in
    ends_as_asked _ _ _ _ _ _ _ _ _ s w.0 w.1 w.2

pub returns-clause-complete : goal.returns-clause-complete
returns-clause-complete g c = λ may_run may.
    completes_as_asked _ _ _ _ _ _ _ _ _ c.answer-status.ensures.stopped c.put_fault-2.ensures.later may

pub returns-clause-refused : goal.returns-clause-refused
returns-clause-refused g c refused = absurd (never_both _ c.in-Ok.ensures.passes refused)

pub returns-in-Err-clause-ends : goal.returns-in-Err-clause-ends
returns-in-Err-clause-ends g c =
    let w = c.put_fault.ensures.written in
    ends_unasked _ c.in-Err.status _ _ _ _ (by_cause c.in-Err.ensures.err) w.0 w.1 w.2
  where
    by_cause : {A B : Type 0} → A ⊎ (B × AreRefused c.args.words) → A ⊎ (B × (request_of c.args.words ≡ Nothing))
    by_cause (inl a) = inl a
    by_cause (inr b) = inr (b.0, refused_is_nothing c.args.words b.1)

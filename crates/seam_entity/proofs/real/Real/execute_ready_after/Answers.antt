use Rattle.std.proofs.Common.{◌≡◌, ap, sym, ◌∙◌, None}
use Rattle.seam_entity.specs.ReadyCalls.{ready_call}
use Rattle.seam_entity.proofs.ReadyLemmas.{ready_is_some}
use Rattle.seam_entity.proofs.real.Real.execute_ready_after.Goals as goal

pub unreachable-requires : goal.unreachable-requires
unreachable-requires c =
    let none : ready_call c.deref_mut.result.now.orders.orders ≡ None = sym c.take_ready.ensures.call ∙ c.in_default.is in
    ready_is_some c.args.self.now.core.orders c.requires.ready
    (sym (ap (λ r. ready_call r.orders) c.advance.ensures.core)
    ∙ sym (ap (λ r. ready_call r.core.orders) c.self.view_is)
    ∙ sym (ap (λ b. ready_call b.orders.orders) c.deref_mut.ensures.value) ∙ none)

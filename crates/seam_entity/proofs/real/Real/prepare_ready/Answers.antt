use Rattle.std.proofs.Common.{◌≡◌, ap, sym, ◌∙◌, None, option_copied}
use Rattle.seam_entity.specs.ReadyCalls.{ready_call}
use Rattle.seam_entity.proofs.ReadyLemmas.{ready_is_some}
use Rattle.seam_entity.proofs.real.Real.prepare_ready.Goals as goal

pub unreachable-requires : goal.unreachable-requires
unreachable-requires c =
    let none : ready_call c.deref.result.now.orders.orders ≡ None =
    sym c.ready_call.ensures ∙ ap option_copied c.in_default.is in
    ready_is_some c.args.self.now.core.orders c.requires
    (sym (ap (λ r. ready_call r.core.orders) c.self.view_is)
    ∙ sym (ap (λ b. ready_call b.orders.orders) c.deref_mut.ensures.value)
    ∙ sym (ap (λ b. ready_call b.orders.orders) c.deref.ensures) ∙ none)

use Rattle.std.proofs.Common.{rules, option_map}
use Rattle.seam_slab.proofs.Slots.{kept_all, changed_all}
use Rattle.seam_slab.proofs.change_slots.Goals as goal

pub returns-clause-after : goal.returns-clause-after
returns-clause-after g c f leaves =
    changed_all _ (option_map f) _ (λ k shown keep left next t. search (rules, leaves)) _ _ _ c.retain.ensures.retained

pub returns-clause-kept : goal.returns-clause-kept
returns-clause-kept g c = kept_all _ (λ h k shown keep left next t. search rules) _ _ _ _ c.retain.ensures.retained

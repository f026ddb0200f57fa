use Rattle.seam_slab.proofs.Slots.{empty_slotted}
use Rattle.seam_slab.proofs.SlabTable.new.Goals as goal

pub invariant_of-result : goal.invariant_of-result
invariant_of-result g c = empty_slotted _ _ c.with_hasher.ensures.unique c.with_hasher.ensures.empty

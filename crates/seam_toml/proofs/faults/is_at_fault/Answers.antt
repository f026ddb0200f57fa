use Rattle.seam_toml.proofs.faults.is_at_fault.Goals as goal

pub returns-in-BadBody : goal.returns-in-BadBody
returns-in-BadBody c = rw c.in-BadBody.is c.is_bad_type.ensures

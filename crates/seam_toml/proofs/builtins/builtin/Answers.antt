use Rattle.seam_defs.proofs.WellFormed.{builtin-are-defs}
use Rattle.seam_toml.proofs.builtins.builtin.Goals as goal

pub of_types-requires : goal.of_types-requires
of_types-requires c = rw (c.in_ok-types.ensures) builtin-are-defs

use Rattle.std.proofs.Common.{◌<◌, ℕ, pos, Some, sym, ap, ◌∙◌, rules}
use Rattle.seam_value.specs.Values.{Fits}
use Rattle.seam_value.specs.declared.types.ValueType.TheVariants as type
use Rattle.seam_value.specs.declared.values.Value.TheVariants.{Number}
use Rattle.seam_value.proofs.Decimals.{decimal_of-injective}
use Rattle.seam_toml.proofs.operations.number_of.Goals as goal

fits : (n : ℕ) → n < 18446744073709551616 → Fits (Number (pos n)) type.Uint64
fits n small = ((λ e. cc), search rules, search (rules, small))

pub returns-in-Ok-clause-exact : goal.returns-in-Ok-clause-exact
returns-in-Ok-clause-exact c n small is = ap Some (decimal_of-injective _ n (search rules ∙ sym is))

pub returns-in-Err-clause-exact : goal.returns-in-Err-clause-exact
returns-in-Err-clause-exact c n small is = let known = c.in-Err.ensures.spelled (pos n) (fits n small) is in absurd cc

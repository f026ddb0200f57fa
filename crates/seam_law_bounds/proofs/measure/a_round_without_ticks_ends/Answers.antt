use Rattle.seam_law_bounds.proofs.Tickless.{tickless_ends}
use Rattle.seam_law_bounds.proofs.measure.a_round_without_ticks_ends.Goals as goal

pub returns : goal.returns
returns c = λ f w b may none no_ticks v es run n. tickless_ends f w b may none no_ticks v es run n

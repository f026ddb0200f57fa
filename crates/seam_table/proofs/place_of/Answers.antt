use Rattle.std.proofs.Common.{sym}
use Rattle.seam_table.proofs.TableLemmas.{number_found}
use Rattle.seam_table.proofs.place_of.Goals as goal

pub returns-clause-there : goal.returns-clause-there
returns-clause-there g c = number_found c.args.n _ c.in_ok-place.place (sym c.in_ok-place.ensures.index)

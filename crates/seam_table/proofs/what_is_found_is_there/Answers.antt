use Rattle.seam_table.proofs.Found.{found}
use Rattle.seam_table.proofs.what_is_found_is_there.Goals as goal

pub returns : goal.returns
returns g c = λ test m p e. found test m p e

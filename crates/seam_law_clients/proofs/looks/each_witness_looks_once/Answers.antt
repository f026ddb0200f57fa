use Rattle.seam_law_clients.proofs.LookEnds.{looked}
use Rattle.seam_law_clients.proofs.looks.each_witness_looks_once.Goals as goal

pub returns : goal.returns
returns c = looked

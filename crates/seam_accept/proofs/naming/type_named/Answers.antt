use Rattle.seam_accept.proofs.NamingLemmas.{found_type}
use Rattle.seam_accept.proofs.naming.type_named.Goals as goal

pub returns : goal.returns
returns c = found_type c.args.defs.now c.args.name.now c.find_type.result c.find_type.ensures.found c.find_type.ensures.all

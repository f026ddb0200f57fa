use Rattle.seam_accept.proofs.NamingLemmas.{found_method, only_method}
use Rattle.seam_accept.proofs.naming.method_named.Goals as goal

pub returns-clause-named : goal.returns-clause-named
returns-clause-named c =
    found_method c.args.t.now c.args.name.now c.find_method.result c.find_method.ensures.found c.find_method.ensures.all

pub returns-clause-only : goal.returns-clause-only
returns-clause-only c = only_method c.args.t.now c.args.name.now c.find_method.result c.find_method.ensures.all

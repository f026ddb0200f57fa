use Rattle.seam_view.proofs.Placing.{found_there, not_found, within, others_below, others_above}
use Rattle.seam_view.proofs.departed.place_in.Goals as goal

pub returns-clause-there : goal.returns-clause-there
returns-clause-there c = found_there c.args.entities.now c.args.e c.requires c.binary_search.result c.binary_search.ensures.position

pub returns-clause-absent : goal.returns-clause-absent
returns-clause-absent c = not_found c.args.entities.now c.args.e c.requires c.binary_search.result c.binary_search.ensures.position

pub returns-clause-bound : goal.returns-clause-bound
returns-clause-bound c = within c.args.entities.now c.args.e c.requires c.binary_search.result c.binary_search.ensures.position

pub returns-clause-below : goal.returns-clause-below
returns-clause-below c = others_below c.args.entities.now c.args.e c.requires c.binary_search.result c.binary_search.ensures.position

pub returns-clause-above : goal.returns-clause-above
returns-clause-above c = others_above c.args.entities.now c.args.e c.requires c.binary_search.result c.binary_search.ensures.position

-- Lists of events, by the steps of nodes.
use Rattle.std.specs.Prelude.{List}
use Rattle.seam_node_steps.specs.Prelude.{LeadsTo, Event, World, node_steps, node_has_work}

-- the events lead from the world w to v, each by a step of a node that has work
abbrev pub RunsTo : World → List Event → World → Type 0
RunsTo w es v = LeadsTo node_has_work node_steps w es v

-- A world of two cells with one entity and three calls, of which one hands it over: what the laws ask of a world is true of it.
use Rattle.std.specs.Prelude.{List, [], map}
use Rattle.seam_node_steps.specs.Prelude.{Event, builtin, standard, World, two_cells}
use Rattle.seam_law_calls.specs.Frames.{Frame}

abbrev pub frame : Frame
frame = record { defs = builtin; settings = standard; tree = two_cells; later = [] }

abbrev event_of : Event × World → Event
event_of s = s.0

-- the events of a worked row
abbrev pub events_of : List (Event × World) → List Event
events_of steps = map event_of steps

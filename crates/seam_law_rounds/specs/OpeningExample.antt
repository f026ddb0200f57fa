-- What the nodes go by in a world as it is opened with the built-in definitions, where the worked rounds begin.
use Rattle.seam_node_steps.specs.Prelude.{builtin, standard}
use Rattle.seam_law_calls.specs.Prelude.{Frame}
use Rattle.seam_law_rounds.specs.LastPhases.{first_frame}

abbrev pub opening : Frame
opening = first_frame builtin standard

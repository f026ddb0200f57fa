use Rattle.seam_net_example.proofs.NumberLemmas.{runs_alone}
use Rattle.seam_net_example.proofs.laws.counters_are_seen_alone.Goals as goal

pub returns : goal.returns
returns c = λ w v es a. runs_alone w v es a

use Rattle.std.proofs.lemmas.Bool.{false≢true}
use Rattle.seam_toml.proofs.SettingsLemmas.{near_by_reach, bad_sets_none}
use Rattle.seam_toml.proofs.faults.sets_too_near.Goals as goal

pub returns-in-Some : goal.returns-in-Some
returns-in-Some c = near_by_reach _ _ _ c.in-Some.ensures.sets c.ghosts_reach.ensures

pub returns-in-None : goal.returns-in-None
returns-in-None c = ((λ e. absurd (false≢true e)), λ w. absurd (bad_sets_none _ w.0 c.in-None.ensures.sets w.1))

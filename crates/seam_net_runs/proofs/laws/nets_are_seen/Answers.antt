use Rattle.seam_net_runs.proofs.Seeing.{seen_happens, seen_enabled, seen_leads}
use Rattle.seam_net_runs.proofs.laws.nets_are_seen.Goals as goal

pub returns-clause-event : goal.returns-clause-event
returns-clause-event g c = λ f steps seen_steps sees w e. seen_happens f steps seen_steps sees w e

pub returns-clause-run : goal.returns-clause-run
returns-clause-run g c =
    λ f has_work seen_work steps seen_steps sees works w v es a. seen_leads f has_work seen_work works steps seen_steps sees w v es a

pub returns-clause-enabled : goal.returns-clause-enabled
returns-clause-enabled g c = λ f has_work seen_work works w e. seen_enabled f has_work seen_work works w e

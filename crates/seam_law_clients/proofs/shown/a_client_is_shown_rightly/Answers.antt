use Rattle.seam_law_clients.proofs.Prelude.{known_between, true_between}
use Rattle.seam_law_clients.proofs.Starts.{shown_rightly, fits_shown}
use Rattle.seam_law_clients.proofs.shown.a_client_is_shown_rightly.Goals as goal

pub returns-clause-known : goal.returns-clause-known
returns-clause-known c f e ty first w v u client h = shown_rightly f e ty first (known_between f e w v) u client h

pub returns-clause-round : goal.returns-clause-round
returns-clause-round c f e ty first w v u client h = shown_rightly f e ty first (true_between f e w v) u client h

pub returns-clause-quiet : goal.returns-clause-quiet
returns-clause-quiet c f e ty first w v u client h serves quiet = fits_shown f e ty first (true_between f e w v) u client h serves quiet

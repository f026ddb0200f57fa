use Rattle.seam_law_forms.proofs.Rounds.{in_form}
use Rattle.seam_law_forms.proofs.laws.a_legal_round_is_in_form.Goals as goal

pub returns : goal.returns
returns c = in_form

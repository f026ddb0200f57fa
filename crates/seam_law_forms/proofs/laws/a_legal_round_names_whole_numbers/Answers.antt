use Rattle.seam_law_forms.proofs.Clients.{were_whole}
use Rattle.seam_law_forms.proofs.laws.a_legal_round_names_whole_numbers.Goals as goal

pub returns : goal.returns
returns c = λ h s r t legal of_lines were round. were_whole h s r t of_lines were round

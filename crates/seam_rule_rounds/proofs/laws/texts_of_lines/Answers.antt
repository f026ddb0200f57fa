use Rattle.seam_rule_rounds.proofs.Lines.{own_text, base_text, enter_text, set_text, leave_text, bound_text, cut_text, shift_text}
use Rattle.seam_rule_rounds.proofs.laws.texts_of_lines.Goals as goal

pub returns-clause-own : goal.returns-clause-own
returns-clause-own c = own_text

pub returns-clause-base : goal.returns-clause-base
returns-clause-base c = base_text

pub returns-clause-enter : goal.returns-clause-enter
returns-clause-enter c = enter_text

pub returns-clause-set_ : goal.returns-clause-set_
returns-clause-set_ c = set_text

pub returns-clause-leave : goal.returns-clause-leave
returns-clause-leave c = leave_text

pub returns-clause-bound : goal.returns-clause-bound
returns-clause-bound c = bound_text

pub returns-clause-cut : goal.returns-clause-cut
returns-clause-cut c = cut_text

pub returns-clause-shift : goal.returns-clause-shift
returns-clause-shift c = shift_text

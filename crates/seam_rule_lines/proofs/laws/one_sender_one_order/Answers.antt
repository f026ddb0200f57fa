use Rattle.seam_rule_lines.proofs.OneSender.{full_order_is_one, accepted_is_own}
use Rattle.seam_rule_lines.proofs.laws.one_sender_one_order.Goals as goal

pub returns-clause-one : goal.returns-clause-one
returns-clause-one c = λ one b p e x y own full full'. full_order_is_one one b p e x y own full full'

pub returns-clause-kept : goal.returns-clause-kept
returns-clause-kept c = λ one h b line x names own judged. accepted_is_own one h b line x names judged own

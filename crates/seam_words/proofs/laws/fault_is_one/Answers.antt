use Rattle.seam_words.proofs.Scan.{same_fault, no_fault}
use Rattle.seam_words.proofs.laws.fault_is_one.Goals as goal

pub returns-clause-one : goal.returns-clause-one
returns-clause-one c = same_fault

pub returns-clause-beside_no_words : goal.returns-clause-beside_no_words
returns-clause-beside_no_words c = no_fault

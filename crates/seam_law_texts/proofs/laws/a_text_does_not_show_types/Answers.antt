use Rattle.seam_law_texts.proofs.Stones.{type_is_well_formed, stone_is_formed, same_text, other_is_not_formed}
use Rattle.seam_law_texts.proofs.laws.a_text_does_not_show_types.Goals as goal

pub returns-clause-defs : goal.returns-clause-defs
returns-clause-defs c = type_is_well_formed

pub returns-clause-in_form : goal.returns-clause-in_form
returns-clause-in_form c = stone_is_formed

pub returns-clause-same : goal.returns-clause-same
returns-clause-same c = same_text

pub returns-clause-other : goal.returns-clause-other
returns-clause-other c = other_is_not_formed

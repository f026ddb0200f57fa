use Rattle.std.proofs.Common.{◌∙◌, rules, SFits}
use Rattle.std.specs.Int.{w64}
use Rattle.std.proofs.lemmas.Int.{to_z-of_z}
use Rattle.seam_world_rounds.proofs.round.sum_up.Goals as goal

pub returns : goal.returns
returns c = λ h s t w p bounds present kept did.
    let fits : SFits w64 c.in_ok-sum_hp.field-0 = search rules in
    let hp = to_z-of_z w64 c.in_ok-sum_hp.field-0 fits ∙ c.in_ok-sum_hp.ensures h s t w p bounds present in
    let shown = c.in_ok-count_shown.ensures h s t w p bounds present kept in
    λ i. record { did = did i; shown = shown i; hp = hp i }

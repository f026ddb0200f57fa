use Rattle.std.proofs.Common.{sym, ◌∙◌}
use Rattle.std.proofs.lemmas.Bool.{false≢true}
use Rattle.seam_toml.proofs.Existence.{bad_setting_is_fault, near_is_fault}
use Rattle.seam_toml.proofs.header.legal_settings_in.Goals as goal

pub returns-in-None : goal.returns-in-None
returns-in-None c = bad_setting_is_fault _ c.in-None.ensures.sets

pub returns-else-ghosts_reach : goal.returns-else-ghosts_reach
returns-else-ghosts_reach c =
    near_is_fault _ c.in-Some.settings c.in-Some.ensures.sets
    (λ reach. false≢true (sym c.if-ghosts_reach.false ∙ c.ghosts_reach.ensures.1 reach))

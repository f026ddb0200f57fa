use Rattle.std.proofs.Common.{◌≡◌, ℕ, Option, None, MatchOption, sym, ◌∙◌}
use Rattle.toml.specs.Data.{Members, get_member}
use Rattle.seam_defs.specs.declared.settings.Settings.{Settings}
use Rattle.seam_toml.specs.declared.settings.Setting.{Setting}
use Rattle.seam_toml.specs.declared.settings.Setting.TheVariants as setting
use Rattle.seam_toml.specs.Settings.{key_of, number_or_standard, Sets, HasBadSetting}
use Rattle.seam_toml.proofs.settings.read_settings.Goals as goal

none_is_set : (result : Option Settings) (ms : Members) (one : Setting) (n : Option ℕ) →
    result ≡ None → n ≡ number_or_standard one (get_member (key_of one) ms) → n ≡ None → MatchOption result (HasBadSetting ms) (Sets ms)
none_is_set result ms one n none is bad = rw none (one, sym is ∙ bad)

pub returns-in_err-number_in-clause-sets : goal.returns-in_err-number_in-clause-sets
returns-in_err-number_in-clause-sets c =
    none_is_set _ _ setting.Size _ c.from_residual.ensures c.number_in.ensures.value c.in_err-number_in.was

pub returns-in_err-number_in-2-clause-sets : goal.returns-in_err-number_in-2-clause-sets
returns-in_err-number_in-2-clause-sets c =
    none_is_set _ _ setting.ViewRadius _ c.from_residual-in_err-number_in-2.ensures c.number_in-2.ensures.value c.in_err-number_in-2.was

pub returns-in_err-number_in-3-clause-sets : goal.returns-in_err-number_in-3-clause-sets
returns-in_err-number_in-3-clause-sets c =
    none_is_set _ _ setting.ViewHysteresis _ c.from_residual-in_err-number_in-3.ensures c.number_in-3.ensures.value c.in_err-number_in-3.was

pub returns-in_err-number_in-4-clause-sets : goal.returns-in_err-number_in-4-clause-sets
returns-in_err-number_in-4-clause-sets c =
    none_is_set _ _ setting.OffloadHysteresis _ c.from_residual-in_err-number_in-4.ensures
    c.number_in-4.ensures.value c.in_err-number_in-4.was

pub returns-in_err-number_in-5-clause-sets : goal.returns-in_err-number_in-5-clause-sets
returns-in_err-number_in-5-clause-sets c =
    none_is_set _ _ setting.GhostDistance _ c.from_residual-in_err-number_in-5.ensures c.number_in-5.ensures.value c.in_err-number_in-5.was

pub returns-in_err-number_in-6-clause-sets : goal.returns-in_err-number_in-6-clause-sets
returns-in_err-number_in-6-clause-sets c =
    none_is_set _ _ setting.GhostHysteresis _ c.from_residual-in_err-number_in-6.ensures
    c.number_in-6.ensures.value c.in_err-number_in-6.was

pub returns-in_err-number_in-7-clause-sets : goal.returns-in_err-number_in-7-clause-sets
returns-in_err-number_in-7-clause-sets c =
    none_is_set _ _ setting.BalanceShift _ c.from_residual-in_err-number_in-7.ensures c.number_in-7.ensures.value c.in_err-number_in-7.was

pub returns-in_err-number_in-8-clause-sets : goal.returns-in_err-number_in-8-clause-sets
returns-in_err-number_in-8-clause-sets c =
    none_is_set _ _ setting.Bases _ c.from_residual-in_err-number_in-8.ensures c.number_in-8.ensures.value c.in_err-number_in-8.was

-- A table sets one list of settings.
use Rattle.std.proofs.Common.{◌≡◌, ◌↔◌, ℕ, Bool, true, false, not, IsTrue, Option, Some, None, unwrap_or, ap, sym, refl, ◌∙◌, arith}
use Rattle.std.proofs.lemmas.Bool.{false≢true}
use Rattle.std.proofs.lemmas.Option.{none-some}
use Rattle.toml.specs.Data.{Data, table, Members}
use Rattle.seam_defs.specs.declared.settings.Settings.{Settings}
use Rattle.seam_defs.specs.Settings.{GhostsReach}
use Rattle.seam_toml.specs.declared.settings.Setting.{Setting}
use Rattle.seam_toml.specs.declared.settings.Setting.TheVariants as setting
use Rattle.seam_toml.specs.Settings.{field_of, Sets, HasBadSetting}
use Rattle.seam_toml.specs.Header.{SetsUnder}
use Rattle.seam_toml.specs.Faults.{IsAtFault}
use Rattle.seam_toml.specs.declared.faults.Fault.TheVariants.{GhostTooNear}
use Rattle.seam_toml.specs.declared.roles.Role.TheVariants as role

pub field_is_one : (ms : Members) (a b : Settings) → Sets ms a → Sets ms b → (one : Setting) → field_of a one ≡ field_of b one
field_is_one ms a b f g one = ap (λ o. unwrap_or o 0) (sym (f one) ∙ g one)

pub bad_sets_none : (ms : Members) (s : Settings) → HasBadSetting ms → Sets ms s → ⊥
bad_sets_none ms s bad sets = none-some _ (sym bad.1 ∙ sets bad.0)

reach_is_one : (ms : Members) (a b : Settings) → Sets ms a → Sets ms b → GhostsReach a → GhostsReach b
reach_is_one ms a b f g reach =
    let radius : a.view_radius ≡ b.view_radius = field_is_one ms a b f g setting.ViewRadius in
    let view : a.view_hysteresis ≡ b.view_hysteresis = field_is_one ms a b f g setting.ViewHysteresis in
    let offload : a.offload_hysteresis ≡ b.offload_hysteresis = field_is_one ms a b f g setting.OffloadHysteresis in
    let ghost_distance : a.ghost_distance ≡ b.ghost_distance = field_is_one ms a b f g setting.GhostDistance in
    omega (arith, reach, radius, view, offload, ghost_distance)

pub near_by_reach : (ms : Members) (s : Settings) (b : Bool) → Sets ms s → (IsTrue b ↔ GhostsReach s) →
    IsTrue (not b) ↔ IsAtFault GhostTooNear role.Settings (table ms)
near_by_reach ms s true sets is = ((λ e. absurd (false≢true e)), λ w. absurd (w.2 (reach_is_one ms s w.0 sets w.1 (is.0 refl))))
near_by_reach ms s false sets is = ((λ _. (s, sets, λ h. absurd (false≢true (is.1 h)))), λ _. refl)

of_fields : (a0 a1 a2 a3 a4 a5 a6 a7 b0 b1 b2 b3 b4 b5 b6 b7 : ℕ) → a0 ≡ b0 → a1 ≡ b1 → a2 ≡ b2 → a3 ≡ b3 → a4 ≡ b4 → a5 ≡ b5 → a6 ≡ b6 →
    a7 ≡ b7 →
    ◌≡◌ {A = Settings}
    (record {
      size = a0;
      view_radius = a1;
      view_hysteresis = a2;
      offload_hysteresis = a3;
      ghost_distance = a4;
      ghost_hysteresis = a5;
      balance_shift = a6;
      bases = a7;
    })
    (record {
      size = b0;
      view_radius = b1;
      view_hysteresis = b2;
      offload_hysteresis = b3;
      ghost_distance = b4;
      ghost_hysteresis = b5;
      balance_shift = b6;
      bases = b7;
    })
of_fields a0 a1 a2 a3 a4 a5 a6 a7 b0 b1 b2 b3 b4 b5 b6 b7 e0 e1 e2 e3 e4 e5 e6 e7 = rw (e0, e1, e2, e3, e4, e5, e6, e7) refl

same_fields : (a b : Settings) → ((one : Setting) → field_of a one ≡ field_of b one) → a ≡ b
same_fields a b same =
    of_fields a.size a.view_radius a.view_hysteresis a.offload_hysteresis a.ghost_distance a.ghost_hysteresis a.balance_shift a.bases
    b.size b.view_radius b.view_hysteresis b.offload_hysteresis b.ghost_distance b.ghost_hysteresis b.balance_shift b.bases
    (same setting.Size) (same setting.ViewRadius) (same setting.ViewHysteresis) (same setting.OffloadHysteresis)
    (same setting.GhostDistance) (same setting.GhostHysteresis) (same setting.BalanceShift) (same setting.Bases)

pub settings_are_one : (o : Option Data) (a b : Settings) → SetsUnder o a → SetsUnder o b → a ≡ b
settings_are_one None a b one other = one ∙ sym other
settings_are_one (Some (table ms)) a b one other = same_fields a b (field_is_one ms a b one other)
settings_are_one (Some d) a b one other = absurd one

-- What a base node sends: calls, ticks and reaps alone.
use Rattle.seam_law_calls.proofs.Prelude.{◌≡◌, ℕ, List, [], ◌∷◌, Option, None, ◌+◌, refl, Shown, Call as CallData, Msg, BaseCall, Tick}
use Rattle.seam_law_calls.proofs.Prelude.{Reap, Here, numbered, IsSilent, AtBase, BaseMoves, real_of, update_in}
use Rattle.seam_entity.specs.declared.message.Msg.TheVariants.{Call}
use Rattle.seam_law_calls.proofs.BaseDeeds.{base_keeps}
use Rattle.seam_law_calls.proofs.Keeping.{units}

-- eyes that see nothing of what base nodes send
pub record SeesNoOrder {L : Type 0} (mine : Msg → Option L) : Type 0 where
  pub calls : (c : CallData) → mine (Call c) ≡ None
  pub base_calls : (c : CallData) → mine (BaseCall c) ≡ None
  pub ticks : mine Tick ≡ None
  pub reaps : (e : ℕ) → mine (Reap e) ≡ None

pub sees_no_update : SeesNoOrder update_in
sees_no_update = record { calls = λ c. refl; base_calls = λ c. refl; ticks = refl; reaps = λ e. refl }

pub sees_no_real : SeesNoOrder real_of
sees_no_real = record { calls = λ c. refl; base_calls = λ c. refl; ticks = refl; reaps = λ e. refl }

-- what a look sends carries no real
pub numbered_unreal : (b e n : ℕ) (ss : List Shown) → IsSilent real_of (numbered b e n ss)
numbered_unreal b e n [] = tt
numbered_unreal b e n (s ∷ ss) = (refl, numbered_unreal b e (n + 1) ss)

module _ {L : Type 0} (mine : Msg → Option L) (sees : SeesNoOrder mine) (h : Here) (cells e : ℕ) (s : AtBase) (i : Option Msg) (t : AtBase)
    (sent : List (ℕ × Msg)) where
  pub base_silent : BaseMoves h cells e s i t sent → IsSilent mine sent
  base_silent m = (base_keeps (λ o. Unit {0}) (λ j x. mine x ≡ None) m
      (record {
        calls = λ c r at is. sees.calls c;
        base_calls = λ c is. sees.base_calls c;
        ticks = λ is j lt. sees.ticks;
        reaps = λ r at is. sees.reaps e;
      })
      (units s.orders)).1

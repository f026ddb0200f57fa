-- What tries at a node answer, and that a visit counts it.
use Rattle.std.specs.Prelude.{◌≡◌, ◌⊎◌, Bool, List, [], ◌∷◌}
use Rattle.seam_machine.specs.Views.{Stepped}
use Rattle.seam_machine.specs.declared.machines.Input.{Input}
use Rattle.seam_logged.specs.Logs.{LoggedView, HasStepped, SameBut, IsIdle}
use Rattle.seam_logged.specs.declared.Try.{Try}
use Rattle.seam_logged.specs.declared.Try.TheVariants as try
use Rattle.seam_workers.specs.Shifts.{ShiftView, after_visit}

-- the answer of a try is so: one step was made, or there was none to make, and all that was sent is in the links; or allocation failed,
-- and none was made or one
pub record HasAnswered {N M H : Type 0} (has_work : N → Bool) (steps : N → Input M → Stepped N M) (v v' : LoggedView N M H) (tried : Try) :
    Type 0 where
  pub stepped : tried ≡ try.Stepped → HasStepped steps v v' × (v'.unsent ≡ [])
  pub idle : tried ≡ try.Idle → SameBut v v' × IsIdle has_work v v' × (v'.unsent ≡ [])
  pub memory : tried ≡ try.NoMemory → SameBut v v' ⊎ HasStepped steps v v'

-- tries one after the other had these answers, the last one first
abbrev pub HaveAnswered : {N M H : Type 0} → (N → Bool) → (N → Input M → Stepped N M) → LoggedView N M H → LoggedView N M H → List Try →
    Type 0
HaveAnswered has_work steps v v' [] = v' ≡ v
HaveAnswered {N} {M} {H} has_work steps v v' (t ∷ ts) =
    (u : LoggedView N M H) × HaveAnswered has_work steps v u ts × HasAnswered has_work steps u v' t

-- what a visit with these tries found, the last one first: that memory was refused, a step, or nothing
abbrev pub found_by : List Try → Try
found_by [] = try.Idle
found_by (try.Stepped ∷ ts) = try.Stepped
found_by (try.Idle ∷ ts) = found_by ts
found_by (try.NoMemory ∷ ts) = try.NoMemory

-- tries at the node, one or more, found this
pub record HasFound {N M H : Type 0} (has_work : N → Bool) (steps : N → Input M → Stepped N M) (v v' : LoggedView N M H) (found : Try) :
    Type 0 where
  pub last : Try
  pub tried : List Try
  pub answers : HaveAnswered has_work steps v v' (last ∷ tried)
  pub found_is : found ≡ found_by (last ∷ tried)

-- what a shift counts is what tries at the node answered
pub record IsCounted {N M H : Type 0} (has_work : N → Bool) (steps : N → Input M → Stepped N M) (v v' : LoggedView N M H)
    (s s' : ShiftView) : Type 0 where
  pub found : Try
  pub answers : HasFound has_work steps v v' found
  pub counted : s' ≡ after_visit s found

-- What a visit finds, and a worker's shift after one visit more.
use Rattle.std.proofs.Common.{◌≡◌, ◌+◌, [], ◌∷◌, Bool, refl}
use Rattle.seam_machine.specs.Views.{Stepped}
use Rattle.seam_machine.specs.declared.machines.Input.{Input}
use Rattle.seam_logged.specs.Logs.{LoggedView}
use Rattle.seam_logged.specs.declared.Try.{Try}
use Rattle.seam_logged.specs.declared.Try.TheVariants as try
use Rattle.seam_workers.specs.Shifts.{ShiftView, after_visit}
use Rattle.seam_workers.specs.Tries.{HasAnswered, HasFound}

pub visits_counted : (s : ShiftView) (t : Try) → (after_visit s t).visits ≡ s.visits + 1
visits_counted s try.Stepped = refl
visits_counted s try.Idle = refl
visits_counted s try.NoMemory = refl

-- what a visit found after a try more
abbrev pub found_after : Try → Try → Try
found_after f try.Stepped = try.Stepped
found_after f try.Idle = f
found_after f try.NoMemory = try.NoMemory

module _ {N M H : Type 0} (has_work : N → Bool) (steps : N → Input M → Stepped N M) (v : LoggedView N M H) where
  pub found_first : (v' : LoggedView N M H) (t : Try) → HasAnswered has_work steps v v' t → HasFound has_work steps v v' t
  found_first v' try.Stepped a = record { last = try.Stepped; tried = []; answers = (v, refl, a); found_is = refl }
  found_first v' try.Idle a = record { last = try.Idle; tried = []; answers = (v, refl, a); found_is = refl }
  found_first v' try.NoMemory a = record { last = try.NoMemory; tried = []; answers = (v, refl, a); found_is = refl }

  pub found_more : (u v' : LoggedView N M H) (f t : Try) → HasFound has_work steps v u f → HasAnswered has_work steps u v' t →
      HasFound has_work steps v v' (found_after f t)
  found_more u v' f try.Stepped h a = record { last = try.Stepped; tried = h.last ∷ h.tried; answers = (u, h.answers, a); found_is = refl }
  found_more u v' f try.Idle h a = record { last = try.Idle; tried = h.last ∷ h.tried; answers = (u, h.answers, a); found_is = h.found_is }
  found_more u v' f try.NoMemory h a =
      record { last = try.NoMemory; tried = h.last ∷ h.tried; answers = (u, h.answers, a); found_is = refl }

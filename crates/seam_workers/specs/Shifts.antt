-- What a worker did.
use Rattle.std.specs.Prelude.{◌≡◌, ◌⊎◌, ◌≤◌, ℕ, ◌+◌, ◌/◌, Bool, true}
use Rattle.seam_logged.specs.declared.Try.{Try}
use Rattle.seam_logged.specs.declared.Try.TheVariants.{Stepped, Idle, NoMemory}

-- how many visits were made, how many of the last ones found nothing to do, and whether memory was refused to one of the crew
pub record ShiftView : Type 0 where
  pub visits : ℕ
  pub idle : ℕ
  pub refused : Bool

-- after one visit more, which found this
abbrev pub after_visit : ShiftView → Try → ShiftView
after_visit s Stepped = record { visits = s.visits + 1; idle = 0; refused = s.refused }
after_visit s Idle = record { visits = s.visits + 1; idle = s.idle + 1; refused = s.refused }
after_visit s NoMemory = record { visits = s.visits + 1; idle = s.idle; refused = true }

-- after one visit more, which met a taken lock
abbrev pub after_miss : ShiftView → ShiftView
after_miss s = record { visits = s.visits + 1; idle = s.idle; refused = s.refused }

-- how many visits of each node find nothing before a shift is over
abbrev pub idle_passes : ℕ
idle_passes = 16

-- so many visits were made, or the last ones, sixteen for each node, found nothing to do, or memory was refused to one of the crew
abbrev pub IsDone : ℕ → ℕ → ShiftView → Type 0
IsDone turns nodes s = (s.visits ≡ turns) ⊎ (nodes ≤ s.idle / idle_passes) ⊎ (s.refused ≡ true)

-- Numbers of reals that are at most so great, and the names of those that are there.
use Rattle.std.specs.Prelude.{◌≡◌, ℕ, ◌≤◌, true, List, Some}
use Rattle.seam_node_steps.specs.Prelude.{RealView, World}
use Rattle.seam_law_calls.specs.Prelude.{real_at}
use Rattle.seam_law_bounds.specs.Looking.{is_among}

-- of each real that is in a cell, this number is at most n
abbrev pub AreAtMost : (RealView → ℕ) → ℕ → World → Type 0
AreAtMost number n w = (e k : ℕ) (r : RealView) → real_at e w k ≡ Some r → number r ≤ n

-- each real that is in a cell is of an entity of the list
abbrev pub AreAmong : List ℕ → World → Type 0
AreAmong us w = (e k : ℕ) (r : RealView) → real_at e w k ≡ Some r → is_among us e ≡ true

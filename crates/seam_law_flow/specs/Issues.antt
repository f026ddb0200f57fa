-- A call that a node makes up in a round: its number is the next one of its sender, and it is sent off at once.
use Rattle.std.specs.Prelude.{◌≡◌, ℕ, List, Option, None}
use Rattle.seam_law_flow.specs.Desks.{Post, Mail, Item}
use Rattle.seam_law_flow.specs.CallMoves.{Only}

-- nothing comes and the node keeps what it has; one call of that number is sent
pub record Issues {U : Type 0} (number : ℕ) (u : U) (k : ℕ) (s : Post U) (i : Option (Mail U)) (t : Post U) (out : ℕ → List (Mail U))
    : Type 0 where
  pub to : ℕ
  pub nothing : i ≡ None
  pub same : t ≡ s
  pub only : Only out to (Item number u)

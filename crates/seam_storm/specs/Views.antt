-- What contracts see of a source of the generated input.
use Rattle.std.specs.Prelude.{ℕ, List}

-- the bytes that are left, and how often a read found the end
pub record StormView : Type 0 where
  pub left : List ℕ
  pub ends : ℕ

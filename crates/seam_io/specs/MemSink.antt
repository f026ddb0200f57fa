-- A sink over memory: the bytes that it took, and where it fails.
use Rattle.std.specs.Prelude.{ℕ, ◌-◌, min, List, length}

-- The bytes that were written, how many there may be, the numbers of the writes that fail, how many writes there
-- were, and how often one failed.
pub record Tray : Type 0 where
  pub bytes : List ℕ
  pub limit : ℕ
  pub fails : List ℕ
  pub writes : ℕ
  pub faults : ℕ

-- how many bytes of a piece the next write takes, where it does not fail
abbrev pub fitting : Tray → ℕ → ℕ
fitting s piece = min piece (s.limit - length s.bytes)

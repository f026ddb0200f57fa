-- What a source and a sink tell of themselves.
use Rattle.std.specs.Prelude.{ℕ, List, Option}

-- a source: the bytes that are left, where it tells them, how often a read failed, and how often a read found the end
pub record SourceState : Type 0 where
  pub left : Option (List ℕ)
  pub faults : ℕ
  pub ends : ℕ

-- a sink: the bytes that were written, where it tells them, and how often a write failed
pub record SinkState : Type 0 where
  pub written : Option (List ℕ)
  pub faults : ℕ

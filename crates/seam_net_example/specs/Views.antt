-- What contracts see of a counter.
use Rattle.std.specs.Prelude.{ℕ, Option}

pub record CounterView : Type 0 where
  pub next : ℕ
  pub peers : ℕ
  pub given : Option ℕ

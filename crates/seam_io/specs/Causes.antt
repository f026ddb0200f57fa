-- When a count of faults or of ends rose, and what a call that may fail says of it.
use Rattle.std.specs.Prelude.{◌≡◌, ◌≢◌, ℕ, ◌+◌, ◌-◌, ◌^◌, ◌≤◌, min, OnErr, IfOk, Result}

-- the number after n; the last number of a u64 stays
abbrev pub next_count : ℕ → ℕ
next_count n = min (n + 1) (2 ^ 64 - 1)

-- the count is greater than it was, or is at the last number of a u64
abbrev pub Rose : ℕ → ℕ → Type 0
Rose before now = next_count before ≤ now

-- the count of faults did not fall, and a failure comes only where it rose
pub record HasCause {T E : Type 0} (before now : ℕ) (result : Result T E) : Type 0 where
  pub later : before ≤ now
  pub failed : OnErr result (Rose before now)

-- the count of ends did not fall: `Ok(0)` raised it, and no other answer changed it
pub record CountsEnds {E : Type 0} (before now : ℕ) (result : Result ℕ E) : Type 0 where
  pub later : before ≤ now
  pub ended : IfOk result (λ n. n ≡ 0 → Rose before now)
  pub others : IfOk result (λ n. n ≢ 0 → now ≡ before)
  pub failed : OnErr result (now ≡ before)

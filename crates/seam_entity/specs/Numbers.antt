-- Numbers that only rise: versions, beats, generations and the numbers of calls, updates and lines.
use Rattle.std.specs.Prelude.{ℕ, ◌+◌, ◌^◌, Bool, nat_lt}

-- all of them stay below this
abbrev pub limit : ℕ
limit = 2 ^ 62

abbrev pub is_small : ℕ → Bool
is_small n = nat_lt n limit

-- a number that may rise by one
abbrev pub may_rise : ℕ → Bool
may_rise n = is_small (n + 1)

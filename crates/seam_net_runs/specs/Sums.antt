-- Sums over finite maps.
use Rattle.std.specs.Prelude.{ℕ, Option, None, Some}
use Rattle.std.specs.Ordering.{nat_cmp}
use Rattle.std.specs.FinMap as map
use Rattle.seam_machine.specs.Totals.{total}

-- what a value weighs, where there is one
abbrev pub weight_or : {X : Type 0} → (X → ℕ) → Option X → ℕ
weight_or f None = 0
weight_or f (Some x) = f x

-- what the values of a map weigh together
abbrev pub map_total : {X : Type 0} → (X → ℕ) → map.FinMap nat_cmp X → ℕ
map_total f m = total (λ p. f p.1) (map.entries m)

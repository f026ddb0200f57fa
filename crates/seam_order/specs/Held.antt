-- Numbered items that came before their turn, and the number whose turn it is.
use Rattle.std.specs.Prelude.{ℕ, ◌+◌, ◌<◌, ◌≤◌, ◌^◌, ◌==◌, nat_lt, List, [], ◌∷◌, Option, None, Some, if◌then◌else◌}

-- the number whose turn it is, and the items that wait for theirs, each with its number
pub record OrderView (T : Type 0) : Type 0 where
  pub next : ℕ
  pub held : List (ℕ × T)

-- the item of that number, if it waits
abbrev pub item_at : {T : Type 0} → ℕ → List (ℕ × T) → Option T
item_at n [] = None
item_at n (p ∷ ps) = if p.0 == n then Some p.1 else item_at n ps

-- the items with one more, before the greater numbers
abbrev pub with_item : {T : Type 0} → ℕ → T → List (ℕ × T) → List (ℕ × T)
with_item n x [] = (n, x) ∷ []
with_item n x (p ∷ ps) = if nat_lt n p.0 then (n, x) ∷ p ∷ ps else p ∷ with_item n x ps

-- the items without the one of that number
abbrev pub without : {T : Type 0} → ℕ → List (ℕ × T) → List (ℕ × T)
without n [] = []
without n (p ∷ ps) = if p.0 == n then ps else p ∷ without n ps

-- the numbers rise, from low on, and are below 2^62
abbrev pub RiseFrom : {T : Type 0} → ℕ → List (ℕ × T) → Type 0
RiseFrom low [] = Unit {0}
RiseFrom low (p ∷ ps) = (low ≤ p.0) × (p.0 < 2 ^ 62) × RiseFrom (p.0 + 1) ps

-- numbers begin at 1, and what waits has rising numbers from the next one on
pub record IsInOrder {T : Type 0} (w : OrderView T) : Type 0 where
  pub from_one : 1 ≤ w.next
  pub small : w.next ≤ 2 ^ 62
  pub rising : RiseFrom w.next w.held

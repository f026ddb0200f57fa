-- How an index of keys and the slots of a slab refine a table.
use Rattle.std.specs.Prelude.{◌≡◌, ℕ, List, Option, Some, nat_eq, map as each}
use Rattle.std.specs.Option.{option_flatten}
use Rattle.std.specs.List.{IsDistinct}
use Rattle.std.specs.Map.{keys_of, lookup}
use Rattle.slab.specs.Slab.{Slab, get, ContainsKey}

-- the item in the slot with the key; an open slot has none
abbrev pub item_at : {T : Type 0} → Slab (Option T) → ℕ → Option T
item_at slots k = option_flatten (get slots k)

-- the entries of a table: each number with the item in its slot
abbrev pub slotted : {T : Type 0} → Slab (Option T) → List (ℕ × ℕ) → List (ℕ × Option T)
slotted slots es = each (λ e. (e.0, item_at slots e.1)) es

-- each number has one entry, whose key has a slot that is no other number's
pub record IsSlotted {T : Type 0} (es : List (ℕ × ℕ)) (slots : Slab (Option T)) : Type 0 where
  pub distinct : IsDistinct nat_eq (keys_of es)
  pub kept : (n k : ℕ) → lookup (nat_eq n) es ≡ Some k → ContainsKey slots k
  pub apart : (n m k : ℕ) → lookup (nat_eq n) es ≡ Some k → lookup (nat_eq m) es ≡ Some k → n ≡ m

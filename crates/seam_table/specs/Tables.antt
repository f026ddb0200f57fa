-- What contracts see of a table.
use Rattle.std.specs.Prelude.{ℕ, map as each}
use Rattle.std.specs.Ordering.{nat_cmp}
use Rattle.std.specs.FinMap as map
use Rattle.std.specs.FinSet as set
use Rattle.std.specs.Coded.{Coded, code_by, coded×, coded_ℕ}
use Rattle.std.proofs.Common.{refl}

-- the item of each number that has one, and the numbers for which there is room: an item for one of those needs no memory
pub record TableView (T : Type 0) : Type 0 where
  pub items : map.FinMap nat_cmp T
  pub room : set.FinSet nat_cmp

abbrev pub table_code : {T : Type 0} → Coded T → Coded (TableView T)
table_code t =
    code_by (map.FinMap nat_cmp _ × set.FinSet nat_cmp) (coded× (map.code coded_ℕ t) (set.code coded_ℕ)) (λ w. (w.items, w.room))
    (λ q. record { items = q.0; room = q.1 }) (λ _. refl)

-- the table with this item in place of the one that the number had, if any
abbrev pub with_item : {T : Type 0} → TableView T → ℕ → T → TableView T
with_item w n item = record { items = map.insert w.items n item; room = set.insert w.room n }

-- the table without an item of the number; the room stays
abbrev pub without_item : {T : Type 0} → TableView T → ℕ → TableView T
without_item w n = record { items = map.remove w.items n; room = w.room }

-- the table without an item of the number, and without room for one
abbrev pub without_room : {T : Type 0} → TableView T → ℕ → TableView T
without_room w n = record { items = map.remove w.items n; room = set.remove w.room n }

-- the table with each item changed; the room stays
abbrev pub with_each : {T : Type 0} → (T → T) → TableView T → TableView T
with_each f w = record { items = map.from_entries (each (λ p. (p.0, f p.1)) (map.entries w.items)); room = w.room }

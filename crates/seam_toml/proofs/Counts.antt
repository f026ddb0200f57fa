-- The members and items that a table and an array are seen as are as many as its entries.
use Rattle.std.proofs.Common.{◌≡◌, List, [], ◌∷◌, length, refl, arith}
use Rattle.toml.proofs.Views.{Entry}
use Rattle.toml.specs.View.{members_view, items_view}
use Rattle.toml.specs.declared.value.Value.{Value}
use Rattle.seam_toml.specs.Faults.{count, count_items}

pub count_is_length : (es : List Entry) → count (members_view es) ≡ length es
count_is_length [] = refl
count_is_length (e ∷ es) = omega (arith, count_is_length es)

pub count_items_is_length : (vs : List Value) → count_items (items_view vs) ≡ length vs
count_items_is_length [] = refl
count_items_is_length (v ∷ vs) = omega (arith, count_items_is_length vs)

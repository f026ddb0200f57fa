-- Entities in enter order, found by number: in which order their places stand, and where they go when some leave.
use Rattle.std.specs.Prelude.{◌≡◌, ℕ, ◌<◌, ◌+◌, ◌^◌, Bool, true, not, nat_eq, List, [], ◌∷◌, map, length, slice_index, refl}
use Rattle.std.specs.Bool.{MatchBool}
use Rattle.std.specs.Ordering.{nat_cmp}
use Rattle.std.specs.List.{AllByRecursion, IsDistinct, list_any}
use Rattle.std.specs.List.Sorted.{IsStrictlySortedBy}
use Rattle.std.specs.Map.{keys_of}
use Rattle.std.specs.Coded.{Coded, code_by, coded×, coded_ℕ, coded_list}
use Rattle.seam_view.specs.declared.numbered.Slot.{Slot}

-- entities, each with a version, and how many more are kept without memory
pub record KeptValue : Type 0 where
  pub entries : List (ℕ × ℕ)
  pub room : ℕ

abbrev pub kept_code : Coded KeptValue
kept_code =
    code_by (List (ℕ × ℕ) × ℕ) (coded× (coded_list (coded× coded_ℕ coded_ℕ)) coded_ℕ) (λ v. (v.entries, v.room))
    (λ q. record { entries = q.0; room = q.1 }) (λ _. refl)

abbrev pub entries_of : List Slot → List (ℕ × ℕ)
entries_of slots = map (λ s. (s.entity, s.version)) slots

-- the number of the entity at a place
abbrev pub number_at : List Slot → ℕ → ℕ
number_at slots i = slice_index (keys_of (entries_of slots)) i

-- these are the places of the entities, each of which is there once: the numbers at them rise, and none is missing. A `u32` holds each
-- place, and has one more number
pub record IsByNumber (entities places : List ℕ) : Type 0 where
  pub once : IsDistinct nat_eq entities
  pub few : length entities < 2 ^ 32
  pub within : AllByRecursion (λ i. i < length entities) places
  pub rising : IsStrictlySortedBy nat_cmp (map (λ i. slice_index entities i) places)
  pub all : (i : ℕ) → i < length entities → list_any (nat_eq i) places ≡ true

-- the place of one that leaves
abbrev pub nowhere : ℕ
nowhere = 0xffff_ffff

abbrev pub stays : Slot → Bool
stays s = not (nat_eq s.to nowhere)

-- those that stay go to the places from n on, in enter order
abbrev pub GoInOrder : ℕ → List Slot → Type 0
GoInOrder n [] = Unit {0}
GoInOrder n (s ∷ slots) = MatchBool (stays s) ((s.to ≡ n) × GoInOrder (n + 1) slots) (GoInOrder n slots)

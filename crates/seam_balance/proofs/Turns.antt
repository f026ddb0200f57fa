-- Boundaries balanced one after another.
use Rattle.std.proofs.Common.{◌≡◌, ◌⊎◌, ℕ, zero, suc, ◌+◌, ◌<◌, ◌≤◌, ◌==◌, true, false, if◌then◌else◌, List, [], ◌∷◌, ◌++◌, length, get_or}
use Rattle.std.proofs.Common.{All, refl, sym, ap, subst, ◌∙◌, arith, inl, inr, Option, Some, None, Result, Ok, Err, OnOk, IsPermutation}
use Rattle.std.proofs.Common.{◌↔◌}
use Rattle.std.specs.Option.{option_map}
use Rattle.std.proofs.lemmas.Bool.{cases_eq}
use Rattle.std.proofs.lemmas.List.Elements.{All-append, All-weaker}
use Rattle.seam_geo.specs.declared.pos.Pos.{Pos}
use Rattle.seam_tree.specs.declared.boundary.Boundary.{Boundary}
use Rattle.seam_tree.specs.declared.cut.Cut.{Cut}
use Rattle.seam_tree.specs.declared.tree.ShiftError.{ShiftError}
use Rattle.seam_tree.specs.declared.tree.ShiftError.TheVariants.{NoBoundary, WouldEmpty}
use Rattle.seam_tree.specs.Division.{Division, cells_of, HasBoundary, IsTree, NoneEmpty, SomeEmpty, boundary_of}
use Rattle.seam_tree.specs.Change.{with_place, MovesBoundary, CameBy, by_shift}
use Rattle.seam_tree.proofs.Moves.{with_place_moves}
use Rattle.seam_balance.specs.Order.{boundaries_within, boundaries_from_root}
use Rattle.seam_balance.specs.Balance.{BalancedInTurn, IsBest, IsAllowed, HasSameCuts, difference, places_divided}
use Rattle.seam_balance.proofs.Convex.{some_not_none}
use Rattle.seam_balance.proofs.Counts.{difference_permutation}

-- the numbers are those of the cuts
abbrev pub IsFromTo : ℕ → ℕ → ℕ → Type 0
IsFromTo low high b = (low ≤ b) × (b < high)

all_cons : (P : ℕ → Type 0) (x : ℕ) (xs : List ℕ) → P x → All P xs → All P (x ∷ xs)
all_cons P x xs here all zero d within = here
all_cons P x xs here all (suc k) d within = all k d (omega arith)

wider : (low high wide_low wide_high : ℕ) (xs : List ℕ) → wide_low ≤ low → high ≤ wide_high → All (IsFromTo low high) xs →
    All (IsFromTo wide_low wide_high) xs
wider low high wide_low wide_high xs l h all =
    All-weaker (IsFromTo low high) (IsFromTo wide_low wide_high) (λ x inside. (omega (arith, inside.0), omega (arith, inside.1))) xs all

numbers_within : (cuts : List Cut) (number cell : ℕ) → All (IsFromTo number (number + length cuts)) (boundaries_within cuts number cell)
numbers_within [] number cell = λ k d within. absurd (omega arith)
numbers_within (c ∷ cuts) number cell =
    let P : ℕ → Type 0 = IsFromTo number (number + suc (length cuts)) in
    let later : (next : ℕ) → All P (boundaries_within cuts (number + 1) next) =
    λ next. wider (number + 1) (number + 1 + length cuts) number (number + suc (length cuts)) (boundaries_within cuts (number + 1) next)
    (omega arith) (omega arith) (numbers_within cuts (number + 1) next) in
    elim (c.cell == cell)
    as (λ b. All P (if b then number ∷ (boundaries_within cuts (number + 1) cell ++ boundaries_within cuts (number + 1) number) else
    boundaries_within cuts (number + 1) cell)) [
      | true ↦ all_cons P number _ (omega arith, omega arith)
          (All-append P (boundaries_within cuts (number + 1) cell) (boundaries_within cuts (number + 1) number) (later cell) (later number))
      | false ↦ later cell
    ]

-- each number in the order is that of a boundary
pub order_has : (t mid : Division) (order : List ℕ) (i : ℕ) → order ≡ boundaries_from_root t → cells_of mid ≡ cells_of t →
    i < length order → HasBoundary mid (get_or order i 0)
order_has t mid order i is cells within =
    let all : All (IsFromTo 1 (1 + length t.cuts)) order =
    subst (All (IsFromTo 1 (1 + length t.cuts))) (sym is) (numbers_within t.cuts 1 0) in
    let inside : IsFromTo 1 (1 + length t.cuts) (get_or order i 0) = all i 0 within in
    record { from_one = inside.0; to_last = omega (arith, inside.1, cells) }

-- one more boundary in turn
pub turn_push : (positions : List Pos) (shift : ℕ) (t : Division) (bs : List ℕ) (mid : Division) (b at : ℕ) →
    BalancedInTurn positions shift t bs mid → IsBest mid b shift positions at →
    BalancedInTurn positions shift t (bs ++ b ∷ []) (with_place mid b at)
turn_push positions shift t [] mid b at chosen best =
    (at, subst (λ (u : Division). IsBest u b shift positions at) chosen best, ap (λ (u : Division). with_place u b at) chosen)
turn_push positions shift t (x ∷ bs) mid b at chosen best =
    (chosen.0, chosen.1, turn_push positions shift (with_place t x chosen.0) bs mid b at chosen.2 best)

axis_of_moved : (o : Option Boundary) (at : ℕ) →
    option_map (λ (b : Boundary). b.axis) (option_map (λ (was : Boundary). record { axis = was.axis; at = at }) o)
    ≡ option_map (λ (b : Boundary). b.axis) o
axis_of_moved None at = refl
axis_of_moved (Some x) at = refl

pub same_cuts_refl : (t : Division) → HasSameCuts t t
same_cuts_refl t = record { size = refl; cells = refl; cuts = λ k. refl; axes = λ k. refl }

-- a moved boundary leaves the cuts the same
pub same_cuts_moved : (t mid : Division) (b at : ℕ) → HasSameCuts t mid → IsTree mid → HasBoundary mid b →
    HasSameCuts t (with_place mid b at)
same_cuts_moved t mid b at same tree there =
    let moves : MovesBoundary mid (with_place mid b at) b at = with_place_moves mid b at tree there in
    record {
      size = same.size;
      cells = moves.cells ∙ same.cells;
      cuts = λ k. moves.cuts k ∙ same.cuts k;
      axes = λ k. elim (cases_eq k b) [
        | inl e ↦
            ap (λ (n : ℕ). option_map (λ (x : Boundary). x.axis) (boundary_of (with_place mid b at) n)) e
            ∙ ap (option_map (λ (x : Boundary). x.axis)) moves.boundary
            ∙ axis_of_moved (boundary_of mid b) at
            ∙ ap (λ (n : ℕ). option_map (λ (x : Boundary). x.axis) (boundary_of mid n)) (sym e)
            ∙ same.axes k
        | inr other ↦ ap (option_map (λ (x : Boundary). x.axis)) (moves.other_boundaries k other) ∙ same.axes k
      ];
    }

-- a shift to an allowed place is accepted
pub shift_moves : (r : Result (Unit {0}) ShiftError) (t new : Division) (b at : ℕ) → OnOk r (new ≡ with_place t b at)
    → (r ≡ Err NoBoundary → (b ≡ 0) ⊎ (cells_of t ≤ b)) → (r ≡ Err WouldEmpty → HasBoundary t b × SomeEmpty (with_place t b at))
    → HasBoundary t b → NoneEmpty (with_place t b at) → new ≡ with_place t b at
shift_moves (Ok u) t new b at moved no_boundary would_empty there none = moved
shift_moves (Err NoBoundary) t new b at moved no_boundary would_empty there none =
    elim (no_boundary refl) [ inl e ↦ absurd (omega (arith, there.from_one)) | inr past ↦ absurd (omega (arith, there.to_last)) ]
shift_moves (Err WouldEmpty) t new b at moved no_boundary would_empty there none =
    absurd (some_not_none (with_place t b at) (would_empty refl).1 none)

-- the best of the sorted places is the best
pub best_is_best : (t : Division) (b shift : ℕ) (positions : List Pos) (sorted : List ℕ) (low high best : ℕ) →
    IsPermutation (places_divided t b positions) sorted
    → ((at : ℕ) → IsAllowed t b shift at ↔ ((low ≤ at) × (at ≤ high))) → low ≤ best → best ≤ high
    → ((at : ℕ) → low ≤ at → at ≤ high → difference sorted best ≤ difference sorted at)
    → ((at : ℕ) → low ≤ at → at < best → difference sorted best < difference sorted at)
    → IsBest t b shift positions best
best_is_best t b shift positions sorted low high best same range from to least lowest =
    let as_sorted : (at : ℕ) → difference sorted at ≡ difference (places_divided t b positions) at =
    λ at. difference_permutation (places_divided t b positions) sorted at same in
    record {
      allowed = (range best).1 (from, to);
      least = λ other allowed. let inside : (low ≤ other) × (other ≤ high) = (range other).0 allowed in
          omega (arith, as_sorted best, as_sorted other, least other inside.0 inside.1);
      lowest = λ other allowed before. let inside : (low ≤ other) × (other ≤ high) = (range other).0 allowed in
          omega (arith, as_sorted best, as_sorted other, lowest other inside.0 before);
    }

-- what holds after some of the order
pub record TurnsDone (positions : List Pos) (shift : ℕ) (t : Division) (done : List ℕ) (mid : Division) : Type 0 where
  pub chosen : BalancedInTurn positions shift t done mid
  pub tree : IsTree mid
  pub came : CameBy t mid
  pub cuts : HasSameCuts t mid

pub turns_more : (positions : List Pos) (shift : ℕ) (t mid new : Division) (done more : List ℕ) (b at : ℕ) →
    TurnsDone positions shift t done mid → HasBoundary mid b → IsBest mid b shift positions at → new ≡ with_place mid b at → IsTree new →
    more ≡ done ++ b ∷ [] → TurnsDone positions shift t more new
turns_more positions shift t mid new done more b at was there best moved tree more_is = record {
  chosen =
      subst (λ (bs : List ℕ). BalancedInTurn positions shift t bs new) (sym more_is)
      (subst (BalancedInTurn positions shift t (done ++ b ∷ [])) (sym moved) (turn_push positions shift t done mid b at was.chosen best));
  tree = tree;
  came = subst (CameBy t) (sym moved) (by_shift mid b at was.came);
  cuts = subst (HasSameCuts t) (sym moved) (same_cuts_moved t mid b at was.cuts was.tree there);
}

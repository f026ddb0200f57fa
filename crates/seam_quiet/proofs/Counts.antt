-- Sums over the first items of a list, for counts that stand still at a greatest number.
use Rattle.std.proofs.Common.{◌≡◌, ℕ, ◌+◌, ◌-◌, ◌^◌, ◌<◌, List, [], ◌∷◌, ◌++◌, length, take, get_or, min, ap, ◌∙◌, arith}
use Rattle.std.proofs.Common.{Some}
use Rattle.std.specs.Prelude.{slice_get}
use Rattle.std.proofs.lemmas.List.{take_more, length-take-le}
use Rattle.std.proofs.lemmas.Option.{get_or_from_slice_get, slice_get_within}
use Rattle.seam_machine.specs.Totals.{total}
use Rattle.seam_machine.proofs.Totals.{total-take}
use Rattle.seam_net_runs.specs.Weights.{totals}

abbrev pub most : ℕ
most = 2 ^ 32 - 1

totals-push : {X : Type 0} (f : ℕ → X → ℕ) (xs : List X) (i : ℕ) (y : X) →
    totals f i (xs ++ y ∷ []) ≡ totals f i xs + f (i + length xs) y
totals-push f [] i y =
    let at : i + 0 ≡ i = omega arith in
    let same = ap (λ j. f j y) at in
    omega (arith, same)
totals-push f (x ∷ xs) i y =
    let at : (i + 1) + length xs ≡ i + length (x ∷ xs) = omega arith in
    let same = ap (λ j. f j y) at in
    let rest = totals-push f xs (i + 1) y in
    omega (arith, same, rest)

pub totals-take : {X : Type 0} (f : ℕ → X → ℕ) (xs : List X) (i k : ℕ) (d : X) → k < length xs →
    totals f i (take (k + 1) xs) ≡ totals f i (take k xs) + f (i + k) (get_or xs k d)
totals-take f xs i k d lt =
    let y = get_or xs k d in
    ap (totals f i) (take_more xs k d lt)
    ∙ (totals-push f (take k xs) i y ∙ ap (λ n. totals f i (take k xs) + f (i + n) y) (length-take-le k xs (omega (arith, lt))))

-- the next item is counted
pub total_next : {X : Type 0} (f : X → ℕ) (xs : List X) (i : ℕ) (x : X) → slice_get xs i ≡ Some x →
    total f (take (i + 1) xs) ≡ total f (take i xs) + f x
total_next f xs i x at =
    total-take f xs i x (slice_get_within xs i x at) ∙ ap (λ y. total f (take i xs) + f y) (get_or_from_slice_get xs i x x at)

-- one more item is counted
pub counted_on : (so_far a b c n m : ℕ) → n ≡ min (so_far + a) most → c ≡ a + b → m ≡ min (n + b) most → m ≡ min (so_far + c) most
counted_on so_far a b c n m is more then = omega (arith, is, more, then)

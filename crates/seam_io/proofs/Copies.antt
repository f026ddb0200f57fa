-- What is copied out of a list, and what is left of it.
use Rattle.std.proofs.Common.{◌≡◌, ℕ, ◌+◌, ◌-◌, ◌<◌, ◌≤◌, List, ◌++◌, length, take, drop, min, true, eqb, eqb-true, get_or, Contains, arith}
use Rattle.std.proofs.Common.{sym, ap, ◌∙◌}
use Rattle.std.proofs.Math.Seq.{take-add}
use Rattle.std.proofs.lemmas.List.{take-append-drop, take_at, drop-drop, length-take, length-drop, take_all}

-- a part was copied to the start of a buffer: the rest of the list comes after it
pub copied_prefix : (items buffer part : List ℕ) (at n : ℕ) → part ≡ take (at + n - at) (drop at items) → at + n ≤ length items
    → drop at items ≡ take n (part ++ drop n buffer) ++ drop (at + n) items
copied_prefix items buffer part at n same fits =
    let count : at + n - at ≡ n = omega arith in
    let is_part : part ≡ take n (drop at items) = same ∙ ap (λ k. take k (drop at items)) count in
    let size : length part ≡ n = ap length is_part ∙ simp (length-take, length-drop) (omega arith) in
    let prefix : take n (part ++ drop n buffer) ≡ take n (drop at items) = take_at part (drop n buffer) n size ∙ is_part in
    sym (take-append-drop n (drop at items)) ∙ ap (λ x. take n (drop at items) ++ x) (drop-drop n at items)
    ∙ ap (λ x. x ++ drop (at + n) items) (sym prefix)

-- a prefix and the next n elements are the prefix that is n longer
pub take_further : (xs : List ℕ) (i n : ℕ) → i + n ≤ length xs → take i xs ++ take n (take (length xs - i) (drop i xs)) ≡ take (i + n) xs
take_further xs i n fits =
    let whole : take (length xs - i) (drop i xs) ≡ drop i xs = take_all (length xs - i) (drop i xs) (simp length-drop (omega arith)) in
    ap (λ x. take i xs ++ take n x) whole ∙ sym (take-add i n xs)

-- how many bytes are given, by the parts of the least of the three bounds
pub share_of_parts : (items : List ℕ) (at cut wanted room less count : ℕ) → cut ≡ wanted → less ≡ min cut room → at ≤ length items
    → count ≡ min less (length items - at) → count ≡ min (min wanted room) (length (drop at items))
share_of_parts items at cut wanted room less count same first within second = simp length-drop (omega arith)

-- an element that a test of equality found is in the list
pub contains_found : (xs : List ℕ) (x : ℕ) → (k : ℕ) × (k < length xs) × ((d : ℕ) → eqb (get_or xs k d) x ≡ true) → Contains xs x
contains_found xs x found = (found.0, found.1, eqb-true _ _ (found.2 x))

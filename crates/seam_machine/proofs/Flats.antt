-- Rows one after the other.
use Rattle.std.proofs.Common.{◌≡◌, ℕ, zero, suc, ◌+◌, ◌*◌, ◌<◌, List, [], ◌∷◌, ◌++◌, length, get_or, refl, sym, ap, ◌∙◌, arith}
use Rattle.std.proofs.Common.{append_assoc}
use Rattle.std.specs.List.{All}
use Rattle.std.proofs.lemmas.List.{append-nil, length-append, get_or_append_left, get_or-append-add}
use Rattle.std.proofs.lemmas.List.Elements.{All-head, All-tail}
use Rattle.seam_machine.specs.Nets.{flat}

pub flat-push : {X : Type 0} (rows : List (List X)) (r : List X) → flat (rows ++ r ∷ []) ≡ flat rows ++ r
flat-push [] r = append-nil r
flat-push (q ∷ qs) r = ap (λ l. q ++ l) (flat-push qs r) ∙ sym (append_assoc q (flat qs) r)

-- one more row was made of what is left
pub flat_more : {X : Type 0} (rows rows' : List (List X)) (r left left' all : List X) → rows' ≡ rows ++ r ∷ [] → r ++ left' ≡ left →
    flat rows ++ left ≡ all → flat rows' ++ left' ≡ all
flat_more rows rows' r left left' all push next so_far =
    ap (λ l. flat l ++ left') push ∙ (ap (λ l. l ++ left') (flat-push rows r)
    ∙ (append_assoc (flat rows) r left' ∙ (ap (λ l. flat rows ++ l) next ∙ so_far)))

pub one_more_row : (i n : ℕ) → (i + 1) * n ≡ i * n + n
one_more_row i n = grind arith

pub length-flat : {X : Type 0} (n : ℕ) (rows : List (List X)) → All (λ r. length r ≡ n) rows → length (flat rows) ≡ length rows * n
length-flat n [] wide = omega arith
length-flat n (r ∷ rs) wide =
    let here = All-head (λ r. length r ≡ n) r rs wide in
    let rest = length-flat n rs (All-tail (λ r. length r ≡ n) r rs wide) in
    let one = length-append r (flat rs) in
    let more = one_more_row (length rs) n in
    omega (arith, here, rest, one, more)

-- the element at place b of row a is at place a * n + b
pub flat-place : {X : Type 0} (n : ℕ) (rows : List (List X)) (a b : ℕ) (d : X) → All (λ r. length r ≡ n) rows → a < length rows → b < n →
    get_or (flat rows) (a * n + b) d ≡ get_or (get_or rows a []) b d
flat-place n [] a b d wide la lb = absurd (omega (arith, la))
flat-place n (r ∷ rs) zero b d wide la lb =
    let here = All-head (λ r. length r ≡ n) r rs wide in
    let at : 0 * n + b ≡ b = omega arith in
    ap (λ i. get_or (r ++ flat rs) i d) at ∙ get_or_append_left r (flat rs) d b (omega (arith, here, lb))
flat-place n (r ∷ rs) (suc a) b d wide la lb =
    let here = All-head (λ r. length r ≡ n) r rs wide in
    let more = one_more_row a n in
    let at : suc a * n + b ≡ length r + (a * n + b) = omega (arith, here, more) in
    ap (λ i. get_or (r ++ flat rs) i d) at
    ∙ (get_or-append-add r (flat rs) (a * n + b) d
    ∙ flat-place n rs a b d (All-tail (λ r. length r ≡ n) r rs wide) (omega (arith, la)) lb)

-- two prefixes of a list are equal where they are as long
split : {X : Type 0} (xs ys us vs : List X) → length xs ≡ length us → xs ++ ys ≡ us ++ vs → (xs ≡ us) × (ys ≡ vs)
split [] ys [] vs n e = (refl, e)
split [] ys (u ∷ us) vs n e = absurd (omega (arith, n))
split (x ∷ xs) ys [] vs n e = absurd (omega (arith, n))
split (x ∷ xs) ys (u ∷ us) vs n e =
    let same : x ≡ u = cc in
    let rest : xs ++ ys ≡ us ++ vs = cc in
    let h = split xs ys us vs (omega (arith, n)) rest in
    (ap (λ l. x ∷ l) h.0 ∙ ap (λ z. z ∷ us) same, h.1)

-- rows of one width are told by the list that they make
pub flat-same : {X : Type 0} (n : ℕ) (rows others : List (List X)) → All (λ r. length r ≡ n) rows → All (λ r. length r ≡ n) others →
    length rows ≡ length others → flat rows ≡ flat others → rows ≡ others
flat-same n [] [] p q l e = refl
flat-same n [] (s ∷ ss) p q l e = absurd (omega (arith, l))
flat-same n (r ∷ rs) [] p q l e = absurd (omega (arith, l))
flat-same n (r ∷ rs) (s ∷ ss) p q l e =
    let one = All-head (λ r. length r ≡ n) r rs p in
    let two = All-head (λ r. length r ≡ n) s ss q in
    let h = split r (flat rs) s (flat ss) (one ∙ sym two) e in
    let rest = flat-same n rs ss (All-tail (λ r. length r ≡ n) r rs p) (All-tail (λ r. length r ≡ n) s ss q) (omega (arith, l)) h.1 in
    ap (λ x. x ∷ rs) h.0 ∙ ap (λ l. s ∷ l) rest

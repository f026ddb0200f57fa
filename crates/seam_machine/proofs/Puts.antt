-- The links after items were put at their ends, and after the first item of one was fed to its node.
use Rattle.std.proofs.Common.{◌≡◌, ℕ, zero, suc, ◌<◌, Bool, true, false, cond, eqb, ◌&&◌, List, [], ◌∷◌, ◌++◌, length, Some, get_or, set}
use Rattle.std.proofs.Common.{drop, refl, sym, ap, ◌∙◌, arith, append_assoc}
use Rattle.std.proofs.lemmas.List.{length-set, append-nil}
use Rattle.std.proofs.lemmas.List.Elements.{All-head, All-tail}
use Rattle.std.proofs.lemmas.Bool.Decides.{nat_tests}
use Rattle.seam_machine.specs.Sends.{items_to, AllBelow}
use Rattle.seam_machine.specs.Nets.{link, put_all, send_all, row_less, rows_less}
use Rattle.seam_machine.specs.Events.{link_left, link_added}
use Rattle.seam_machine.proofs.Writes.{Written, here, other, written}

pub equal_is : (a b : ℕ) → a ≡ b → eqb a b ≡ true
equal_is a b e = grind (arith, nat_tests)

pub apart_is : (a b : ℕ) → (a ≡ b → ⊥) → eqb a b ≡ false
apart_is a b n = grind (arith, nat_tests)

and_false : (s : Bool) → (s && false) ≡ false
and_false true = refl
and_false false = refl

pub length-put_all : {M : Type 0} (row : List (List M)) (ps : List (ℕ × M)) → length (put_all row ps) ≡ length row
length-put_all row [] = refl
length-put_all row (p ∷ ps) =
    length-put_all (set row p.0 (get_or row p.0 [] ++ p.1 ∷ [])) ps ∙ length-set row p.0 (get_or row p.0 [] ++ p.1 ∷ [])

-- an item was put at the end of its link
put_one : {M : Type 0} (row : List (List M)) (to : ℕ) (m : M) (rest : List M) (y : ℕ) (got : List M) → to < length row →
    Written row (get_or row to [] ++ m ∷ []) [] to y got → got ++ rest ≡ get_or row y [] ++ cond (eqb to y) (m ∷ rest) rest
put_one row to m rest y got lt (here e short g) =
    rw (equal_is to y (sym e), g, e) (append_assoc (get_or row to []) (m ∷ []) rest)
put_one row to m rest y got lt (other n g) =
    let apart : eqb to y ≡ false = apart_is to y (λ e. let h = n (sym e) in omega (arith, h, lt)) in
    rw (apart, g) refl

pub link-put_all : {M : Type 0} (row : List (List M)) (ps : List (ℕ × M)) (y : ℕ) → AllBelow (length row) ps →
    get_or (put_all row ps) y [] ≡ get_or row y [] ++ items_to y ps
link-put_all row [] y b = sym (append-nil (get_or row y []))
link-put_all row (p ∷ ps) y b =
    let new = get_or row p.0 [] ++ p.1 ∷ [] in
    let more = link-put_all (set row p.0 new) ps y (rw length-set (All-tail (λ p. p.0 < length row) p ps b)) in
    more ∙ put_one row p.0 p.1 (items_to y ps) y (get_or (set row p.0 new) y []) (All-head (λ p. p.0 < length row) p ps b)
    (written row p.0 new [] y)

sent_to : {M : Type 0} (rows : List (List (List M))) (k x y : ℕ) (ps : List (ℕ × M)) (got : List (List M)) →
    AllBelow (length (get_or rows k [])) ps → k < length rows → Written rows (put_all (get_or rows k []) ps) [] k x got →
    get_or got y [] ≡ link rows x y ++ link_added k ps x y
sent_to rows k x y ps got b lt (here e short g) =
    rw (equal_is x k e) (ap (λ r. get_or r y []) g
    ∙ (link-put_all (get_or rows k []) ps y b ∙ ap (λ i. link rows i y ++ items_to y ps) (sym e)))
sent_to rows k x y ps got b lt (other n g) =
    rw (apart_is x k (λ e. let h = n e in omega (arith, h, lt))) (ap (λ r. get_or r y []) g ∙ sym (append-nil (link rows x y)))

-- each link after node k sent the items
pub link-send_all : {M : Type 0} (rows : List (List (List M))) (k : ℕ) (ps : List (ℕ × M)) (x y : ℕ) →
    AllBelow (length (get_or rows k [])) ps → k < length rows → link (send_all rows k ps) x y ≡ link rows x y ++ link_added k ps x y
link-send_all rows k ps x y b lt =
    sent_to rows k x y ps (get_or (send_all rows k ps) x []) b lt (written rows k (put_all (get_or rows k []) ps) [] x)

in_row : {M : Type 0} (row : List (List M)) (b : ℕ) (m : M) (ms : List M) → get_or row b [] ≡ m ∷ ms → b < length row
in_row [] b m ms e = cc
in_row (q ∷ qs) zero m ms e = omega arith
in_row (q ∷ qs) (suc b) m ms e = let h = in_row qs b m ms e in omega (arith, h)

-- a link that holds something is there
pub link_is_in : {M : Type 0} (rows : List (List (List M))) (a b : ℕ) (m : M) (ms : List M) → link rows a b ≡ m ∷ ms →
    (a < length rows) × (b < length (get_or rows a []))
link_is_in [] a b m ms e = cc
link_is_in (r ∷ rs) zero b m ms e = (omega arith, in_row r b m ms e)
link_is_in (r ∷ rs) (suc a) b m ms e = let h = link_is_in rs a b m ms e in (omega (arith, h.0), h.1)

pub link_holds_in : {M : Type 0} (rows : List (List (List M))) (a b : ℕ) (ms : List M) → link rows a b ≡ ms → 0 < length ms →
    (a < length rows) × (b < length (get_or rows a []))
link_holds_in rows a b [] e h = absurd (omega (arith, h))
link_holds_in rows a b (m ∷ ms) e h = link_is_in rows a b m ms e

less_row : {M : Type 0} (rows : List (List (List M))) (a k x y : ℕ) (m : M) (ms : List M) (got : List (List M)) → link rows a k ≡ m ∷ ms →
    x ≡ a → got ≡ row_less (get_or rows a []) k →
    Written (get_or rows a []) (drop 1 (link rows a k)) [] k y (get_or (row_less (get_or rows a []) k) y []) →
    get_or got y [] ≡ link_left rows k (Some a) x y
less_row rows a k x y m ms got h e g (here f lt q) =
    let one : (eqb x a && eqb y k) ≡ true = rw (equal_is x a e, equal_is y k f) refl in
    rw one (ap (λ r. get_or r y []) g ∙ (q ∙ rw (e, f) refl))
less_row rows a k x y m ms got h e g (other n q) =
    let within = (link_is_in rows a k m ms h).1 in
    let two : eqb y k ≡ false = apart_is y k (λ f. let short = n f in omega (arith, short, within)) in
    let one : (eqb x a && eqb y k) ≡ false = rw two (and_false (eqb x a)) in
    rw one (ap (λ r. get_or r y []) g ∙ (q ∙ rw e refl))

less_rows : {M : Type 0} (rows : List (List (List M))) (a k x y : ℕ) (m : M) (ms : List M) (got : List (List M)) → link rows a k ≡ m ∷ ms →
    Written rows (row_less (get_or rows a []) k) [] a x got → get_or got y [] ≡ link_left rows k (Some a) x y
less_rows rows a k x y m ms got h (here e lt g) =
    less_row rows a k x y m ms got h e g (written (get_or rows a []) k (drop 1 (link rows a k)) [] y)
less_rows rows a k x y m ms got h (other n g) =
    let within = (link_is_in rows a k m ms h).0 in
    let two : eqb x a ≡ false = apart_is x a (λ e. let short = n e in omega (arith, short, within)) in
    let one : (eqb x a && eqb y k) ≡ false = rw two refl in
    rw one (ap (λ r. get_or r y []) g)

-- each link after the first item of one was fed to its node
pub link-rows_less : {M : Type 0} (rows : List (List (List M))) (a k x y : ℕ) (m : M) (ms : List M) → link rows a k ≡ m ∷ ms →
    link (rows_less rows a k) x y ≡ link_left rows k (Some a) x y
link-rows_less rows a k x y m ms h =
    less_rows rows a k x y m ms (get_or (rows_less rows a k) x []) h (written rows a (row_less (get_or rows a []) k) [] x)

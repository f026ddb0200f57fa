-- What one move changes in each node's acts and in what was taken and sent.
use Rattle.std.proofs.Common.{◌≡◌, ◌≢◌, ℕ, zero, suc, ◌<◌, ◌≤◌, true, false, List, [], ◌∷◌, ◌++◌, drop, refl, sym, ap, arith, eqb, cond}
use Rattle.std.proofs.lemmas.Bool.Decides.{nat_tests}
use Rattle.seam_machine.specs.Views.{Stepped}
use Rattle.seam_machine.specs.Sends.{items_to}
use Rattle.seam_machine.proofs.SendLemmas.{items_to-append}
use Rattle.seam_machine.specs.declared.machines.Input.{Input}
use Rattle.seam_stamp.specs.declared.Letter.{Letter}
use Rattle.seam_stamp.specs.Acts.{Act, sends, items, stamped, input_by}
use Rattle.seam_stamp.specs.Moves.{Move, own, Rises}

pub eq_yes : (a b : ℕ) → a ≡ b → eqb a b ≡ true
eq_yes a b e = grind (arith, nat_tests)

pub eq_no : (a b : ℕ) → a ≢ b → eqb a b ≡ false
eq_no a b e = grind (arith, nat_tests)

pub cancel : {X : Type 0} (xs ys zs : List X) → xs ++ ys ≡ xs ++ zs → ys ≡ zs
cancel [] ys zs e = e
cancel (x ∷ xs) ys zs e = cancel xs ys zs cc

pub items_append : {M : Type 0} (xs ys : List (Letter M)) → items (xs ++ ys) ≡ items xs ++ items ys
items_append [] ys = refl
items_append (x ∷ xs) ys = ap (λ l. x.item ∷ l) (items_append xs ys)

pub items_drop : {M : Type 0} (n : ℕ) (xs : List (Letter M)) → items (drop n xs) ≡ drop n (items xs)
items_drop zero xs = refl
items_drop (suc n) [] = refl
items_drop (suc n) (x ∷ xs) = items_drop n xs

pub items_stamped : {M : Type 0} (t b : ℕ) (ps : List (ℕ × M)) → items (items_to b (stamped t ps)) ≡ items_to b ps
items_stamped t b [] = refl
items_stamped t b (p ∷ ps) =
    elim (eqb p.0 b) as (λ y. items (cond y (record { stamp = t; item = p.1 } ∷ items_to b (stamped t ps)) (items_to b (stamped t ps)))
    ≡ cond y (p.1 ∷ items_to b ps) (items_to b ps)) [ true ↦ ap (λ l. p.1 ∷ l) (items_stamped t b ps) | false ↦ items_stamped t b ps ]

module _ {M : Type 0} (x : Move M) (xs : List (Move M)) where
  pub own_here : (k : ℕ) → x.node ≡ k → own k (x ∷ xs) ≡ x.act ∷ own k xs
  own_here k e = ap (λ y. cond y (x.act ∷ own k xs) (own k xs)) (eq_yes x.node k e)

  pub own_other : (k : ℕ) → x.node ≢ k → own k (x ∷ xs) ≡ own k xs
  own_other k e = ap (λ y. cond y (x.act ∷ own k xs) (own k xs)) (eq_no x.node k e)

-- each letter has at least this stamp
abbrev pub Late : {M : Type 0} → ℕ → List (Letter M) → Type 0
Late t [] = Unit {0}
Late t (l ∷ ls) = (t ≤ l.stamp) × Late t ls

abbrev pub LateActs : {M : Type 0} → ℕ → List (Act M) → Type 0
LateActs t [] = Unit {0}
LateActs t (d ∷ ds) = (t ≤ d.stamp) × LateActs t ds

late_append : {M : Type 0} (t : ℕ) (xs ys : List (Letter M)) → Late t xs → Late t ys → Late t (xs ++ ys)
late_append t [] ys a b = b
late_append t (x ∷ xs) ys a b = (a.0, late_append t xs ys a.1 b)

late_stamped : {M : Type 0} (t u b : ℕ) (ps : List (ℕ × M)) → t ≤ u → Late t (items_to b (stamped u ps))
late_stamped t u b [] h = tt
late_stamped t u b (p ∷ ps) h =
    elim (eqb p.0 b) as (λ y. Late t (cond y (record { stamp = u; item = p.1 } ∷ items_to b (stamped u ps)) (items_to b (stamped u ps))))
    [ true ↦ (h, late_stamped t u b ps h) | false ↦ late_stamped t u b ps h ]

-- what is sent by late steps is late
pub late_sends : {N M : Type 0} (steps : N → Input M → Stepped N M) (t b : ℕ) (s : N) (ds : List (Act M)) → LateActs t ds →
    Late t (items_to b (sends steps s ds))
late_sends steps t b s [] h = tt
late_sends steps t b s (d ∷ ds) h =
    let r = steps s (input_by d.took) in
    rw (items_to-append b (stamped d.stamp r.sent) (sends steps r.state ds))
    (late_append t (items_to b (stamped d.stamp r.sent)) (items_to b (sends steps r.state ds)) (late_stamped t d.stamp b r.sent h.0)
    (late_sends steps t b r.state ds h.1))

pub late_own : {M : Type 0} (n t u k : ℕ) (xs : List (Move M)) → u ≤ t → Rises n t xs → LateActs u (own k xs)
late_own n t u k [] le h = tt
late_own n t u k (x ∷ xs) le h =
    let here : u ≤ x.act.stamp = omega (arith, le, h.0) in
    let rest = late_own n x.act.stamp u k xs here h.2 in
    elim (eqb x.node k) as (λ y. LateActs u (cond y (x.act ∷ own k xs) (own k xs))) [ true ↦ (here, rest) | false ↦ rest ]

-- the letter that is taken first in the link, since what is sent later has a later stamp
pub first_of_links : {M : Type 0} (l : Letter M) (t : ℕ) (got zs sent : List (Letter M)) → l.stamp < t → Late t sent →
    l ∷ got ≡ zs ++ sent → zs ≡ l ∷ drop 1 zs
first_of_links l t got [] [] lt h e = absurd (cc)
first_of_links l t got [] (s ∷ sent) lt h e = let same : l ≡ s = cc in absurd (omega (arith, lt, h.0, ap (λ (x : Letter _). x.stamp) same))
first_of_links l t got (z ∷ zs) sent lt h e = let same : l ≡ z = cc in ap (λ x. x ∷ zs) (sym same)

-- An entry that comes to a book.
use Rattle.seam_law_ghosts.proofs.Prelude.{◌≡◌, ◌≤◌, ◌<◌, Bool, true, false, ltb, cond, Some, refl, arith, nat_tests, greater_entry, Entry}

-- the beat does not fall
greater_up_by : (a : Entry) (p : Entry) (t : Bool) → ltb a.0 p.0 ≡ t → a.0 ≤ (cond t p a).0
greater_up_by a p true is = let lt : a.0 < p.0 = grind (arith, nat_tests) in omega (arith, lt)
greater_up_by a p false is = omega arith

pub greater_up : (a p : Entry) → a.0 ≤ (greater_entry a (Some p)).0
greater_up a p = greater_up_by a p (ltb a.0 p.0) refl

-- an entry comes to the book: it has at least its beat then
greater_has_by : (a : Entry) (p : Entry) (t : Bool) → ltb a.0 p.0 ≡ t → p.0 ≤ (cond t p a).0
greater_has_by a p true is = omega arith
greater_has_by a p false is = let le : p.0 ≤ a.0 = grind (arith, nat_tests) in omega (arith, le)

pub greater_has : (a p : Entry) → p.0 ≤ (greater_entry a (Some p)).0
greater_has a p = greater_has_by a p (ltb a.0 p.0) refl

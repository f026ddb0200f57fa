-- A place that is settled at a position stays as it is when it is settled there again.
use Rattle.std.proofs.Common.{◌≡◌, ◌⊎◌, ◌≤◌, ℕ, Bool, true, false, not, nat_le, nat_lt, ◌==◌, ◌&&◌, ◌||◌, List, [], ◌∷◌, length}
use Rattle.std.proofs.Common.{if◌then◌else◌, refl, sym, ap, ◌∙◌, arith, inl, inr, IsTrue, ◌↔◌}
use Rattle.std.specs.FinSet as set
use Rattle.std.specs.Cmp.{nat_cmp_total}
use Rattle.std.proofs.lemmas.Bool.Decides.{nat_tests}
use Rattle.seam_geo.specs.declared.pos.Pos.{Pos}
use Rattle.seam_tree.specs.Division.{Division, area, cells_of, leaf_at}
use Rattle.seam_tree.specs.Cells.{Cells}
use Rattle.seam_tree.specs.Inverse.{contains_insert_nat}
use Rattle.seam_haunt.specs.Haunts.{IsHaunt, distance_to_cell, is_close, haunts_of}
use Rattle.seam_haunt.specs.Places.{Distances, Place, home_at, settled, settled_all, HasGhost, IsPlaceAfter, last_of}
use Rattle.seam_haunt.proofs.Chosen.{contains_haunts_of, haunts_of_each, or_true}

same_home_by : (near : ℕ → Bool) (home leaf : ℕ) (b : Bool) → near home ≡ b
    → (if near (if b then home else leaf) then (if b then home else leaf) else leaf) ≡ (if b then home else leaf)
same_home_by near home leaf true is = ap (λ (b : Bool). if b then home else leaf) is
same_home_by near home leaf false is = leaf_by (near leaf)
  where
    leaf_by : (b : Bool) → (if b then leaf else leaf) ≡ leaf
    leaf_by true = refl
    leaf_by false = refl

same_home : (kept : ℕ) (t : Division) (home : ℕ) (p : Pos) → home_at kept t (home_at kept t home p) p ≡ home_at kept t home p
same_home kept t home p =
    same_home_by (λ (c : ℕ). nat_le (distance_to_cell t c p) kept) home (leaf_at t p) (nat_le (distance_to_cell t home p) kept) refl

-- a cell is in the tree (i), the home (s), near (n), not too far (f), and had a ghost (o)
test_again : (i s n f o : Bool) → (i && (not s && (n || ((s || (i && (not s && (n || (o && f))))) && f))))
    ≡ (i && (not s && (n || (o && f))))
test_again false s n f o = refl
test_again true true n f o = refl
test_again true false true f o = refl
test_again true false false true true = refl
test_again true false false true false = refl
test_again true false false false true = refl
test_again true false false false false = refl

test_without_home : (i s n f o : Bool) → (i && (not s && (n || ((s || o) && f)))) ≡ (i && (not s && (n || (o && f))))
test_without_home false s n f o = refl
test_without_home true true n f o = refl
test_without_home true false n f o = refl

module _ (p : Pos) (home : ℕ) (t : Division) (near far : ℕ) where
  abbrev haunts : Cells → Cells
  haunts old = haunts_of p home old t near far

  abbrev passes : ℕ → Bool → Bool
  passes c had = nat_lt c (cells_of t) && (not (c == home) && is_close (area t c) p had near far)

  abbrev is_near : ℕ → Bool
  is_near c = nat_le (distance_to_cell t c p) near

  abbrev is_not_far : ℕ → Bool
  is_not_far c = nat_le (distance_to_cell t c p) far

  -- the home has no ghost, so whether it had one makes no difference
  pub haunts_without_home : (old : Cells) → haunts (set.insert old home) ≡ haunts old
  haunts_without_home old = set.same_set nat_cmp_total set.nat_cmp-IsAntisymmetric _ _ (λ c.
      contains_haunts_of p home (set.insert old home) t near far c
      ∙ ap (passes c) (contains_insert_nat old home c)
      ∙ test_without_home (nat_lt c (cells_of t)) (c == home) (is_near c) (is_not_far c) (set.contains old c)
      ∙ sym (contains_haunts_of p home old t near far c))

  -- the haunts of a position are those of what they were there
  pub haunts_again : (old : Cells) → haunts (set.insert (haunts old) home) ≡ haunts old
  haunts_again old = set.same_set nat_cmp_total set.nat_cmp-IsAntisymmetric _ _ (λ c.
      contains_haunts_of p home (set.insert (haunts old) home) t near far c
      ∙ ap (passes c) (contains_insert_nat (haunts old) home c
      ∙ ap (λ (b : Bool). (c == home) || b) (contains_haunts_of p home old t near far c))
      ∙ test_again (nat_lt c (cells_of t)) (c == home) (is_near c) (is_not_far c) (set.contains old c)
      ∙ sym (contains_haunts_of p home old t near far c))

pub settled_again : (d : Distances) (t : Division) (was : Place) (p : Pos) → settled d t (settled d t was p) p ≡ settled d t was p
settled_again d t was p =
    let home : ℕ = home_at d.kept t was.home p in
    let ghosts : Cells = haunts_of p home (set.insert was.ghosts was.home) t d.near d.far in
    ap (λ (c : ℕ). record { home = c; ghosts = haunts_of p c (set.insert ghosts home) t d.near d.far }) (same_home d.kept t was.home p)
    ∙ ap (λ (s : Cells). record { home = home; ghosts = s }) (haunts_again p home t d.near d.far (set.insert was.ghosts was.home))

all_settled : (d : Distances) (t : Division) (was : Place) (start : Pos) (path : List Pos)
    → settled d t (settled_all d t was (start ∷ path)) (last_of start path) ≡ settled_all d t was (start ∷ path)
all_settled d t was start [] = settled_again d t was start
all_settled d t was start (p ∷ path) = all_settled d t (settled d t was start) p path

rest_settled : (d : Distances) (t : Division) (was : Place) (start : Pos) (path : List Pos) → 1 ≤ length path
    → settled d t (settled_all d t was path) (last_of start path) ≡ settled_all d t was path
rest_settled d t was start [] some = absurd (omega arith)
rest_settled d t was start (p ∷ path) some = all_settled d t was p path

pub after_settled : (d : Distances) (t : Division) (was : Place) (start : Pos) (path : List Pos) (after : Place)
    → IsPlaceAfter d t was start path after → settled d t after (last_of start path) ≡ after
after_settled d t was start path after (inl is) =
    ap (λ (q : Place). settled d t q (last_of start path)) is ∙ all_settled d t was start path ∙ sym is
after_settled d t was start path after (inr (some, is)) =
    ap (λ (q : Place). settled d t q (last_of start path)) is ∙ rest_settled d t was start path some ∙ sym is

was_there : (k : Cells) (home c : ℕ) → IsTrue (set.contains (set.insert k home) c) → IsTrue (set.contains k c) ⊎ (c ≡ home)
was_there k home c held =
    elim (or_true (c == home) (set.contains k c) (sym (contains_insert_nat k home c) ∙ held)) [
      | inl e ↦ inr (grind (arith, nat_tests, e))
      | inr e ↦ inl e
    ]

is_there : (k : Cells) (home c : ℕ) → IsTrue (set.contains k c) ⊎ (c ≡ home) → IsTrue (set.contains (set.insert k home) c)
is_there k home c (inl e) = contains_insert_nat k home c ∙ grind (arith, nat_tests, e)
is_there k home c (inr e) = contains_insert_nat k home c ∙ grind (arith, nat_tests, e)

ghost_of : (d : Distances) (t : Division) (was : Place) (p : Pos) (c : ℕ)
    → IsHaunt p (home_at d.kept t was.home p) (set.insert was.ghosts was.home) t d.near d.far c → HasGhost d t was p c
ghost_of d t was p c h = record {
  there = h.there;
  away = h.away;
  close = elim h.close [ inl n ↦ inl n | inr both ↦ inr (was_there was.ghosts was.home c both.0, both.1) ];
}

haunt_of : (d : Distances) (t : Division) (was : Place) (p : Pos) (c : ℕ)
    → HasGhost d t was p c → IsHaunt p (home_at d.kept t was.home p) (set.insert was.ghosts was.home) t d.near d.far c
haunt_of d t was p c h = record {
  there = h.there;
  away = h.away;
  close = elim h.close [ inl n ↦ inl n | inr both ↦ inr (is_there was.ghosts was.home c both.0, both.1) ];
}

pub ghosts_settled : (d : Distances) (t : Division) (was : Place) (p : Pos) (c : ℕ)
    → IsTrue (set.contains (settled d t was p).ghosts c) ↔ HasGhost d t was p c
ghosts_settled d t was p c =
    let each : IsTrue (set.contains (settled d t was p).ghosts c)
    ↔ IsHaunt p (home_at d.kept t was.home p) (set.insert was.ghosts was.home) t d.near d.far c =
    haunts_of_each p (home_at d.kept t was.home p) (set.insert was.ghosts was.home) t d.near d.far c in
    (λ held. ghost_of d t was p c (each.0 held), λ h. each.1 (haunt_of d t was p c h))

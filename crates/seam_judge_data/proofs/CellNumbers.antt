-- Places of cells that a tree can have.
use Rattle.std.proofs.Common.{◌≡◌, ◌<◌, ◌≤◌, ℕ, Bool, true, false, nat_lt, refl, sym, ap, ◌∙◌, arith}
use Rattle.std.specs.Ordering.{nat_cmp}
use Rattle.std.specs.Cmp.{nat_cmp_total}
use Rattle.std.specs.FinSet as set
use Rattle.std.proofs.lemmas.Bool.Decides.{nat_tests}
use Rattle.seam_rule_rounds.specs.Prelude.{Cells, Place}
use Rattle.seam_judge_data.specs.Codes.{AreSmall}

pub none_are_small : (cells : Cells) → cells ≡ set.empty → AreSmall cells
none_are_small cells none c has =
    let no = sym (set.contains-empty nat_cmp c) ∙ ap (λ (s : Cells). set.contains s c) (sym none) ∙ has in
    absurd (cc)

beyond : (cells : Cells) → AreSmall cells → (c : ℕ) → 16 ≤ c → set.contains cells c ≡ false
beyond cells small c high = by (set.contains cells c) refl
  where
    by : (b : Bool) → set.contains cells c ≡ b → set.contains cells c ≡ false
    by true is = let low = small c is in absurd (omega (arith, low, high))
    by false is = is

-- places that agree about the home and about the first sixteen cells are the same
pub same_places : (p q : Place) (n : ℕ) → p.home ≡ q.home → AreSmall p.ghosts → AreSmall q.ghosts → 16 ≤ n →
    ((c : ℕ) → c < n → set.contains p.ghosts c ≡ set.contains q.ghosts c) → p ≡ q
same_places p q n home small other most each =
    let ghosts = set.same_set nat_cmp_total set.nat_cmp-IsAntisymmetric p.ghosts q.ghosts (λ c. by c (nat_lt c n) refl) in
    λ i. record { home = home i; ghosts = ghosts i }
  where
    by : (c : ℕ) (b : Bool) → nat_lt c n ≡ b → set.contains p.ghosts c ≡ set.contains q.ghosts c
    by c true is = let low : c < n = grind (arith, nat_tests, is) in each c low
    by c false is =
        let high : n ≤ c = grind (arith, nat_tests, is) in
        beyond p.ghosts small c (omega (arith, high, most)) ∙ sym (beyond q.ghosts other c (omega (arith, high, most)))

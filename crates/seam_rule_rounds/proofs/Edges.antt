-- The edges of places, of clients and of what is true in a round.
use Rattle.std.proofs.Common.{◌≡◌, ◌≤◌, ◌⊎◌, ℕ, zero, suc, Bool, true, false, refl, sym, ap, ◌∙◌, subst}
use Rattle.std.proofs.Common.{inl, inr, arith}
use Rattle.std.specs.Prelude.{pos, ◌==◌}
use Rattle.std.specs.FinSet as set
use Rattle.std.proofs.lemmas.Option.{same_Some, none-some}
use Rattle.std.proofs.lemmas.Bool.{true≢false}
use Rattle.seam_rule_rounds.specs.Prelude.{Value, Number, contains_insert_nat, value_at, Create, GhostCopy, in_first_cell, version_of}
use Rattle.seam_rule_rounds.specs.Prelude.{public_at, other_at, IsOther, header, halves, second, begun, ended, settled_at, with_ghost}
use Rattle.seam_rule_rounds.specs.Prelude.{copy_of_second}
use Rattle.seam_haunt.proofs.Chosen.{haunts_of_each}
use Rattle.seam_defs.specs.declared.flags.Part.TheVariants as part
use Rattle.seam_rule_rounds.specs.TwoChests.{at}
use Rattle.seam_rule_rounds.proofs.TwoChestsLegal.{is_in, not_in}

-- ---- ghosts

pub ghost_comes : set.contains (settled_at in_first_cell 4600).ghosts 1 ≡ true
ghost_comes = is_in 1 refl

pub no_ghost : ¬ (set.contains (settled_at in_first_cell 4599).ghosts 1 ≡ true)
no_ghost has = far ((haunts_of_each (at 4599) 0 (set.insert in_first_cell.ghosts 0) halves 400 420 1).0 has).close
  where
    far : (401 ≤ 400) ⊎ ((set.contains (set.insert in_first_cell.ghosts 0) 1 ≡ true) × (401 ≤ 420)) → ⊥
    far (inl near) = omega (arith, near)
    far (inr (had, near)) = true≢false (sym had ∙ not_in 0 1 refl)

had_ghost : set.contains (set.insert with_ghost.ghosts 0) 1 ≡ true
had_ghost = contains_insert_nat with_ghost.ghosts 0 1 ∙ is_in 1 refl

pub ghost_stays : set.contains (settled_at with_ghost 4580).ghosts 1 ≡ true
ghost_stays =
    (haunts_of_each (at 4580) 0 (set.insert with_ghost.ghosts 0) halves 400 420 1).1
    (record { there = omega arith; away = λ same. absurd (omega (arith, same)); close = inr (had_ghost, omega arith) })

pub ghost_goes : ¬ (set.contains (settled_at with_ghost 4579).ghosts 1 ≡ true)
ghost_goes has = far ((haunts_of_each (at 4579) 0 (set.insert with_ghost.ghosts 0) halves 400 420 1).0 has).close
  where
    far : (421 ≤ 400) ⊎ ((set.contains (set.insert with_ghost.ghosts 0) 1 ≡ true) × (421 ≤ 420)) → ⊥
    far (inl near) = omega (arith, near)
    far (inr (had, near)) = omega (arith, near)

-- ---- what is true

pub down : IsOther header begun ended 2 (copy_of_second 0 0)
down = record { made = second; is = refl; lived = refl; version = 0; had = (omega arith, omega arith); same = refl }

pub up : IsOther header begun ended 2 (copy_of_second 1 1)
up = record { made = second; is = refl; lived = refl; version = 1; had = (omega arith, omega arith); same = refl }

-- it was so at version 0 or 1
either : (copy : GhostCopy) (v : ℕ) → v ≤ 1 →
    copy ≡ other_at header second (ended.orders part.Cell 2) (public_at header second (ended.orders part.Cell 2) v) →
    (copy ≡ copy_of_second 0 0) ⊎ (copy ≡ copy_of_second 1 1)
either copy zero most same = inl same
either copy (suc zero) most same = inr same
either copy (suc (suc v)) most same = absurd (omega (arith, most))

seen_so : (copy : GhostCopy) → IsOther header begun ended 2 copy → (copy ≡ copy_of_second 0 0) ⊎ (copy ≡ copy_of_second 1 1)
seen_so copy so =
    let made : second ≡ so.made = same_Some second so.made so.is in
    either copy so.version (subst (λ (c : Create). so.version ≤ version_of ended.orders part.Cell c) (sym made) so.had.1)
    (subst (λ (c : Create). copy ≡ other_at header c (ended.orders part.Cell 2) (public_at header c (ended.orders part.Cell 2) so.version))
    (sym made) so.same)

-- whether the lid of a copy is up
lid_up : GhostCopy → Bool
lid_up copy = up_by (value_at copy.state.props 0)
  where
    up_by : Value → Bool
    up_by (Number (pos n)) = n == 1
    up_by v = false

wrong : (version n : ℕ) → (copy_of_second version n ≡ copy_of_second 0 0 → ⊥) → (copy_of_second version n ≡ copy_of_second 1 1 → ⊥) →
    ¬ (IsOther header begun ended 2 (copy_of_second version n))
wrong version n not_down not_up so = elim (seen_so (copy_of_second version n) so) [ inl is ↦ not_down is | inr is ↦ not_up is ]

version_is : (a b m n : ℕ) → copy_of_second a m ≡ copy_of_second b n → a ≡ b
version_is a b m n same = ap (λ (c : GhostCopy). c.version) same

pub not_up_before : ¬ (IsOther header begun ended 2 (copy_of_second 0 1))
unfolding lid_up
not_up_before = wrong 0 1 (λ same. true≢false (ap lid_up same)) (λ same. let version = version_is 0 1 1 1 same in omega (arith, version))

pub not_down_after : ¬ (IsOther header begun ended 2 (copy_of_second 1 0))
unfolding lid_up
not_down_after =
    wrong 1 0 (λ same. let version = version_is 1 0 0 0 same in omega (arith, version)) (λ same. true≢false (sym (ap lid_up same)))

pub not_later : ¬ (IsOther header begun ended 2 (copy_of_second 2 1))
not_later =
    wrong 2 1 (λ same. let version = version_is 2 0 1 0 same in omega (arith, version))
    (λ same. let version = version_is 2 1 1 1 same in omega (arith, version))

pub not_made : ¬ (IsOther header begun ended 3 (copy_of_second 0 0))
not_made so = none-some so.made so.is

-- How many links to each node hold something, as items are put and fed.
use Rattle.std.proofs.Common.{◌≡◌, ◌≢◌, ℕ, ◌+◌, ◌-◌, ◌<◌, ◌≤◌, List, [], ◌∷◌, length, get_or, set, take, refl, ap, ◌∙◌, arith, inl}
use Rattle.std.proofs.Common.{inr}
use Rattle.std.proofs.lemmas.Bool.{cases_eq}
use Rattle.std.proofs.lemmas.List.{length-set, get_or-set_same, get_or-set_other}
use Rattle.seam_machine.specs.Sends.{AllBelow}
use Rattle.seam_machine.specs.Inside.{filled, filled_to, CountsFit, Delivers, PutsRun}
use Rattle.seam_machine.proofs.Runs.{run_put, run_rest}
use Rattle.seam_machine.proofs.Totals.{total-take}

pub filled_one : {X : Type 0} (xs : List X) → filled xs ≤ 1
filled_one [] = omega arith
filled_one (x ∷ xs) = omega arith

pub filled-length : {X : Type 0} (xs : List X) → filled xs + (1 - length xs) ≡ 1
filled-length [] = omega arith
filled-length (x ∷ xs) = omega arith

-- one more row is looked at
pub filled_more : {M : Type 0} (b : ℕ) (rows : List (List (List M))) (i : ℕ) (r : List (List M)) → i < length rows → r ≡ get_or rows i r →
    filled_to b (take (i + 1) rows) ≡ filled_to b (take i rows) + (1 - (1 - length (get_or r b [])))
filled_more b rows i r h e =
    let one = total-take (λ r. filled (get_or r b [])) rows i r h in
    let two = ap (λ r. filled (get_or r b [])) e in
    let three = filled-length (get_or r b []) in
    omega (arith, one, two, three)

-- one link was changed, and holds something now
module _ {M : Type 0} (to : ℕ) (row row' : List (List M)) (row_is : row' ≡ set row to (get_or row' to []))
    (holds : 0 < length (get_or row' to [])) where
  filled_other : (b : ℕ) → b ≢ to → filled (get_or row' b []) ≡ filled (get_or row b [])
  filled_other b n = ap (λ r. filled (get_or r b [])) row_is ∙ ap filled (get_or-set_other row to b (get_or row' to []) [] n)

  -- the link held nothing before
  pub counts_filled : (busy busy' : List ℕ) → to < length busy → length (get_or row to []) ≡ 0 →
      busy' ≡ set busy to (get_or busy to 0 + 1) → (b : ℕ) →
      get_or busy' b 0 + filled (get_or row b []) ≡ get_or busy b 0 + filled (get_or row' b [])
  counts_filled busy busy' counted none busy_is b = elim (cases_eq b to) [
    | inl e ↦
        let new = ap (λ r. get_or r to 0) busy_is ∙ get_or-set_same busy to (get_or busy to 0 + 1) 0 counted in
        let before = filled-length (get_or row to []) in
        let now = filled-length (get_or row' to []) in
        rw e (omega (arith, now, new, before, none, holds))
    | inr ne ↦
        let one = ap (λ r. get_or r b 0) busy_is ∙ get_or-set_other busy to b (get_or busy to 0 + 1) 0 ne in
        let two = filled_other b ne in
        omega (arith, one, two)
  ]

  -- the link held something before
  pub counts_kept : (busy : List ℕ) → 0 < length (get_or row to []) → (b : ℕ) →
      get_or busy b 0 + filled (get_or row b []) ≡ get_or busy b 0 + filled (get_or row' b [])
  counts_kept busy some b = elim (cases_eq b to) [
    | inl e ↦
        let before = filled-length (get_or row to []) in
        let now = filled-length (get_or row' to []) in
        rw e (omega (arith, now, before, some, holds))
    | inr ne ↦ let two = filled_other b ne in omega (arith, two)
  ]

-- one more run of items was delivered
pub delivers_more : {M : Type 0} (row0 row row' : List (List M)) (out0 out out' : List (ℕ × M)) (busy0 busy busy' : List ℕ) (to : ℕ) →
    Delivers row0 out0 busy0 row out busy → to < length row → PutsRun to (get_or row to []) out (get_or row' to []) out' →
    row' ≡ set row to (get_or row' to []) → length busy' ≡ length busy →
    ((b : ℕ) → get_or busy' b 0 + filled (get_or row b []) ≡ get_or busy b 0 + filled (get_or row' b [])) →
    Delivers row0 out0 busy0 row' out' busy'
delivers_more row0 row row' out0 out out' busy0 busy busy' to d here p r len count = record {
  moved = run_put to row row' out out' here p r ∙ d.moved;
  wide = ap length r ∙ (length-set row to (get_or row' to []) ∙ d.wide);
  busy_len = len ∙ d.busy_len;
  targets = run_rest to (get_or row to []) (get_or row' to []) out out' p (length row0) d.targets;
  counts = λ k. let one = count k in let two = d.counts k in omega (arith, one, two);
  fits = λ k. let one = count k in let two = d.fits k in let three = filled_one (get_or row k []) in omega (arith, one, two, three);
}

pub delivers_none : {M : Type 0} (row : List (List M)) (out : List (ℕ × M)) (busy : List ℕ) → AllBelow (length row) out →
    CountsFit busy row → Delivers row out busy row out busy
delivers_none row out busy t f = record { moved = refl; wide = refl; busy_len = refl; targets = t; counts = λ b. refl; fits = f }

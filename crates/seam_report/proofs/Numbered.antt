-- The boundaries of a tree beside their numbers.
use Rattle.std.proofs.Common.{◌≡◌, ℕ, zero, suc, ◌+◌, ◌-◌, ◌≤◌, List, [], ◌∷◌, ◌++◌, length, take, Option, None, Some, refl, ap, sym, ◌∙◌}
use Rattle.std.proofs.Common.{arith}
use Rattle.std.proofs.Common.{append-nil}
use Rattle.std.specs.Prelude.{slice_get}
use Rattle.std.specs.Option.{option_map}
use Rattle.std.specs.List.{flat_map, zip, range_with_len}
use Rattle.std.proofs.lemmas.Bool.Decides.{nat_tests}
use Rattle.std.proofs.lemmas.Grind.{flat_map-append}
use Rattle.seam_tree.specs.declared.boundary.Boundary.{Boundary}
use Rattle.seam_rule_rounds.specs.Prelude.{Cut, Division, cut_number, bound_text}
use Rattle.seam_tree.specs.Division.{boundary_of}

module _ {X : Type 0} where
  beside_none : (ks : List ℕ) → zip ks (let xs : List X = [] in xs) ≡ []
  beside_none [] = refl
  beside_none (k ∷ ks) = refl

  -- the next item comes with the next number
  zip_next : (xs : List X) (first n : ℕ) (x : X) → slice_get xs n ≡ Some x →
      zip (range_with_len first (length xs)) (take (suc n) xs)
      ≡ zip (range_with_len first (length xs)) (take n xs) ++ (first + n, x) ∷ []
  zip_next [] first n x at = absurd (let z = at in cc)
  zip_next (y ∷ ys) first zero x at =
      let same : y ≡ x = cc in
      let here : first ≡ first + 0 = omega arith in
      ap (λ zs. (first, y) ∷ zs) (beside_none (range_with_len (first + 1) (length ys)))
      ∙ ap (λ z. (first, z) ∷ []) same ∙ ap (λ k. (k, x) ∷ []) here
  zip_next (y ∷ ys) first (suc n) x at =
      let later : first + 1 + n ≡ first + suc n = omega arith in
      ap (λ zs. (first, y) ∷ zs) (zip_next ys (first + 1) n x at
      ∙ ap (λ k. zip (range_with_len (first + 1) (length ys)) (take n ys) ++ (k, x) ∷ []) later)

-- the text of the boundaries below a number
abbrev pub text_below : Division → ℕ → List ℕ
text_below t n = flat_map bound_text (zip (range_with_len 1 (length t.cuts)) (take (n - 1) t.cuts))

-- the boundary of a number comes after those below it
pub next_bound : (t : Division) (n : ℕ) (b : Boundary) → 1 ≤ n → boundary_of t n ≡ Some b →
    (cut : Cut) × (cut.boundary ≡ b) × (text_below t (n + 1) ≡ text_below t n ++ bound_text (n, cut))
next_bound t n b from is = by_cut (slice_get t.cuts (n - 1)) refl (ap (option_map (λ (c : Cut). c.boundary)) (sym at) ∙ is) where
  at : cut_number t n ≡ slice_get t.cuts (n - 1)
  at = grind (arith, nat_tests)

  by_cut : (o : Option Cut) → slice_get t.cuts (n - 1) ≡ o → option_map (λ (c : Cut). c.boundary) o ≡ Some b →
      (cut : Cut) × (cut.boundary ≡ b) × (text_below t (n + 1) ≡ text_below t n ++ bound_text (n, cut))
  by_cut None found same = absurd (let z = same in cc)
  by_cut (Some cut) found same =
      let numbers = range_with_len 1 (length t.cuts) in
      let below = zip numbers (take (n - 1) t.cuts) in
      let up : n + 1 - 1 ≡ suc (n - 1) = omega (arith, from) in
      let here : 1 + (n - 1) ≡ n = omega (arith, from) in (
        cut,
        cc,
        ap (λ k. flat_map bound_text (zip numbers (take k t.cuts))) up
            ∙ ap (flat_map bound_text) (zip_next t.cuts 1 (n - 1) cut found)
            ∙ flat_map-append bound_text below ((1 + (n - 1), cut) ∷ [])
            ∙ ap (λ k. flat_map bound_text below ++ (bound_text (k, cut) ++ [])) here
            ∙ ap (λ text. flat_map bound_text below ++ text) (append-nil (bound_text (n, cut))),
      )

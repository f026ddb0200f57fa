-- What updates show, and one more of them.
use Rattle.std.proofs.Common.{◌≡◌, ℕ, suc, ◌+◌, ◌++◌, List, [], ◌∷◌, length, refl, ap, sym, ◌∙◌, append_assoc, arith}
use Rattle.seam_node_steps.specs.Prelude.{Shown, Msg, Update, numbered}
use Rattle.seam_cell_told.specs.Updates.{UpdatesView, shown_in, with_shown}

pub shown_twice : (u : UpdatesView) (xs ys : List Shown) → with_shown (with_shown u xs) ys ≡ with_shown u (xs ++ ys)
shown_twice u xs ys = ap (λ l. record u { shown = l }) (append_assoc u.shown xs ys)

module _ (b e : ℕ) where
  shown_of_numbered : (n : ℕ) (ss : List Shown) → shown_in (numbered b e n ss) ≡ ss
  shown_of_numbered n [] = refl
  shown_of_numbered n (s ∷ ss) = ap (λ l. s ∷ l) (shown_of_numbered (n + 1) ss)

  count_numbered : (n : ℕ) (ss : List Shown) → length (numbered b e n ss) ≡ length ss
  count_numbered n [] = refl
  count_numbered n (s ∷ ss) = ap suc (count_numbered (n + 1) ss)

  numbered_more : (n : ℕ) (ss : List Shown) (s : Shown) (k : ℕ) → k ≡ n + length ss + 1 →
      numbered b e n ss ++ (b, Update (record { entity = e; number = k; shown = s })) ∷ [] ≡ numbered b e n (ss ++ s ∷ [])
  numbered_more n [] s k is =
      let first : k ≡ n + 1 = omega (arith, is) in ap (λ x. (b, Update (record { entity = e; number = x; shown = s })) ∷ []) first
  numbered_more n (t ∷ ss) s k is =
      ap (λ l. (b, Update (record { entity = e; number = n + 1; shown = t })) ∷ l) (numbered_more (n + 1) ss s k (omega (arith, is)))

  module _ (n : ℕ) (ms : List (ℕ × Msg)) (are : ms ≡ numbered b e n (shown_in ms)) where
    pub count_shown : length ms ≡ length (shown_in ms)
    count_shown = ap length are ∙ count_numbered n (shown_in ms)

    module _ (s : Shown) (k : ℕ) (new : List (ℕ × Msg))
        (added : new ≡ ms ++ (b, Update (record { entity = e; number = k; shown = s })) ∷ []) (next : k ≡ n + length ms + 1) where
      one_more : new ≡ numbered b e n (shown_in ms ++ s ∷ [])
      one_more =
          added
          ∙ (ap (λ l. l ++ (b, Update (record { entity = e; number = k; shown = s })) ∷ []) are
          ∙ numbered_more n (shown_in ms) s k (omega (arith, next, count_shown)))

      pub more_shown : shown_in new ≡ shown_in ms ++ s ∷ []
      more_shown = ap shown_in one_more ∙ shown_of_numbered n (shown_in ms ++ s ∷ [])

      pub still_numbered : new ≡ numbered b e n (shown_in new)
      still_numbered = one_more ∙ ap (numbered b e n) (sym more_shown)

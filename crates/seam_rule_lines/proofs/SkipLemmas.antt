-- Lines without words.
use Rattle.std.proofs.Common.{◌≡◌, ◌≢◌, ◌+◌, ◌<◌, ℕ, Bool, true, false, List, [], ◌∷◌, ◌++◌, length, take, drop, get_or, refl, sym, ◌∙◌, ap}
use Rattle.std.proofs.Common.{subst, inl, inr, arith, add-one, drop-cons}
use Rattle.std.specs.Prelude.{◌&&◌, if◌then◌else◌, IsTrue, ◌==◌}
use Rattle.std.specs.List.{list_all}
use Rattle.std.proofs.lemmas.List.{take-append-drop}
use Rattle.std.proofs.lemmas.Bool.{false≢true}
use Rattle.std.proofs.lemmas.Grind.{common_steps}
use Rattle.seam_words.specs.Words.{is_blank, IsGap}
use Rattle.seam_rule_lines.specs.Language.{IsSkipped}

-- what comes after the blanks
after_blanks : List ℕ → List ℕ
after_blanks [] = []
after_blanks (b ∷ bytes) = if is_blank b then after_blanks bytes else b ∷ bytes

blank_then_gap : (b : ℕ) (gap : List ℕ) → IsGap (b ∷ gap) → (is_blank b ≡ true) × IsGap gap
blank_then_gap b gap h = split (is_blank b) (list_all is_blank gap) h
  where
    split : (x y : Bool) → (x && y) ≡ true → (x ≡ true) × (y ≡ true)
    split true y e = (refl, e)
    split false y e = absurd (false≢true e)

after_gap_of : (gap rest : List ℕ) → IsGap gap → after_blanks (gap ++ rest) ≡ after_blanks rest
unfolding after_blanks
after_gap_of [] rest h = refl
after_gap_of (b ∷ gap) rest h =
    let parts = blank_then_gap b gap h in
    ap (λ (x : Bool). if x then after_blanks (gap ++ rest) else b ∷ (gap ++ rest)) parts.0 ∙ after_gap_of gap rest parts.1

after_blanks_of_byte : (b : ℕ) (rest : List ℕ) → is_blank b ≡ false → after_blanks (b ∷ rest) ≡ b ∷ rest
unfolding after_blanks
after_blanks_of_byte b rest h = ap (λ (x : Bool). if x then after_blanks rest else b ∷ rest) h

after_blanks_of_gap : (gap : List ℕ) → IsGap gap → after_blanks gap ≡ []
unfolding after_blanks
after_blanks_of_gap [] h = refl
after_blanks_of_gap (b ∷ gap) h =
    let parts = blank_then_gap b gap h in
    ap (λ (x : Bool). if x then after_blanks gap else b ∷ gap) parts.0 ∙ after_blanks_of_gap gap parts.1

-- a line whose first byte that is no blank is no `#` has words
pub has_words_after_gap : (gap : List ℕ) (b : ℕ) (rest : List ℕ) → IsGap gap → is_blank b ≡ false → b ≢ 35 → ¬ (IsSkipped (gap ++ b ∷ rest))
has_words_after_gap gap b rest h no_blank no_note skipped =
    let here : after_blanks (gap ++ b ∷ rest) ≡ b ∷ rest = after_gap_of gap (b ∷ rest) h ∙ after_blanks_of_byte b rest no_blank in
    elim skipped.2 [
      | inl e ↦ (let none : b ∷ rest ≡ [] = sym here ∙ ap after_blanks e ∙ after_blanks_of_gap skipped.0 skipped.1 in cc)
      | inr n ↦ (let same : b ∷ rest ≡ 35 ∷ n.0 = sym here ∙ ap after_blanks n.1 ∙ after_gap_of skipped.0 (35 ∷ n.0) skipped.1
          ∙ after_blanks_of_byte 35 n.0 refl in
          no_note (cc))
    ]

-- what the first byte that is no blank decides
pub first_decides : (line : List ℕ) (i : ℕ) → i < length line → IsGap (take i line) → (is_blank (get_or line i 0) ≡ false) → (b : Bool) →
    (get_or line i 0 == 35) ≡ b → (IsTrue b → IsSkipped line) × (IsSkipped line → IsTrue b)
first_decides line i within gap no_blank true is =
    let b : get_or line i 0 ≡ 35 = grind (arith, common_steps) in
    let whole : line ≡ take i line ++ 35 ∷ drop (i + 1) line =
    sym (take-append-drop i line) ∙ ap (λ (xs : List ℕ). take i line ++ xs) (drop-cons line i 0 within ∙ rw (b, add-one) refl) in
    (λ t. (take i line, gap, inr (drop (i + 1) line, whole)), λ s. refl)
first_decides line i within gap no_blank false is =
    let b : get_or line i 0 ≢ 35 = λ e. grind (arith, common_steps) in
    let whole : line ≡ take i line ++ get_or line i 0 ∷ drop (i + 1) line =
    sym (take-append-drop i line) ∙ ap (λ (xs : List ℕ). take i line ++ xs) (drop-cons line i 0 within ∙ rw add-one refl) in (
      λ t. absurd (false≢true t),
      λ s. absurd (has_words_after_gap (take i line) (get_or line i 0) (drop (i + 1) line) gap no_blank b (subst IsSkipped whole s)),
    )

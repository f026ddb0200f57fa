-- Lines of a range of numbers, and a line that was made.
use Rattle.std.proofs.Common.{◌≡◌, ◌≢◌, ℕ, zero, suc, ◌+◌, ◌-◌, ◌<◌, ◌≤◌, List, [], ◌∷◌, ◌++◌, length, drop, refl, sym, ap, ◌∙◌, arith}
use Rattle.std.specs.List.{flat_map, range_with_len}
use Rattle.std.proofs.lemmas.Grind.{flat_map-append}
use Rattle.std.proofs.lemmas.List.{append-nil, append_assoc, drop_all}
use Rattle.std.proofs.lemmas.List.Concat.{flat_map-cons}
use Rattle.seam_storm.specs.Storm.{drawn_line, sync_after, seed_after, lines_text}

range_more : (a n j : ℕ) → a + n ≡ j → range_with_len a (n + 1) ≡ range_with_len a n ++ j ∷ []
range_more a zero j e = let h : a ≡ j = omega (arith, e) in ap (λ x. x ∷ []) h
range_more a (suc n) j e =
    let h : suc n + 1 ≡ suc (n + 1) = omega arith in
    ap (range_with_len a) h ∙ ap (λ l. a ∷ l) (range_more (a + 1) n j (omega (arith, e)))

flat_more : (f : ℕ → List ℕ) (a n j : ℕ) → a + n ≡ j → flat_map f (range_with_len a (n + 1)) ≡ flat_map f (range_with_len a n) ++ f j
flat_more f a n j e =
    ap (flat_map f) (range_more a n j e)
    ∙ (flat_map-append f (range_with_len a n) (j ∷ [])
    ∙ ap (λ l. flat_map f (range_with_len a n) ++ l) (flat_map-cons f j [] ∙ append-nil (f j)))

-- one more line was appended
pub line_more : (f : ℕ → List ℕ) (before text text' : List ℕ) (e : ℕ) → 0 < e → text ≡ before ++ flat_map f (range_with_len 1 (e - 1)) →
    text' ≡ text ++ f e → text' ≡ before ++ flat_map f (range_with_len 1 (e + 1 - 1))
line_more f before text text' e low is more =
    let n : e + 1 - 1 ≡ (e - 1) + 1 = omega (arith, low) in
    more
    ∙ (ap (λ l. l ++ f e) is
    ∙ (append_assoc before (flat_map f (range_with_len 1 (e - 1))) (f e)
    ∙ ap (λ l. before ++ l) (sym (ap (λ k. flat_map f (range_with_len 1 k)) n ∙ flat_more f 1 (e - 1) e (omega (arith, low))))))

-- the line that was made is the first of those that were left
pub made_same : (line line' : List ℕ) (at left number seed seed' : ℕ) → length line ≤ at → left ≢ 0 →
    line' ≡ drawn_line seed ++ sync_after number → seed' ≡ seed_after seed →
    drop 0 line' ++ lines_text (left - 1) (number + 1) seed' ≡ drop at line ++ lines_text left number seed
made_same line line' at zero number seed seed' past some is moved = absurd (some refl)
made_same line line' at (suc left) number seed seed' past some is moved =
    let n : suc left - 1 ≡ left = omega arith in
    ap (λ k. drop 0 line' ++ lines_text k (number + 1) seed') n
    ∙ (ap (λ x. drop 0 line' ++ lines_text left (number + 1) x) moved
    ∙ (ap (λ l. l ++ lines_text left (number + 1) (seed_after seed)) is
    ∙ ap (λ l. l ++ lines_text (suc left) number seed) (sym (drop_all at line past))))

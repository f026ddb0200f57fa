-- The text of a round, line by line, up to its last line.
use Rattle.std.proofs.Common.{◌≡◌, ◌≢◌, ℕ, ◌-◌, List, [], ◌∷◌, ◌++◌, length, take, drop, refl, sym, ◌∙◌, ap, arith, inl, inr}
use Rattle.std.proofs.Common.{append_assoc, length-append}
use Rattle.std.proofs.lemmas.List.{drop_at}
use Rattle.seam_defs.specs.Types.{AreDefs}
use Rattle.seam_defs.specs.declared.types.TypeDef.{TypeDef}
use Rattle.seam_rule_rounds.specs.Prelude.{RoundData, round_text}
use Rattle.seam_law_texts.specs.Words.{HasNoFeed, spaced}
use Rattle.seam_law_texts.specs.declared.kinds.Kind.{Kind}
use Rattle.seam_law_texts.specs.declared.kinds.Kind.TheVariants.{Begin, Did, Dob, Home, Base, Ghost, To, Bound, End}
use Rattle.seam_law_texts.specs.TextLines.{LineData, TextLine, line, line_text, lines_of, lines_text, data_words, word_of}
use Rattle.seam_law_texts.proofs.Beginnings.{EndOnce, lines_end}
use Rattle.seam_law_texts.proofs.Content.{line_has_none, rest_is_spaced}
use Rattle.seam_law_texts.proofs.Sequence.{some_text}
use Rattle.seam_law_texts.proofs.Spelling.{kind_is_word, said_words_are}
use Rattle.seam_law_texts.proofs.Writing.{text_is}

-- what is left of a round's text: lines of which the last alone ends the round, and what comes after them
pub record ToEnd (defs : List TypeDef) (rest after : List ℕ) : Type 0 where
  pub lines : List TextLine
  pub ends : EndOnce lines
  pub is : rest ≡ lines_text defs lines after

pub to_begin : (defs : List TypeDef) (text : List ℕ) (r : RoundData) (after : List ℕ) → text ≡ round_text defs r ++ after →
    ToEnd defs text after
to_begin defs text r after is = record { lines = lines_of r; ends = lines_end r; is = is ∙ text_is defs r after }

-- something is left
pub some_left : (defs : List TypeDef) (rest after : List ℕ) → rest ≡ [] → ToEnd defs rest after → ⊥
some_left defs rest after none left = by left.lines left.ends left.is
  where
    by : (ls : List TextLine) → EndOnce ls → rest ≡ lines_text defs ls after → ⊥
    by [] ends is = ends
    by (l ∷ ls) ends is = some_text (word_of l.kind) (data_words defs l.kind l.body) (lines_text defs ls after) (sym none ∙ is)

-- the first line without its line feed, and what comes after it
line_is : (defs : List TypeDef) (l : TextLine) (after : List ℕ) →
    line_text defs l after ≡ (word_of l.kind ++ spaced (data_words defs l.kind l.body)) ++ 10 ∷ after
line_is defs l after =
    let words = data_words defs l.kind l.body in
    ap (λ (t : List ℕ). word_of l.kind ++ t) (rest_is_spaced words after)
    ∙ sym (append_assoc (word_of l.kind) (spaced words) (10 ∷ after))

-- ---- the line that ends a round

end_begins : (defs : List TypeDef) (l : TextLine) (after : List ℕ) → l.kind ≡ End →
    (rest : List ℕ) × (line_text defs l after ≡ 101 ∷ 110 ∷ 100 ∷ 32 ∷ rest)
end_begins defs l after is = by l.kind l.body is
  where
    by : (k : Kind) (x : LineData k) → k ≡ End → (rest : List ℕ) × (line_text defs (line k x) after ≡ 101 ∷ 110 ∷ 100 ∷ 32 ∷ rest)
    by End n at = (_, refl)
    by Begin x at = cc
    by Did x at = cc
    by Dob x at = cc
    by Home x at = cc
    by Base x at = cc
    by Ghost x at = cc
    by To x at = cc
    by Bound x at = cc

first_byte : (b : ℕ) (xs ys : List ℕ) → b ∷ xs ≡ 101 ∷ ys → b ≢ 101 → ⊥
first_byte b xs ys e other = other (cc)

no_other_begins : (defs : List TypeDef) (l : TextLine) (after rest : List ℕ) → l.kind ≢ End →
    line_text defs l after ≡ 101 ∷ 110 ∷ 100 ∷ 32 ∷ rest → ⊥
no_other_begins defs l after rest other is = by l.kind l.body other is
  where
    by : (k : Kind) (x : LineData k) → k ≢ End → line_text defs (line k x) after ≡ 101 ∷ 110 ∷ 100 ∷ 32 ∷ rest → ⊥
    by End n never at = never refl
    by Begin x never at = first_byte 114 _ _ at (λ same. omega (arith, same))
    by Did x never at = first_byte 100 _ _ at (λ same. omega (arith, same))
    by Dob x never at = first_byte 100 _ _ at (λ same. omega (arith, same))
    by Home x never at = first_byte 104 _ _ at (λ same. omega (arith, same))
    by Base x never at = first_byte 98 _ _ at (λ same. omega (arith, same))
    by Ghost x never at = first_byte 103 _ _ at (λ same. omega (arith, same))
    by To x never at = first_byte 116 _ _ at (λ same. omega (arith, same))
    by Bound x never at = first_byte 98 _ _ at (λ same. omega (arith, same))

module _ (defs : List TypeDef) (are : AreDefs defs) (rest after others : List ℕ)
    (told : (content more : List ℕ) → HasNoFeed content → rest ≡ content ++ 10 ∷ more → others ≡ more)
  where
    first_told : (l : TextLine) (more : List ℕ) → rest ≡ line_text defs l more → others ≡ more
    first_told l more is =
        told (word_of l.kind ++ spaced (data_words defs l.kind l.body)) more
        (line_has_none (word_of l.kind) (data_words defs l.kind l.body) (kind_is_word l.kind) (said_words_are defs are l.kind l.body))
        (is ∙ line_is defs l more)

    -- after another line more lines come
    pub to_go_on : ((tail : List ℕ) → rest ≢ 101 ∷ 110 ∷ 100 ∷ 32 ∷ tail) → ToEnd defs rest after → ToEnd defs others after
    to_go_on other left = by left.lines left.ends left.is
      where
        by : (ls : List TextLine) → EndOnce ls → rest ≡ lines_text defs ls after → ToEnd defs others after
        by [] ends is = absurd ends
        by (l ∷ ls) (inl (last, none)) is =
            let begins = end_begins defs l (lines_text defs ls after) last in
            absurd (other begins.0 (is ∙ begins.1))
        by (l ∷ ls) (inr (no_end, ends)) is =
            record { lines = ls; ends = ends; is = first_told l (lines_text defs ls after) is }

    -- after the last line the text comes that is not the round's
    pub to_end : (tail : List ℕ) → rest ≡ 101 ∷ 110 ∷ 100 ∷ 32 ∷ tail → ToEnd defs rest after → others ≡ after
    to_end tail begins left = by left.lines left.ends left.is
      where
        by : (ls : List TextLine) → EndOnce ls → rest ≡ lines_text defs ls after → others ≡ after
        by [] ends is = absurd ends
        by (l ∷ ls) (inl (last, none)) is =
            first_told l (lines_text defs ls after) is ∙ ap (λ (xs : List TextLine). lines_text defs xs after) none
        by (l ∷ ls) (inr (no_end, ends)) is =
            absurd (no_other_begins defs l (lines_text defs ls after) tail no_end (sym is ∙ begins))

-- ---- the piece

-- the text of a round begins one
pub round_begins : (defs : List TypeDef) (r : RoundData) (after : List ℕ) →
    (rest : List ℕ) × (round_text defs r ++ after ≡ 114 ∷ 111 ∷ 117 ∷ 110 ∷ 100 ∷ 32 ∷ rest)
round_begins defs r after = (_, text_is defs r after)

take_front : (xs ys : List ℕ) → take (length xs) (xs ++ ys) ≡ xs
take_front [] ys = refl
take_front (x ∷ xs) ys = λ i. x ∷ take_front xs ys i

-- what comes before the rest, and the rest
module _ (text front rest after : List ℕ) (whole : text ≡ front ++ after) (same : rest ≡ after) where
  count : length text - length rest ≡ length front
  count =
      let long = ap length whole ∙ length-append front after in
      let short = ap length same in
      omega (arith, long, short)

  pub front_is : take (length text - length rest) text ≡ front
  front_is = (λ i. take (count i) (whole i)) ∙ take_front front after

  pub rest_is : drop (length text - length rest) text ≡ after
  rest_is = (λ i. drop (count i) (whole i)) ∙ drop_at front after (length front) refl

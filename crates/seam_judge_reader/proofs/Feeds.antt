-- Where the first line of a text ends.
use Rattle.std.proofs.Common.{◌≡◌, ◌≢◌, ℕ, ◌+◌, ◌-◌, ◌<◌, Bool, true, false, not, ◌&&◌, ◌==◌, List, [], ◌∷◌, ◌++◌, length, take, refl}
use Rattle.std.proofs.Common.{sym, ◌∙◌, arith, ap, append_assoc, length-append}
use Rattle.std.proofs.lemmas.Bool.Decides.{nat_tests}
use Rattle.seam_law_texts.specs.Words.{HasNoFeed}

and_left : (a b : Bool) → (a && b) ≡ true → a ≡ true
and_left true b h = refl
and_left false b h = cc

and_right : (a b : Bool) → (a && b) ≡ true → b ≡ true
and_right true b h = h
and_right false b h = cc

head_is : (b c : ℕ) (xs ys : List ℕ) → b ∷ xs ≡ c ∷ ys → b ≡ c
head_is b c xs ys e = cc

tail_is : (b c : ℕ) (xs ys : List ℕ) → b ∷ xs ≡ c ∷ ys → xs ≡ ys
tail_is b c xs ys e = cc

no_feed : (b : ℕ) → not (b == 10) ≡ true → b ≡ 10 → ⊥
no_feed b none is = grind (arith, nat_tests, none, is)

-- what is left of the first line, and what comes after it
pub record Left (rest after : List ℕ) : Type 0 where
  pub more : List ℕ
  pub none : HasNoFeed more
  pub is : rest ≡ more ++ 10 ∷ after

pub one_more : (rest others after : List ℕ) (byte : ℕ) → rest ≡ byte ∷ others → (byte ≡ 10 → ⊥) → Left rest after → Left others after
one_more rest others after byte begins other left = by left.more left.none (sym begins ∙ left.is)
  where
    by : (more : List ℕ) → HasNoFeed more → byte ∷ others ≡ more ++ 10 ∷ after → Left others after
    by [] none e = absurd (other (head_is byte 10 others after e))
    by (c ∷ more) none e =
        record { more = more; none = and_right _ _ none; is = tail_is byte c others (more ++ 10 ∷ after) e }

pub at_feed : (rest others after : List ℕ) (byte : ℕ) → rest ≡ byte ∷ others → byte ≡ 10 → Left rest after → others ≡ after
at_feed rest others after byte begins feed left = by left.more left.none (sym begins ∙ left.is)
  where
    by : (more : List ℕ) → HasNoFeed more → byte ∷ others ≡ more ++ 10 ∷ after → others ≡ after
    by [] none e = tail_is byte 10 others after e
    by (c ∷ more) none e =
        absurd (no_feed c (and_left _ _ none) (sym (head_is byte c others (more ++ 10 ∷ after) e) ∙ feed))

pub no_end : (rest after : List ℕ) → rest ≡ [] → Left rest after → rest ≡ after
no_end rest after none left = by left.more (sym none ∙ left.is)
  where
    by : (more : List ℕ) → [] ≡ more ++ 10 ∷ after → rest ≡ after
    by [] e = absurd (cc)
    by (c ∷ more) e = absurd (cc)

take_front : (xs ys : List ℕ) → take (length xs) (xs ++ ys) ≡ xs
take_front [] ys = refl
take_front (x ∷ xs) ys = λ i. x ∷ take_front xs ys i

-- the first line with its feed is what comes before the rest
pub line_before : (text line after rest : List ℕ) → text ≡ line ++ 10 ∷ after → rest ≡ after →
    take (length text - length rest) text ≡ line ++ 10 ∷ []
line_before text line after rest e same =
    let whole : text ≡ (line ++ 10 ∷ []) ++ after = e ∙ sym (append_assoc line (10 ∷ []) after) in
    let long : length text ≡ length (line ++ 10 ∷ []) + length after = ap length whole ∙ length-append (line ++ 10 ∷ []) after in
    let short : length rest ≡ length after = ap length same in
    let count : length text - length rest ≡ length (line ++ 10 ∷ []) = omega (arith, long, short) in
    (λ i. take (count i) (whole i)) ∙ take_front (line ++ 10 ∷ []) after

pub none_left : (xs : List ℕ) → length xs ≡ 0 → xs ≡ []
none_left [] e = refl
none_left (x ∷ xs) e = absurd (omega (arith, e))

pub some_long : (xs : List ℕ) → xs ≢ [] → 0 < length xs
some_long [] some = absurd (some refl)
some_long (x ∷ xs) some = omega arith

pub empty_is : (xs : List ℕ) (b : Bool) → b ≡ (length xs == 0) → b ≡ true → xs ≡ []
empty_is xs b is at = none_left xs (grind (arith, nat_tests, is, at))

pub some_is_left : (xs : List ℕ) (b : Bool) → b ≡ (length xs == 0) → b ≡ false → xs ≢ []
some_is_left xs b is at none = grind (arith, nat_tests, is, at, ap length none)

-- A line is one list of words.
use Rattle.std.proofs.Common.{◌≡◌, ℕ, Bool, true, false, ◌&&◌, List, [], ◌∷◌, ◌++◌, refl, sym, ◌∙◌, ap, arith, inl, inr, append_assoc}
use Rattle.std.specs.List.{flat_map}
use Rattle.std.proofs.lemmas.Grind.{common_steps}
use Rattle.seam_value.specs.Texts.{spelled_byte, quoted}
use Rattle.seam_value.proofs.Spellings.{same_byte}
use Rattle.seam_law_texts.specs.Words.{is_plain, ArePlain, IsWord, AreWords, rest_of_line}

-- it begins with a byte that is not plain
record Ends (text : List ℕ) : Type 0 where
  byte : ℕ
  rest : List ℕ
  is : text ≡ byte ∷ rest
  not_plain : is_plain byte ≡ false

and_left : (a b : Bool) → (a && b) ≡ true → a ≡ true
and_left true b h = refl
and_left false b h = cc

and_right : (a b : Bool) → (a && b) ≡ true → b ≡ true
and_right true b h = h
and_right false b h = cc

first_is : (b c : ℕ) (xs ys : List ℕ) → b ∷ xs ≡ c ∷ ys → b ≡ c
first_is b c xs ys e = cc

rest_is : (b c : ℕ) (xs ys : List ℕ) → b ∷ xs ≡ c ∷ ys → xs ≡ ys
rest_is b c xs ys e = cc

not_both : (b c : ℕ) → is_plain b ≡ false → is_plain c ≡ true → b ≡ c → ⊥
not_both b c lacks has same = let other : is_plain c ≡ false = ap is_plain (sym same) ∙ lacks in cc

-- plain bytes end where the first other one comes
same_front : (f g xs ys : List ℕ) → ArePlain f → ArePlain g → Ends xs → Ends ys → f ++ xs ≡ g ++ ys → (f ≡ g) × (xs ≡ ys)
same_front [] [] xs ys pf pg ex ey e = (refl, e)
same_front [] (c ∷ g) xs ys pf pg ex ey e =
    absurd (not_both ex.byte c ex.not_plain (and_left _ _ pg) (first_is _ _ _ _ (sym ex.is ∙ e)))
same_front (b ∷ f) [] xs ys pf pg ex ey e =
    absurd (not_both ey.byte b ey.not_plain (and_left _ _ pf) (first_is _ _ _ _ (sym ey.is ∙ sym e)))
same_front (b ∷ f) (c ∷ g) xs ys pf pg ex ey e =
    let first = first_is b c (f ++ xs) (g ++ ys) e in
    let more = same_front f g xs ys (and_right _ _ pf) (and_right _ _ pg) ex ey (rest_is b c (f ++ xs) (g ++ ys) e) in
    ((λ i. first i ∷ more.0 i), more.1)

-- ---- quotes

-- a quote is no spelled byte
no_quote_spelled : (b : ℕ) (xs ys : List ℕ) → 34 ∷ ys ≡ spelled_byte b ++ xs → ⊥
no_quote_spelled b xs ys e = grind (arith, common_steps)

-- a text in quotes ends with its quote
same_content : (c d xs ys : List ℕ) → flat_map spelled_byte c ++ 34 ∷ xs ≡ flat_map spelled_byte d ++ 34 ∷ ys → (c ≡ d) × (xs ≡ ys)
same_content [] [] xs ys e = (refl, rest_is 34 34 xs ys e)
same_content [] (b ∷ d) xs ys e =
    absurd (no_quote_spelled b _ xs (e ∙ append_assoc (spelled_byte b) (flat_map spelled_byte d) (34 ∷ ys)))
same_content (b ∷ c) [] xs ys e =
    absurd (no_quote_spelled b _ ys (sym e ∙ append_assoc (spelled_byte b) (flat_map spelled_byte c) (34 ∷ xs)))
same_content (a ∷ c) (b ∷ d) xs ys e =
    let both =
    same_byte a b _ _ (sym (append_assoc (spelled_byte a) (flat_map spelled_byte c) (34 ∷ xs)) ∙ e
    ∙ append_assoc (spelled_byte b) (flat_map spelled_byte d) (34 ∷ ys)) in
    let more = same_content c d xs ys both.1 in
    ((λ i. both.0 i ∷ more.0 i), more.1)

pub after_quotes : (c xs : List ℕ) → quoted c ++ xs ≡ 34 ∷ (flat_map spelled_byte c ++ 34 ∷ xs)
unfolding quoted
after_quotes c xs = ap (λ (t : List ℕ). 34 ∷ t) (append_assoc (flat_map spelled_byte c) (34 ∷ []) xs)

same_quoted : (c d xs ys : List ℕ) → quoted c ++ xs ≡ quoted d ++ ys → (c ≡ d) × (xs ≡ ys)
same_quoted c d xs ys e =
    same_content c d xs ys (rest_is 34 34 _ _ (sym (after_quotes c xs) ∙ e ∙ after_quotes d ys))

quotes_end : (c xs : List ℕ) → Ends (quoted c ++ xs)
quotes_end c xs = record { byte = 34; rest = flat_map spelled_byte c ++ 34 ∷ xs; is = after_quotes c xs; not_plain = refl }

-- ---- words

-- what comes after a word: a space or a line feed
record EndsWord (text : List ℕ) : Type 0 where
  ends : Ends text
  no_quote : (rest : List ℕ) → text ≡ 34 ∷ rest → ⊥

rest_ends : (words : List (List ℕ)) (after : List ℕ) → EndsWord (rest_of_line words after)
rest_ends [] after = record {
  ends = record { byte = 10; rest = after; is = refl; not_plain = refl };
  no_quote = λ rest e. omega (arith, first_is 10 34 after rest e);
}
rest_ends (word ∷ words) after = record {
  ends = record { byte = 32; rest = word ++ rest_of_line words after; is = refl; not_plain = refl };
  no_quote = λ rest e. omega (arith, first_is 32 34 (word ++ rest_of_line words after) rest e);
}

-- plain bytes against plain bytes and a text in quotes
plain_is_not_quoted : (f g c xs ys : List ℕ) → ArePlain f → ArePlain g → EndsWord xs → f ++ xs ≡ (g ++ quoted c) ++ ys → ⊥
plain_is_not_quoted f g c xs ys pf pg ex e =
    let both = same_front f g xs (quoted c ++ ys) pf pg ex.ends (quotes_end c ys) (e ∙ append_assoc g (quoted c) ys) in
    ex.no_quote _ (both.1 ∙ after_quotes c ys)

same_word : (w v xs ys : List ℕ) → IsWord w → IsWord v → EndsWord xs → EndsWord ys → w ++ xs ≡ v ++ ys → (w ≡ v) × (xs ≡ ys)
same_word w v xs ys (f, pf, inl at) (g, pg, inl is) ex ey e =
    let both =
    same_front f g xs ys pf pg ex.ends ey.ends (ap (λ (t : List ℕ). t ++ xs) (sym at) ∙ e ∙ ap (λ (t : List ℕ). t ++ ys) is) in
    (at ∙ both.0 ∙ sym is, both.1)
same_word w v xs ys (f, pf, inl at) (g, pg, inr (c, is)) ex ey e =
    absurd (plain_is_not_quoted f g c xs ys pf pg ex
    (ap (λ (t : List ℕ). t ++ xs) (sym at) ∙ e ∙ ap (λ (t : List ℕ). t ++ ys) is))
same_word w v xs ys (f, pf, inr (c, at)) (g, pg, inl is) ex ey e =
    absurd (plain_is_not_quoted g f c ys xs pg pf ey
    (ap (λ (t : List ℕ). t ++ ys) (sym is) ∙ sym e ∙ ap (λ (t : List ℕ). t ++ xs) at))
same_word w v xs ys (f, pf, inr (c, at)) (g, pg, inr (d, is)) ex ey e =
    let fronts =
    same_front f g (quoted c ++ xs) (quoted d ++ ys) pf pg (quotes_end c xs) (quotes_end d ys)
    (sym (append_assoc f (quoted c) xs) ∙ ap (λ (t : List ℕ). t ++ xs) (sym at) ∙ e ∙ ap (λ (t : List ℕ). t ++ ys) is
    ∙ append_assoc g (quoted d) ys) in
    let contents = same_quoted c d xs ys fronts.1 in
    (at ∙ (λ i. fronts.0 i ++ quoted (contents.0 i)) ∙ sym is, contents.1)

-- the rest of a line is one list of words, and what comes after it is one text
pub same_rest : (ws vs : List (List ℕ)) (xs ys : List ℕ) → AreWords ws → AreWords vs → rest_of_line ws xs ≡ rest_of_line vs ys →
    (ws ≡ vs) × (xs ≡ ys)
same_rest [] [] xs ys pw pv e = (refl, rest_is 10 10 xs ys e)
same_rest [] (v ∷ vs) xs ys pw pv e = absurd (omega (arith, first_is 10 32 xs (v ++ rest_of_line vs ys) e))
same_rest (w ∷ ws) [] xs ys pw pv e = absurd (omega (arith, first_is 32 10 (w ++ rest_of_line ws xs) ys e))
same_rest (w ∷ ws) (v ∷ vs) xs ys pw pv e =
    let both =
    same_word w v (rest_of_line ws xs) (rest_of_line vs ys) pw.0 pv.0 (rest_ends ws xs) (rest_ends vs ys)
    (rest_is 32 32 (w ++ rest_of_line ws xs) (v ++ rest_of_line vs ys) e) in
    let more = same_rest ws vs xs ys pw.1 pv.1 both.1 in
    ((λ i. both.0 i ∷ more.0 i), more.1)

-- a line is one list of words, and what comes after it is one text
pub same_words : (w v : List ℕ) (ws vs : List (List ℕ)) (xs ys : List ℕ) → IsWord w → IsWord v → AreWords ws → AreWords vs →
    w ++ rest_of_line ws xs ≡ v ++ rest_of_line vs ys → (w ≡ v) × (ws ≡ vs) × (xs ≡ ys)
same_words w v ws vs xs ys pw pv pws pvs e =
    let both = same_word w v (rest_of_line ws xs) (rest_of_line vs ys) pw pv (rest_ends ws xs) (rest_ends vs ys) e in
    let more = same_rest ws vs xs ys pws pvs both.1 in
    (both.0, more.0, more.1)

-- The content of a line: its words, and no line feed.
use Rattle.std.proofs.Common.{◌≡◌, ℕ, Bool, true, false, ◌&&◌, ◌==◌, not, List, [], ◌∷◌, ◌++◌, refl, sym, ◌∙◌, ap, arith, inl, inr}
use Rattle.std.proofs.Common.{append_assoc, subst, flat_map}
use Rattle.std.proofs.lemmas.Grind.{common_steps}
use Rattle.std.proofs.lemmas.List.Folds.{list_all-append}
use Rattle.seam_value.specs.Texts.{spelled_byte, quoted}
use Rattle.seam_law_texts.specs.Words.{is_plain, ArePlain, IsWord, AreWords, spaced, rest_of_line, HasNoFeed}

both : (a b : Bool) → a ≡ true → b ≡ true → (a && b) ≡ true
both true b p q = q
both false b p q = absurd (cc)

-- the rest of a line is its further words, the line feed, and what comes after it
pub rest_is_spaced : (words : List (List ℕ)) (after : List ℕ) → rest_of_line words after ≡ spaced words ++ 10 ∷ after
rest_is_spaced [] after = refl
rest_is_spaced (w ∷ words) after =
    ap (λ (t : List ℕ). 32 ∷ w ++ t) (rest_is_spaced words after)
    ∙ ap (λ (t : List ℕ). 32 ∷ t) (sym (append_assoc w (spaced words) (10 ∷ after)))

appended : (xs ys : List ℕ) → HasNoFeed xs → HasNoFeed ys → HasNoFeed (xs ++ ys)
appended xs ys px py = list_all-append (λ (b : ℕ). not (b == 10)) xs ys ∙ both _ _ px py

no_feed_in_plain : (b : ℕ) → is_plain b ≡ true → not (b == 10) ≡ true
no_feed_in_plain b h = grind (arith, common_steps)

and_left : (a b : Bool) → (a && b) ≡ true → a ≡ true
and_left true b h = refl
and_left false b h = cc

and_right : (a b : Bool) → (a && b) ≡ true → b ≡ true
and_right true b h = h
and_right false b h = cc

plain_has_none : (bytes : List ℕ) → ArePlain bytes → HasNoFeed bytes
plain_has_none [] h = refl
plain_has_none (b ∷ bytes) h = both _ _ (no_feed_in_plain b (and_left _ _ h)) (plain_has_none bytes (and_right _ _ h))

spelled_has_none : (b : ℕ) → HasNoFeed (spelled_byte b)
spelled_has_none b = grind (arith, common_steps)

content_has_none : (content : List ℕ) → HasNoFeed (flat_map spelled_byte content)
content_has_none [] = refl
content_has_none (b ∷ content) = appended (spelled_byte b) (flat_map spelled_byte content) (spelled_has_none b) (content_has_none content)

quoted_has_none : (content : List ℕ) → HasNoFeed (quoted content)
unfolding quoted
quoted_has_none content = appended (flat_map spelled_byte content) (34 ∷ []) (content_has_none content) refl

word_has_none : (w : List ℕ) → IsWord w → HasNoFeed w
word_has_none w (front, plain, inl is) = subst HasNoFeed (sym is) (plain_has_none front plain)
word_has_none w (front, plain, inr (content, is)) =
    subst HasNoFeed (sym is) (appended front (quoted content) (plain_has_none front plain) (quoted_has_none content))

words_have_none : (words : List (List ℕ)) → AreWords words → HasNoFeed (spaced words)
words_have_none [] h = refl
words_have_none (w ∷ words) h = appended w (spaced words) (word_has_none w h.0) (words_have_none words h.1)

-- a line's words have no line feed
pub line_has_none : (w : List ℕ) (words : List (List ℕ)) → IsWord w → AreWords words → HasNoFeed (w ++ spaced words)
line_has_none w words pw pws = appended w (spaced words) (word_has_none w pw) (words_have_none words pws)

-- The words of a line, one after the other.
use Rattle.std.proofs.Common.{◌≡◌, ◌≢◌, ℕ, ◌+◌, ◌-◌, Bool, true, false, ◌&&◌, List, [], ◌∷◌, ◌++◌, length, take, flat_map, refl, sym, ◌∙◌}
use Rattle.std.proofs.Common.{ap}
use Rattle.std.proofs.Common.{arith, inl, inr, append_assoc, length-append, length-drop, map, drop}
use Rattle.std.specs.Prelude.{min}
use Rattle.std.proofs.lemmas.List.{take_all, drop-map, drop_min, map-append}
use Rattle.seam_value.specs.Texts.{spelled_byte, quoted}
use Rattle.seam_law_texts.specs.Words.{is_plain, ArePlain, IsWord, AreWords, spaced}
use Rattle.seam_law_texts.proofs.OneLine.{after_quotes}
use Rattle.seam_judge_words.specs.WordEnds.{StopsPlain, StopsWord}

and_left : (a b : Bool) → (a && b) ≡ true → a ≡ true
and_left true b h = refl
and_left false b h = cc

and_right : (a b : Bool) → (a && b) ≡ true → b ≡ true
and_right true b h = h
and_right false b h = cc

head_is : (b c : ℕ) (xs ys : List ℕ) → b ∷ xs ≡ c ∷ ys → b ≡ c
head_is b c xs ys e = cc

tail_is : (b c : ℕ) (xs ys : List ℕ) → b ∷ xs ≡ c ∷ ys → xs ≡ ys
tail_is b c xs ys e = cc

true_false : (b : Bool) → b ≡ true → b ≡ false → ⊥
true_false b holds fails = cc

-- ---- plain bytes

pub plain_step : (byte : ℕ) (others rest more : List ℕ) → ArePlain more → StopsPlain rest → byte ∷ others ≡ more ++ rest →
    is_plain byte ≡ true → (m : List ℕ) × ArePlain m × (others ≡ m ++ rest)
plain_step byte others rest [] plain stops e is = absurd (true_false (is_plain byte) is (stops byte others (sym e)))
plain_step byte others rest (c ∷ m) plain stops e is = (m, and_right _ _ plain, tail_is byte c others (m ++ rest) e)

pub plain_stop : (byte : ℕ) (others rest more : List ℕ) → ArePlain more → byte ∷ others ≡ more ++ rest → is_plain byte ≡ false →
    byte ∷ others ≡ rest
plain_stop byte others rest [] plain e is = e
plain_stop byte others rest (c ∷ m) plain e is =
    absurd (true_false (is_plain byte) (ap is_plain (head_is byte c others (m ++ rest) e) ∙ and_left _ _ plain) is)

pub plain_end : (text rest more : List ℕ) → text ≡ [] → text ≡ more ++ rest → text ≡ rest
plain_end text rest [] none e = e
plain_end text rest (c ∷ m) none e = absurd (cc)

-- ---- quotes

pub quoted_step : (rest others after more : List ℕ) → ((b : ℕ) (r : List ℕ) → rest ≡ spelled_byte b ++ r → others ≡ r) →
    ((r : List ℕ) → rest ≡ 34 ∷ r → ⊥) → rest ≡ flat_map spelled_byte more ++ 34 ∷ after →
    (m : List ℕ) × (others ≡ flat_map spelled_byte m ++ 34 ∷ after)
quoted_step rest others after [] found none e = absurd (none after e)
quoted_step rest others after (b ∷ m) found none e =
    (m, found b (flat_map spelled_byte m ++ 34 ∷ after) (e ∙ append_assoc (spelled_byte b) (flat_map spelled_byte m) (34 ∷ after)))

pub quoted_end : (rest after more : List ℕ) → ((b : ℕ) (r : List ℕ) → rest ≡ spelled_byte b ++ r → ⊥) →
    rest ≡ flat_map spelled_byte more ++ 34 ∷ after → rest ≡ 34 ∷ after
quoted_end rest after [] found e = e
quoted_end rest after (b ∷ m) found e =
    absurd (found b (flat_map spelled_byte m ++ 34 ∷ after) (e ∙ append_assoc (spelled_byte b) (flat_map spelled_byte m) (34 ∷ after)))

-- ---- words

stops_plain : (rest : List ℕ) → StopsWord rest → StopsPlain rest
stops_plain rest stops b r e = ap is_plain (stops b r e)

quoted_stops : (content rest : List ℕ) → StopsPlain (quoted content ++ rest)
quoted_stops content rest b r e =
    ap is_plain (sym (head_is 34 b (flat_map spelled_byte content ++ 34 ∷ rest) r (sym (after_quotes content rest) ∙ e)))

-- the text after plain bytes is that after the word, or the word's text in quotes comes first
module _ (line after : List ℕ)
    (plain : (front rest : List ℕ) → ArePlain front → StopsPlain rest → line ≡ front ++ rest → after ≡ rest)
  where
    pub word_quoted : (result : List ℕ) → ((content rest : List ℕ) → after ≡ quoted content ++ rest → result ≡ rest) →
        (r : List ℕ) → after ≡ 34 ∷ r → (word rest : List ℕ) → IsWord word → StopsWord rest → line ≡ word ++ rest → result ≡ rest
    word_quoted result told r begins word rest (front, is_plain, inl at) stops e =
        let same = plain front rest is_plain (stops_plain rest stops) (e ∙ ap (λ (t : List ℕ). t ++ rest) at) in
        let wrong : 34 ≡ 32 = stops 34 r (sym same ∙ begins) in
        absurd (omega (arith, wrong))
    word_quoted result told r begins word rest (front, is_plain, inr (content, at)) stops e =
        told content rest (plain front (quoted content ++ rest) is_plain (quoted_stops content rest)
        (e ∙ ap (λ (t : List ℕ). t ++ rest) at ∙ append_assoc front (quoted content) rest))

    pub word_plain : ((r : List ℕ) → after ≢ 34 ∷ r) → (word rest : List ℕ) → IsWord word → StopsWord rest → line ≡ word ++ rest →
        after ≡ rest
    word_plain other word rest (front, is_plain, inl at) stops e =
        plain front rest is_plain (stops_plain rest stops) (e ∙ ap (λ (t : List ℕ). t ++ rest) at)
    word_plain other word rest (front, is_plain, inr (content, at)) stops e =
        absurd (other _ (plain front (quoted content ++ rest) is_plain (quoted_stops content rest)
        (e ∙ ap (λ (t : List ℕ). t ++ rest) at ∙ append_assoc front (quoted content) rest) ∙ after_quotes content rest))

-- ---- lines

pub spaced_stops : (words : List (List ℕ)) → StopsWord (spaced words)
spaced_stops [] b r e = absurd (cc)
spaced_stops (w ∷ words) b r e = sym (head_is 32 b (w ++ spaced words) r e)

take_front : (xs ys : List ℕ) → take (length xs) (xs ++ ys) ≡ xs
take_front [] ys = refl
take_front (x ∷ xs) ys = λ i. x ∷ take_front xs ys i

-- the word is what comes before the rest
pub word_before : (rest after word words : List ℕ) → rest ≡ word ++ words → after ≡ words →
    take (length rest - length after) rest ≡ word
word_before rest after word words e same =
    let long : length rest ≡ length word + length words = ap length e ∙ length-append word words in
    let short : length after ≡ length words = ap length same in
    let count : length rest - length after ≡ length word = omega (arith, long, short) in
    (λ i. take (count i) (e i)) ∙ take_front word words

-- what is still to be read of a line
pub record ToCome (rest : List ℕ) (read all : List (List ℕ)) : Type 0 where
  pub word : List ℕ
  pub words : List (List ℕ)
  pub is_word : IsWord word
  pub are_words : AreWords words
  pub is : rest ≡ word ++ spaced words
  pub whole : read ++ word ∷ words ≡ all

pub to_begin : (line first : List ℕ) (others : List (List ℕ)) → IsWord first → AreWords others → line ≡ first ++ spaced others →
    ToCome line [] (first ∷ others)
to_begin line first others is are e =
    record { word = first; words = others; is_word = is; are_words = are; is = e; whole = refl }

-- after a word a space comes, and then what is still to be read
pub to_go_on : (rest after others : List ℕ) (read all : List (List ℕ)) (come : ToCome rest read all) (got : List ℕ) → got ≡ come.word →
    after ≡ spaced come.words → after ≡ 32 ∷ others → ToCome others (read ++ got ∷ []) all
to_go_on rest after others read all come got is same begins = by come.words come.are_words (sym same ∙ begins) come.whole
  where
    by : (words : List (List ℕ)) → AreWords words → spaced words ≡ 32 ∷ others → read ++ come.word ∷ words ≡ all →
        ToCome others (read ++ got ∷ []) all
    by [] are e whole = absurd (cc)
    by (w ∷ words) are e whole = record {
      word = w;
      words = words;
      is_word = are.0;
      are_words = are.1;
      is = sym (tail_is 32 32 (w ++ spaced words) others e);
      whole = append_assoc read (got ∷ []) (w ∷ words) ∙ ap (λ (g : List ℕ). read ++ g ∷ w ∷ words) is ∙ whole;
    }

-- or nothing, and all is read
pub to_end : (rest after : List ℕ) (read all : List (List ℕ)) (come : ToCome rest read all) (got : List ℕ) → got ≡ come.word →
    after ≡ spaced come.words → ((others : List ℕ) → after ≢ 32 ∷ others) → read ++ got ∷ [] ≡ all
to_end rest after read all come got is same other = by come.words same come.whole
  where
    by : (words : List (List ℕ)) → after ≡ spaced words → read ++ come.word ∷ words ≡ all → read ++ got ∷ [] ≡ all
    by [] e whole = ap (λ (g : List ℕ). read ++ g ∷ []) is ∙ whole
    by (w ∷ words) e whole = absurd (other (w ++ spaced words) e)

pub none_left : {X : Type 0} (xs : List X) → length xs ≡ 0 → xs ≡ []
none_left [] e = refl
none_left (x ∷ xs) e = absurd (omega (arith, e))

-- ---- lists of words

pub one_more : {X : Type 0} (f : X → List ℕ) (old new : List X) (x : X) → new ≡ old ++ x ∷ [] → map f new ≡ map f old ++ f x ∷ []
one_more f old new x is = ap (map f) is ∙ map-append f old (x ∷ [])

-- the words from a place on are those that are left after it
pub from_place : {X : Type 0} (f : X → List ℕ) (xs : List X) (place n : ℕ) → n ≡ min place (length xs) →
    map f (take (length xs - n) (drop n xs)) ≡ drop place (map f xs)
from_place f xs place n is =
    let left = length-drop n xs in
    ap (map f) (take_all (length xs - n) (drop n xs) (omega (arith, left)))
    ∙ ap (λ (k : ℕ). map f (drop k xs)) is ∙ ap (map f) (drop_min place xs) ∙ sym (drop-map f place xs)

-- Lines of plain words, one space apart.
use Rattle.std.proofs.Common.{◌≡◌, ◌<◌, ◌≤◌, ◌+◌, ◌-◌, ℕ, zero, suc, Bool, true, false, cond, List, [], ◌∷◌, ◌++◌, length, map, take, refl}
use Rattle.std.proofs.Common.{sym, ap}
use Rattle.std.proofs.Common.{◌∙◌, arith, append-nil, append_assoc, length-append}
use Rattle.std.specs.Prelude.{◌&&◌, not, nat_le, ◌==◌, slice_index, slice_range}
use Rattle.std.specs.List.{list_all, flat_map, AllByRecursion}
use Rattle.std.specs.Str.{IsAscii}
use Rattle.std.specs.Str.Lines.{strip_carriage_return}
use Rattle.std.proofs.Math.Seq.{take-append_seam, drop-append_seam}
use Rattle.std.proofs.lemmas.Bool.Decides.{nat_tests}
use Rattle.std.proofs.lemmas.List.Elements.{All-from_recursion}
use Rattle.std.proofs.lemmas.List.Folds.{list_all-append}
use Rattle.std.proofs.lemmas.Str.{IsUtf8-from_ascii}
use Rattle.seam_io.specs.Lines.{HasNoFeed, is_feed}
use Rattle.seam_words.specs.Words.{Span, IsPlainWord, HasFirstWords, EndsWord, is_plain, bytes_of}
use Rattle.seam_words.specs.SplitWords.{HasWords}
use Rattle.seam_words.specs.declared.words.TheConstants.{MOST_WORDS}

-- ---- bytes

-- a byte of a plain word that can be printed, and such a one or a space
abbrev pub is_clear : ℕ → Bool
is_clear b = nat_le 33 b && nat_le b 126 && not (b == 34)

abbrev pub is_seen : ℕ → Bool
is_seen b = nat_le 32 b && nat_le b 126

abbrev pub IsClearWord : List ℕ → Type 0
IsClearWord w = (0 < length w) × (list_all is_clear w ≡ true)

pub of_both : (x y : Bool) → (x && y) ≡ true → (x ≡ true) × (y ≡ true)
of_both true y both = (refl, both)
of_both false y both = let no : false ≡ true = both in cc

pub both_of : (x y : Bool) → x ≡ true → y ≡ true → (x && y) ≡ true
both_of true y x-is y-is = y-is
both_of false y x-is y-is = let no : false ≡ true = x-is in cc

pub weaker : (p q : ℕ → Bool) → ((b : ℕ) → p b ≡ true → q b ≡ true) → (xs : List ℕ) → list_all p xs ≡ true → list_all q xs ≡ true
weaker p q so [] all = refl
weaker p q so (x ∷ xs) all =
    let (here, there) = of_both (p x) (list_all p xs) all in both_of (q x) (list_all q xs) (so x here) (weaker p q so xs there)

clear_is_plain : (b : ℕ) → is_clear b ≡ true → is_plain b ≡ true
clear_is_plain b is = grind (arith, nat_tests, is)

clear_is_seen : (b : ℕ) → is_clear b ≡ true → is_seen b ≡ true
clear_is_seen b is = grind (arith, nat_tests, is)

seen_is_no_feed : (b : ℕ) → is_seen b ≡ true → is_feed b ≡ false
seen_is_no_feed b is = grind (arith, nat_tests, is)

seen_is_no_return : (b : ℕ) → is_seen b ≡ true → (b == 13) ≡ false
seen_is_no_return b is = grind (arith, nat_tests, is)

seen_is_low : (b : ℕ) → is_seen b ≡ true → b < 128
seen_is_low b is = grind (arith, nat_tests, is)

-- ---- what is true of a text of such bytes

feed_free : (xs : List ℕ) → list_all is_seen xs ≡ true → AllByRecursion (λ b. is_feed b ≡ false) xs
feed_free [] all = tt
feed_free (x ∷ xs) all =
    let (here, there) = of_both (is_seen x) (list_all is_seen xs) all in (seen_is_no_feed x here, feed_free xs there)

pub has_no_feed : (xs : List ℕ) → list_all is_seen xs ≡ true → HasNoFeed xs
has_no_feed xs all = All-from_recursion (λ b. is_feed b ≡ false) xs (feed_free xs all)

is_ascii : (xs : List ℕ) → list_all is_seen xs ≡ true → IsAscii xs
is_ascii [] all i = omega arith
is_ascii (x ∷ xs) all zero = seen_is_low x (of_both (is_seen x) (list_all is_seen xs) all).0
is_ascii (x ∷ xs) all (suc i) = is_ascii xs (of_both (is_seen x) (list_all is_seen xs) all).1 i

no_return : (xs : List ℕ) → list_all is_seen xs ≡ true → (i : ℕ) → (slice_index xs i == 13) ≡ false
no_return [] all i = refl
no_return (x ∷ xs) all zero = seen_is_no_return x (of_both (is_seen x) (list_all is_seen xs) all).0
no_return (x ∷ xs) all (suc i) = no_return xs (of_both (is_seen x) (list_all is_seen xs) all).1 i

pub stays_whole : (xs : List ℕ) → list_all is_seen xs ≡ true → strip_carriage_return xs ≡ xs
stays_whole xs all = by (slice_index xs (length xs - 1) == 13) (no_return xs all (length xs - 1))
  where
    by : (b : Bool) → b ≡ false → cond b (take (length xs - 1) xs) xs ≡ xs
    by true is = let no : true ≡ false = is in cc
    by false is = refl

-- ---- words

-- the words after the first one, each with the space before it
abbrev pub after_first : List (List ℕ) → List ℕ
after_first ws = flat_map (λ w. 32 ∷ w) ws

spans_from : ℕ → List (List ℕ) → List Span
spans_from at [] = []
spans_from at (w ∷ ws) = record { start = at + 1; end = at + 1 + length w; quoted = false } ∷ spans_from (at + 1 + length w) ws

plain_word : (w : List ℕ) → IsClearWord w → IsPlainWord w
plain_word w (some, clear) = record { some = some; plain = weaker is_clear is_plain clear_is_plain w clear }

ends_word : (ws : List (List ℕ)) → EndsWord (after_first ws)
ends_word [] = tt
ends_word (w ∷ ws) = refl

have_words : (at : ℕ) (ws : List (List ℕ)) → AllByRecursion IsClearWord ws → HasFirstWords at (after_first ws) (spans_from at ws) []
unfolding spans_from
have_words at [] all = ([], refl, refl)
have_words at (w ∷ ws) (clear, all) = (
  after_first ws,
  record {
    gap = 32 ∷ [];
    word = w;
    blank = refl;
    good = plain_word w clear;
    ends = ends_word ws;
    whole = refl;
    start = refl;
    end = refl;
  },
  have_words (at + 1 + length w) ws all,
)

middle : (before w after : List ℕ) → slice_range (before ++ (w ++ after)) (length before) (length before + length w) ≡ w
middle before w after =
    ap (λ (xs : List ℕ). take (length before + length w - length before) xs) (drop-append_seam before (w ++ after))
    ∙ ap (λ (n : ℕ). take n (w ++ after)) (omega arith) ∙ take-append_seam w after

texts_from : (before : List ℕ) (ws : List (List ℕ)) → map (bytes_of (before ++ after_first ws)) (spans_from (length before) ws) ≡ ws
unfolding spans_from
texts_from before [] = refl
texts_from before (w ∷ ws) =
    let now : List ℕ = before ++ 32 ∷ [] in
    let next : List ℕ = before ++ 32 ∷ w in
    let long : length now ≡ length before + 1 = length-append before (32 ∷ []) in
    let longer : length next ≡ length before + 1 + length w = length-append before (32 ∷ w) ∙ omega arith in
    let whole : before ++ ((32 ∷ w) ++ after_first ws) ≡ now ++ (w ++ after_first ws) =
    sym (append_assoc before (32 ∷ []) (w ++ after_first ws)) in
    let more : before ++ ((32 ∷ w) ++ after_first ws) ≡ next ++ after_first ws = sym (append_assoc before (32 ∷ w) (after_first ws)) in
    let first : slice_range (before ++ ((32 ∷ w) ++ after_first ws)) (length before + 1) (length before + 1 + length w) ≡ w =
    ap (λ (xs : List ℕ). slice_range xs (length before + 1) (length before + 1 + length w)) whole
    ∙ ap (λ (n : ℕ). slice_range (now ++ (w ++ after_first ws)) n (n + length w)) (sym long) ∙ middle now w (after_first ws) in
    let others : map (bytes_of (before ++ ((32 ∷ w) ++ after_first ws))) (spans_from (length before + 1 + length w) ws) ≡ ws =
    ap (λ (xs : List ℕ). map (bytes_of xs) (spans_from (length before + 1 + length w) ws)) more
    ∙ ap (λ (n : ℕ). map (bytes_of (next ++ after_first ws)) (spans_from n ws)) (sym longer) ∙ texts_from next ws in
    λ i. first i ∷ others i

as_many : (at : ℕ) (ws : List (List ℕ)) → length (spans_from at ws) ≡ length ws
unfolding spans_from
as_many at [] = refl
as_many at (w ∷ ws) = ap suc (as_many (at + 1 + length w) ws)

pub all_seen : (w : List ℕ) (ws : List (List ℕ)) → IsClearWord w → AllByRecursion IsClearWord ws →
    list_all is_seen (w ++ after_first ws) ≡ true
all_seen w [] clear all =
    ap (list_all is_seen) (append-nil w) ∙ weaker is_clear is_seen clear_is_seen w clear.1
all_seen w (v ∷ ws) clear (next, all) =
    list_all-append is_seen w ((32 ∷ v) ++ after_first ws)
    ∙ both_of (list_all is_seen w) (list_all is_seen ((32 ∷ v) ++ after_first ws)) (weaker is_clear is_seen clear_is_seen w clear.1)
    (all_seen v ws next all)

pub has_words : (w : List ℕ) (ws : List (List ℕ)) → IsClearWord w → AllByRecursion IsClearWord ws → length ws + 1 ≤ MOST_WORDS →
    HasWords (w ++ after_first ws) (w ∷ ws)
has_words w ws clear all few = record {
  spans = record { start = 0; end = length w; quoted = false } ∷ spans_from (length w) ws;
  text = IsUtf8-from_ascii (w ++ after_first ws) (is_ascii (w ++ after_first ws) (all_seen w ws clear all));
  are = (
    after_first ws,
    record {
      gap = [];
      word = w;
      blank = refl;
      good = plain_word w clear;
      ends = ends_word ws;
      whole = refl;
      start = refl;
      end = omega arith;
    },
    have_words (length w) ws all,
  );
  most = let same = as_many (length w) ws in omega (arith, same, few);
  texts =
      let longer : length w ≡ 0 + length w = omega arith in
      let first : slice_range (w ++ after_first ws) 0 (length w) ≡ w =
      ap (λ (n : ℕ). slice_range (w ++ after_first ws) 0 n) longer ∙ middle [] w (after_first ws) in
      let others = texts_from w ws in
      λ i. sym first i ∷ sym others i;
}

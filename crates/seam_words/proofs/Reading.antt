-- How far a line is read: the words so far, and the rest, before which no gap is left.
use Rattle.std.proofs.Common.{◌≡◌, ℕ, ◌+◌, ◌-◌, ◌<◌, ◌≤◌, List, [], ◌∷◌, ◌++◌, length, take, drop, refl, ◌∙◌, ap, arith, append_assoc}
use Rattle.std.proofs.Common.{length-append}
use Rattle.std.specs.Prelude.{slice_index, ◌==◌}
use Rattle.std.specs.List.{prefix_len}
use Rattle.std.specs.Str.{IsUtf8}
use Rattle.std.proofs.Math.Seq.{take-append_seam, drop-append_seam}
use Rattle.seam_words.specs.declared.words.TheConstants.{MOST_WORDS}
use Rattle.seam_words.specs.declared.words.WordsError.{WordsError}
use Rattle.seam_words.specs.declared.words.WordsError.TheVariants.{TooManyWords}
use Rattle.seam_words.specs.Words.{Span, is_blank, HasFirstWords, AreWords, bytes_of}
use Rattle.seam_words.specs.Faults.{BeginsWord, Refuses}
use Rattle.seam_words.specs.WordParts.{IsFirstWord, RefusesWord}
use Rattle.seam_words.proofs.Runs.{StopsAt, HasRun, has_run}
use Rattle.seam_words.proofs.Prefixes.{after_gap, word_first, fault_of_word, has_fault, refused, are_words}

pub record HasRead (line : List ℕ) (words : List Span) (rest : List ℕ) : Type 0 where
  pub before : List ℕ
  pub whole : line ≡ before ++ rest
  pub most : length words ≤ MOST_WORDS
  pub stripped : StopsAt is_blank rest
  pub prefix : (more : List Span) (tail : List ℕ) → HasFirstWords (length line - length rest) rest more tail →
      HasFirstWords 0 line (words ++ more) tail

-- a word from the start of `rest` up to the start of `after`
pub record LiesBetween (line rest after : List ℕ) (span : Span) : Type 0 where
  pub start : span.start + length rest ≡ length line
  pub end : span.end + length after ≡ length line
  pub quoted : span.quoted ≡ (slice_index rest 0 == 34)

pub within : (line : List ℕ) (words : List Span) (rest : List ℕ) → HasRead line words rest → length rest ≤ length line
within line words rest h = omega (arith, ap length h.whole, length-append h.before rest)

-- before the first word
pub read_gap : (line rest : List ℕ) → rest ≡ drop (prefix_len is_blank line) line → HasRead line [] rest
read_gap line rest e =
    let run : HasRun is_blank line rest = rw e (has_run is_blank line) in
    let less : length rest ≤ length line = omega (arith, ap length run.whole, length-append run.run rest) in
    record {
      before = run.run;
      whole = run.whole;
      most = omega arith;
      stripped = run.stops;
      prefix = λ more tail h. after_gap 0 (length line - length rest) line more tail rest run (omega arith) h;
    }

-- one more word, and the gap after it
pub read_word : (line : List ℕ) (words : List Span) (rest after next : List ℕ) (span : Span) → HasRead line words rest →
    length words < MOST_WORDS → IsFirstWord (slice_index rest 0 == 34) rest after → LiesBetween line rest after span →
    next ≡ drop (prefix_len is_blank after) after → HasRead line (words ++ span ∷ []) next
read_word line words rest after next span h few word lies e =
    let run : HasRun is_blank after next = rw e (has_run is_blank after) in
    let shrinks : length next ≤ length after = omega (arith, ap length run.whole, length-append run.run next) in
    let all : length rest ≤ length line = within line words rest h in
    let same : IsFirstWord span.quoted rest after = rw lies.quoted word in
    record {
      before = h.before ++ word.word ++ run.run;
      whole = h.whole ∙ ap (λ (xs : List ℕ). h.before ++ xs) (word.whole ∙ ap (λ (xs : List ℕ). word.word ++ xs) run.whole)
          ∙ simp append_assoc;
      most = omega (arith, length-append words (span ∷ []));
      stripped = run.stops;
      prefix = λ more tail first.
          let later : HasFirstWords span.end after more tail =
          after_gap span.end (length line - length next) after more tail next run (omega arith) first in
          let words_on : HasFirstWords 0 line (words ++ span ∷ more) tail =
          h.prefix (span ∷ more) tail
          (word_first (length line - length rest) rest after span more tail same (omega arith) (omega arith) later) in
          rw append_assoc words_on;
    }

-- the text of that word
pub text_of_word : (line : List ℕ) (words : List Span) (rest after : List ℕ) (span : Span) → HasRead line words rest →
    IsFirstWord (slice_index rest 0 == 34) rest after → LiesBetween line rest after span →
    take (length rest - length after) rest ≡ bytes_of line span
text_of_word line words rest after span h word lies =
    let all : length line ≡ length h.before + length rest = ap length h.whole ∙ length-append h.before rest in
    let part : length rest ≡ length word.word + length after = ap length word.whole ∙ length-append word.word after in
    let start : span.start ≡ length h.before = omega (arith, lies.start) in
    let size : span.end - span.start ≡ length word.word = omega (arith, lies.start, lies.end) in
    let same : length rest - length after ≡ length word.word = omega arith in
    rw (size, start, same)
    (rw h.whole (rw drop-append_seam (rw word.whole (rw take-append_seam refl))))

-- why a line is refused after the words so far
pub too_many : (line : List ℕ) (words : List Span) (rest : List ℕ) → IsUtf8 line → HasRead line words rest → length words ≡ MOST_WORDS →
    BeginsWord rest → Refuses line TooManyWords
too_many line words rest utf8 h most begins =
    (utf8, has_fault line words rest TooManyWords (h.prefix [] rest ([], refl, refl)) (most, begins))

pub bad_word : (line : List ℕ) (words : List Span) (rest : List ℕ) (e : WordsError) → IsUtf8 line → HasRead line words rest →
    length words < MOST_WORDS → RefusesWord rest e → Refuses line e
bad_word line words rest e utf8 h few bad =
    refused line e utf8
    (has_fault line words rest e (h.prefix [] rest ([], refl, refl)) (fault_of_word (length words) rest e few bad))

-- at the line's end the words so far are its words
pub read_whole : (line : List ℕ) (words : List Span) (rest : List ℕ) → HasRead line words rest → length rest ≡ 0 → AreWords line words
read_whole line words rest h none = are_words line rest words none (h.prefix [] rest ([], refl, refl))

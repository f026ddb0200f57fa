-- How the words of a line follow one another.
use Rattle.std.proofs.Common.{◌≡◌, ℕ, ◌+◌, ◌<◌, Bool, true, false, List, [], ◌∷◌, ◌++◌, length, refl, sym, ◌∙◌, ap, subst, arith}
use Rattle.std.proofs.Common.{append_assoc, append-nil, length-append}
use Rattle.std.proofs.lemmas.List.Folds.{list_all-append}
use Rattle.seam_words.specs.declared.words.TheConstants.{MOST_WORDS}
use Rattle.seam_words.specs.declared.words.WordsError.{WordsError}
use Rattle.seam_words.specs.declared.words.WordsError.TheVariants.{NotUtf8, OpenQuote, BadEscape, TooManyWords}
use Rattle.seam_words.specs.Words.{Span, is_blank, IsGap, HasFirstWords, AreWords}
use Rattle.std.specs.Str.{IsUtf8}
use Rattle.seam_words.specs.Faults.{HasFaultAt, HasFault, Refuses}
use Rattle.seam_words.specs.WordParts.{IsFirstWord, RefusesWord}
use Rattle.seam_words.proofs.Runs.{HasRun}

two_gaps : (a b : List ℕ) → IsGap a → IsGap b → IsGap (a ++ b)
two_gaps a b p q = list_all-append is_blank a b ∙ grind (arith, p, q)

-- words may be read after a gap
pub skip_gap : (at : ℕ) (gap bytes : List ℕ) (spans : List Span) (tail : List ℕ) → IsGap gap →
    HasFirstWords (at + length gap) bytes spans tail → HasFirstWords at (gap ++ bytes) spans tail
skip_gap at gap bytes [] tail g h =
    (gap ++ h.0, two_gaps gap h.0 g h.1, ap (λ (xs : List ℕ). gap ++ xs) h.2 ∙ sym (append_assoc gap h.0 tail))
skip_gap at gap bytes (span ∷ spans) tail g h = (
  h.0,
  record {
    gap = gap ++ h.1.gap;
    word = h.1.word;
    blank = two_gaps gap h.1.gap g h.1.blank;
    good = h.1.good;
    ends = h.1.ends;
    whole = ap (λ (xs : List ℕ). gap ++ xs) h.1.whole ∙ simp append_assoc;
    start = omega (arith, length-append gap h.1.gap, h.1.start);
    end = h.1.end;
  },
  h.2,
)

pub after_gap : (at later : ℕ) (bytes : List ℕ) (spans : List Span) (tail rest : List ℕ) → HasRun is_blank bytes rest →
    later + length rest ≡ at + length bytes → HasFirstWords later rest spans tail → HasFirstWords at bytes spans tail
after_gap at later bytes spans tail rest r e h =
    let place : later ≡ at + length r.run = omega (arith, ap length r.whole, length-append r.run rest) in
    rw r.whole (skip_gap at r.run rest spans tail r.passes (subst (λ (n : ℕ). HasFirstWords n rest spans tail) place h))

-- a word, and then the words after it
pub word_first : (at : ℕ) (bytes rest : List ℕ) (span : Span) (spans : List Span) (tail : List ℕ) → IsFirstWord span.quoted bytes rest →
    span.start ≡ at → span.end + length rest ≡ at + length bytes → HasFirstWords span.end rest spans tail →
    HasFirstWords at bytes (span ∷ spans) tail
word_first at bytes rest span spans tail w s e h = (
  rest,
  record {
    gap = [];
    word = w.word;
    blank = refl;
    good = w.good;
    ends = w.ends;
    whole = w.whole;
    start = omega arith;
    end = omega (arith, ap length w.whole, length-append w.word rest);
  },
  h,
)

-- a fault after the words so far
pub fault_of_word : (count : ℕ) (bytes : List ℕ) (e : WordsError) → count < MOST_WORDS → RefusesWord bytes e → HasFaultAt count bytes e
fault_of_word count bytes NotUtf8 c h = h
fault_of_word count bytes OpenQuote c h = (c, h)
fault_of_word count bytes BadEscape c h = (c, h)
fault_of_word count bytes TooManyWords c h = absurd h

pub has_fault : (line : List ℕ) (spans : List Span) (tail : List ℕ) (e : WordsError) → HasFirstWords 0 line (spans ++ []) tail →
    HasFaultAt (length spans) tail e → HasFault line e
has_fault line spans tail e h f =
    record { spans = spans; tail = tail; before = subst (λ (xs : List Span). HasFirstWords 0 line xs tail) (append-nil spans) h; fault = f }

-- a word is not empty
pub shorter : (quoted : Bool) (bytes rest : List ℕ) → IsFirstWord quoted bytes rest → length rest < length bytes
shorter true bytes rest w = omega (arith, ap length w.whole, length-append w.word rest, ap length w.good.quotes)
shorter false bytes rest w = omega (arith, ap length w.whole, length-append w.word rest, w.good.some)

-- the refusal of a line of text by its fault
pub refused : (line : List ℕ) (e : WordsError) → IsUtf8 line → HasFault line e → Refuses line e
refused line NotUtf8 u h = absurd h.fault
refused line OpenQuote u h = (u, h)
refused line BadEscape u h = (u, h)
refused line TooManyWords u h = (u, h)

-- at the line's end the words so far are its words
pub are_words : (line rest : List ℕ) (spans : List Span) → length rest ≡ 0 → HasFirstWords 0 line (spans ++ []) rest → AreWords line spans
are_words line [] spans e h = subst (λ (xs : List Span). HasFirstWords 0 line xs []) (append-nil spans) h
are_words line (b ∷ rest) spans e h = absurd (omega arith)

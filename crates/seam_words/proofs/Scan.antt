-- A reading of a line byte after byte, which shows that a line has one list of words or one first fault.
use Rattle.std.proofs.Common.{◌≡◌, ℕ, ◌+◌, ◌<◌, ◌≤◌, Bool, true, false, List, [], ◌∷◌, ◌++◌, length, refl, sym, ◌∙◌, ap, arith, Result, Ok}
use Rattle.std.proofs.Common.{Err, append_assoc, append-nil, length-append, add-zero, inl, inr, ne_eqb}
use Rattle.std.specs.Prelude.{◌==◌, ◌&&◌, if◌then◌else◌, nat_le}
use Rattle.std.specs.List.{list_all, concat, AllByRecursion}
use Rattle.std.specs.Str.{IsUtf8}
use Rattle.std.proofs.lemmas.Grind.{common_steps}
use Rattle.seam_words.specs.declared.words.TheConstants.{MOST_WORDS}
use Rattle.seam_words.specs.declared.words.WordsError.{WordsError}
use Rattle.seam_words.specs.declared.words.WordsError.TheVariants.{NotUtf8, OpenQuote, BadEscape, TooManyWords}
use Rattle.seam_words.specs.Words.{is_blank, is_plain, is_escaped, IsGap, IsPlainWord, IsPiece, ArePieces, IsQuotedWord, IsWord, EndsWord}
use Rattle.seam_words.specs.Words.{Span, HasFirstWord, HasFirstWords, AreWords}
use Rattle.seam_words.specs.Faults.{HasOpenQuote, IsNoEscape, HasFaultAt, HasFault, Refuses}
use Rattle.seam_words.specs.Faults.HasOpenQuote.{inside, unended, followed}

-- The state of the reading: between words, in a word that began at byte n, after a backslash in it, after a closing quote
data ScanState : Type 0 where
  between : ScanState
  plain : ℕ → ScanState
  quoted : ℕ → ScanState
  escaped : ℕ → ScanState
  closed : ScanState

abbrev span_of : Bool → ℕ → ℕ → Span
span_of q start end = record { start = start; end = end; quoted = q }

-- at most `most` words are read
abbrev scan : ℕ → ScanState → ℕ → List Span → List ℕ → Result (List Span) WordsError
scan most between at words [] = Ok words
scan most (plain start) at words [] = Ok (words ++ span_of false start at ∷ [])
scan most (quoted start) at words [] = Err OpenQuote
scan most (escaped start) at words [] = Err BadEscape
scan most closed at words [] = Ok words
scan most between at words (b ∷ bytes) =
    if is_blank b then scan most between (at + 1) words bytes else
    (if nat_le most (length words) then Err TooManyWords else
    (if b == 34 then scan most (quoted at) (at + 1) words bytes else scan most (plain at) (at + 1) words bytes))
scan most (plain start) at words (b ∷ bytes) =
    if is_blank b then scan most between (at + 1) (words ++ span_of false start at ∷ []) bytes else
    (if b == 34 then Err OpenQuote else scan most (plain start) (at + 1) words bytes)
scan most (quoted start) at words (b ∷ bytes) =
    if b == 34 then scan most closed (at + 1) (words ++ span_of true start (at + 1) ∷ []) bytes else
    (if b == 92 then scan most (escaped start) (at + 1) words bytes else scan most (quoted start) (at + 1) words bytes)
scan most (escaped start) at words (b ∷ bytes) = if is_escaped b then scan most (quoted start) (at + 1) words bytes else Err BadEscape
scan most closed at words (b ∷ bytes) = if is_blank b then scan most between (at + 1) words bytes else Err OpenQuote

and_left : (a b : Bool) → (a && b) ≡ true → a ≡ true
and_left true b h = refl
and_left false b h = h

and_right : (a b : Bool) → (a && b) ≡ true → b ≡ true
and_right true b h = h
and_right false b h = cc

not_blank : (b : ℕ) → is_plain b ≡ true → is_blank b ≡ false
not_blank b h = grind (arith, common_steps)

not_quote : (b : ℕ) → is_plain b ≡ true → (b == 34) ≡ false
not_quote b h = grind (arith, common_steps)

-- runs of bytes
gap_scan : (most at : ℕ) (words : List Span) (gap rest : List ℕ) → IsGap gap →
    scan most between at words (gap ++ rest) ≡ scan most between (at + length gap) words rest
gap_scan most at words [] rest g = rw add-zero refl
gap_scan most at words (b ∷ gap) rest g =
    let blank : is_blank b ≡ true = and_left _ _ g in
    let place : (at + 1) + length gap ≡ at + length (b ∷ gap) = omega arith in
    rw blank (gap_scan most (at + 1) words gap rest (and_right _ _ g) ∙ ap (λ (n : ℕ). scan most between n words rest) place)

plain_scan : (most start at : ℕ) (words : List Span) (word rest : List ℕ) → list_all is_plain word ≡ true →
    scan most (plain start) at words (word ++ rest) ≡ scan most (plain start) (at + length word) words rest
plain_scan most start at words [] rest p = rw add-zero refl
plain_scan most start at words (b ∷ word) rest p =
    let first : is_plain b ≡ true = and_left _ _ p in
    let blank : is_blank b ≡ false = not_blank b first in
    let quote : (b == 34) ≡ false = not_quote b first in
    let place : (at + 1) + length word ≡ at + length (b ∷ word) = omega arith in
    rw (blank, quote) (plain_scan most start (at + 1) words word rest (and_right _ _ p)
    ∙ ap (λ (n : ℕ). scan most (plain start) n words rest) place)

piece_scan : (most start at : ℕ) (words : List Span) (piece rest : List ℕ) → IsPiece piece →
    scan most (quoted start) at words (piece ++ rest) ≡ scan most (quoted start) (at + length piece) words rest
piece_scan most start at words piece rest (b, inl p) =
    let quote : (b == 34) ≡ false = ne_eqb b 34 p.1 in
    let backslash : (b == 92) ≡ false = ne_eqb b 92 p.2 in
    rw p.0 (rw (quote, backslash) refl)
piece_scan most start at words piece rest (b, inr p) =
    let place : (at + 1) + 1 ≡ at + 2 = omega arith in
    rw p.0 (rw p.1 (ap (λ (n : ℕ). scan most (quoted start) n words rest) place))

pieces_scan : (most start at : ℕ) (words : List Span) (pieces : List (List ℕ)) (rest : List ℕ) → AllByRecursion IsPiece pieces →
    scan most (quoted start) at words (concat pieces ++ rest) ≡ scan most (quoted start) (at + length (concat pieces)) words rest
pieces_scan most start at words [] rest p = rw add-zero refl
pieces_scan most start at words (piece ∷ pieces) rest p =
    let place : (at + length piece) + length (concat pieces) ≡ at + length (concat (piece ∷ pieces)) =
    omega (arith, length-append piece (concat pieces)) in
    rw append_assoc (piece_scan most start at words piece (concat pieces ++ rest) p.0)
    ∙ pieces_scan most start (at + length piece) words pieces rest p.1
    ∙ ap (λ (n : ℕ). scan most (quoted start) n words rest) place

inside_scan : (most start at : ℕ) (words : List Span) (bytes rest : List ℕ) → ArePieces bytes →
    scan most (quoted start) at words (bytes ++ rest) ≡ scan most (quoted start) (at + length bytes) words rest
inside_scan most start at words bytes rest p = rw p.joined (pieces_scan most start at words p.pieces rest p.each)

-- a word
few : (most : ℕ) (words : List Span) → length words < most → nat_le most (length words) ≡ false
few most words h = grind (arith, common_steps)

plain_ends : (most start at : ℕ) (words : List Span) (rest : List ℕ) → EndsWord rest →
    scan most (plain start) at words rest ≡ scan most between at (words ++ span_of false start at ∷ []) rest
plain_ends most start at words [] e = refl
plain_ends most start at words (b ∷ rest) e = rw e refl

closed_ends : (most at : ℕ) (words : List Span) (rest : List ℕ) → EndsWord rest →
    scan most closed at words rest ≡ scan most between at words rest
closed_ends most at words [] e = refl
closed_ends most at words (b ∷ rest) e = rw e refl

begin_plain : (most at : ℕ) (words : List Span) (word rest : List ℕ) → length words < most → IsPlainWord word →
    scan most between at words (word ++ rest) ≡ scan most (plain at) (at + length word) words rest
begin_plain most at words [] rest h p = absurd (omega (arith, p.some))
begin_plain most at words (b ∷ word) rest h p =
    let first : is_plain b ≡ true = and_left _ _ p.plain in
    let blank : is_blank b ≡ false = not_blank b first in
    let quote : (b == 34) ≡ false = not_quote b first in
    let room : nat_le most (length words) ≡ false = few most words h in
    let place : (at + 1) + length word ≡ at + length (b ∷ word) = omega arith in
    rw (blank, room, quote) (plain_scan most at (at + 1) words word rest (and_right _ _ p.plain)
    ∙ ap (λ (n : ℕ). scan most (plain at) n words rest) place)

begin_quoted : (most at : ℕ) (words : List Span) (bytes : List ℕ) → length words < most →
    scan most between at words (34 ∷ bytes) ≡ scan most (quoted at) (at + 1) words bytes
begin_quoted most at words bytes h = rw (few most words h) refl

quoted_scan : (most at : ℕ) (words : List Span) (word rest : List ℕ) → length words < most → IsQuotedWord word →
    scan most between at words (word ++ rest) ≡ scan most closed (at + length word) (words ++ span_of true at (at + length word) ∷ []) rest
quoted_scan most at words word rest h q =
    let place : (at + 1) + length q.inside + 1 ≡ at + length word = omega (arith, ap length q.quotes, length-append q.inside (34 ∷ [])) in
    rw q.quotes (begin_quoted most at words ((q.inside ++ 34 ∷ []) ++ rest) h
    ∙ rw append_assoc (inside_scan most at (at + 1) words q.inside (34 ∷ rest) q.pieces))
    ∙ ap (λ (n : ℕ). scan most closed n (words ++ span_of true at n ∷ []) rest) place

word_scan : (most at : ℕ) (words : List Span) (word rest : List ℕ) (q : Bool) → length words < most → IsWord q word → EndsWord rest →
    scan most between at words (word ++ rest) ≡ scan most between (at + length word) (words ++ span_of q at (at + length word) ∷ []) rest
word_scan most at words word rest true h w e =
    quoted_scan most at words word rest h w ∙ closed_ends most (at + length word) (words ++ span_of true at (at + length word) ∷ []) rest e
word_scan most at words word rest false h w e = begin_plain most at words word rest h w ∙ plain_ends most at (at + length word) words rest e

first_scan : (most at : ℕ) (words : List Span) (bytes : List ℕ) (span : Span) (rest : List ℕ) → length words < most →
    HasFirstWord at bytes span rest → scan most between at words bytes ≡ scan most between span.end (words ++ span ∷ []) rest
first_scan most at words bytes span rest h f =
    let start : at + length f.gap ≡ span.start = sym f.start in
    let end : span.start + length f.word ≡ span.end = sym f.end in
    rw (f.whole, append_assoc) (gap_scan most at words f.gap (f.word ++ rest) f.blank)
    ∙ ap (λ (n : ℕ). scan most between n words (f.word ++ rest)) start
    ∙ word_scan most span.start words f.word rest span.quoted h f.good f.ends
    ∙ ap (λ (n : ℕ). scan most between n (words ++ span_of span.quoted span.start n ∷ []) rest) end

-- the words, and what follows them
words_scan : (most at : ℕ) (words : List Span) (bytes : List ℕ) (spans : List Span) (tail : List ℕ) → length words + length spans ≤ most →
    HasFirstWords at bytes spans tail → (end : ℕ) × (scan most between at words bytes ≡ scan most between end (words ++ spans) tail)
words_scan most at words bytes [] tail h f =
    (at + length f.0, rw (f.2, append-nil) (gap_scan most at words f.0 tail f.1))
words_scan most at words bytes (span ∷ spans) tail h f =
    let room : length words < most = omega arith in
    let others = words_scan most span.end (words ++ span ∷ []) f.0 spans tail (omega (arith, length-append words (span ∷ []))) f.2 in (
      others.0,
      first_scan most at words bytes span f.0 room f.1 ∙ others.1
          ∙ ap (λ (xs : List Span). scan most between others.0 xs tail) (append_assoc words (span ∷ []) spans),
    )

-- a fault
open_scan : (at : ℕ) (words : List Span) (bytes : List ℕ) → length words < MOST_WORDS → HasOpenQuote bytes →
    scan 16 between at words bytes ≡ Err OpenQuote
open_scan at words bytes h (inside word rest w e) = rw e (begin_plain 16 at words word (34 ∷ rest) h w)
open_scan at words bytes h (unended pieces p e) =
    rw e (begin_quoted 16 at words pieces h ∙ ap (λ (xs : List ℕ). scan 16 (quoted at) (at + 1) words xs) (sym (append-nil pieces))
    ∙ inside_scan 16 at (at + 1) words pieces [] p)
open_scan at words bytes h (followed word b rest w n e) =
    rw e (quoted_scan 16 at words word (b ∷ rest) h w ∙ rw n refl)

escape_scan : (start at : ℕ) (words : List Span) (rest : List ℕ) → IsNoEscape rest → scan 16 (escaped start) at words rest ≡ Err BadEscape
escape_scan start at words [] n = refl
escape_scan start at words (b ∷ rest) n = rw n refl

fault_scan : (at : ℕ) (words : List Span) (bytes : List ℕ) (e : WordsError) → HasFaultAt (length words) bytes e →
    scan 16 between at words bytes ≡ Err e
fault_scan at words bytes NotUtf8 h = absurd h
fault_scan at words bytes OpenQuote h = open_scan at words bytes h.0 h.1
fault_scan at words bytes BadEscape h =
    rw h.1.whole (begin_quoted 16 at words (h.1.prefix ++ 92 ∷ h.1.rest) h.0
    ∙ inside_scan 16 at (at + 1) words h.1.prefix (92 ∷ h.1.rest) h.1.pieces)
    ∙ escape_scan at (at + 1 + length h.1.prefix + 1) words h.1.rest h.1.bad
fault_scan at words [] TooManyWords h = absurd h.1
fault_scan at words (b ∷ bytes) TooManyWords h =
    let full : nat_le 16 (length words) ≡ true = grind (arith, common_steps) in
    rw (h.1, full) refl

-- the words of a line, and its first fault, are what the reading gives
words_read : (most : ℕ) (line : List ℕ) (spans : List Span) → AreWords line spans → length spans ≤ most →
    scan most between 0 [] line ≡ Ok spans
words_read most line spans w h = (words_scan most 0 [] line spans [] (omega arith) w).1

at_most : (count : ℕ) (bytes : List ℕ) (e : WordsError) → HasFaultAt count bytes e → count ≤ MOST_WORDS
at_most count bytes NotUtf8 h = absurd h
at_most count bytes OpenQuote h = omega arith
at_most count bytes BadEscape h = omega arith
at_most count bytes TooManyWords h = omega arith

fault_read : (line : List ℕ) (e : WordsError) → HasFault line e → scan 16 between 0 [] line ≡ Err e
fault_read line e f =
    let few_words : length f.spans ≤ MOST_WORDS = at_most (length f.spans) f.tail e f.fault in
    let read = words_scan 16 0 [] line f.spans f.tail (omega arith) f.before in
    read.1 ∙ fault_scan read.0 f.spans f.tail e f.fault

pub same_words : (line : List ℕ) (xs ys : List Span) → AreWords line xs → AreWords line ys → xs ≡ ys
same_words line xs ys p q =
    let one : scan (length xs + length ys) between 0 [] line ≡ Ok xs = words_read (length xs + length ys) line xs p (omega arith) in
    let other : scan (length xs + length ys) between 0 [] line ≡ Ok ys = words_read (length xs + length ys) line ys q (omega arith) in
    cc

pub same_fault : (line : List ℕ) (e f : WordsError) → HasFault line e → HasFault line f → e ≡ f
same_fault line e f p q =
    let one : scan 16 between 0 [] line ≡ Err e = fault_read line e p in
    let other : scan 16 between 0 [] line ≡ Err f = fault_read line f q in
    cc

pub no_fault : (line : List ℕ) (spans : List Span) (e : WordsError) → AreWords line spans → length spans ≤ MOST_WORDS → HasFault line e → ⊥
no_fault line spans e w h f =
    let one : scan 16 between 0 [] line ≡ Ok spans = words_read 16 line spans w h in
    let other : scan 16 between 0 [] line ≡ Err e = fault_read line e f in
    cc

-- a refused line has no words, and is refused for one cause
fault_of : (line : List ℕ) (e : WordsError) → Refuses line e → IsUtf8 line → HasFault line e
fault_of line NotUtf8 h u = absurd (h u)
fault_of line OpenQuote h u = h.1
fault_of line BadEscape h u = h.1
fault_of line TooManyWords h u = h.1

pub no_words : (line : List ℕ) (e : WordsError) → Refuses line e → (spans : List Span) → IsUtf8 line → AreWords line spans →
    length spans ≤ MOST_WORDS → ⊥
no_words line e h spans u w few_words = no_fault line spans e w few_words (fault_of line e h u)

pub same_refusal : (line : List ℕ) (e f : WordsError) → Refuses line e → Refuses line f → e ≡ f
same_refusal line NotUtf8 NotUtf8 h k = refl
same_refusal line NotUtf8 OpenQuote h k = absurd (h k.0)
same_refusal line NotUtf8 BadEscape h k = absurd (h k.0)
same_refusal line NotUtf8 TooManyWords h k = absurd (h k.0)
same_refusal line OpenQuote f h k = same_fault line OpenQuote f h.1 (fault_of line f k h.0)
same_refusal line BadEscape f h k = same_fault line BadEscape f h.1 (fault_of line f k h.0)
same_refusal line TooManyWords f h k = same_fault line TooManyWords f h.1 (fault_of line f k h.0)

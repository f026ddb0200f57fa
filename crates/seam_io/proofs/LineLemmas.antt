-- The lines of a list of bytes that goes on.
use Rattle.std.proofs.Common.{◌≡◌, ℕ, ◌+◌, ◌<◌, ◌≤◌, suc, Bool, true, false, List, [], ◌∷◌, ◌++◌, length, take, drop, get_or}
use Rattle.std.proofs.Common.{drop-cons, add-one, refl, sym, subst, ap, ◌∙◌, arith, eqb-true, append_assoc, append-nil, length-append}
use Rattle.std.specs.Prelude.{if◌then◌else◌, nat_lt}
use Rattle.std.specs.List.{slice_split, onto_first, after_first, position_or_len}
use Rattle.std.specs.Str.Lines.{strip_carriage_return}
use Rattle.std.proofs.lemmas.Bool.{ltb-true}
use Rattle.std.proofs.lemmas.Grind.{common_steps}
use Rattle.std.proofs.lemmas.List.Elements.{All-nil, All-cons, All-head, All-tail, All-append}
use Rattle.std.proofs.lemmas.List.Splits.{slice_split_none, slice_split_at, length-slice_split}
use Rattle.std.proofs.lemmas.List.{take-append-drop}
use Rattle.seam_io.specs.Reading.{Reader, held_on}
use Rattle.seam_io.specs.Steps.{IsFeedAt}
use Rattle.seam_io.specs.Lines.{Line, Content, Long, is_feed, line_of, lines_between, whole_between, lines_of, whole_lines_of, text_left}
use Rattle.seam_io.specs.Lines.{whole_left}
use Rattle.seam_io.specs.Lines.{HasNoFeed}
use Rattle.seam_io.specs.declared.lines.TheConstants.{LONGEST_LINE}

-- ---- one line

pub line_of-long : (text : List ℕ) → LONGEST_LINE < length text → line_of text ≡ Long
line_of-long text long = grind (arith, common_steps)

pub line_of-short : (text : List ℕ) → length text ≤ LONGEST_LINE → line_of text ≡ Content (strip_carriage_return text)
line_of-short text short = grind (arith, common_steps)

-- ---- no line feed

pub no_feed_append : (prefix more : List ℕ) → HasNoFeed prefix → HasNoFeed more → HasNoFeed (prefix ++ more)
no_feed_append prefix more a b = All-append (λ byte. is_feed byte ≡ false) prefix more a b

pub no_feed_head : (b : ℕ) (bs : List ℕ) → HasNoFeed (b ∷ bs) → is_feed b ≡ false
no_feed_head b bs h = All-head (λ byte. is_feed byte ≡ false) b bs h

pub no_feed_tail : (b : ℕ) (bs : List ℕ) → HasNoFeed (b ∷ bs) → HasNoFeed bs
no_feed_tail b bs h = All-tail (λ byte. is_feed byte ≡ false) b bs h

pub no_feed_none : HasNoFeed []
no_feed_none = All-nil (λ byte. is_feed byte ≡ false)

pub no_feed_one : (b : ℕ) → is_feed b ≡ false → HasNoFeed (b ∷ [])
no_feed_one b h = All-cons (λ byte. is_feed byte ≡ false) b [] h no_feed_none

-- ---- what comes after the first line feed

after_first-at : (t : Bool) (b : ℕ) (bs : List ℕ) → is_feed b ≡ t → t ≡ false → after_first is_feed (b ∷ bs) ≡ after_first is_feed bs
after_first-at true b bs e other = cc
after_first-at false b bs e other =
    rw e (ap (λ n. drop n (b ∷ bs)) (let one : 1 + position_or_len is_feed bs + 1 ≡ suc (position_or_len is_feed bs + 1) = omega arith in
    one))

pub after_first-cons : (b : ℕ) (bs : List ℕ) → is_feed b ≡ false → after_first is_feed (b ∷ bs) ≡ after_first is_feed bs
after_first-cons b bs other = after_first-at (is_feed b) b bs refl other

pub after_first-append : (prefix more : List ℕ) → HasNoFeed prefix → after_first is_feed (prefix ++ more) ≡ after_first is_feed more
after_first-append [] more h = refl
after_first-append (b ∷ prefix) more h =
    after_first-cons b (prefix ++ more) (no_feed_head b prefix h) ∙ after_first-append prefix more (no_feed_tail b prefix h)

pub after_first-none : (bs : List ℕ) → HasNoFeed bs → after_first is_feed bs ≡ []
after_first-none [] h = refl
after_first-none (b ∷ bs) h = after_first-cons b bs (no_feed_head b bs h) ∙ after_first-none bs (no_feed_tail b bs h)

pub after_first-fed : (prefix more : List ℕ) → HasNoFeed prefix → after_first is_feed (prefix ++ 10 ∷ more) ≡ more
after_first-fed prefix more h = after_first-append prefix (10 ∷ more) h

-- ---- the lines

between_more : (text : List ℕ) (parts : List (List ℕ)) → 0 < length parts →
    lines_between (text ∷ parts) ≡ line_of text ∷ lines_between parts
between_more text [] some = absurd (omega arith)
between_more text (part ∷ parts) some = refl

pub lines_of-none : lines_of [] ≡ []
unfolding lines_of
lines_of-none = refl

-- a text and a line feed are one line
pub lines_of-fed : (prefix more : List ℕ) → HasNoFeed prefix → lines_of (prefix ++ 10 ∷ more) ≡ line_of prefix ∷ lines_of more
unfolding lines_of
lines_of-fed prefix more h =
    ap lines_between (slice_split_at is_feed prefix 10 more h refl)
    ∙ between_more prefix (slice_split is_feed more) (omega (arith, length-slice_split is_feed more))

-- a text without a line feed is one line too, where it has a byte
pub lines_of-last : (rest : List ℕ) → HasNoFeed rest → 0 < length rest → lines_of rest ≡ line_of rest ∷ []
unfolding lines_of
lines_of-last [] h some = absurd (omega arith)
lines_of-last (b ∷ bs) h some = ap lines_between (slice_split_none is_feed (b ∷ bs) h) ∙ grind (arith, common_steps)

-- ---- the lines that stay

whole_more : (text : List ℕ) (parts : List (List ℕ)) → 0 < length parts →
    whole_between (text ∷ parts) ≡ line_of text ∷ whole_between parts
whole_more text [] some = absurd (omega arith)
whole_more text (part ∷ parts) some = refl

-- a text and a line feed are one line that stays
pub whole_lines_of-fed : (prefix more : List ℕ) → HasNoFeed prefix →
    whole_lines_of (prefix ++ 10 ∷ more) ≡ line_of prefix ∷ whole_lines_of more
unfolding whole_lines_of
whole_lines_of-fed prefix more h =
    ap whole_between (slice_split_at is_feed prefix 10 more h refl)
    ∙ whole_more prefix (slice_split is_feed more) (omega (arith, length-slice_split is_feed more))

whole_one-short : (text : List ℕ) → length text ≤ LONGEST_LINE → whole_between (text ∷ []) ≡ []
whole_one-short text short = grind (arith, common_steps)

whole_one-long : (text : List ℕ) → LONGEST_LINE < length text → whole_between (text ∷ []) ≡ Long ∷ []
whole_one-long text long = grind (arith, common_steps)

-- a text without a line feed has no line that stays, unless it is too long
pub whole_lines_of-short : (rest : List ℕ) → HasNoFeed rest → length rest ≤ LONGEST_LINE → whole_lines_of rest ≡ []
unfolding whole_lines_of
whole_lines_of-short rest h short = ap whole_between (slice_split_none is_feed rest h) ∙ whole_one-short rest short

pub whole_lines_of-long : (rest : List ℕ) → HasNoFeed rest → LONGEST_LINE < length rest → whole_lines_of rest ≡ Long ∷ []
unfolding whole_lines_of
whole_lines_of-long rest h long = ap whole_between (slice_split_none is_feed rest h) ∙ whole_one-long rest long

pub whole_lines_of-none : whole_lines_of [] ≡ []
whole_lines_of-none = whole_lines_of-short [] no_feed_none (omega arith)

-- ---- a line that is too long

-- the lines of a list of bytes, all or those that stay
module _ (lines : List ℕ → List Line)
    (fed : (prefix more : List ℕ) → HasNoFeed prefix → lines (prefix ++ 10 ∷ more) ≡ line_of prefix ∷ lines more)
    (last : (prefix : List ℕ) → HasNoFeed prefix → LONGEST_LINE < length prefix → lines prefix ≡ Long ∷ lines [])
  where
    refused_at : (t : Bool) (prefix : List ℕ) (b : ℕ) (bs : List ℕ) → is_feed b ≡ t → HasNoFeed prefix → LONGEST_LINE < length prefix
        → (is_feed b ≡ false → lines ((prefix ++ b ∷ []) ++ bs) ≡ Long ∷ lines (after_first is_feed bs))
        → lines (prefix ++ b ∷ bs) ≡ Long ∷ lines (after_first is_feed (b ∷ bs))
    refused_at true prefix b bs e h long later =
        let feed : b ≡ 10 = eqb-true b 10 e in
        rw feed (fed prefix bs h ∙ ap (λ l. l ∷ lines bs) (line_of-long prefix long))
    refused_at false prefix b bs e h long later =
        ap lines (sym (append_assoc prefix (b ∷ []) bs)) ∙ later e ∙ ap (λ rest. Long ∷ lines rest) (sym (after_first-cons b bs e))

    -- the prefix of a line that is too long is one line, and the rest of that line goes with it
    refused : (prefix more : List ℕ) → HasNoFeed prefix → LONGEST_LINE < length prefix →
        lines (prefix ++ more) ≡ Long ∷ lines (after_first is_feed more)
    refused prefix [] h long = ap lines (append-nil prefix) ∙ last prefix h long
    refused prefix (b ∷ bs) h long = refused_at (is_feed b) prefix b bs refl h long (λ other.
        refused (prefix ++ b ∷ []) bs (no_feed_append prefix (b ∷ []) h (no_feed_one b other))
        (omega (arith, length-append prefix (b ∷ []))))

pub lines_of-refused : (prefix more : List ℕ) → HasNoFeed prefix → LONGEST_LINE < length prefix →
    lines_of (prefix ++ more) ≡ Long ∷ lines_of (after_first is_feed more)
lines_of-refused = refused lines_of lines_of-fed (λ prefix h long.
    lines_of-last prefix h (omega arith) ∙ ap (λ l. l ∷ []) (line_of-long prefix long) ∙ ap (λ ls. Long ∷ ls) (sym lines_of-none))

pub whole_lines_of-refused : (prefix more : List ℕ) → HasNoFeed prefix → LONGEST_LINE < length prefix →
    whole_lines_of (prefix ++ more) ≡ Long ∷ whole_lines_of (after_first is_feed more)
whole_lines_of-refused = refused whole_lines_of whole_lines_of-fed (λ prefix h long.
    whole_lines_of-long prefix h long ∙ ap (λ ls. Long ∷ ls) (sym whole_lines_of-none))

-- ---- more bytes

-- the texts round the line feeds of two lists, of which the last and the first are one
glued : List (List ℕ) → List (List ℕ) → List (List ℕ)
glued [] parts = parts
glued (text ∷ []) [] = text ∷ []
glued (text ∷ []) (part ∷ parts) = (text ++ part) ∷ parts
glued (text ∷ next ∷ texts) parts = text ∷ glued (next ∷ texts) parts

onto_first-glued : (b : ℕ) (texts parts : List (List ℕ)) → 0 < length texts →
    onto_first b (glued texts parts) ≡ glued (onto_first b texts) parts
unfolding glued
onto_first-glued b [] parts some = absurd (omega arith)
onto_first-glued b (text ∷ []) [] some = refl
onto_first-glued b (text ∷ []) (part ∷ parts) some = refl
onto_first-glued b (text ∷ next ∷ texts) parts some = refl

glued-more : (text : List ℕ) (texts parts : List (List ℕ)) → 0 < length texts → glued (text ∷ texts) parts ≡ text ∷ glued texts parts
unfolding glued
glued-more text [] parts some = absurd (omega arith)
glued-more text (next ∷ texts) parts some = refl

glued-none : (parts : List (List ℕ)) → 0 < length parts → glued ([] ∷ []) parts ≡ parts
unfolding glued
glued-none [] some = absurd (omega arith)
glued-none (part ∷ parts) some = refl

split_some : (bs : List ℕ) → 0 < length (slice_split is_feed bs)
split_some bs = omega (arith, length-slice_split is_feed bs)

split_append_at : (t : Bool) (b : ℕ) (bs more : List ℕ) → is_feed b ≡ t →
    slice_split is_feed (bs ++ more) ≡ glued (slice_split is_feed bs) (slice_split is_feed more)
    → slice_split is_feed ((b ∷ bs) ++ more) ≡ glued (slice_split is_feed (b ∷ bs)) (slice_split is_feed more)
split_append_at true b bs more e h =
    rw e (ap (λ parts. [] ∷ parts) h ∙ sym (glued-more [] (slice_split is_feed bs) (slice_split is_feed more) (split_some bs)))
split_append_at false b bs more e h =
    rw e (ap (onto_first b) h ∙ onto_first-glued b (slice_split is_feed bs) (slice_split is_feed more) (split_some bs))

split_append : (bs more : List ℕ) → slice_split is_feed (bs ++ more) ≡ glued (slice_split is_feed bs) (slice_split is_feed more)
split_append [] more = sym (glued-none (slice_split is_feed more) (split_some more))
split_append (b ∷ bs) more = split_append_at (is_feed b) b bs more refl (split_append bs more)

glued_some : (texts parts : List (List ℕ)) → 0 < length texts → 0 < length (glued texts parts)
unfolding glued
glued_some [] parts some = absurd (omega arith)
glued_some (text ∷ []) [] some = omega arith
glued_some (text ∷ []) (part ∷ parts) some = omega arith
glued_some (text ∷ next ∷ texts) parts some = omega arith

last-long : (text : List ℕ) → LONGEST_LINE < length text → lines_between (text ∷ []) ≡ Long ∷ []
last-long text long = grind (arith, common_steps)

-- a text that is too long already stays so
long_glued : (text : List ℕ) (parts : List (List ℕ)) → LONGEST_LINE < length text →
    (rest : List Line) × (lines_between (glued (text ∷ []) parts) ≡ Long ∷ rest)
unfolding glued
long_glued text [] long = ([], last-long text long)
long_glued text (part ∷ []) long = ([], last-long (text ++ part) (omega (arith, length-append text part)))
long_glued text (part ∷ next ∷ parts) long = (
  lines_between (next ∷ parts),
  ap (λ l. l ∷ lines_between (next ∷ parts)) (line_of-long (text ++ part) (omega (arith, length-append text part))),
)

one_glued : (t : Bool) (text : List ℕ) (parts : List (List ℕ)) → nat_lt LONGEST_LINE (length text) ≡ t →
    (rest : List Line) × (lines_between (glued (text ∷ []) parts) ≡ whole_between (text ∷ []) ++ rest)
one_glued true text parts e =
    let long = long_glued text parts (ltb-true LONGEST_LINE (length text) e) in
    (long.0, long.1 ∙ ap (λ b. (if b then Long ∷ [] else []) ++ long.0) (sym e))
one_glued false text parts e =
    let all = lines_between (glued (text ∷ []) parts) in
    (all, ap (λ b. (if b then Long ∷ [] else []) ++ all) (sym e))

between_glued : (texts parts : List (List ℕ)) → (rest : List Line) × (lines_between (glued texts parts) ≡ whole_between texts ++ rest)
unfolding glued
between_glued [] parts = (lines_between parts, refl)
between_glued (text ∷ []) parts = one_glued (nat_lt LONGEST_LINE (length text)) text parts refl
between_glued (text ∷ next ∷ texts) parts =
    let later = between_glued (next ∷ texts) parts in (
      later.0,
      between_more text (glued (next ∷ texts) parts) (glued_some (next ∷ texts) parts (omega arith))
          ∙ ap (λ ls. line_of text ∷ ls) later.1,
    )

-- the lines that stay are the first lines, whatever comes after them
pub lines_of-append : (bs more : List ℕ) → (rest : List Line) × (lines_of (bs ++ more) ≡ whole_lines_of bs ++ rest)
unfolding lines_of whole_lines_of
lines_of-append bs more =
    let rest = between_glued (slice_split is_feed bs) (slice_split is_feed more) in
    (rest.0, ap lines_between (split_append bs more) ∙ rest.1)

-- ---- what is left of an input

feed_splits : (held : List ℕ) (len : ℕ) → IsFeedAt held len → held ≡ take len held ++ 10 ∷ drop (len + 1) held
feed_splits held len f =
    let at : get_or held len 0 ≡ 10 = f.feed in
    let split : drop len held ≡ get_or held len 0 ∷ drop (len + 1) held = rw add-one (drop-cons held len 0 f.within) in
    sym (take-append-drop len held) ∙ ap (λ rest. take len held ++ rest) (split ∙ ap (λ b. b ∷ drop (len + 1) held) at)

-- what comes after the first line feed
pub after_first-held : (held more : List ℕ) (len : ℕ) → IsFeedAt held len →
    after_first is_feed (held ++ more) ≡ drop (len + 1) held ++ more
after_first-held held more len f =
    ap (λ bs. after_first is_feed (bs ++ more)) (feed_splits held len f)
    ∙ ap (after_first is_feed) (append_assoc (take len held) (10 ∷ drop (len + 1) held) more)
    ∙ after_first-fed (take len held) (drop (len + 1) held ++ more) f.before

-- the bytes before the first line feed are one line
pub lines_of-held : (held more : List ℕ) (len : ℕ) → IsFeedAt held len
    → lines_of (held ++ more) ≡ line_of (take len held) ∷ lines_of (drop (len + 1) held ++ more)
lines_of-held held more len f =
    ap (λ bs. lines_of (bs ++ more)) (feed_splits held len f)
    ∙ ap lines_of (append_assoc (take len held) (10 ∷ drop (len + 1) held) more)
    ∙ lines_of-fed (take len held) (drop (len + 1) held ++ more) f.before

pub whole_lines_of-held : (held more : List ℕ) (len : ℕ) → IsFeedAt held len
    → whole_lines_of (held ++ more) ≡ line_of (take len held) ∷ whole_lines_of (drop (len + 1) held ++ more)
whole_lines_of-held held more len f =
    ap (λ bs. whole_lines_of (bs ++ more)) (feed_splits held len f)
    ∙ ap whole_lines_of (append_assoc (take len held) (10 ∷ drop (len + 1) held) more)
    ∙ whole_lines_of-fed (take len held) (drop (len + 1) held ++ more) f.before

-- where the prefix of a line is held, no line that stays is left
pub whole_left-none : (passing : Bool) (held : List ℕ) → HasNoFeed held → length held ≤ LONGEST_LINE → whole_left passing held ≡ []
whole_left-none true held h short = ap whole_lines_of (after_first-none held h) ∙ whole_lines_of-none
whole_left-none false held h short = whole_lines_of-short held h short

-- a reader that holds a whole line holds it after the line that it refused
pub held_line_is_next : (r : Reader) → (r.passing ≡ false) × ¬ (HasNoFeed r.held) → HasNoFeed (held_on r) → ⊥
held_line_is_next r has none = has.1 (subst HasNoFeed (ap (λ p. text_left p r.held) has.0) none)

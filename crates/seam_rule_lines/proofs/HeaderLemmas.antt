-- The lines of headers.
use Rattle.std.proofs.Common.{◌≡◌, ◌≢◌, ◌+◌, ◌≤◌, ◌<◌, ℕ, List, [], ◌∷◌, ◌++◌, length, map, refl, sym, ◌∙◌, ap, subst, arith}
use Rattle.std.proofs.Common.{append_assoc, append-nil, length-append}
use Rattle.std.specs.Prelude.{All}
use Rattle.std.proofs.lemmas.List.{map-append}
use Rattle.std.proofs.lemmas.List.Concat.{flat_map-append}
use Rattle.std.proofs.lemmas.List.Elements.{All-nil, All-head, All-tail, All-push}
use Rattle.seam_io.specs.Lines.{Line, Content, Long}
use Rattle.seam_toml.specs.declared.documents.TheConstants.{MOST_HEADER_BYTES}
use Rattle.seam_toml.specs.declared.header.Header.{Header}
use Rattle.seam_toml.specs.Header.{Reads}
use Rattle.seam_toml.proofs.HeaderLaws.{reads_one}
use Rattle.seam_rule_lines.specs.Header.{AreHeaderLines, BeginWithHeader, AwaitHeader, separator, text_of_contents}

-- ---- contents of lines

-- no content is the header's end
abbrev NoneEnds : List (List ℕ) → Type 0
NoneEnds contents = All (λ content. Content content ≢ separator) contents

content_of : Line → List ℕ
content_of (Content line) = line
content_of Long = []

same_content : (c d : List ℕ) → Content c ≡ Content d → c ≡ d
unfolding content_of
same_content c d same = ap content_of same

first_of : Line → List Line → Line
first_of d [] = d
first_of d (line ∷ lines) = line

rest_of : List Line → List Line
rest_of [] = []
rest_of (line ∷ lines) = lines

same_first : (a b : Line) (xs ys : List Line) → a ∷ xs ≡ b ∷ ys → a ≡ b
unfolding first_of
same_first a b xs ys same = ap (first_of a) same

same_rest : (a b : Line) (xs ys : List Line) → a ∷ xs ≡ b ∷ ys → xs ≡ ys
unfolding rest_of
same_rest a b xs ys same = ap rest_of same

-- the lines of contents are those of no others
contents_are_one : (xs ys : List (List ℕ)) → map Content xs ≡ map Content ys → xs ≡ ys
contents_are_one [] [] same = refl
contents_are_one [] (y ∷ ys) same = cc
contents_are_one (x ∷ xs) [] same = cc
contents_are_one (x ∷ xs) (y ∷ ys) same =
    ap (λ (c : List ℕ). c ∷ xs) (same_content x y (same_first (Content x) (Content y) (map Content xs) (map Content ys) same))
    ∙ ap (λ (cs : List (List ℕ)). y ∷ cs)
    (contents_are_one xs ys (same_rest (Content x) (Content y) (map Content xs) (map Content ys) same))

-- lines are divided at the first end in one way
division_is_one : (xs ys : List (List ℕ)) (rest more : List Line) → NoneEnds xs → NoneEnds ys →
    map Content xs ++ separator ∷ rest ≡ map Content ys ++ separator ∷ more
    → (xs ≡ ys) × (rest ≡ more)
division_is_one [] [] rest more none none' same = (refl, same_rest separator separator rest more same)
division_is_one [] (y ∷ ys) rest more none none' same =
    absurd (All-head (λ content. Content content ≢ separator) y ys none'
    (sym (same_first separator (Content y) rest (map Content ys ++ separator ∷ more) same)))
division_is_one (x ∷ xs) [] rest more none none' same =
    absurd (All-head (λ content. Content content ≢ separator) x xs none
    (same_first (Content x) separator (map Content xs ++ separator ∷ rest) more same))
division_is_one (x ∷ xs) (y ∷ ys) rest more none none' same =
    let first : x ≡ y =
    same_content x y
    (same_first (Content x) (Content y) (map Content xs ++ separator ∷ rest) (map Content ys ++ separator ∷ more) same) in
    let others = division_is_one xs ys rest more (All-tail (λ content. Content content ≢ separator) x xs none)
    (All-tail (λ content. Content content ≢ separator) y ys none')
    (same_rest (Content x) (Content y) (map Content xs ++ separator ∷ rest) (map Content ys ++ separator ∷ more) same) in
    (ap (λ (c : List ℕ). c ∷ xs) first ∙ ap (λ (cs : List (List ℕ)). y ∷ cs) others.0, others.1)

-- ---- lines before a header's end

-- no line yet
pub no_lines_yet : AreHeaderLines [] []
no_lines_yet = record {
  contents = [];
  are = refl;
  none_ends = All-nil (λ (content : List ℕ). Content content ≢ separator);
  whole = refl;
  most = omega arith;
}

pub await_at_first : AwaitHeader []
await_at_first = ([], no_lines_yet)

text_with_line : (contents : List (List ℕ)) (c : List ℕ) → text_of_contents (contents ++ c ∷ []) ≡ text_of_contents contents ++ c ++ 10 ∷ []
text_with_line contents c =
    flat_map-append (λ (content : List ℕ). content ++ 10 ∷ []) contents (c ∷ [])
    ∙ ap (λ (last : List ℕ). text_of_contents contents ++ last) (append-nil (c ++ 10 ∷ []))
    ∙ sym (append_assoc (text_of_contents contents) c (10 ∷ []))

-- one more line
pub with_line : (lines : List Line) (text c : List ℕ) → AreHeaderLines lines text → Content c ≢ separator →
    length (text ++ c ++ 10 ∷ []) ≤ MOST_HEADER_BYTES → AreHeaderLines (lines ++ Content c ∷ []) (text ++ c ++ 10 ∷ [])
with_line lines text c are goes_on most = record {
  contents = are.contents ++ c ∷ [];
  are = ap (λ (ls : List Line). ls ++ Content c ∷ []) are.are ∙ sym (map-append Content are.contents (c ∷ []));
  none_ends = All-push (λ content. Content content ≢ separator) are.contents c are.none_ends goes_on;
  whole = ap (λ (t : List ℕ). t ++ c ++ 10 ∷ []) are.whole ∙ sym (text_with_line are.contents c);
  most = most;
}

-- lines make one text
pub text_is_one : (lines : List Line) (text other : List ℕ) → AreHeaderLines lines text → AreHeaderLines lines other → text ≡ other
text_is_one lines text other one two =
    one.whole ∙ ap text_of_contents (contents_are_one one.contents two.contents (sym one.are ∙ two.are)) ∙ sym two.whole

-- with a line that makes them too long they begin no header
pub too_long_for_header : (lines : List Line) (text c : List ℕ) → AreHeaderLines lines text →
    MOST_HEADER_BYTES < length (text ++ c ++ 10 ∷ []) → ¬ (AwaitHeader (lines ++ Content c ∷ []))
too_long_for_header lines text c are more (other, two) =
    let contents : two.contents ≡ are.contents ++ c ∷ [] =
    contents_are_one two.contents (are.contents ++ c ∷ []) (sym two.are ∙ ap (λ (ls : List Line). ls ++ Content c ∷ []) are.are
    ∙ sym (map-append Content are.contents (c ∷ []))) in
    let same : other ≡ text ++ c ++ 10 ∷ [] =
    two.whole ∙ ap text_of_contents contents ∙ text_with_line are.contents c ∙ ap (λ (t : List ℕ). t ++ c ++ 10 ∷ []) (sym are.whole) in
    let sizes = ap length same in
    let most = two.most in
    omega (arith, sizes, most, more)

-- nor with one that is itself too long
pub long_line_for_header : (lines : List Line) → ¬ (AwaitHeader (lines ++ Long ∷ []))
long_line_for_header lines (text, are) = no_long lines are.contents are.are
  where
    no_long : (lines : List Line) (contents : List (List ℕ)) → lines ++ Long ∷ [] ≡ map Content contents → ⊥
    no_long [] [] is = cc
    no_long [] (c ∷ cs) is = cc
    no_long (x ∷ xs) [] is = cc
    no_long (x ∷ xs) (c ∷ cs) is = no_long xs cs (same_rest x (Content c) (xs ++ Long ∷ []) (map Content cs) is)

-- nor with the header's end
pub end_for_header : (lines : List Line) → ¬ (AwaitHeader (lines ++ separator ∷ []))
end_for_header lines (text, are) = no_end lines are.contents are.are are.none_ends
  where
    no_end : (lines : List Line) (contents : List (List ℕ)) → lines ++ separator ∷ [] ≡ map Content contents → NoneEnds contents → ⊥
    no_end [] [] is none = cc
    no_end [] (c ∷ cs) is none =
        All-head (λ content. Content content ≢ separator) c cs none (sym (same_first separator (Content c) [] (map Content cs) is))
    no_end (x ∷ xs) [] is none = cc
    no_end (x ∷ xs) (c ∷ cs) is none =
        no_end xs cs (same_rest x (Content c) (xs ++ separator ∷ []) (map Content cs) is)
        (All-tail (λ content. Content content ≢ separator) c cs none)

-- ---- headers

-- the end came, and the text before it stands for a header
pub header_ended : (lines : List Line) (text : List ℕ) (h : Header) → AreHeaderLines lines text → Reads text h →
    BeginWithHeader (lines ++ separator ∷ []) h (length lines + 1) []
header_ended lines text h are reads =
    record { head = lines; text = text; are = are; reads = reads; number = refl; whole = refl }

-- lines that begin with a header begin with the same lines of it and have the same others
pub header_lines_are_one : (lines : List Line) (h k : Header) (m n : ℕ) (rest more : List Line) (x : BeginWithHeader lines h m rest) →
    (y : BeginWithHeader lines k n more) → (x.head ≡ y.head) × (x.text ≡ y.text) × (rest ≡ more)
header_lines_are_one lines h k m n rest more x y =
    let one : lines ≡ map Content x.are.contents ++ separator ∷ rest =
    x.whole ∙ ap (λ (ls : List Line). ls ++ separator ∷ rest) x.are.are in
    let two : lines ≡ map Content y.are.contents ++ separator ∷ more =
    y.whole ∙ ap (λ (ls : List Line). ls ++ separator ∷ more) y.are.are in
    let same = division_is_one x.are.contents y.are.contents rest more x.are.none_ends y.are.none_ends (sym one ∙ two) in (
      x.are.are ∙ ap (map Content) same.0 ∙ sym y.are.are,
      x.are.whole ∙ ap text_of_contents same.0 ∙ sym y.are.whole,
      same.1,
    )

-- as many lines as were counted
pub lines_of_header : (lines : List Line) (h : Header) (count : ℕ) (rest : List Line) → BeginWithHeader lines h count rest →
    length lines ≡ count + length rest
lines_of_header lines h count rest begins =
    let number = begins.number in
    let parts = length-append begins.head (separator ∷ rest) in
    ap length begins.whole ∙ omega (arith, number, parts)

-- a header stays one when lines are appended
pub header_of_append : (lines : List Line) (h : Header) (count : ℕ) (rest more : List Line) → BeginWithHeader lines h count rest →
    BeginWithHeader (lines ++ more) h count (rest ++ more)
header_of_append lines h count rest more begins = record {
  head = begins.head;
  text = begins.text;
  are = begins.are;
  reads = begins.reads;
  number = begins.number;
  whole = ap (λ (ls : List Line). ls ++ more) begins.whole ∙ append_assoc begins.head (separator ∷ rest) more;
}

-- what lines with a header begin with is one
pub header_is_one : (lines : List Line) (h k : Header) (m n : ℕ) (rest more : List Line) → BeginWithHeader lines h m rest →
    BeginWithHeader lines k n more → (h ≡ k) × (m ≡ n) × (rest ≡ more)
header_is_one lines h k m n rest more x y =
    let same = header_lines_are_one lines h k m n rest more x y in (
      reads_one y.text h k (subst (λ (t : List ℕ). Reads t h) same.1 x.reads) y.reads,
      x.number ∙ ap (λ (ls : List Line). length ls + 1) same.0 ∙ sym y.number,
      same.2,
    )

-- Lines begin with one header, or are refused as one at one line and for one cause.
use Rattle.std.proofs.Common.{◌≡◌, ◌≢◌, ◌⊎◌, ℕ, ◌+◌, ◌<◌, List, [], ◌∷◌, ◌++◌, Some, map, length, refl, sym, ◌∙◌, ap}
use Rattle.std.proofs.Common.{subst, arith, inl, inr, All, append_assoc, length-append}
use Rattle.std.proofs.lemmas.Bool.{cases_lt}
use Rattle.std.proofs.lemmas.Option.{same_Some, none-some}
use Rattle.std.proofs.lemmas.List.Elements.{All-nil, All-head, All-tail, All-cons}
use Rattle.std.proofs.lemmas.List.Concat.{flat_map-append}
use Rattle.seam_io.specs.Lines.{Line, Content}
use Rattle.seam_toml.specs.Faults.{HeaderHas, IsFirstFault, order}
use Rattle.seam_toml.specs.Header.{Reads, Refuses, HasFirstFault, number_of}
use Rattle.seam_toml.specs.declared.documents.TheConstants.{MOST_HEADER_BYTES}
use Rattle.seam_toml.specs.declared.faults.Fault.{Fault}
use Rattle.seam_toml.specs.declared.faults.Fault.TheVariants as fault
use Rattle.seam_toml.specs.declared.header.Header.{Header}
use Rattle.seam_toml.specs.declared.header.HeaderError.{HeaderError}
use Rattle.seam_toml.specs.declared.header.HeaderError.TheVariants as error
use Rattle.seam_rule_lines.specs.Header.{AwaitHeader, BeginWithHeader, RefusesHeader, separator, text_of_contents}
use Rattle.seam_rule_lines.proofs.HeaderLemmas.{end_for_header, text_is_one}
use Rattle.seam_law_verdicts.specs.Verdicts.{HasBadHeader}

-- ---- causes of a text

-- the cause of a number holds against the text
record IsCause (text : List ℕ) (k : ℕ) : Type 0 where
  is : ((k ≡ 9) × (MOST_HEADER_BYTES < length text))
      ⊎ (((k ≡ 1) × Refuses text error.NotToml) ⊎ ((f : Fault) × HasFirstFault text f × (k ≡ order f + 2)))

number_is : (n k : ℕ) → Some n ≡ Some k → k ≡ n
number_is n k is = cc

faulted : (text : List ℕ) (f : Fault) (n k : ℕ) → HasFirstFault text f → n ≡ order f + 2 → Some n ≡ Some k → IsCause text k
faulted text f n k has at is = record { is = inr (inr (f, has, number_is n k is ∙ at)) }

cause_of : (text : List ℕ) (e : HeaderError) (k : ℕ) → Refuses text e → number_of e ≡ Some k → IsCause text k
cause_of text error.TooLong k long is = record { is = inl (number_is 9 k is, long) }
cause_of text error.NotToml k none is = record { is = inr (inl (number_is 1 k is, none)) }
cause_of text error.NoSuchKey k has is = faulted text fault.NoSuchKey 2 k has refl is
cause_of text error.BadType k has is = faulted text fault.BadType 3 k has refl is
cause_of text error.BadFlag k has is = faulted text fault.BadFlag 4 k has refl is
cause_of text error.BadDefault k has is = faulted text fault.BadDefault 5 k has refl is
cause_of text error.BadBody k has is = faulted text fault.BadBody 6 k has refl is
cause_of text error.TooManyNames k has is = faulted text fault.TooManyNames 7 k has refl is
cause_of text error.GhostTooNear k has is = faulted text fault.GhostTooNear 8 k has refl is
cause_of text error.NoMemory k short is = absurd (none-some k is)

one_fault : (text : List ℕ) (f g : Fault) → HasFirstFault text f → HasFirstFault text g → order f ≡ order g
one_fault text f g x y =
    let same : y.ms ≡ x.ms = same_Some y.ms x.ms (sym y.document.parsed ∙ x.document.parsed) in
    let first : IsFirstFault x.ms g = subst (λ ms. IsFirstFault ms g) same y.first in
    elim (cases_lt (order f) (order g)) [
      | inl below ↦ absurd (first.before f below x.first.here)
      | inr past ↦
          elim (cases_lt (order g) (order f)) [
            | inl below ↦ absurd (x.first.before g below first.here)
            | inr too ↦ omega (arith, past, too)
          ]
    ]

one_cause : (text : List ℕ) (k l : ℕ) → IsCause text k → IsCause text l → k ≡ l
one_cause text k l x y = by x.is y.is
  where
    by : (((k ≡ 9) × (MOST_HEADER_BYTES < length text))
        ⊎ (((k ≡ 1) × Refuses text error.NotToml)
        ⊎ ((f : Fault) × HasFirstFault text f × (k ≡ order f + 2)))) →
        (((l ≡ 9) × (MOST_HEADER_BYTES < length text))
        ⊎ (((l ≡ 1) × Refuses text error.NotToml)
        ⊎ ((f : Fault) × HasFirstFault text f × (l ≡ order f + 2)))) → k ≡ l
    by (inl (is, long)) (inl (at, too)) = is ∙ sym at
    by (inl (is, long)) (inr (inl (at, none))) = let short = none.0 in absurd (omega (arith, long, short))
    by (inl (is, long)) (inr (inr (f, has, at))) = let short = has.short in absurd (omega (arith, long, short))
    by (inr (inl (is, none))) (inl (at, long)) = let short = none.0 in absurd (omega (arith, long, short))
    by (inr (inl (is, none))) (inr (inl (at, never))) = is ∙ sym at
    by (inr (inl (is, none))) (inr (inr (f, has, at))) = absurd (none.1 has.ms has.document)
    by (inr (inr (f, has, is))) (inl (at, long)) = let short = has.short in absurd (omega (arith, long, short))
    by (inr (inr (f, has, is))) (inr (inl (at, none))) = absurd (none.1 has.ms has.document)
    by (inr (inr (f, has, is))) (inr (inr (g, had, at))) = is ∙ ap (λ (n : ℕ). n + 2) (one_fault text f g has had) ∙ sym at

-- a text that stands for a header has none
not_read : (text : List ℕ) (h : Header) (k : ℕ) → Reads text h → IsCause text k → ⊥
not_read text h k reads x = by x.is
  where
    by : (((k ≡ 9) × (MOST_HEADER_BYTES < length text))
        ⊎ (((k ≡ 1) × Refuses text error.NotToml)
        ⊎ ((f : Fault) × HasFirstFault text f × (k ≡ order f + 2)))) → ⊥
    by (inl (is, long)) = let short = reads.short in omega (arith, short, long)
    by (inr (inl (is, none))) = none.1 reads.ms reads.document
    by (inr (inr (f, has, is))) =
        let same = same_Some has.ms reads.ms (sym has.document.parsed ∙ reads.document.parsed) in
        reads.faultless f (subst (λ ms. HeaderHas ms f) same has.first.here)

-- ---- lines before a header's end

first_is : (a b : Line) (xs ys : List Line) → a ∷ xs ≡ b ∷ ys → a ≡ b
first_is a b xs ys is = cc

rest_is : (a b : Line) (xs ys : List Line) → a ∷ xs ≡ b ∷ ys → xs ≡ ys
rest_is a b xs ys is = cc

-- the contents of the first lines
record Firsts (xs : List Line) (contents : List (List ℕ)) : Type 0 where
  firsts : List (List ℕ)
  others : List (List ℕ)
  whole : contents ≡ firsts ++ others
  are : xs ≡ map Content firsts

firsts_of : (xs m : List Line) (contents : List (List ℕ)) → xs ++ m ≡ map Content contents → Firsts xs contents
firsts_of [] m contents is = record { firsts = []; others = contents; whole = refl; are = refl }
firsts_of (x ∷ xs) m [] is = cc
firsts_of (x ∷ xs) m (c ∷ cs) is =
    let first = first_is x (Content c) (xs ++ m) (map Content cs) is in
    let later = firsts_of xs m cs (rest_is x (Content c) (xs ++ m) (map Content cs) is) in
    record {
      firsts = c ∷ later.firsts;
      others = later.others;
      whole = ap (λ (ds : List (List ℕ)). c ∷ ds) later.whole;
      are = λ i. first i ∷ later.are i;
    }

all_first : {X : Type 0} (P : X → Type 0) (xs ys : List X) → All P (xs ++ ys) → All P xs
all_first P [] ys all = All-nil P
all_first P (x ∷ xs) ys all = All-cons P x xs (All-head P x (xs ++ ys) all) (all_first P xs ys (All-tail P x (xs ++ ys) all))

-- the first of lines that may begin a header may do so
first_await : (xs m : List Line) → AwaitHeader (xs ++ m) → AwaitHeader xs
first_await xs m (text, are) =
    let parts = firsts_of xs m are.contents are.are in
    let whole : text ≡ text_of_contents parts.firsts ++ text_of_contents parts.others =
    are.whole ∙ ap text_of_contents parts.whole
    ∙ flat_map-append (λ (content : List ℕ). content ++ 10 ∷ []) parts.firsts parts.others in
    let size = ap length whole in
    let both = length-append (text_of_contents parts.firsts) (text_of_contents parts.others) in
    let most = are.most in (
      text_of_contents parts.firsts,
      record {
        contents = parts.firsts;
        are = parts.are;
        none_ends = all_first (λ c. Content c ≢ separator) parts.firsts parts.others
            (subst (All (λ c. Content c ≢ separator)) parts.whole are.none_ends);
        whole = refl;
        most = omega (arith, size, both, most);
      },
    )

-- ---- where reading stops

-- lines may begin a header, and with the next one they do not
record StopsAt (read : List Line) (line : Line) : Type 0 where
  before : AwaitHeader read
  with_it : ¬ (AwaitHeader (read ++ line ∷ []))

refusal_stops : (read : List Line) (line : Line) (k : ℕ) → RefusesHeader read line k → StopsAt read line
refusal_stops read line k (inl (is, other, before, bad)) = record { before = before; with_it = bad }
refusal_stops read line k (inr (ends, text, e, are, refuses, number)) = record {
  before = (text, are);
  with_it = subst (λ (l : Line). ¬ (AwaitHeader (read ++ l ∷ []))) (sym ends) (end_for_header read);
}

header_stops : (lines : List Line) (h : Header) (count : ℕ) (rest : List Line) (x : BeginWithHeader lines h count rest) →
    StopsAt x.head separator
header_stops lines h count rest x = record { before = (x.text, x.are); with_it = end_for_header x.head }

not_after : (xs ys m : List Line) (a : Line) → StopsAt xs a → AwaitHeader ys → ys ≡ (xs ++ a ∷ []) ++ m → ⊥
not_after xs ys m a stops awaits is = stops.with_it (first_await (xs ++ a ∷ []) m (subst AwaitHeader is awaits))

-- lines are alike up to a line, or one of the two goes on behind the line of the other
compare : (xs ys ms ns : List Line) (a b : Line) → xs ++ a ∷ ms ≡ ys ++ b ∷ ns →
    ((xs ≡ ys) × (a ≡ b)) ⊎ (((m : List Line) × (ys ≡ (xs ++ a ∷ []) ++ m)) ⊎ ((m : List Line) × (xs ≡ (ys ++ b ∷ []) ++ m)))
compare [] [] ms ns a b is = inl (refl, first_is a b ms ns is)
compare [] (y ∷ ys) ms ns a b is = inr (inl (ys, ap (λ (l : Line). l ∷ ys) (sym (first_is a y ms (ys ++ b ∷ ns) is))))
compare (x ∷ xs) [] ms ns a b is = inr (inr (xs, ap (λ (l : Line). l ∷ xs) (first_is x b (xs ++ a ∷ ms) ns is)))
compare (x ∷ xs) (y ∷ ys) ms ns a b is =
    let first = first_is x y (xs ++ a ∷ ms) (ys ++ b ∷ ns) is in
    elim (compare xs ys ms ns a b (rest_is x y (xs ++ a ∷ ms) (ys ++ b ∷ ns) is)) [
      | inl (same, at) ↦ inl ((λ i. first i ∷ same i), at)
      | inr (inl (m, on)) ↦ inr (inl (m, (λ i. sym first i ∷ on i)))
      | inr (inr (m, on)) ↦ inr (inr (m, (λ i. first i ∷ on i)))
    ]

stops_once : (xs ys ms ns : List Line) (a b : Line) → xs ++ a ∷ ms ≡ ys ++ b ∷ ns → StopsAt xs a → StopsAt ys b → (xs ≡ ys) × (a ≡ b)
stops_once xs ys ms ns a b is one other =
    elim (compare xs ys ms ns a b is) [
      | inl same ↦ same
      | inr (inl (m, on)) ↦ absurd (not_after xs ys m a one other.before on)
      | inr (inr (m, on)) ↦ absurd (not_after ys xs m b other one.before on)
    ]

never_stops : (lines read more : List Line) (line : Line) → AwaitHeader lines → lines ≡ read ++ line ∷ more → StopsAt read line → ⊥
never_stops lines read more line awaits is stops =
    not_after read lines more line stops awaits (is ∙ sym (append_assoc read (line ∷ []) more))

-- ---- one fault

one_refusal : (read : List Line) (line : Line) (k l : ℕ) → RefusesHeader read line k → RefusesHeader read line l → k ≡ l
one_refusal read line k l (inl (is, other, before, bad)) (inl (at, others, awaits, never)) = is ∙ sym at
one_refusal read line k l (inl (is, other, before, bad)) (inr (ends, text, e, are, refuses, number)) = absurd (other ends)
one_refusal read line k l (inr (ends, text, e, are, refuses, number)) (inl (at, other, before, bad)) = absurd (other ends)
one_refusal read line k l (inr (ends, text, e, are, refuses, number)) (inr (end, words, f, too, refused, numbered)) =
    let same : text ≡ words = text_is_one read text words are too in
    one_cause words k l (subst (λ (t : List ℕ). IsCause t k) same (cause_of text e k refuses number)) (cause_of words f l refused numbered)

pub one_bad_header : (lines : List Line) (k l : ℕ) → HasBadHeader lines k → HasBadHeader lines l → k ≡ l
one_bad_header lines k l (inl (is, awaits)) (inl (at, waits)) = is ∙ sym at
one_bad_header lines k l (inl (is, awaits)) (inr (read, line, more, whole, refuses)) =
    absurd (never_stops lines read more line awaits whole (refusal_stops read line l refuses))
one_bad_header lines k l (inr (read, line, more, whole, refuses)) (inl (at, waits)) =
    absurd (never_stops lines read more line waits whole (refusal_stops read line k refuses))
one_bad_header lines k l (inr (read, line, more, whole, refuses)) (inr (first, end, rest, is, refused)) =
    let same =
    stops_once read first more rest line end (sym whole ∙ is) (refusal_stops read line k refuses) (refusal_stops first end l refused) in
    one_refusal first end k l
    (subst (λ (x : Line). RefusesHeader first x k) same.1 (subst (λ (xs : List Line). RefusesHeader xs line k) same.0 refuses)) refused

-- ---- a header that lines begin with has none

pub good_header : (lines : List Line) (h : Header) (count : ℕ) (rest : List Line) (k : ℕ) → BeginWithHeader lines h count rest →
    HasBadHeader lines k → ⊥
good_header lines h count rest k x (inl (is, awaits)) =
    never_stops lines x.head rest separator awaits x.whole (header_stops lines h count rest x)
good_header lines h count rest k x (inr (read, line, more, whole, refuses)) =
    let same =
    stops_once read x.head more rest line separator (sym whole ∙ x.whole) (refusal_stops read line k refuses)
    (header_stops lines h count rest x) in
    at_end (subst (λ (l : Line). RefusesHeader x.head l k) same.1 (subst (λ (xs : List Line). RefusesHeader xs line k) same.0 refuses))
  where
    at_end : RefusesHeader x.head separator k → ⊥
    at_end (inl (is, other, before, bad)) = other refl
    at_end (inr (ends, text, e, are, refuses, number)) =
        not_read x.text h k x.reads
        (subst (λ (t : List ℕ). IsCause t k) (text_is_one x.head text x.text are x.are) (cause_of text e k refuses number))

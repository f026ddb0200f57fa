-- When a run is complete.
use Rattle.std.proofs.Common.{◌≡◌, ◌≢◌, ◌≤◌, inl, inr, ℕ, List, [], ◌∷◌, ◌++◌, Option, Some, None, map, length, refl, sym, ap, ◌∙◌}
use Rattle.std.proofs.Common.{subst, arith, append_assoc, append-nil, length-append}
use Rattle.std.specs.Prelude.{All, ◌⊎◌}
use Rattle.std.specs.Io.KnownBytes.{Consumes, IsAtEnd}
use Rattle.std.proofs.lemmas.Option.{same_Some, none-some}
use Rattle.std.proofs.lemmas.List.Elements.{All-nil, All-head, All-tail, All-cons, All-push}
use Rattle.std.proofs.lemmas.List.Concat.{flat_map-append}
use Rattle.seam_io.specs.Causes.{Rose}
use Rattle.seam_io.specs.States.{SourceState, SinkState}
use Rattle.seam_io.specs.Lines.{Line, Content, lines_of}
use Rattle.seam_io.proofs.LineLemmas.{lines_of-append}
use Rattle.seam_toml.specs.declared.header.Header.{Header}
use Rattle.seam_toml.specs.declared.header.HeaderError.{HeaderError}
use Rattle.seam_toml.specs.declared.header.HeaderError.TheVariants as error
use Rattle.seam_toml.specs.declared.faults.Fault.{Fault}
use Rattle.seam_toml.specs.Header.{Reads, Refuses, HasFirstFault, number_of}
use Rattle.seam_toml.specs.Faults.{HeaderHas}
use Rattle.seam_rule_lines.specs.Header.{AreHeaderLines, BeginWithHeader, AwaitHeader, RefusesHeader, separator, text_of_contents}
use Rattle.seam_watch.specs.declared.journal.Journal.{Journal}
use Rattle.seam_rule_lines.proofs.HeaderLemmas.{text_is_one, end_for_header}
use Rattle.seam_world_ends.specs.Ends.{AreFirst, AreAll, IsPrefix, IsHeaderFault, Means, MayComplete}
use Rattle.seam_world_ends.specs.declared.status.Status.{Status}
use Rattle.seam_world_ends.specs.declared.status.Status.TheVariants as status

-- ---- a text that stands for a header is not refused

fault_denied : (text : List ℕ) (h : Header) (f : Fault) → Reads text h → HasFirstFault text f → ⊥
fault_denied text h f reads has =
    let same = same_Some has.ms reads.ms (sym has.document.parsed ∙ reads.document.parsed) in
    reads.faultless f (subst (λ ms. HeaderHas ms f) same has.first.here)

read_is_not_refused : (text : List ℕ) (h : Header) (e : HeaderError) (k : ℕ) → Reads text h → Refuses text e → number_of e ≡ Some k → ⊥
read_is_not_refused text h error.TooLong k reads long is = let short = reads.short in absurd (omega (arith, short, long))
read_is_not_refused text h error.NotToml k reads none is = none.1 reads.ms reads.document
read_is_not_refused text h error.NoSuchKey k reads has is = fault_denied text h _ reads has
read_is_not_refused text h error.BadType k reads has is = fault_denied text h _ reads has
read_is_not_refused text h error.BadFlag k reads has is = fault_denied text h _ reads has
read_is_not_refused text h error.BadDefault k reads has is = fault_denied text h _ reads has
read_is_not_refused text h error.BadBody k reads has is = fault_denied text h _ reads has
read_is_not_refused text h error.TooManyNames k reads has is = fault_denied text h _ reads has
read_is_not_refused text h error.GhostTooNear k reads has is = fault_denied text h _ reads has
read_is_not_refused text h error.NoMemory k reads short is = none-some k is

-- ---- lines before a header's end

abbrev NoEnd : Line → Type 0
NoEnd line = line ≢ separator

no_end_among : (contents : List (List ℕ)) → All (λ c. Content c ≢ separator) contents → All NoEnd (map Content contents)
no_end_among [] none = All-nil NoEnd
no_end_among (c ∷ cs) none =
    All-cons NoEnd (Content c) (map Content cs) (All-head (λ c. Content c ≢ separator) c cs none)
    (no_end_among cs (All-tail (λ c. Content c ≢ separator) c cs none))

none_end : (lines : List Line) (text : List ℕ) → AreHeaderLines lines text → All NoEnd lines
none_end lines text are = subst (All NoEnd) (sym are.are) (no_end_among are.contents are.none_ends)

first_of : Line → List Line → Line
first_of d [] = d
first_of d (line ∷ lines) = line

rest_of : List Line → List Line
rest_of [] = []
rest_of (line ∷ lines) = lines

same_first : (a b : Line) (xs ys : List Line) → a ∷ xs ≡ b ∷ ys → a ≡ b
unfolding first_of
same_first a b xs ys same = ap (first_of a) same

same_rest : (a b : Line) (xs ys : List Line) → a ∷ xs ≡ b ∷ ys → xs ≡ ys
unfolding rest_of
same_rest a b xs ys same = ap rest_of same

-- lines without an end are the first of those before it
before_the_end : (xs head more rest : List Line) → All NoEnd xs → xs ++ more ≡ head ++ separator ∷ rest →
    (m : List Line) × (head ≡ xs ++ m) × (more ≡ m ++ separator ∷ rest)
before_the_end [] head more rest none same = (head, refl, same)
before_the_end (x ∷ xs) [] more rest none same = absurd (All-head NoEnd x xs none (same_first x separator (xs ++ more) rest same))
before_the_end (x ∷ xs) (y ∷ ys) more rest none same =
    let first = same_first x y (xs ++ more) (ys ++ separator ∷ rest) same in
    let others = before_the_end xs ys more rest (All-tail NoEnd x xs none) (same_rest x y (xs ++ more) (ys ++ separator ∷ rest) same) in (
      others.0,
      ap (λ (l : Line). l ∷ ys) (sym first) ∙ ap (λ (ls : List Line). x ∷ ls) others.1,
      others.2,
    )

-- the first of a header's lines may begin one
split_contents : (xs m : List Line) (contents : List (List ℕ)) → xs ++ m ≡ map Content contents →
    (firsts others : List (List ℕ)) × (contents ≡ firsts ++ others) × (xs ≡ map Content firsts)
split_contents [] m contents same = ([], contents, refl, refl)
split_contents (x ∷ xs) m [] same = cc
split_contents (x ∷ xs) m (c ∷ cs) same =
    let first = same_first x (Content c) (xs ++ m) (map Content cs) same in
    let rest = split_contents xs m cs (same_rest x (Content c) (xs ++ m) (map Content cs) same) in (
      c ∷ rest.0,
      rest.1,
      ap (λ (ds : List (List ℕ)). c ∷ ds) rest.2,
      ap (λ (l : Line). l ∷ xs) first ∙ ap (λ (ls : List Line). Content c ∷ ls) rest.3,
    )

All_first : {X : Type 0} (P : X → Type 0) (xs ys : List X) → All P (xs ++ ys) → All P xs
All_first P [] ys all = All-nil P
All_first P (x ∷ xs) ys all = All-cons P x xs (All-head P x (xs ++ ys) all) (All_first P xs ys (All-tail P x (xs ++ ys) all))

first_lines_await : (xs m : List Line) (text : List ℕ) → AreHeaderLines (xs ++ m) text → AwaitHeader xs
first_lines_await xs m text are =
    let parts = split_contents xs m are.contents are.are in
    let whole : text ≡ text_of_contents parts.0 ++ text_of_contents parts.1 =
    are.whole ∙ ap text_of_contents parts.2 ∙ flat_map-append (λ (content : List ℕ). content ++ 10 ∷ []) parts.0 parts.1 in
    let size = ap length whole in
    let both = length-append (text_of_contents parts.0) (text_of_contents parts.1) in
    let most = are.most in (
      text_of_contents parts.0,
      record {
        contents = parts.0;
        are = parts.3;
        none_ends = All_first (λ c. Content c ≢ separator) parts.0 parts.1
            (subst (All (λ c. Content c ≢ separator)) parts.2 are.none_ends);
        whole = refl;
        most = omega (arith, size, both, most);
      },
    )

-- ---- a header that lines begin with is not refused

-- not at a line of them
line_is_not_refused : (lines : List Line) (h : Header) (count : ℕ) (rest : List Line) (read : List Line) (line : Line) (more : List Line)
    (k : ℕ) → BeginWithHeader lines h count rest → lines ≡ (read ++ line ∷ []) ++ more → RefusesHeader read line k → ⊥
line_is_not_refused lines h count rest read line more k begins first (inl (is, other, (text, are), bad)) =
    let none = All-push NoEnd read line (none_end read text are) other in
    let within = before_the_end (read ++ line ∷ []) begins.head more rest none (sym first ∙ begins.whole) in
    bad (first_lines_await (read ++ line ∷ []) within.0 begins.text
    (subst (λ (ls : List Line). AreHeaderLines ls begins.text) within.1 begins.are))
line_is_not_refused lines h count rest read line more k begins first (inr (ends, text, e, are, refuses, number)) =
    let whole : read ++ separator ∷ more ≡ begins.head ++ separator ∷ rest =
    ap (λ (l : Line). read ++ l ∷ more) (sym ends) ∙ sym (append_assoc read (line ∷ []) more) ∙ sym first ∙ begins.whole in
    let within = before_the_end read begins.head (separator ∷ more) rest (none_end read text are) whole in
    by_rest within.0 within.1 within.2
  where
    by_rest : (m : List Line) → begins.head ≡ read ++ m → separator ∷ more ≡ m ++ separator ∷ rest → ⊥
    by_rest [] head after =
        let same : text ≡ begins.text =
        text_is_one read text begins.text are
        (subst (λ (ls : List Line). AreHeaderLines ls begins.text) (head ∙ append-nil read) begins.are) in
        read_is_not_refused begins.text h e k begins.reads (subst (λ (t : List ℕ). Refuses t e) same refuses) number
    by_rest (x ∷ m) head after =
        let is : separator ≡ x = same_first separator x more (m ++ separator ∷ rest) after in
        let here : begins.head ≡ (read ++ separator ∷ []) ++ m =
        head ∙ ap (λ (l : Line). read ++ l ∷ m) (sym is) ∙ sym (append_assoc read (separator ∷ []) m) in
        end_for_header read (first_lines_await (read ++ separator ∷ []) m begins.text
        (subst (λ (ls : List Line). AreHeaderLines ls begins.text) here begins.are))

-- nor for the want of its end
end_is_there : (lines : List Line) (h : Header) (count : ℕ) (rest : List Line) → BeginWithHeader lines h count rest → AwaitHeader lines → ⊥
end_is_there lines h count rest begins (text, are) =
    let within =
    before_the_end lines begins.head [] rest (none_end lines text are) (append-nil lines ∙ begins.whole) in
    no_rest within.0 within.2
  where
    no_rest : (m : List Line) → [] ≡ m ++ separator ∷ rest → ⊥
    no_rest [] is = cc
    no_rest (x ∷ m) is = cc

-- ---- the bytes that a run took

taken : (old new : Option (List ℕ)) (bytes given : List ℕ) → old ≡ Some bytes → Consumes old new given →
    (left : List ℕ) × (new ≡ Some left) × (bytes ≡ given ++ left)
taken None new bytes given is took = absurd (none-some bytes is)
taken (Some xs) None bytes given is took = absurd took
taken (Some xs) (Some ys) bytes given is took = (ys, refl, sym (same_Some xs bytes is) ∙ took)

at_end : (new : Option (List ℕ)) (left : List ℕ) → new ≡ Some left → IsAtEnd new → left ≡ []
at_end None left is end = absurd (none-some left is)
at_end (Some ys) left is end = sym (same_Some ys left is) ∙ end

-- all lines, where the input has ended
pub all_lines : (old new : SourceState) (bytes given : List ℕ) (read : List Line) → old.left ≡ Some bytes →
    Consumes old.left new.left given → AreAll old new given read → lines_of bytes ≡ read
all_lines old new bytes given read is took (rose, end, lines) =
    let rest = taken old.left new.left bytes given is took in
    let none = at_end new.left rest.0 rest.1 end in
    ap lines_of (rest.2 ∙ ap (λ (bs : List ℕ). given ++ bs) none ∙ append-nil given) ∙ lines

-- or the first
pub first_lines : (old new : SourceState) (bytes given : List ℕ) (read : List Line) → old.left ≡ Some bytes →
    Consumes old.left new.left given → AreFirst old new given read → IsPrefix read (lines_of bytes)
first_lines old new bytes given read is took (inl (more, prefix)) =
    let rest = taken old.left new.left bytes given is took in
    let all = lines_of-append given rest.0 in (
      more ++ all.0,
      ap lines_of rest.2 ∙ all.1 ∙ ap (λ (ls : List Line). ls ++ all.0) prefix ∙ append_assoc read more all.0,
    )
first_lines old new bytes given read is took (inr (rose, end, (more, prefix))) =
    (more, all_lines old new bytes given (lines_of given) is took (rose, end, refl) ∙ prefix)

no_header_fault : (old new : SourceState) (sink sink' : SinkState) (given : List ℕ) (k : ℕ) → MayComplete old new sink sink' →
    Consumes old.left new.left given → IsHeaderFault old new given k → ⊥
no_header_fault old new sink sink' given k may took (inl (is, read, all, awaits)) =
    end_is_there (lines_of may.bytes) may.header may.count may.rest may.begins
    (subst AwaitHeader (sym (all_lines old new may.bytes given read may.left took all)) awaits)
no_header_fault old new sink sink' given k may took (inr (read, line, first, refuses)) =
    let all = first_lines old new may.bytes given (read ++ line ∷ []) may.left took first in
    line_is_not_refused (lines_of may.bytes) may.header may.count may.rest read line all.0 k may.begins all.1 refuses

-- ---- how a run ends that may be complete

within_bytes : (old new : SourceState) (bytes given : List ℕ) → old.left ≡ Some bytes → Consumes old.left new.left given →
    length given ≤ length bytes
within_bytes old new bytes given is took =
    let rest = taken old.left new.left bytes given is took in
    let size = ap length rest.2 in
    let parts = length-append given rest.0 in
    omega (arith, size, parts)

pub is_complete : (Open Ended : List Line → List ℕ → List Journal → Type 0) (st : Status) (old new : SourceState) (sink sink' : SinkState)
    (given text : List ℕ) (steps : List Journal) → Consumes old.left new.left given → Means Open Ended st old new given text steps →
    MayComplete old new sink sink' → (st ≡ status.Usage → ⊥) → (st ≡ status.WriteFault → Rose sink.faults sink'.faults) →
    (st ≡ status.Done) ⊎ (st ≡ status.NoMemory)
is_complete Open Ended status.Done old new sink sink' given text steps took means may usage failed = inl refl
is_complete Open Ended status.NoMemory old new sink sink' given text steps took means may usage failed = inr refl
is_complete Open Ended status.Usage old new sink sink' given text steps took means may usage failed = absurd (usage refl)
is_complete Open Ended status.ReadFault old new sink sink' given text steps took means may usage failed = absurd (may.reads means.0)
is_complete Open Ended status.WriteFault old new sink sink' given text steps took means may usage failed = absurd (may.writes (failed refl))
is_complete Open Ended status.Limit old new sink sink' given text steps took means may usage failed =
    let all = means.0 in
    let few = may.few in
    let within = within_bytes old new may.bytes given may.left took in
    absurd (omega (arith, all, few, within))
is_complete Open Ended (status.BadHeader k) old new sink sink' given text steps took means may usage failed =
    absurd (no_header_fault old new sink sink' given k may took means.2)

-- How a run reads its header.
use Rattle.std.proofs.Common.{◌≡◌, ◌≢◌, ◌≤◌, ◌+◌, inl, inr, ℕ, List, [], ◌∷◌, ◌++◌, Option, Some, None, Ok, length, refl, sym, ◌∙◌}
use Rattle.std.proofs.Common.{subst, arith}
use Rattle.std.proofs.Common.{append-nil, length-append}
use Rattle.std.proofs.lemmas.Option.{same_Some, none-some}
use Rattle.std.specs.Prelude.{MatchOption}
use Rattle.std.specs.Io.KnownBytes.{Consumes}
use Rattle.seam_rule_rounds.specs.Prelude.{Rose, SourceState, Line, Long, whole_lines_of, Reader, Reading, IsExact, Header, AreHeaderLines}
use Rattle.seam_rule_rounds.specs.Prelude.{BeginWithHeader, AwaitHeader, RefusesHeader, separator}
use Rattle.seam_io.specs.declared.lines.Next.TheVariants as next
use Rattle.seam_toml.specs.declared.header.HeaderError.{HeaderError}
use Rattle.seam_toml.specs.declared.header.HeaderError.TheVariants as error
use Rattle.seam_toml.specs.Header.{number_of}
use Rattle.seam_rule_lines.proofs.HeaderLemmas.{await_at_first, long_line_for_header}
use Rattle.seam_world_ends.specs.Status.{IsHeaderCause, IsHeaderEnd, refused_with, refusal_of}
use Rattle.seam_world_ends.specs.Ends.{Means, most_bytes}
use Rattle.seam_world_ends.specs.Headers.{InHeader, HasHeader, HeaderLineRead, EndsInHeader, Awaits, Never}
use Rattle.seam_world_ends.specs.declared.status.Status.{Status}
use Rattle.seam_world_ends.specs.declared.status.Status.TheVariants as status
use Rattle.seam_world_ends.proofs.Prefixes.{are_first, within_limit}

-- the run ended within the header
header_stopped : (began now : SourceState) (st : Status) (given : List ℕ) → Consumes began.left now.left given →
    length given ≤ most_bytes → Means Awaits Never st began now given [] [] → IsHeaderEnd st → EndsInHeader st began now
header_stopped began now st given took most means end = record { given = given; took = took; most = most; end = end; means = means }

-- an allocation failed before a line was judged
pub nothing_read : (began now : SourceState) (given : List ℕ) → Consumes began.left now.left given → length given ≤ most_bytes →
    EndsInHeader status.NoMemory began now
nothing_read began now given took most =
    header_stopped began now status.NoMemory given took most ([], inl (whole_lines_of given, refl), (refl, refl, await_at_first)) tt

-- nothing was printed for the lines of a header
nothing_open : (given : List ℕ) (read : List Line) → whole_lines_of given ≡ read → AwaitHeader read → Awaits (whole_lines_of given) [] []
nothing_open given read whole awaits = (refl, refl, subst AwaitHeader (sym whole) awaits)

numbered : (n k : ℕ) → IsHeaderCause n → Some n ≡ Some k → IsHeaderCause k
numbered n k is same = subst IsHeaderCause (same_Some n k same) is

-- the number of a cause that a text tells is that of a cause
pub number_is_cause : (e : HeaderError) (k : ℕ) → number_of e ≡ Some k → IsHeaderCause k
number_is_cause error.NotToml k is = numbered 1 k (omega arith, omega arith) is
number_is_cause error.NoSuchKey k is = numbered 2 k (omega arith, omega arith) is
number_is_cause error.BadType k is = numbered 3 k (omega arith, omega arith) is
number_is_cause error.BadFlag k is = numbered 4 k (omega arith, omega arith) is
number_is_cause error.BadDefault k is = numbered 5 k (omega arith, omega arith) is
number_is_cause error.BadBody k is = numbered 6 k (omega arith, omega arith) is
number_is_cause error.TooManyNames k is = numbered 7 k (omega arith, omega arith) is
number_is_cause error.GhostTooNear k is = numbered 8 k (omega arith, omega arith) is
number_is_cause error.TooLong k is = numbered 9 k (omega arith, omega arith) is
number_is_cause error.NoMemory k is = absurd (none-some k is)

long_is_no_end : Long ≢ separator
long_is_no_end e = cc

-- no line was read yet
pub header_begins : (began now : SourceState) (reader : Reader) → Reading began now reader [] [] → reader.limit ≡ most_bytes →
    AreHeaderLines [] [] → InHeader began now reader [] []
header_begins began now reader reading limit are = record { given = []; are = are; reading = reading; limit = limit }

-- an allocation failed within the header
pub header_unread : (began now : SourceState) (reader : Reader) (text : List ℕ) (read : List Line) →
    InHeader began now reader text read → EndsInHeader status.NoMemory began now
header_unread began now reader text read was =
    nothing_read began now was.given was.reading.took (within_limit was.reading was.limit)

-- an allocation failed after the header
pub header_alone : (began now : SourceState) (reader : Reader) (h : Header) (count : ℕ) → HasHeader began now reader h count →
    EndsInHeader status.NoMemory began now
header_alone began now reader h count has =
    nothing_read began now has.given has.reading.took (within_limit has.reading has.limit)

-- one more line was counted
pub counted_line : (m n : ℕ) (read : List Line) (line : Line) → n ≡ m + 1 → m ≡ length read → n ≡ length (read ++ line ∷ [])
counted_line m n read line more count = let all = length-append read (line ∷ []) in omega (arith, more, count, all)

module _ (began now later : SourceState) (reader after : Reader) (text : List ℕ) (read : List Line)
    (was : InHeader began now reader text read) (got : List ℕ) (limit : after.limit ≡ most_bytes) where
  -- the header goes on
  pub header_goes_on : (line : Line) (next : List ℕ) → Reading began later after (was.given ++ got) (read ++ line ∷ []) →
      AreHeaderLines (read ++ line ∷ []) next → InHeader began later after next (read ++ line ∷ [])
  header_goes_on line next r are = record { given = was.given ++ got; are = are; reading = r; limit = limit }

  -- the line ended it
  pub header_ends : (line : Line) (h : Header) → Reading began later after (was.given ++ got) (read ++ line ∷ []) →
      BeginWithHeader (read ++ line ∷ []) h (length read + 1) [] → HasHeader began later after h (length read + 1)
  header_ends line h r begins =
      record { given = was.given ++ got; read = read ++ line ∷ []; begins = begins; reading = r; limit = limit }

  -- it was refused at the line
  pub header_refused : (line : Line) (k : ℕ) → Reading began later after (was.given ++ got) (read ++ line ∷ []) → IsHeaderCause k →
      RefusesHeader read line k → EndsInHeader (status.BadHeader k) began later
  header_refused line k r cause refusal =
      let first = are_first began later after (was.given ++ got) (read ++ line ∷ []) []
      (subst (Reading began later after (was.given ++ got)) (sym (append-nil (read ++ line ∷ []))) r) in
      header_stopped began later (status.BadHeader k) (was.given ++ got) r.took (within_limit r limit)
      (refl, refl, inr (read, line, first, refusal)) cause

  -- by a line that is too long
  pub long_header : Reading began later after (was.given ++ got) (read ++ Long ∷ []) → EndsInHeader (status.BadHeader 9) began later
  long_header r =
      header_refused Long 9 r (omega arith, omega arith) (inl (refl, long_is_no_end, (text, was.are), long_line_for_header read))

  -- the input ended before it did
  pub header_without_end : Reading began later after (was.given ++ got) (read ++ []) → IsExact next.End after (was.given ++ got) read →
      EndsInHeader (status.BadHeader 10) began later
  header_without_end r exact =
      let end = exact.ended.0 refl in
      let at = r.ended end.0 in
      header_stopped began later (status.BadHeader 10) (was.given ++ got) r.took (within_limit r limit)
      (refl, refl, inl (refl, read, (at.1, at.0, end.1), (text, was.are))) (omega arith, omega arith)

  pub header_read_fault : Reading began later after (was.given ++ got) (read ++ []) → IsExact next.ReadFault after (was.given ++ got) read →
      Rose now.faults later.faults → EndsInHeader status.ReadFault began later
  header_read_fault r exact rose =
      let here = exact.fault refl in
      let low = here.1 in
      let count = r.count in
      header_stopped began later status.ReadFault (was.given ++ got) r.took (within_limit r limit)
      ((let l = was.reading.faults in omega arith), omega arith, nothing_open (was.given ++ got) read here.2 (text, was.are)) tt

  pub header_limit : Reading began later after (was.given ++ got) (read ++ []) → IsExact next.Limit after (was.given ++ got) read →
      EndsInHeader status.Limit began later
  header_limit r exact =
      let here = exact.full.0 refl in
      header_stopped began later status.Limit (was.given ++ got) r.took (within_limit r limit)
      (sym r.count ∙ here.0 ∙ limit, nothing_open (was.given ++ got) read here.1 (text, was.are)) tt

  pub header_no_memory : (line : Line) → Reading began later after (was.given ++ got) (read ++ line ∷ []) →
      EndsInHeader status.NoMemory began later
  header_no_memory line r = nothing_read began later (was.given ++ got) r.took (within_limit r limit)

  -- what came of a line
  pub header_line_read : (line : Line) → Reading began later after (was.given ++ got) (read ++ line ∷ []) → (next : List ℕ)
      (found : Option Header) → MatchOption found (AreHeaderLines (read ++ line ∷ []) next)
      (λ h. BeginWithHeader (read ++ line ∷ []) h (length read + 1) []) → HeaderLineRead began later after next read (Ok found)
  header_line_read line r next None are = (line, header_goes_on line next r are)
  header_line_read line r next (Some h) begins = header_ends line h r begins

  pub header_line_refused : (line : Line) → Reading began later after (was.given ++ got) (read ++ line ∷ []) → (e : HeaderError) →
      ((k : ℕ) → number_of e ≡ Some k → RefusesHeader read line k) → EndsInHeader (refusal_of e) began later
  header_line_refused line r e refuses = cases (number_of e) refl
    where
      cases : (o : Option ℕ) → number_of e ≡ o → EndsInHeader (refused_with o) began later
      cases None is = header_no_memory line r
      cases (Some k) is = header_refused line k r (number_is_cause e k is) (refuses k is)

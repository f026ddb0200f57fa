-- What a read, and an answer, do to what has happened between a source and a reader.
use Rattle.std.proofs.Common.{◌≡◌, ◌≢◌, ℕ, ◌+◌, ◌-◌, ◌<◌, ◌≤◌, Bool, true, false, cond, ◌⊎◌, inl, inr, List, [], ◌∷◌, ◌++◌, length, take}
use Rattle.std.proofs.Common.{drop, refl, sym, ap, ◌∙◌, subst, arith, eqb, eqb-true, append_assoc, append-nil, length-append}
use Rattle.std.specs.Prelude.{slice_range}
use Rattle.std.specs.Io.KnownBytes.{Consumes, IsAtEnd, Keeps}
use Rattle.std.proofs.KnownBytes.{Consumes-trans, Consumes-kept}
use Rattle.std.proofs.Math.Nat.{sub-zero}
use Rattle.std.proofs.Math.Seq.{take-add}
use Rattle.std.proofs.lemmas.Bool.{false≢true}
use Rattle.std.proofs.lemmas.List.{length-take, length-drop}
use Rattle.seam_io.specs.Causes.{Rose}
use Rattle.seam_io.specs.Lines.{Line, Content, Long, lines_of, whole_lines_of, text_left, lines_left, whole_left}
use Rattle.seam_io.specs.Reading.{Reader, Reading, IsExact, IsOpen, NeedsMore, IsDone, IsSparing, held_on, lines_given}
use Rattle.seam_io.specs.States.{SourceState}
use Rattle.seam_io.specs.Steps.{IsWaiting, Skips, Moves, Answers, Takes, Fills}
use Rattle.seam_io.specs.declared.lines.Next.{Next}
use Rattle.seam_io.specs.declared.lines.Next.TheVariants as next
use Rattle.seam_io.proofs.LineLemmas.{lines_of-none, whole_left-none}
use Rattle.seam_io.proofs.StepLemmas.{reader_of, same_but_held}
use Rattle.seam_io.specs.declared.lines.TheConstants.{CHUNK}

pub rose_later : (a b n : ℕ) → a ≤ b → Rose b n → Rose a n
rose_later a b n order rose = omega arith

false_unless : (b : Bool) → (b ≡ true → ⊥) → b ≡ false
false_unless true h = absurd (h refl)
false_unless false h = refl

-- ---- a read

pub filled : (start now later : SourceState) (old new : Reader) (given got : List ℕ) (read : List Line) → Reading start now old given read →
    Fills old new got
    → Consumes now.left later.left got → now.faults ≤ later.faults → now.ends ≤ later.ends → old.ended ≡ false → old.taken < old.limit
    → (new.ended ≡ false → later.ends ≡ now.ends) → (new.ended ≡ true → (got ≡ []) × IsAtEnd later.left × Rose now.ends later.ends)
    → Reading start later new (given ++ got) read
filled start now later old new given got read r f took faults ends going more_room same_ends ended = record {
  took = Consumes-trans start.left now.left later.left given got r.took took;
  count = let a = r.count in let b = f.taken in omega (arith, length-append given got);
  within = f.within;
  faults = let a = r.faults in omega arith;
  ends = let a = r.ends in omega arith;
  going = λ e. same_ends e ∙ r.going going;
  ended = λ e. let at_end = ended e in let none = ap length at_end.0 in let a = f.taken in let b = f.limit in
      (at_end.1, rose_later start.ends now.ends later.ends r.ends at_end.2, omega arith);
  room = let a = r.room in let b = f.limit in let b2 = f.taken in let b3 = f.within in let d = ap length f.held in
      omega (arith, length-append old.held got);
  lines = λ more allowed.
      let old_lines = r.lines (got ++ more) (λ e. absurd (false≢true (sym going ∙ e))) in
      ap lines_of (append_assoc given got more) ∙ old_lines
      ∙ ap (λ bytes. read ++ lines_left old.passing bytes) (sym (append_assoc old.held got more) ∙ ap (λ bytes. bytes ++ more) (sym f.held))
      ∙ ap (λ p. read ++ lines_left p (new.held ++ more)) (sym f.passing);
  whole = λ still more.
      ap whole_lines_of (append_assoc given got more) ∙ r.whole going (got ++ more)
      ∙ ap (λ bytes. read ++ whole_left old.passing bytes) (sym (append_assoc old.held got more) ∙ ap (λ bytes. bytes ++ more) (sym f.held))
      ∙ ap (λ p. read ++ whole_left p (new.held ++ more)) (sym f.passing);
}

-- a reader that moved what it holds to the start of its buffer, and read after it
pub fills : (old_items new_items : List ℕ) (start end count : ℕ) (p e e' : Bool) (taken limit : ℕ) (line line' : List ℕ)
    → take (end - start) new_items ≡ slice_range old_items start end → end - start + count ≤ length new_items → taken + count ≤ limit
    → Fills (reader_of (slice_range old_items start end) p e taken limit line)
    (reader_of (slice_range new_items 0 (end - start + count)) p e' (taken + count) limit line') (take count (drop (end - start) new_items))
fills old_items new_items start end count p e e' taken limit line line' prefix fits within = record {
  held =
      ap (λ n. take n new_items) (sub-zero (end - start + count)) ∙ take-add (end - start) count new_items
      ∙ ap (λ bytes. bytes ++ take count (drop (end - start) new_items)) prefix;
  passing = refl;
  limit = refl;
  taken = omega (arith, length-take count (drop (end - start) new_items), length-drop (end - start) new_items);
  within = within;
}

-- a reader that only moved what it holds
pub same_view : (old_items new_items : List ℕ) (start end : ℕ) (p e : Bool) (taken limit : ℕ) (line : List ℕ) →
    take (end - start) new_items ≡ slice_range old_items start end → line ≡ []
    → reader_of (slice_range new_items 0 (end - start)) p e taken limit []
    ≡ reader_of (slice_range old_items start end) p e taken limit line
same_view old_items new_items start end p e taken limit line prefix none =
    same_but_held _ _ p e taken limit [] (ap (λ n. take n new_items) (sub-zero (end - start)) ∙ prefix)
    ∙ ap (λ (given : List ℕ). reader_of (slice_range old_items start end) p e taken limit given) (sym none)

-- a read that failed took nothing
pub unread : (start now later : SourceState) (old new : Reader) (given : List ℕ) (read : List Line) → Reading start now old given read →
    new ≡ old → old.ended ≡ false
    → Keeps now.left later.left → now.faults ≤ later.faults → later.ends ≡ now.ends
    → (got : List ℕ) × Reading start later new (given ++ got) read × (new.held ≡ old.held ++ got) × (length got ≤ CHUNK)
unread start now later old new given read r same going kept faults ends =
    ([], rw (append-nil, same) unchanged, ap (λ (r : Reader). r.held) same ∙ sym (append-nil old.held), omega arith)
  where
    unchanged : Reading start later old given read
    unchanged = record {
      took = Consumes-kept start.left now.left later.left given r.took kept;
      count = r.count;
      within = r.within;
      faults = let a = r.faults in omega arith;
      ends = let a = r.ends in omega arith;
      going = λ e. ends ∙ r.going e;
      ended = λ e. absurd (false≢true (sym going ∙ e));
      room = r.room;
      lines = r.lines;
      whole = r.whole;
    }

no_bytes : (n : ℕ) (bytes : List ℕ) → eqb n 0 ≡ true → take n bytes ≡ []
no_bytes n bytes e = ap (λ k. take k bytes) (eqb-true n 0 e)

-- the bytes that a read took
pub refilled : (start now later : SourceState) (old new : Reader) (given : List ℕ) (read : List Line) (count : ℕ) (bytes : List ℕ) →
    Reading start now old given read
    → Fills old new (take count bytes) → Consumes now.left later.left (take count bytes)
    × (count ≡ 0 → 0 < length bytes → IsAtEnd later.left) → 0 < length bytes
    → now.faults ≤ later.faults → now.ends ≤ later.ends → (count ≡ 0 → Rose now.ends later.ends) → (count ≢ 0 → later.ends ≡ now.ends)
    → IsWaiting old → new.ended ≡ eqb count 0 → Reading start later new (given ++ take count bytes) read
refilled start now later old new given read count bytes r f took some faults ends rose same needs ended =
    filled start now later old new given (take count bytes) read r f took.0 faults ends needs.going needs.room
    (λ e. same (λ zero. false≢true (sym e ∙ ended ∙ ap (λ n. eqb n 0) zero)))
    (λ e. let zero : eqb count 0 ≡ true = sym ended ∙ e in
    (no_bytes count bytes zero, took.1 (eqb-true count 0 zero) some, rose (eqb-true count 0 zero)))

-- ---- what an answer says

pub moved : (start now : SourceState) (old new : Reader) (given : List ℕ) (read gave : List Line) → Reading start now old given read →
    Moves old new gave
    → Reading start now new given (read ++ gave)
moved start now old new given read gave r m = record {
  took = r.took;
  count = m.taken ∙ r.count;
  within = let a = m.taken in let b = m.limit in let c = r.within in omega arith;
  faults = r.faults;
  ends = r.ends;
  going = λ e. r.going (sym m.ended ∙ e);
  ended = λ e. let old_end = r.ended (sym m.ended ∙ e) in let a = m.taken in let b = m.limit in
      (old_end.0, old_end.1, omega (arith, old_end.2));
  room = let a = r.room in let b = m.limit in let d = m.spent in omega (arith, length-append read gave);
  lines = λ more allowed.
      let allowed' : old.ended ≡ true → more ≡ [] = λ e. allowed (m.ended ∙ e) in
      r.lines more allowed' ∙ ap (λ ls. read ++ ls) (m.lines more allowed') ∙ sym (append_assoc read gave _);
  whole = λ still more.
      let going : old.ended ≡ false = sym m.ended ∙ still in
      r.whole going more ∙ ap (λ ls. read ++ ls) (m.whole going more) ∙ sym (append_assoc read gave _);
}

-- the same reader, after the rest of a line was let go
pub kept : (start now : SourceState) (old new : Reader) (given : List ℕ) (read : List Line) → Reading start now old given read →
    Moves old new [] → Reading start now new given read
kept start now old new given read r m =
    subst (λ ls. Reading start now new given ls) (append-nil read) (moved start now old new given read [] r m)

-- where the prefix of a line is held, the lines that stay were given
whole_given : (start now : SourceState) (r : Reader) (given : List ℕ) (read : List Line) → Reading start now r given read →
    r.ended ≡ false → IsOpen r.held → whole_lines_of given ≡ read
whole_given start now r given read h going text =
    ap whole_lines_of (sym (append-nil given)) ∙ h.whole going [] ∙ ap (λ bytes. read ++ whole_left r.passing bytes) (append-nil r.held)
    ∙ ap (λ ls. read ++ ls) (whole_left-none r.passing r.held text.whole text.short) ∙ append-nil read

-- where nothing is held at the end, all lines were given
all_given : (start now : SourceState) (r : Reader) (given : List ℕ) (read : List Line) → Reading start now r given read → r.held ≡ [] →
    r.passing ≡ false → lines_of given ≡ read
all_given start now r given read h none passing =
    ap lines_of (sym (append-nil given)) ∙ h.lines [] (λ e. refl) ∙ ap (λ p. read ++ lines_left p (r.held ++ [])) passing
    ∙ ap (λ bytes. read ++ lines_of (bytes ++ [])) none ∙ ap (λ ls. read ++ ls) lines_of-none ∙ append-nil read

-- a line that was given was not given before
not_all : (start now : SourceState) (r : Reader) (given : List ℕ) (read : List Line) (line : Line) →
    Reading start now r given (read ++ line ∷ []) → lines_of given ≡ read → ⊥
not_all start now r given read line h all =
    let whole = ap length (sym all ∙ ap lines_of (sym (append-nil given)) ∙ h.lines [] (λ e. refl)) in
    omega (arith, whole, length-append (read ++ line ∷ []) (lines_left r.passing (r.held ++ [])), length-append read (line ∷ []))

not_whole : (start now : SourceState) (r : Reader) (given : List ℕ) (read : List Line) (line : Line) →
    Reading start now r given (read ++ line ∷ []) → r.ended ≡ false
    → whole_lines_of given ≡ read → ⊥
not_whole start now r given read line h going all =
    let whole = ap length (sym all ∙ ap whole_lines_of (sym (append-nil given)) ∙ h.whole going []) in
    omega (arith, whole, length-append (read ++ line ∷ []) (whole_left r.passing (r.held ++ [])), length-append read (line ∷ []))

exact_line : (n : Next) (start now : SourceState) (r : Reader) (given : List ℕ) (read : List Line) (line : Line) → (n ≡ next.End → ⊥) →
    (n ≡ next.Limit → ⊥)
    → (n ≡ next.ReadFault → ⊥) → Reading start now r given (read ++ line ∷ []) → IsExact n r given read
exact_line n start now r given read line no_end no_limit no_fault h = record {
  ended = (λ e. absurd (no_end e), λ all. absurd (not_all start now r given read line h all.1));
  full = (
    λ e. absurd (no_limit e),
    λ all.
        let going : r.ended ≡ false = false_unless r.ended (λ e. let below = (h.ended e).2 in let same = all.0 in omega arith) in
        absurd (not_whole start now r given read line h going all.1),
  );
  fault = λ e. absurd (no_fault e);
}

exact_by_answer : (n : Next) (start now : SourceState) (old new : Reader) (given : List ℕ) (read : List Line) → Answers n old new
    → Reading start now new given (read ++ lines_given n new.line) → IsExact n new given read
exact_by_answer next.Line start now old new given read a h =
    exact_line next.Line start now new given read (Content new.line) (λ e. cc) (λ e. cc) (λ e. cc) h
exact_by_answer next.Long start now old new given read a h =
    exact_line next.Long start now new given read Long (λ e. cc) (λ e. cc) (λ e. cc) h
exact_by_answer next.End start now old new given read a h =
    let same = rw append-nil at h in
    record {
      ended = (λ _. (a.at.ended, all_given start now new given read same a.at.none a.at.passing), λ _. refl);
      full = (λ e. cc, λ all. absurd (let below = (h.ended a.at.ended).2 in let full = all.0 in omega arith));
      fault = λ e. cc;
    }
exact_by_answer next.ReadFault start now old new given read a h = absurd a.at
exact_by_answer next.Limit start now old new given read a h =
    let same = rw append-nil at h in
    record {
      ended = (λ e. cc, λ all. absurd (false≢true (sym a.at.1 ∙ all.0)));
      full = (λ _. (a.at.2, whole_given start now new given read same a.at.1 a.at.0), λ _. refl);
      fault = λ e. cc;
    }

-- an answer without a read
pub answered : (n : Next) (start now : SourceState) (old new : Reader) (given : List ℕ) (read : List Line) →
    Reading start now old given read → Answers n old new
    → Reading start now new given (read ++ lines_given n new.line) × IsExact n new given read
answered n start now old new given read r a =
    let h = moved start now old new given read (lines_given n new.line) r a.moves in
    (h, exact_by_answer n start now old new given read a h)

-- a fault where more bytes were wanted
pub faulted : (start now : SourceState) (r : Reader) (given : List ℕ) (read : List Line) → Reading start now r given read → IsWaiting r
    → Reading start now r given (read ++ []) × IsExact next.ReadFault r given read
faulted start now r given read h needs = (
  subst (λ ls. Reading start now r given ls) (sym (append-nil read)) h,
  record {
    ended = (λ e. cc, λ all. absurd (false≢true (sym needs.going ∙ all.0)));
    full = (λ e. cc, λ all. absurd (let room = needs.room in let same = all.0 in omega arith));
    fault = λ _. (needs.going, needs.room, whole_given start now r given read h needs.going needs.text);
  },
)

-- ---- an answer by itself

pub done_by_answer : (n : Next) (old new : Reader) → Answers n old new → n ≡ next.End → IsDone new
done_by_answer next.Line old new a e = cc
done_by_answer next.Long old new a e = cc
done_by_answer next.End old new a e = a.at
done_by_answer next.ReadFault old new a e = absurd a.at
done_by_answer next.Limit old new a e = cc

left_done : (old : Reader) → IsDone old → lines_left old.passing (old.held ++ []) ≡ []
left_done old done = ap (λ p. lines_left p (old.held ++ [])) done.passing ∙ ap (λ bytes. lines_of (bytes ++ [])) done.none ∙ lines_of-none

no_line_done : (old new : Reader) (line : Line) → IsDone old → Moves old new (line ∷ []) → ⊥
no_line_done old new line done moves =
    let none : length (lines_left old.passing (old.held ++ [])) ≡ 0 = ap length (left_done old done) in
    let same = ap length (moves.lines [] (λ e. refl)) in
    omega arith

-- a reader that is done answers so
pub again_by_answer : (n : Next) (old new : Reader) → Answers n old new → IsDone old → n ≡ next.End
again_by_answer next.Line old new a done = absurd (no_line_done old new (Content new.line) done a.moves)
again_by_answer next.Long old new a done = absurd (no_line_done old new Long done a.moves)
again_by_answer next.End old new a done = refl
again_by_answer next.ReadFault old new a done = absurd a.at
again_by_answer next.Limit old new a done = absurd (false≢true (sym a.at.1 ∙ a.moves.ended ∙ done.ended))

pub no_fault : (n : Next) (old new : Reader) → Answers n old new → n ≡ next.ReadFault → ⊥
no_fault next.Line old new a e = cc
no_fault next.Long old new a e = cc
no_fault next.End old new a e = cc
no_fault next.ReadFault old new a e = absurd a.at
no_fault next.Limit old new a e = cc

-- ---- the turns of a call

one_at : (b p : Bool) → p ≡ b → cond {A = ℕ} p 0 1 ≡ cond b 0 1
one_at b p e = ap (λ (x : Bool). cond {A = ℕ} x 0 1) e

one_bound : (p : Bool) → cond {A = ℕ} p 0 1 ≤ 1
one_bound true = omega arith
one_bound false = omega arith

-- a read takes a byte or finds the end
pub turn_falls : (limit taken later : ℕ) (old new : Bool) → old ≡ false → taken < limit → (taken < later) ⊎ ((later ≡ taken) × (new ≡ true))
    → limit - later + cond {A = ℕ} new 0 1 < limit - taken + cond {A = ℕ} old 0 1
turn_falls limit taken later old new going room (inl more) = let a = one_bound new in let b = one_at false old going in omega arith
turn_falls limit taken later old new going room (inr end) =
    let a = one_at true new end.1 in
    let b = one_at false old going in
    let same = end.0 in
    omega arith

-- ---- what a call takes

pub takes_none : (r : Reader) → Takes r r []
takes_none r = λ rest. refl

-- the next read took more, after what was held of a refused line was let go
pub takes_more : (old now mid new : Reader) (got more : List ℕ) → Takes old now got → Skips now mid → mid.ended ≡ false →
    new.held ≡ mid.held ++ more → new.passing ≡ mid.passing → Takes old new (got ++ more)
takes_more old now mid new got more before skips going held passing = λ rest.
    ap (λ bytes. text_left old.passing (old.held ++ bytes)) (append_assoc got more rest) ∙ before (more ++ rest)
    ∙ skips.texts (more ++ rest) (λ e. absurd (false≢true (sym going ∙ skips.moves.ended ∙ e)))
    ∙ ap (λ bytes. text_left mid.passing bytes) (sym (append_assoc mid.held more rest) ∙ ap (λ bytes. bytes ++ rest) (sym held))
    ∙ ap (λ p. text_left p (new.held ++ rest)) (sym passing)

-- where all that was taken before is the prefix of a line at most, one more read of 4,096 bytes at most is sparing
pub sparing_more : (old now : Reader) (got more : List ℕ) → Takes old now got → NeedsMore now → length more ≤ CHUNK →
    IsSparing old (got ++ more)
sparing_more old now got more takes needs small =
    let same : text_left old.passing (old.held ++ got) ≡ held_on now =
    ap (λ bytes. text_left old.passing (old.held ++ bytes)) (sym (append-nil got)) ∙ takes []
    ∙ ap (λ bytes. text_left now.passing bytes) (append-nil now.held) in
    inr (got, more, refl, small, subst IsOpen (sym same) needs.text)

pub not_needed : (r : Reader) → IsDone r → ¬ (NeedsMore r)
not_needed r done needs = false≢true (sym needs.going ∙ done.ended)

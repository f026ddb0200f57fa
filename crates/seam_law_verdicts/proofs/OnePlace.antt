-- A text fails at one place.
use Rattle.std.proofs.Common.{◌≡◌, ℕ, ◌+◌, List, [], ◌∷◌, ◌++◌, refl, sym, ◌∙◌, ap, subst, arith, inl, inr, append-nil}
use Rattle.std.specs.Prelude.{false}
use Rattle.std.specs.List.{count_by}
use Rattle.seam_io.specs.Lines.{is_feed}
use Rattle.seam_node_steps.specs.Prelude.{AreDefs, AreLegal}
use Rattle.seam_rule_rounds.specs.Prelude.{Line, Header, BeginWithHeader, Piece}
use Rattle.seam_rule_rounds.specs.Standing.{after_header}
use Rattle.seam_rule_rounds.specs.Transcript.{text_of}
use Rattle.seam_rule_lines.proofs.HeaderLemmas.{header_is_one, header_of_append}
use Rattle.seam_law_book.specs.Prelude.{empty}
use Rattle.seam_law_verdicts.specs.Due.{Due, RefusalDue, RoundDue, EndDue, IsDue}
use Rattle.seam_law_verdicts.specs.Verdicts.{AreAllCounted, Fails, FailsAt, LeaveShown}
use Rattle.seam_law_verdicts.specs.Kept.{Keeps}
use Rattle.seam_law_verdicts.proofs.Courses.{Path, paths_one, run_then}

-- lines begin with a header, and those after it print the pieces, up to something that is due
pub record Course (lines : List Line) (h : Header) (pieces : List Piece) (d : Due) : Type 0 where
  pub count : ℕ
  pub rest : List Line
  pub begins : BeginWithHeader lines h count rest
  pub path : Path h (after_header h count) rest pieces d

pub course_of : (lines : List Line) (h : Header) (pieces : List Piece) (d : Due) → IsDue lines h pieces d → Course lines h pieces d
course_of lines h pieces d (inl k) =
    let p = k.printed in
    record {
      count = p.count;
      rest = p.rest ++ k.line ∷ k.more;
      begins =
          subst (λ (ls : List Line). BeginWithHeader ls h p.count (p.rest ++ k.line ∷ k.more)) (sym k.whole)
          (header_of_append k.read h p.count p.rest (k.line ∷ k.more) p.header);
      path =
          subst (λ (ps : List Piece). Path h (after_header h p.count) (p.rest ++ k.line ∷ k.more) ps d) (append-nil pieces)
          (run_then h p.rest (k.line ∷ k.more) (after_header h p.count) k.standing pieces [] d p.run
          (inl (refl, k.verdict, k.judged, k.makes)));
    }
course_of lines h pieces (RefusalDue line cause) (inr never) = absurd never
course_of lines h pieces (RoundDue s) (inr (p, some)) = record {
  count = p.count;
  rest = p.rest;
  begins = p.header;
  path =
      subst (λ (ps : List Piece). Path h (after_header h p.count) p.rest ps (RoundDue s)) (append-nil pieces)
      (subst (λ (ls : List Line). Path h (after_header h p.count) ls (pieces ++ []) (RoundDue s)) (append-nil p.rest)
      (run_then h p.rest [] (after_header h p.count) s pieces [] (RoundDue s) p.run (inl (refl, refl, some))));
}
course_of lines h pieces EndDue (inr (first, last, t, p, ends, is)) = record {
  count = p.count;
  rest = p.rest;
  begins = p.header;
  path =
      subst (λ (ps : List Piece). Path h (after_header h p.count) p.rest ps EndDue) (sym is)
      (subst (λ (ls : List Line). Path h (after_header h p.count) ls (first ++ last) EndDue) (append-nil p.rest)
      (run_then h p.rest [] (after_header h p.count) t first last EndDue p.run (inr (refl, ends))));
}

-- a failure after a header of so many lines
record FailsAfter (h : Header) (count : ℕ) (rest : List Line) (text : List ℕ) (place number : ℕ) : Type 0 where
  pieces : List Piece
  due : Due
  path : Path h (after_header h count) rest pieces due
  shown : LeaveShown pieces
  counted : AreAllCounted pieces
  after : List ℕ
  is : text ≡ text_of false h.defs pieces ++ after
  fails : Fails h due after number
  at : place ≡ count_by is_feed (text_of false h.defs pieces) + 1

pub keeps_first : (h : Header) (count : ℕ) → Keeps h (after_header h count)
keeps_first h count = record { of_lines = empty; homes = λ e. omega arith; were = λ e. tt }

one_after : (h : Header) → AreLegal h.settings → AreDefs h.defs → (count : ℕ) (rest : List Line) (text : List ℕ)
    (place other number another : ℕ) → FailsAfter h count rest text place number → FailsAfter h count rest text other another →
    (place ≡ other) × (number ≡ another)
one_after h legal defs count rest text place other number another x y =
    let same =
    paths_one h legal defs rest (after_header h count) (keeps_first h count) x.pieces y.pieces x.due y.due x.shown y.shown x.counted
    y.counted x.path y.path x.after y.after (sym x.is ∙ y.is) number another x.fails y.fails in
    (x.at ∙ ap (λ (bytes : List ℕ). count_by is_feed bytes + 1) same.texts ∙ sym y.at, same.numbers)

pub one_place : (lines : List Line) (text : List ℕ) (place other number another : ℕ) (x : FailsAt lines text place number)
    (y : FailsAt lines text other another) → AreAllCounted x.pieces → AreAllCounted y.pieces → (place ≡ other) × (number ≡ another)
one_place lines text place other number another x y few fewer =
    let c = course_of lines x.header x.pieces x.due x.is_due in
    let d = course_of lines y.header y.pieces y.due y.is_due in
    let same = header_is_one lines x.header y.header c.count d.count c.rest d.rest c.begins d.begins in
    let one : FailsAfter x.header c.count c.rest text place number =
    record {
      pieces = x.pieces;
      due = x.due;
      path = c.path;
      shown = x.shown;
      counted = few;
      after = x.rest;
      is = x.begins;
      fails = x.fails;
      at = x.at;
    } in
    let two : FailsAfter y.header d.count d.rest text other another =
    record {
      pieces = y.pieces;
      due = y.due;
      path = d.path;
      shown = y.shown;
      counted = fewer;
      after = y.rest;
      is = y.begins;
      fails = y.fails;
      at = y.at;
    } in
    one_after x.header c.begins.reads.defines.legal c.begins.reads.defines.sound c.count c.rest text place other number another one
    (subst (λ (ls : List Line). FailsAfter x.header c.count ls text other another) (sym same.2)
    (subst (λ (n : ℕ). FailsAfter x.header n d.rest text other another) (sym same.1)
    (subst (λ (k : Header). FailsAfter k d.count d.rest text other another) (sym same.0) two)))

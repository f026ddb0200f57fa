-- One thing is said of a text beside an input.
use Rattle.std.proofs.Common.{◌≡◌, ℕ, List, ◌++◌, refl, sym, ◌∙◌, ap, subst, inr}
use Rattle.std.specs.Prelude.{false}
use Rattle.seam_node_steps.specs.Prelude.{AreDefs, AreLegal}
use Rattle.seam_rule_rounds.specs.Prelude.{Line, Header, Piece}
use Rattle.seam_rule_rounds.specs.Standing.{after_header}
use Rattle.seam_rule_rounds.specs.Transcript.{text_of}
use Rattle.seam_rule_lines.proofs.HeaderLemmas.{header_is_one}
use Rattle.seam_law_verdicts.specs.Due.{Due, EndDue}
use Rattle.seam_law_verdicts.specs.Verdicts.{AreAllCounted, Fails, FailsAt, HasBadHeader, IsCounted, IsTranscript, LeaveShown, Says}
use Rattle.seam_law_verdicts.specs.declared.verdict.Verdict.{Verdict}
use Rattle.seam_law_verdicts.specs.declared.verdict.Verdict.TheVariants as verdict
use Rattle.seam_law_verdicts.proofs.Courses.{Path}
use Rattle.seam_law_verdicts.proofs.Headers.{good_header, one_bad_header}
use Rattle.seam_law_verdicts.proofs.OnePlace.{course_of, keeps_first, one_place}
use Rattle.seam_law_verdicts.proofs.Twins.{does_not_fail_on}

-- ---- a transcript does not fail

-- after a header of so many lines
transcript_after : (h : Header) (count : ℕ) (rest : List Line) (text : List ℕ) (pieces others : List Piece) (due : Due) →
    AreLegal h.settings → AreDefs h.defs → AreAllCounted pieces → LeaveShown others → AreAllCounted others →
    Path h (after_header h count) rest pieces EndDue → Path h (after_header h count) rest others due → (after : List ℕ) →
    text_of false h.defs pieces ≡ text_of false h.defs others ++ after → (number : ℕ) → Fails h due after number → ⊥
transcript_after h count rest text pieces others due legal defs few shown fewer path course after is number fails =
    does_not_fail_on h legal defs rest (after_header h count) (after_header h count).places (λ e old. refl) (keeps_first h count) pieces
    others due few shown fewer path course after is number fails

transcript_does_not_fail : (lines : List Line) (text : List ℕ) (place number : ℕ) (x : FailsAt lines text place number)
    (y : IsTranscript lines text) → AreAllCounted x.pieces → AreAllCounted y.1 → ⊥
transcript_does_not_fail lines text place number x (h, pieces, printed, is) few fewer =
    let c = course_of lines x.header x.pieces x.due x.is_due in
    let d = course_of lines h pieces EndDue (inr printed) in
    let same = header_is_one lines h x.header d.count c.count d.rest c.rest d.begins c.begins in
    let path : Path x.header (after_header x.header c.count) c.rest pieces EndDue =
    subst (λ (ls : List Line). Path x.header (after_header x.header c.count) ls pieces EndDue) same.2
    (subst (λ (n : ℕ). Path x.header (after_header x.header n) d.rest pieces EndDue) same.1
    (subst (λ (k : Header). Path k (after_header k d.count) d.rest pieces EndDue) same.0 d.path)) in
    transcript_after x.header c.count c.rest text pieces x.pieces x.due c.begins.reads.defines.legal c.begins.reads.defines.sound fewer
    x.shown few path c.path x.rest
    (sym (ap (λ (k : Header). text_of false k.defs pieces) same.0) ∙ sym is ∙ x.begins) number x.fails

-- ---- a header that is refused

no_transcript : (lines : List Line) (text : List ℕ) (k : ℕ) → HasBadHeader lines k → IsTranscript lines text → ⊥
no_transcript lines text k bad (h, pieces, printed, is) =
    let d = course_of lines h pieces EndDue (inr printed) in
    good_header lines h d.count d.rest k d.begins bad

no_failure : (lines : List Line) (text : List ℕ) (k place number : ℕ) → HasBadHeader lines k → FailsAt lines text place number → ⊥
no_failure lines text k place number bad x =
    let c = course_of lines x.header x.pieces x.due x.is_due in
    good_header lines x.header c.count c.rest k c.begins bad

-- ---- all verdicts

no_is : (place other number another : ℕ) → place ≡ other → number ≡ another → verdict.No place number ≡ verdict.No other another
no_is place other number another one two = λ i. verdict.No (one i) (two i)

pub one_verdict : (lines : List Line) (text : List ℕ) (v w : Verdict) (x : Says lines text v) (y : Says lines text w) →
    IsCounted lines text v x → IsCounted lines text w y → v ≡ w
one_verdict lines text (verdict.Header k) (verdict.Header l) x y few fewer = ap verdict.Header (one_bad_header lines k l x y)
one_verdict lines text (verdict.Header k) verdict.Yes x y few fewer = absurd (no_transcript lines text k x y)
one_verdict lines text (verdict.Header k) (verdict.No place number) x y few fewer = absurd (no_failure lines text k place number x y)
one_verdict lines text verdict.Yes (verdict.Header k) x y few fewer = absurd (no_transcript lines text k y x)
one_verdict lines text verdict.Yes verdict.Yes x y few fewer = refl
one_verdict lines text verdict.Yes (verdict.No place number) x y few fewer =
    absurd (transcript_does_not_fail lines text place number y x fewer few)
one_verdict lines text (verdict.No place number) (verdict.Header k) x y few fewer = absurd (no_failure lines text k place number y x)
one_verdict lines text (verdict.No place number) verdict.Yes x y few fewer =
    absurd (transcript_does_not_fail lines text place number x y few fewer)
one_verdict lines text (verdict.No place number) (verdict.No other another) x y few fewer =
    let same = one_place lines text place other number another x y few fewer in
    no_is place other number another same.0 same.1

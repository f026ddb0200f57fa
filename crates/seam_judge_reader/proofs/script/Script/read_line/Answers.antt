use Rattle.std.proofs.Common.{◌≡◌, sym, subst, inl}
use Rattle.std.proofs.lemmas.Result.{IfOk-weaker}
use Rattle.seam_io.specs.Lines.{Content}
use Rattle.seam_rule_lines.specs.declared.verdict.Verdict.TheVariants as verdict
use Rattle.seam_accept.specs.Refines.{LineAccepted, LineRefused, Refines}
use Rattle.seam_judge_reader.specs.Scripts.{IsAt}
use Rattle.seam_judge_reader.proofs.ScriptSteps.{kept_is_read, line_accepted, line_counted}
use Rattle.seam_judge_reader.proofs.script.Script.read_line.Goals as goal

pub returns-in-Ok-Kept : goal.returns-in-Ok-Kept
returns-in-Ok-Kept c =
    let line = Content c.args.line.now in
    let book = c.accept.new.self in
    IfOk-weaker c.keep.result _ _ (λ r kept h t was.
    let at = subst (IsAt h t) (sym c.self.view_is) was in
    let accepted =
    subst (λ a. LineAccepted h at.book line a book) c.in-Ok-Kept.field-0-is (c.in-Ok-Kept.ensures.accepted h at.book at.refines) in
    let x = accepted.0 in
    kept_is_read h t x line r c.keep.new.self
    (c.a_line_is_judged_by_entries_and_tree.ensures h at.book t.book at.same at.tree line (verdict.Accepted x) accepted.1)
    (kept h t x (line_accepted h t _ at c.in_ok-self-inside.field-0 c.in_ok-self-inside.ensures x book accepted.2)))
    c.keep.ensures

pub returns-in-Ok-Synced : goal.returns-in-Ok-Synced
returns-in-Ok-Synced c = λ h t was.
    let line = Content c.args.line.now in
    let book = c.accept.new.self in
    let at = subst (IsAt h t) (sym c.self.view_is) was in
    let accepted =
    subst (λ a. LineAccepted h at.book line a book) c.in-Ok-Synced.field-0-is (c.in-Ok-Synced.ensures.accepted h at.book at.refines) in
    inl (
      c.a_line_is_judged_by_entries_and_tree.ensures h at.book t.book at.same at.tree line verdict.Synced accepted.0,
      line_counted h t _ at c.in_ok-self-inside.field-0 c.in_ok-self-inside.ensures book accepted.1,
    )

pub returns-in-Ok-Skipped : goal.returns-in-Ok-Skipped
returns-in-Ok-Skipped c = λ h t was.
    let line = Content c.args.line.now in
    let book = c.accept.new.self in
    let at = subst (IsAt h t) (sym c.self.view_is) was in
    let accepted =
    subst (λ a. LineAccepted h at.book line a book) c.in-Ok-Skipped.field-0-is (c.in-Ok-Skipped.ensures.accepted h at.book at.refines) in (
      c.a_line_is_judged_by_entries_and_tree.ensures h at.book t.book at.same at.tree line verdict.Skipped accepted.0,
      line_counted h t _ at c.in_ok-self-inside.field-0 c.in_ok-self-inside.ensures book accepted.1,
    )

pub returns-in-Err-Cause : goal.returns-in-Err-Cause
returns-in-Err-Cause c = λ h t was.
    let line = Content c.args.line.now in
    let at = subst (IsAt h t) (sym c.self.view_is) was in
    let refused =
    subst (λ a. LineRefused h at.book line a) c.in-Err-Cause.field-0-is (c.in-Err-Cause.ensures.refused h at.book at.refines) in (
      c.a_line_is_judged_by_entries_and_tree.ensures h at.book t.book at.same at.tree line (verdict.Refused c.in-Err-Cause.cause) refused,
      line_counted h t _ at c.in_ok-self-inside.field-0 c.in_ok-self-inside.ensures c.accept.new.self
          (subst (λ b. Refines h at.book b) (sym c.in-Err-Cause.ensures.unchanged) at.refines),
    )

use Rattle.std.proofs.Common.{◌≡◌, ◌∙◌, sym, ap, subst, arith}
use Rattle.seam_rule_rounds.specs.Prelude.{with_entry}
use Rattle.seam_judge_data.specs.Standings.{standing_of}
use Rattle.seam_judge_reader.specs.Scripts.{HasAccepted}
use Rattle.seam_judge_reader.proofs.ScriptSteps.{entry_kept, open_is, with_current}
use Rattle.seam_judge_reader.proofs.script.Script.keep.Goals as goal

pub returns-then-len-eq-MOST_LINES : goal.returns-then-len-eq-MOST_LINES
returns-then-len-eq-MOST_LINES c = λ h t x was.
    let has = subst (HasAccepted h t x) (sym c.self.view_is) was in
    let same = c.entry_of-entry.ensures h has.book x has.closed (c.take_batch.ensures.batch h (with_entry has.book x) has.refines) in
    let new = record c.self.inside.standing { current = c.push.new.self } in
    let is = ap (with_current (standing_of c.self.inside.standing)) c.in_ok-push.ensures.items in (
      omega (arith, open_is h t _ x c.entry_of-entry.result has same new is, c.len.ensures, c.push.new.self.ok.0),
      entry_kept h t _ x c.entry_of-entry.result has same new is c.take_batch.new.self
          (c.take_batch.ensures.ended h (with_entry has.book x) has.refines),
    )

pub returns : goal.returns
returns c = λ h t x was.
    let has = subst (HasAccepted h t x) (sym c.self.view_is) was in
    let same = c.entry_of-entry.ensures h has.book x has.closed (c.take_batch.ensures.batch h (with_entry has.book x) has.refines) in
    let new = record c.self.inside.standing { current = c.push.new.self } in
    let is = ap (with_current (standing_of c.self.inside.standing)) c.in_ok-push.ensures.items in (
      (λ all. omega (arith, all, open_is h t _ x c.entry_of-entry.result has same new is, c.len.ensures, c.push.new.self.ok.0)),
      entry_kept h t _ x c.entry_of-entry.result has same new is c.take_batch.new.self
          (c.take_batch.ensures.ended h (with_entry has.book x) has.refines),
    )

use Rattle.std.proofs.Common.{◌≡◌, refl, ap, ◌∙◌}
use Rattle.std.specs.List.{flat_map}
use Rattle.seam_value.specs.Texts.{spelled_byte, quoted}
use Rattle.seam_value.proofs.Spellings.{quoted_is, no_quoted_inside, no_quotes}
use Rattle.seam_value.proofs.Answers.{text_value, text_cause}
use Rattle.seam_value.proofs.reading.read_text.Goals as goal

-- the content read is the one that the bytes spell
spelled : (c : goal.After-drop-content) → quoted c.deref.result.now ≡ c.args.bytes.now
spelled c =
    let content : flat_map spelled_byte c.in-Some-2.content.items ≡ c.in-Some.spelled.now =
    rw c.in-Some-2.is at c.in_ok-content-in-Some.ensures in
    ap quoted c.deref.ensures.value ∙ quoted_is c.args.bytes.now c.in-Some.spelled.now c.in-Some-2.content.items c.in-Some.ensures content

pub returns-in-Some-2-clause-value : goal.returns-in-Some-2-clause-value
returns-in-Some-2-clause-value c = text_value c.new.result c.args.bytes.now c.deref.result.now (spelled c) c.new.ensures.ok

pub returns-in-Some-2-clause-cause : goal.returns-in-Some-2-clause-cause
returns-in-Some-2-clause-cause c = text_cause c.new.result c.args.bytes.now c.deref.result.now (spelled c) c.new.ensures.cause

pub returns-in-None-2-clause-cause : goal.returns-in-None-2-clause-cause
returns-in-None-2-clause-cause c = (
  refl,
  λ content text. no_quoted_inside c.args.bytes.now c.in-Some.spelled.now c.in-Some.ensures
      (rw c.in-None-2.is at c.in_ok-content-in-Some.ensures) content,
)

pub returns-in-None-clause-cause : goal.returns-in-None-clause-cause
returns-in-None-clause-cause c = (refl, λ content text. no_quotes c.args.bytes.now c.in-None.ensures content)

use Rattle.std.proofs.Common.{◌+◌, ◌++◌, ◌∷◌, [], ℕ, List, length, ◌∙◌, subst, refl}
use Rattle.std.specs.Prelude.{MatchOption}
use Rattle.seam_rule_rounds.specs.Prelude.{Content, AreHeaderLines, BeginWithHeader, RefusesHeader}
use Rattle.seam_world_ends.proofs.HeaderRuns.{header_line_read, header_line_refused, long_header, header_without_end, header_read_fault}
use Rattle.seam_world_ends.proofs.HeaderRuns.{header_limit}
use Rattle.seam_world_ends.proofs.header.read_header_line.Goals as goal

pub returns-in-Ok-clause-header : goal.returns-in-Ok-clause-header
returns-in-Ok-clause-header g c = λ began read was.
    let r = c.in-Line.ensures.reads began was.given read was.reading in
    header_line_read began _ _ _ _ _ read was r.0 (c.next.ensures.limit
    ∙ was.limit) (Content c.next.new.self.line) r.1 c.read_line.new.self
    c.in-Ok.read
    (subst (λ (line : List ℕ). MatchOption c.in-Ok.read (AreHeaderLines (read ++ Content line ∷ []) c.read_line.new.self)
    (λ h. BeginWithHeader (read ++ Content line ∷ []) h (length read + 1) [])) c.line.ensures.content (c.in-Ok.ensures.reads read was.are))

pub returns-in-Err-clause-header : goal.returns-in-Err-clause-header
returns-in-Err-clause-header g c = λ began read was.
    let r = c.in-Line.ensures.reads began was.given read was.reading in
    rw c.refusal.ensures
    (header_line_refused began _ _ _ _ _ read was r.0 (c.next.ensures.limit
    ∙ was.limit) (Content c.next.new.self.line) r.1 c.in-Err.error
    (λ k is. subst (λ (line : List ℕ). RefusesHeader read (Content line) k) c.line.ensures.content
    (c.in-Err.ensures.refused read k was.are is)))

pub returns-in-Long-clause-header : goal.returns-in-Long-clause-header
returns-in-Long-clause-header g c = λ began read was.
    let r = c.in-Long.ensures.reads began was.given read was.reading in
    long_header began _ _ _ _ _ read was r.0 (c.next.ensures.limit ∙ was.limit) r.1

pub returns-in-End-clause-header : goal.returns-in-End-clause-header
returns-in-End-clause-header g c = λ began read was.
    let r = c.in-End.ensures.reads began was.given read was.reading in
    header_without_end began _ _ _ _ _ read was r.0 (c.next.ensures.limit ∙ was.limit) r.1 r.2

pub returns-in-ReadFault-clause-header : goal.returns-in-ReadFault-clause-header
returns-in-ReadFault-clause-header g c = λ began read was.
    let r = c.in-ReadFault.ensures.reads began was.given read was.reading in
    header_read_fault began _ _ _ _ _ read was r.0 (c.next.ensures.limit ∙ was.limit) r.1 r.2 (c.in-ReadFault.ensures.fault refl)

pub returns-in-Limit-clause-header : goal.returns-in-Limit-clause-header
returns-in-Limit-clause-header g c = λ began read was.
    let r = c.in-Limit.ensures.reads began was.given read was.reading in
    header_limit began _ _ _ _ _ read was r.0 (c.next.ensures.limit ∙ was.limit) r.1 r.2

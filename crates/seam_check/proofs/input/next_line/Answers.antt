use Rattle.std.proofs.Common.{◌∷◌, ◌∙◌, sym, ap}
use Rattle.seam_io.specs.Lines.{Line, lines_of}
use Rattle.seam_check.proofs.Lines.{empty_is, first_line, no_line, some_long}
use Rattle.seam_check.proofs.input.next_line.Goals as goal

pub returns-then-is_empty : goal.returns-then-is_empty
returns-then-is_empty c = no_line c.args.bytes.now (empty_is c.args.bytes.now c.is_empty.result c.is_empty.ensures c.if-is_empty.true)

pub returns : goal.returns
returns c =
    let rest = c.first_text.result.1.now in
    let next =
    first_line c.args.bytes.now c.first_text.result.0.now rest
    (some_long c.args.bytes.now c.is_empty.result c.is_empty.ensures c.if-is_empty.false) c.first_text.ensures.none
    c.first_text.ensures.whole in
    (next.0 ∙ ap (λ (l : Line). l ∷ lines_of rest) (sym c.line_of.ensures.line), next.1, c.line_of.ensures.short)

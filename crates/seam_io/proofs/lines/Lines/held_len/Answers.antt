use Rattle.std.proofs.Common.{length, arith, sym, ap, ◌∙◌}
use Rattle.seam_io.specs.Reading.{Reader}
use Rattle.seam_io.proofs.RangeLemmas.{range_size}
use Rattle.seam_io.proofs.lines.Lines.held_len.Goals as goal

pub returns : goal.returns
returns c =
    let is = c.self.invariant in
    let fits = c.self.inside.buffer.ok.0 in
    sym (range_size c.self.inside.buffer.items c.self.inside.start c.self.inside.end (omega arith) (omega arith))
    ∙ ap (λ (r : Reader). length r.held) c.self.view_is

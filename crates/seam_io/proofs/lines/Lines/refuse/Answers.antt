use Rattle.std.proofs.Common.{◌≡◌, ◌<◌, false, [], length, sym, subst}
use Rattle.seam_io.specs.Lines.{HasNoFeed}
use Rattle.seam_io.specs.Reading.{Reader}
use Rattle.seam_io.proofs.RangeLemmas.{range_empty}
use Rattle.seam_io.proofs.StepLemmas.{too_long}
use Rattle.seam_io.proofs.lines.Lines.refuse.Goals as goal
use Rattle.seam_io.specs.declared.lines.TheConstants.{LONGEST_LINE}

pub returns : goal.returns
returns c =
    let whole = subst (λ (r : Reader). HasNoFeed r.held) (sym c.self.view_is) c.requires.whole in
    let long = subst (λ (r : Reader). LONGEST_LINE < length r.held) (sym c.self.view_is) c.requires.long in
    let plain = subst (λ (r : Reader). r.passing ≡ false) (sym c.self.view_is) c.requires.plain in
    let line = subst (λ (r : Reader). r.line ≡ []) (sym c.self.view_is) c.requires.line in
    rw (← c.self.view_is) (too_long _ _ whole long plain line (range_empty c.self.inside.buffer.items c.self.inside.end))

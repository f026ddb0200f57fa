use Rattle.std.proofs.Common.{◌≡◌, false, subst}
use Rattle.seam_io.specs.Reading.{Reader}
use Rattle.seam_io.proofs.RangeLemmas.{found_or_none}
use Rattle.seam_io.proofs.lines.Lines.has_line.Goals as goal

pub returns : goal.returns
returns c =
    let plain : c.args.self.now.passing ≡ false = subst (λ (r : Reader). r.passing ≡ false) c.self.view_is c.if-self.false in
    rw c.is_some.ensures (found_or_none _ _ _ plain c.find_feed.ensures)

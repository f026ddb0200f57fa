use Rattle.std.proofs.Common.{◌≡◌, arith, ap, subst}
use Rattle.std.specs.Prelude.{slice_range}
use Rattle.seam_io.specs.Lines.{HasNoFeed}
use Rattle.seam_io.specs.Reading.{Reader}
use Rattle.seam_io.proofs.RangeLemmas.{feed_held}
use Rattle.seam_io.proofs.lines.Lines.find_feed.Goals as goal

pub returns-then-self : goal.returns-then-self
returns-then-self c =
    let is = c.self.invariant in
    let fits = c.self.inside.buffer.ok.0 in
    rw (← c.self.view_is) (feed_held c.self.inside.buffer.items _ _ _ is.start c.if-self.true (omega arith) is.before
    (is.found c.if-self.true))

pub returns-else-self : goal.returns-else-self
returns-else-self c =
    let is = c.self.invariant in
    let feed : c.self.inside.feed ≡ c.self.inside.end = omega (arith, is.feed) in
    subst (λ (r : Reader). HasNoFeed r.held) c.self.view_is
    (subst HasNoFeed (ap (slice_range c.self.inside.buffer.items c.self.inside.start) feed) is.before)

use Rattle.std.proofs.Common.{◌≡◌, ◌-◌, ◌+◌, ◌≤◌, arith, refl, subst, sym, ap, ◌∙◌}
use Rattle.std.specs.Prelude.{slice_range}
use Rattle.seam_io.specs.Lines.{HasNoFeed}
use Rattle.seam_io.proofs.RangeLemmas.{range_rest, range_empty, feed_held}
use Rattle.seam_io.proofs.StepLemmas.{nothing_skipped, feed_skipped, all_skipped}
use Rattle.seam_io.proofs.lines.Lines.skip.Goals as goal

pub returns-then-not-self : goal.returns-then-not-self
returns-then-not-self c = rw (← c.self.view_is) (nothing_skipped _ _ c.if-not-self.true refl)

pub returns-then-self : goal.returns-then-self
returns-then-self c =
    let is = c.self.invariant in
    let fits = c.self.inside.buffer.ok.0 in
    let bytes = c.self.inside.buffer.items in
    let len = c.self.inside.feed - c.self.inside.start in
    let feed = feed_held bytes _ _ _ is.start c.if-self.true (omega arith) is.before (is.found c.if-self.true) in
    let place : c.self.inside.start + (len + 1) ≡ c.self.inside.feed + 1 = let order = is.start in omega arith in
    let within : c.self.inside.start + (len + 1) ≤ c.self.inside.end = omega (arith, c.if-self.true) in
    rw (← c.self.view_is) (feed_skipped _ _ _ len c.if-not-self.false feed (ap (λ n. slice_range bytes n c.self.inside.end) (sym place)
    ∙ range_rest bytes c.self.inside.start c.self.inside.end (len + 1) within) refl)

pub returns : goal.returns
returns c =
    let is = c.self.invariant in
    let fits = c.self.inside.buffer.ok.0 in
    let feed : c.self.inside.feed ≡ c.self.inside.end = omega (arith, is.feed) in
    let whole = subst HasNoFeed (ap (slice_range c.self.inside.buffer.items c.self.inside.start) feed) is.before in
    rw (← c.self.view_is) (all_skipped _ _ _ _ c.if-not-self.false whole
    (range_empty c.self.inside.buffer.items c.self.inside.end) refl refl)

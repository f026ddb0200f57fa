use Rattle.std.proofs.Common.{eqb, eqb-true, ◌≡◌, ◌<◌, ◌≤◌, ◌+◌, ◌-◌, length, take, drop, arith, refl, ap, ◌∙◌, sym, subst, []}
use Rattle.std.specs.Prelude.{slice_range}
use Rattle.std.proofs.lemmas.List.{length-take, length-drop}
use Rattle.seam_io.specs.Lines.{HasNoFeed}
use Rattle.seam_io.specs.Reading.{Reader}
use Rattle.seam_io.proofs.RangeLemmas.{range_size, no_feed_after_read}
use Rattle.seam_io.proofs.ReadLemmas.{fills, same_view, unread, refilled}
use Rattle.seam_io.proofs.lines.Lines.fill.Goals as goal
use Rattle.seam_io.specs.declared.lines.TheConstants.{LONGEST_LINE}

pub invariant_of-self-2 : goal.invariant_of-self-2
invariant_of-self-2 g c =
    let is = c.self.invariant in
    let len = c.refill-result.ensures.len in
    let bound = c.in_ok-count.ensures.bound in
    let order = c.feed_between-self-inside.ensures.from in
    let size : length (slice_range c.self.inside.buffer.items c.self.inside.start c.self.inside.end)
    ≡ c.self.inside.end - c.self.inside.start = range_size _ _ _ (omega arith) (omega arith) in
    let short : length (slice_range c.self.inside.buffer.items c.self.inside.start c.self.inside.end) ≤ LONGEST_LINE =
    subst (λ (r : Reader). length r.held ≤ LONGEST_LINE) (sym c.self.view_is) c.requires.text.short in
    let room : c.self.inside.taken < c.self.inside.limit =
    subst (λ (r : Reader). r.taken < r.limit) (sym c.self.view_is) c.requires.room in
    record {
      size = len ∙ is.size;
      start = omega arith;
      feed = c.feed_between-self-inside.ensures.to;
      end = omega arith;
      line_start = omega arith;
      line_end = omega arith;
      line_len = omega arith;
      before = no_feed_after_read _ _ _ _ _ c.refill-result.ensures.kept order
          (subst (λ (r : Reader). HasNoFeed r.held) (sym c.self.view_is) c.requires.text.whole)
          (rw c.deref.ensures.value at c.feed_between-self-inside.ensures.before);
      found = rw c.deref.ensures.value at c.feed_between-self-inside.ensures.found;
      within = omega arith;
      ended = λ e. let none = eqb-true _ _ e in omega arith;
    }

pub returns-in_err-count-clause-reads : goal.returns-in_err-count-clause-reads
returns-in_err-count-clause-reads g c = λ start given read r.
    let line : slice_range c.self.inside.buffer.items c.self.inside.line_start c.self.inside.line_end ≡ [] =
    ap (λ (r : Reader). r.line) c.self.view_is ∙ c.requires.line in
    let same =
    same_view c.self.inside.buffer.items c.refill-result.new.buffer.items c.self.inside.start c.self.inside.end c.self.inside.passing
    c.self.inside.ended c.self.inside.taken c.self.inside.limit _ c.refill-result.ensures.kept line in
    unread start _ _ c.args.self.now _ given read r (same ∙ c.self.view_is) c.requires.going c.in_err-count.ensures.bytes
    c.refill-result.ensures.cause.later c.in_err-count.ensures.end.failed

pub returns-clause-reads : goal.returns-clause-reads
returns-clause-reads g c = λ start given read r.
    let is = c.self.invariant in
    let before = c.self.inside.buffer.ok.0 in
    let after = c.refill-result.new.buffer.ok.0 in
    let len = c.refill-result.ensures.len in
    let size : length (slice_range c.self.inside.buffer.items c.self.inside.start c.self.inside.end)
    ≡ c.self.inside.end - c.self.inside.start = range_size _ _ _ (omega arith) (omega arith) in
    let short : length (slice_range c.self.inside.buffer.items c.self.inside.start c.self.inside.end) ≤ LONGEST_LINE =
    subst (λ (r : Reader). length r.held ≤ LONGEST_LINE) (sym c.self.view_is) c.requires.text.short in
    let held = c.self.inside.end - c.self.inside.start in
    let bytes = drop held c.refill-result.new.buffer.items in
    let bound = c.in_ok-count.ensures.bound in
    let fits : held + c.in_ok-count.count ≤ length c.refill-result.new.buffer.items = omega arith in
    let within : c.self.inside.taken + c.in_ok-count.count ≤ c.self.inside.limit = omega arith in
    let some : 0 < length bytes = omega (arith, length-drop held c.refill-result.new.buffer.items) in
    let kept = c.refill-result.ensures.kept in
    let filled =
    fills c.self.inside.buffer.items c.refill-result.new.buffer.items c.self.inside.start c.self.inside.end c.in_ok-count.count
    c.self.inside.passing
    c.self.inside.ended (eqb c.in_ok-count.count 0) c.self.inside.taken c.self.inside.limit _ [] kept fits within in (
      take c.in_ok-count.count bytes,
      refilled start _ _ c.args.self.now _ given read c.in_ok-count.count bytes r (rw (← c.self.view_is) filled)
          c.in_ok-count.ensures.bytes some c.refill-result.ensures.cause.later c.refill-result.ensures.end.later
          c.in_ok-count.ensures.end.ended c.in_ok-count.ensures.end.others c.requires refl,
      rw (← c.self.view_is) filled.held,
      omega (arith, length-take c.in_ok-count.count bytes),
    )

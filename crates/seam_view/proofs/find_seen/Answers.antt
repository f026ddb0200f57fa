use Rattle.std.proofs.Common.{◌<◌, sym, ap, ◌∙◌, Some, length, arith, ltb-true, ltb-false}
use Rattle.std.proofs.lemmas.List.{get_or_read}
use Rattle.seam_view.proofs.KnownOrder.{seen_at, seen_here, seen_missing}
use Rattle.seam_view.proofs.find_seen.Goals as goal

pub returns-then-seen-e : goal.returns-then-seen-e
returns-then-seen-e c =
    let at = c.loop-at.at in
    let lt : at < length c.args.known.now = omega (arith, c.loop-at-test.true, c.min-at-end.ensures) in
    sym (seen_at c.args.e c.args.known.now at _ c.requires lt c.if-seen-e.true)

pub returns-in_default : goal.returns-in_default
returns-in_default c =
    let past = ltb-false _ _ (sym c.in_default.ensures.lookup.0) in
    sym (seen_missing c.args.e c.args.known.now c.place_of-at.result c.requires c.place_of-at.ensures.below c.place_of-at.ensures.above
    (λ d lt. absurd (omega (arith, lt, past))))

pub returns-then-seen-e-2 : goal.returns-then-seen-e-2
returns-then-seen-e-2 c =
    let lt = ltb-true _ _ (sym c.in-Some.ensures.lookup.0) in
    let read = c.in-Some.ensures.lookup.1 in
    ap (λ s. Some s) read
    ∙ sym (seen_here c.args.e c.args.known.now c.place_of-at.result c.in-Some.seen.now c.place_of-at.ensures.below lt
    (ap (λ s. s.entity) (sym read) ∙ c.if-seen-e-2.true))

pub returns-else-seen-e-2 : goal.returns-else-seen-e-2
returns-else-seen-e-2 c =
    let lt = ltb-true _ _ (sym c.in-Some.ensures.lookup.0) in
    let read = c.in-Some.ensures.lookup.1 in
    sym (seen_missing c.args.e c.args.known.now c.place_of-at.result c.requires c.place_of-at.ensures.below c.place_of-at.ensures.above
    (λ d l same. c.if-seen-e-2.false (ap (λ s. s.entity) (get_or_read c.args.known.now c.place_of-at.result c.in-Some.seen.now lt read d)
    ∙ same)))

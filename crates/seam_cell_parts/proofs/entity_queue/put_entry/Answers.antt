use Rattle.std.proofs.Common.{◌≢◌, true, ◌<◌, ◌≤◌, length, get_or, refl, subst, sym, ap, ◌∙◌}
use Rattle.seam_cell_parts.specs.declared.entity_queue.Entry.{Entry}
use Rattle.std.specs.List.{AllWithin}
use Rattle.std.specs.List.Sorted.{IsStrictlySortedBy}
use Rattle.std.specs.Ordering.{nat_cmp}
use Rattle.seam_cell_parts.specs.Queues.{IsAt, entities, waiting}
use Rattle.seam_cell_parts.proofs.QueueLemmas.{put_in, marked_in, rising_in, rising_marked}
use Rattle.seam_cell_parts.proofs.entity_queue.put_entry.Goals as goal

pub returns-then-is_at-clause-waits : goal.returns-then-is_at-clause-waits
returns-then-is_at-clause-waits c =
    let e = c.args.e in
    let i = c.count_below-at.result in
    let is = subst (λ l. IsAt l i e) c.deref-2.ensures.value (c.is_at.ensures.yes c.if-is_at.true) in
    marked_in e c.args.entries.now.items i (record { entity = e; waits = true }) refl refl c.requires is.within is.entity

pub returns-then-is_at-clause-rising : goal.returns-then-is_at-clause-rising
returns-then-is_at-clause-rising c =
    let e = c.args.e in
    let i = c.count_below-at.result in
    let is = subst (λ l. IsAt l i e) c.deref-2.ensures.value (c.is_at.ensures.yes c.if-is_at.true) in
    rising_marked e c.args.entries.now.items i (record { entity = e; waits = true }) refl is.entity c.requires

pub returns-in-Ok-clause-waits : goal.returns-in-Ok-clause-waits
returns-in-Ok-clause-waits c =
    let e = c.args.e in
    let ws = c.args.entries.now.items in
    let i = c.count_below-at.result in
    let lists = c.deref.ensures.value in
    let below = subst (λ l. AllWithin (λ w. w.entity < e) l 0 i) lists c.count_below-at.ensures.below in
    let above = subst (λ l. AllWithin (λ w. e ≤ w.entity) l i (length l)) lists c.count_below-at.ensures.above in
    let within = subst (λ l. i ≤ length l) lists c.count_below-at.ensures.within in
    let other = subst (λ l. (d : Entry) → i < length l → (get_or l i d).entity ≢ e) c.deref-2.ensures.value
    (c.is_at.ensures.no c.if-is_at.false) in
    ap waiting c.in-Ok.ensures.items ∙ put_in e ws i (record { entity = e; waits = true }) refl refl c.requires within below above other

pub returns-in-Ok-clause-rising : goal.returns-in-Ok-clause-rising
returns-in-Ok-clause-rising c =
    let e = c.args.e in
    let ws = c.args.entries.now.items in
    let i = c.count_below-at.result in
    let lists = c.deref.ensures.value in
    let below = subst (λ l. AllWithin (λ w. w.entity < e) l 0 i) lists c.count_below-at.ensures.below in
    let above = subst (λ l. AllWithin (λ w. e ≤ w.entity) l i (length l)) lists c.count_below-at.ensures.above in
    let within = subst (λ l. i ≤ length l) lists c.count_below-at.ensures.within in
    let other = subst (λ l. (d : Entry) → i < length l → (get_or l i d).entity ≢ e) c.deref-2.ensures.value
    (c.is_at.ensures.no c.if-is_at.false) in
    subst (λ l. IsStrictlySortedBy nat_cmp (entities l)) (sym c.in-Ok.ensures.items)
    (rising_in e ws i (record { entity = e; waits = true }) refl c.requires within below above other)

use Rattle.std.proofs.Common.{◌≡◌, ◌∙◌, ◌++◌, ◌+◌, ap, sym, map, length}
use Rattle.std.proofs.lemmas.List.{append-nil}
use Rattle.seam_view.specs.Replica.{after_looks}
use Rattle.seam_node_steps.specs.Prelude.{told_after, is_small, witness_of, numbered, own_due, seen_as, shown_of, CellView, known_to}
use Rattle.seam_node_steps.proofs.Knowing.{known_in_order}
use Rattle.seam_cell_parts.specs.Kept.{here_in}
use Rattle.seam_cell_look.specs.Looking.{seeing}
use Rattle.seam_cell_look.proofs.NearLooks.{kept_same}
use Rattle.seam_cell_look.proofs.LookLemmas.{stray_stays, stray_is_silent, small_looks, small_tells}
use Rattle.seam_cell_look.proofs.looking.Sight.look.Goals as goal
use Rattle.seam_cell_look.proofs.looking.Sight.look.Goals.{then-not-is_empty+in_ok-reserve, else-not-is_empty}

pub returns-then-not-are_numbers_small-clause-witness : goal.returns-then-not-are_numbers_small-clause-witness
returns-then-not-are_numbers_small-clause-witness c = λ k.
    let h = here_in c.args.self.now.known.now in
    let d : CellView = seeing k h c.args.self.now.reals.now.items c.args.self.now.copies.now.ghosts in
    c.get_ready.ensures.same
    ∙ stray_stays h c.args.real.now.core (witness_of c.args.witness.now) (known_to d c.args.self.now.own)
    (c.if-not-are_numbers_small.ensures
    ∙ λ i. is_small ((c.get_ready.ensures.same i).sent + (c.len-updates.ensures ∙ ap (λ u. length u.shown) (c.in_ok-glance.ensures.shown k))
    i))

pub returns-then-not-are_numbers_small-clause-sent : goal.returns-then-not-are_numbers_small-clause-sent
returns-then-not-are_numbers_small-clause-sent c = λ k.
    let h = here_in c.args.self.now.known.now in
    let d : CellView = seeing k h c.args.self.now.reals.now.items c.args.self.now.copies.now.ghosts in
    c.take_room-room.ensures.same ∙ sym (append-nil c.args.out.now.items)
    ∙ ap (λ l. c.args.out.now.items ++ l)
    (stray_is_silent h c.args.real.now.core (witness_of c.args.witness.now) (known_to d c.args.self.now.own)
    (c.if-not-are_numbers_small.ensures
    ∙ λ i. is_small ((c.get_ready.ensures.same i).sent + (c.len-updates.ensures ∙ ap (λ u. length u.shown) (c.in_ok-glance.ensures.shown k))
    i)))

pub returns-clause-witness : goal.returns-clause-witness
returns-clause-witness c = λ k.
    let h = here_in c.args.self.now.known.now in
    let d : CellView = seeing k h c.args.self.now.reals.now.items c.args.self.now.copies.now.ghosts in
    let r = c.args.real.now.core in
    let w = witness_of c.args.witness.now in
    let g = c.in_ok-glance.glance in
    let known = known_to d c.args.self.now.own in
    let same = c.get_ready.ensures.same in
    let view =
    kept_same w.view r.state.pos (map seen_as known) g.seen.items (known_in_order d c.args.self.now.own) (c.in_ok-glance.ensures.near k)
    g.looks.items (c.in_ok-glance.ensures.looks k)
    ∙ ap (after_looks (map seen_as known) w.view) (c.in_ok-glance.ensures.looks k) in
    c.tell.ensures.witness
    ∙ ((λ i. record {
      view = after_looks g.seen.items (same i).view g.looks.items;
      told = told_after (own_due (same i).told r.version) r.version (same i).told;
      sent = (same i).sent + length (c.in_ok-glance.ensures.shown k i).shown;
    })
    ∙ ((λ i. record {
      view = view i;
      told = told_after (own_due w.told r.version) r.version w.told;
      sent = w.sent + length (shown_of h r w known);
    })
    ∙ small_looks h r w known
    (c.if-not-are_numbers_small.ensures
    ∙ λ i. is_small ((same i).sent + (c.len-updates.ensures ∙ ap (λ u. length u.shown) (c.in_ok-glance.ensures.shown k)) i))))

pub returns-clause-sent : goal.returns-clause-sent
returns-clause-sent c = λ k.
    let h = here_in c.args.self.now.known.now in
    let d : CellView = seeing k h c.args.self.now.reals.now.items c.args.self.now.copies.now.ghosts in
    let r = c.args.real.now.core in
    let same = c.get_ready.ensures.same in
    let g = c.in_ok-glance.glance.shown in
    let room : c.if-not-is_empty.out.items ≡ c.args.out.now.items =
    elim c.if-not-is_empty.branch [
      | then-not-is_empty+in_ok-reserve w ↦ ap (λ o. o.items) w.out-is ∙ w.in_ok-reserve.ensures.items ∙ c.take_room-room.ensures.same
      | else-not-is_empty w ↦ ap (λ o. o.items) w.out-is ∙ c.take_room-room.ensures.same
    ] in
    c.tell.ensures.sent
    ∙ (ap (λ l. l ++ numbered g.to g.entity g.sent g.shown) room
    ∙ ap (λ l. c.args.out.now.items ++ l) ((λ i. let u = c.in_ok-glance.ensures.shown k i in numbered u.to u.entity u.sent u.shown)
    ∙ small_tells h r (witness_of c.args.witness.now) (known_to d c.args.self.now.own)
    (c.if-not-are_numbers_small.ensures
    ∙ λ i. is_small ((same i).sent + (c.len-updates.ensures ∙ ap (λ u. length u.shown) (c.in_ok-glance.ensures.shown k)) i))))

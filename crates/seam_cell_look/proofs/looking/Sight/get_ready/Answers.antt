use Rattle.std.proofs.Common.{◌∙◌, [], sym, subst, map, not}
use Rattle.std.specs.List.{filter}
use Rattle.std.specs.Ordering.{nat_cmp}
use Rattle.std.specs.List.Sorted.{IsStrictlySortedBy}
use Rattle.std.specs.FinMap as table
use Rattle.seam_view.specs.declared.Look.{Look}
use Rattle.seam_view.specs.ViewLooks.{one_look}
use Rattle.seam_view.specs.Replica.{IsView, HasRoom}
use Rattle.seam_view.proofs.Room.{room_for_fewer}
use Rattle.seam_node_steps.specs.Prelude.{seen_as, all_shown, CellView, known_to}
use Rattle.seam_node_steps.proofs.Knowing.{known_in_order}
use Rattle.seam_cell_parts.specs.Kept.{here_in}
use Rattle.seam_cell_look.specs.Looking.{seeing}
use Rattle.seam_cell_look.specs.Near.{HasNear, is_early}
use Rattle.seam_cell_told.specs.Updates.{updates_of}
use Rattle.seam_cell_look.proofs.NearLooks.{looks_same}
use Rattle.seam_cell_look.proofs.looking.Sight.get_ready.Goals as goal

pub plan-requires : goal.plan-requires
plan-requires c =
    subst (λ l. IsStrictlySortedBy nat_cmp (map (λ s. s.entity) l)) (sym c.deref.ensures.value) c.in_ok-seen.ensures.rising

pub returns-clause-near : goal.returns-clause-near
returns-clause-near c = λ k.
    let d : CellView = seeing k (here_in c.args.self.now.known.now) c.args.self.now.reals.now.items c.args.self.now.copies.now.ghosts in
    subst (λ s. HasNear c.args.witness.now.view.core s.pos (map seen_as (known_to d c.args.self.now.own)) c.in_ok-seen.seen.items)
    c.state.ensures (c.in_ok-seen.ensures.near k)

pub returns-clause-looks : goal.returns-clause-looks
returns-clause-looks c = λ k.
    let d : CellView = seeing k (here_in c.args.self.now.known.now) c.args.self.now.reals.now.items c.args.self.now.copies.now.ghosts in
    let known = map seen_as (known_to d c.args.self.now.own) in
    let core = c.args.witness.now.view.core in
    c.in_ok-looks.ensures.looks k
    ∙ ((λ i. filter (λ look. not (is_early (c.in_ok-planned.ensures.same i) known look))
    (c.in_ok-planned.ensures.looks i))
    ∙ ((λ i. filter (λ look. not (is_early core known look)) (one_look core c.state.result.now.pos (c.deref.ensures.value i)))
    ∙ (looks_same core c.state.result.now.pos known c.in_ok-seen.seen.items (known_in_order d c.args.self.now.own)
    (c.in_ok-seen.ensures.near k) (subst IsView c.in_ok-planned.ensures.same c.in_ok-looks.ensures.view)
    ∙ λ i. one_look core (c.state.ensures i).pos known)))

pub returns-clause-shown : goal.returns-clause-shown
returns-clause-shown c = λ k.
    let d : CellView = seeing k (here_in c.args.self.now.known.now) c.args.self.now.reals.now.items c.args.self.now.copies.now.ghosts in
    let known = map seen_as (known_to d c.args.self.now.own) in
    let core = c.args.witness.now.view.core in
    let looks =
    c.in_ok-looks.ensures.looks k
    ∙ ((λ i. filter (λ look. not (is_early (c.in_ok-planned.ensures.same i) known look))
    (c.in_ok-planned.ensures.looks i))
    ∙ ((λ i. filter (λ look. not (is_early core known look)) (one_look core c.state.result.now.pos (c.deref.ensures.value i)))
    ∙ (looks_same core c.state.result.now.pos known c.in_ok-seen.seen.items (known_in_order d c.args.self.now.own)
    (c.in_ok-seen.ensures.near k) (subst IsView c.in_ok-planned.ensures.same c.in_ok-looks.ensures.view)
    ∙ λ i. one_look core (c.state.ensures i).pos known))) in
    c.in_ok-shown.ensures.shown k
    ∙ λ i. updates_of (here_in c.args.self.now.known.now) c.args.real.now.core c.args.witness.now.sent
    (all_shown (here_in c.args.self.now.known.now) c.args.real.now.core
    (record { view = c.in_ok-planned.ensures.same i; told = c.args.witness.now.told; sent = c.args.witness.now.sent })
    (known_to d c.args.self.now.own) ((c.deref-2.ensures.value ∙ looks) i))

pub returns-clause-room : goal.returns-clause-room
returns-clause-room c =
    let d : CellView = record {
      here = here_in c.args.self.now.known.now;
      tree = c.args.self.now.known.now.bounds.tree;
      number = c.args.self.now.known.now.bounds.number;
      reals = c.args.self.now.reals.now.items;
      nexts = table.empty;
      ghosts = c.args.self.now.copies.now.ghosts;
      survey = [];
      looks = [];
    } in
    let t = λ (look : Look). not (is_early c.plan.new.self.core (map seen_as (known_to d c.args.self.now.own)) look) in
    subst (HasRoom c.plan.new.self) (sym (c.in_ok-looks.ensures.looks d))
    (room_for_fewer t c.plan.new.self c.in_ok-planned.planned.items c.in_ok-planned.ensures.room)

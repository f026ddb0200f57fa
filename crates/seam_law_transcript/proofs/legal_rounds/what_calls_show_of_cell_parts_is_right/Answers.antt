use Rattle.seam_law_transcript.proofs.Prelude.{◌≡◌, ℕ, ◌≤◌, true, eqb, List, ◌++◌, length, Option, None, Some, refl, sym, ap, ◌∙◌, subst}
use Rattle.seam_law_transcript.proofs.Prelude.{arith, is_some, slice_get, AllByRecursion, list_any, sole_here, Event, other_of, ghost_of}
use Rattle.seam_law_transcript.proofs.Prelude.{projected, type_of, Property, State, Call, Create, GhostCopy, cell_count, RealView}
use Rattle.seam_law_transcript.proofs.Prelude.{WitnessView, loaded, World, entries, creates_of, created_as, new_client, after_lines}
use Rattle.seam_law_transcript.proofs.Prelude.{ShowsRightly, IsOwn, IsOther, truth_of, replica_of, entity_flow, real_in, real_of, HasOne}
use Rattle.seam_law_transcript.proofs.Prelude.{account_of, RunsTo, real_at, framed, clients_loaded, true_between, shown_to, may_begin}
use Rattle.seam_law_transcript.proofs.Prelude.{as_begun, IsPresent, IsUntouched, frame_of, IsDoneOn, done_by_real, done_in, real_here}
use Rattle.seam_law_transcript.proofs.Prelude.{may_play, standing_of, found_entity, batch_of, in_frame, settled_loaded, spared_loaded}
use Rattle.seam_law_transcript.proofs.Prelude.{no_mail, one_holder, quiet_home, are_for_loaded, among_is, done_after, one_in, real_is}
use Rattle.seam_law_transcript.proofs.Prelude.{both_seen}
use Rattle.seam_law_clients.specs.Prelude.{WasOther}
use Rattle.seam_defs.specs.declared.flags.Group.TheVariants as group
use Rattle.seam_defs.specs.declared.flags.Part.TheVariants as part
use Rattle.seam_law_clients.specs.RoundTruths.{WasOwn}
use Rattle.seam_law_transcript.proofs.Who.{is_present, was_joined, unjoined_before, client_by, there_created, there_alive}
use Rattle.seam_law_transcript.proofs.Replicas.{begun_by}
use Rattle.seam_law_transcript.proofs.Truths.{own_now_is, from_start, up_to_end, other_is, not_before, not_after, at}
use Rattle.seam_law_calls.proofs.OneReal.{spared_leads}
use Rattle.seam_law_transcript.proofs.Later.{later_calls}
use Rattle.seam_law_transcript.proofs.Rightly.{rightly_by}
use Rattle.seam_law_transcript.proofs.legal_rounds.what_calls_show_of_cell_parts_is_right.Goals as goal

witness_by : (o : Option WitnessView) → is_some o ≡ true → (x : WitnessView) × (o ≡ Some x)
witness_by None is = absurd (let z = is in cc)
witness_by (Some x) is = (x, refl)

pub returns : goal.returns
returns c h s tree w v p bounds next x is shown =
    let b = s.book in
    let B = batch_of h b in
    let f = frame_of h tree in
    let g = framed f B in
    let play = may_play h s tree w p.beside in
    let round = p.round in
    let t = standing_of h s tree w v p bounds next in
    let clients = replica_of h s in
    let start = loaded w B in
    let R = c.lines_bring_what_fits.ensures.brings h b play.legal play.of_lines in
    let untouched : (d : ℕ) → created_as (as_begun b) d ≡ None → IsUntouched (as_begun b) d =
    λ d none. c.uncreated_numbers_are_untouched.ensures h (as_begun b) play.legal
    (c.lines_bring_what_fits.ensures.begun h b play.of_lines) d none in
    let may = c.what_lines_bring_fits.ensures.given h b tree clients w play in
    let law = c.calls_obey_the_laws.ensures.laws f clients w play.keeps B may round.call_events round.called round.calls in
    let called = c.calls_obey_the_laws.ensures.records f clients w play.keeps B may round.call_events round.called round.calls
    round.calls_done in
    let there = is_present b x.entity x is shown in
    let l = c.what_lines_bring_fits.ensures.there h b tree clients w play x.entity x there in
    let y = client_by l.base.proxy (l.client ∙ was_joined b x.entity x is shown) in
    let z = witness_by l.real.witness
    (both_seen l.real.witness l.base.proxy l.base.version
    (are_for_loaded f w B (may_begin play.keeps may) play.keeps.parts x.entity l.cell l.real l.here l.base l.base_here)
    ∙ ap is_some y.1) in
    -- what an entity executed by some world of the calls comes first of all that it executes
    let first_done : (e home : ℕ) (r : RealView) → real_at e start home ≡ Some r → (u : World) (es ds : List Event) →
    RunsTo start es u → RunsTo u ds round.called → (one : HasOne g e r.ty u) →
    (more : List Call) × (done_in h round.called part.Cell e ≡ one.real.done ++ more) = λ e home r here u es ds from to one.
    let settled = settled_loaded f w B (may_begin play.keeps may) e home r here in
    let holds = law.one_real e
    (one_holder (frame_of h B.tree) start e home r settled (no_mail f w B (may_begin play.keeps may) e)) in
    let end = quiet_home g round.called called.records.reals e holds in
    let spared = spared_leads g e start u es (in_frame f w B (may_begin play.keeps may))
    (spared_loaded f w B (may_begin play.keeps may) e home r here) from in
    let later = later_calls g called.records.reals.frame e r.ty settled.type u round.called ds one spared to end.node end.real end.here in
    let place = called.records.reals.settled e end.node end.real end.here in
    let low = place.fits.home in
    let most = called.records.reals.frame.tree.cells_to in (
      later.0,
      one_in (λ j. done_by_real (real_here e (slice_get round.called.nodes j))) end.node 0 cell_count (omega arith)
          (omega (arith, low, most)) (λ j n. ap done_by_real (real_is e round.called j ∙ place.others j n))
          ∙ ap done_by_real (real_is e round.called end.node ∙ end.here) ∙ later.1,
    ) in
    let deeds : (e home : ℕ) (r : RealView) → real_at e start home ≡ Some r → (d : Create) → IsPresent b e d →
    AllByRecursion (IsDoneOn part.Cell (type_of h.defs d.ty)) (done_in h round.called part.Cell e) = λ e home r here d present.
    let holds = law.one_real e
    (one_holder (frame_of h B.tree) start e home r (settled_loaded f w B (may_begin play.keeps may) e home r here)
    (no_mail f w B (may_begin play.keeps may) e)) in
    let end = quiet_home g round.called called.records.reals e holds in
    c.each_part_executed_what_was_accepted.ensures.on h b tree clients w play round.call_events round.called round.calls round.calls_done e
    end.node end.real end.here d present part.Cell in
    -- its own state
    let own : (version : ℕ) (state : State) → WasOwn g x.entity start round.called version state → IsOwn h s t x version state =
    λ version state was.
    let e = x.entity in
    let u = was.world in
    let its = ((c.calls_obey_the_laws.ensures.laws f clients w play.keeps B may was.between.before u was.between.from).each e l.cell l.real
    l.here).replays in
    let same = (sole_here real_in real_of (entity_flow e u) its.has.place its.has.real was.real was.node its.has.one was.here).1 in
    let begins = c.reals_are_those_of_the_flat_table.ensures.loaded h b tree clients w play s.orders p.beside.between.before e l.cell l.real
    x
    l.here there in
    let more = first_done e l.cell l.real l.here u was.between.before was.between.after was.between.from was.between.to its.has in
    let further = its.replays.further in
    let done_so : its.has.real.done ≡ further =
    ap (λ a. a.done) its.replays.account ∙ done_after (type_of h.defs l.real.ty) (account_of l.real) further
    ∙ ap (λ d. d ++ further) begins.idle in
    let split = more.1 ∙ ap (λ d. d ++ more.0) done_so in
    let done = done_in h round.called part.Cell e in
    let order = s.orders part.Cell e in
    let right = own_now_is h x order done l.real begins (deeds e l.cell l.real l.here x there) further more.0 split was.real
    (ap (λ (r : RealView). r.ty) same ∙ its.replays.type) (ap account_of same ∙ its.replays.account) in
    let at_version : version ≡ length (order ++ further) = was.at ∙ right.0 in
    let low = from_start h x order done l.real begins (deeds e l.cell l.real l.here x there) further more.0 split in
    let high = up_to_end h x order done l.real begins (deeds e l.cell l.real l.here x there) further more.0 split in
    subst (λ n. IsOwn h s t x n state) (sym at_version) ((low, high), was.is ∙ right.1) in
    -- others
    let other : (d : ℕ) (copy : GhostCopy) → WasOther g start round.called d copy → IsOther h s t d copy = λ d copy was.
    let u = was.world in
    let made = c.what_lines_bring_fits.ensures.comes h b tree clients w play d was.home was.first was.at_first in
    let created = there_created h b R untouched d made.0 made.1 in
    let number = found_entity (creates_of (entries b)) d made.0 created in
    let begins = c.reals_are_those_of_the_flat_table.ensures.loaded h b tree clients w play s.orders p.beside.between.before d was.home
    was.first made.0 was.at_first made.1 in
    let its = ((c.calls_obey_the_laws.ensures.laws f clients w play.keeps B may was.between.before u was.between.from).each d was.home
    was.first was.at_first).replays in
    let one : HasOne g d was.first.ty u =
    record { fits = its.has.fits; place = was.place; real = was.real; one = was.one } in
    let more = first_done d was.home was.first was.at_first u was.between.before was.between.after was.between.from was.between.to one in
    let further = was.replays.further in
    let done_so : was.real.done ≡ further =
    ap (λ a. a.done) was.replays.account ∙ done_after (type_of h.defs was.first.ty) (account_of was.first) further
    ∙ ap (λ d. d ++ further) begins.idle in
    let split = more.1 ∙ ap (λ d. d ++ more.0) done_so in
    let done = done_in h round.called part.Cell d in
    let order = s.orders part.Cell d in
    let all = deeds d was.home was.first was.at_first made.0 made.1 in
    let ghosts : (ps : List Property) (s t : State) → ghost_of ps s ≡ ghost_of ps t → other_of ps s ≡ other_of ps t =
    c.others_see_the_ghost.ensures.shown in
    let by_ghost : (ps : List Property) (s : State) → projected ps group.Ghost group.Other (ghost_of ps s).props ≡ (other_of ps s).props =
    c.others_see_the_ghost.ensures.by_ghost in
    let low = not_before ghosts by_ghost h (batch_of h b).tree made.0 order done was.first begins all further more.0 split was.copy
    was.true_ in
    let high = not_after ghosts by_ghost h (batch_of h b).tree made.0 order done was.first begins all further more.0 split was.copy
    was.true_ in
    record {
      made = made.0;
      is = created;
      lived = there_alive h b R untouched d made.0 made.1;
      version = at ghosts by_ghost h (batch_of h b).tree made.0 order done was.first begins all further more.0 split was.copy was.true_;
      had = subst (λ n. (length (s.orders part.Cell n) ≤ at ghosts by_ghost h (batch_of h b).tree made.0 order done was.first begins all
          further
          more.0 split was.copy was.true_)
          × (at ghosts by_ghost h (batch_of h b).tree made.0 order done was.first begins all further more.0 split was.copy was.true_
          ≤ length (t.orders part.Cell n))) (sym number) (low, high);
      same = was.is
          ∙ other_is ghosts by_ghost h (batch_of h b).tree made.0 order done was.first begins all further more.0 split was.copy was.true_;
    } in
    let begun : clients_loaded f B clients x.entity ≡ replica_of h s x.entity =
    begun_by (list_any (λ q. eqb q x.entity) B.clients) (new_client h.settings) (replica_of h s x.entity)
    (λ joins.
    ap (after_lines (new_client h.settings))
    (p.beside.between.untold x.entity (unjoined_before h b R untouched x.entity (sym (among_is x.entity B.clients) ∙ joins)))) in
    rightly_by (true_between g x.entity start round.called) (truth_of h s t x) own other x.entity (replica_of h s x.entity)
    (shown_to g x.entity round.called)
    (subst (λ r. ShowsRightly (true_between g x.entity start round.called) x.entity r (shown_to g x.entity round.called)) begun
    ((law.each x.entity l.cell l.real l.here).shown z.0 z.1))

-- The batch of the crossing fits an opened world, and so what the laws of clients ask is true of it.
use Rattle.std.proofs.Common.{◌≡◌, ℕ, ◌+◌, Bool, true, false, eqb, [], ◌∷◌, length, None, Some, refl, sym, ap, ◌∙◌, subst, arith, inl, inr}
use Rattle.std.specs.List.{IsDistinct}
use Rattle.std.specs.FinMap as table
use Rattle.std.proofs.lemmas.Bool.{cases_eq, ne_eqb}
use Rattle.seam_node_steps.specs.Prelude.{builtin, standard, fits_cell_part, RealView, Map, PartView, holders, new_part, with_proxy, loaded}
use Rattle.seam_node_steps.specs.Prelude.{look_loaded, NodeView, node_steps, node_has_work, empty_world, here, idle, no, two_cells}
use Rattle.seam_law_flow.specs.Prelude.{number_from}
use Rattle.seam_law_calls.specs.Prelude.{here_at, Has, has_of, entity_flow, events_of, real_in, home_of, RunsTo, real_at}
use Rattle.seam_law_rounds.specs.Prelude.{IsFitting, IsForReal, AreNumbered, calls_of, calls_at, framed, AreReapable, opening}
use Rattle.seam_law_rounds.specs.Prelude.{base_calls_of, base_calls_at, AreBaseNumbered, IsForPart, FitsParts, MayBeLoaded}
use Rattle.seam_law_ghosts.specs.Prelude.{GoesThroughRound, AreCopiesBetweenRounds}
use Rattle.seam_law_clients.specs.Prelude.{ClientsFit, clients_loaded, batch, steps, look_0, look_11, look_steps}
use Rattle.seam_net_runs.proofs.Runs.{leads_nowhere}
use Rattle.seam_call.specs.declared.order.Order.TheVariants as order
use Rattle.seam_law_calls.proofs.ExampleMet.{EachFrom, idle_each, each_node, slots, none_there, row_leads, frame_is}
use Rattle.seam_law_rounds.proofs.Loading.{set_keeps}
use Rattle.seam_law_rounds.proofs.ExampleOpening.{between, is_new, no_real, parts_between}
use Rattle.seam_law_rounds.proofs.ExampleRound.{next_is_one}
use Rattle.seam_law_rounds.proofs.BaseCallsEnd.{calls_end_small}
use Rattle.seam_law_ghosts.proofs.Ending.{opened_copied}
use Rattle.seam_rule_clients.specs.Clients.{new_client}
use Rattle.seam_law_clients.specs.Crossing.{the_move, only, and_third, watcher_1, watcher_2, walker, crossed, cell_0, cell_1, base_16}
use Rattle.seam_law_clients.specs.Crossing.{base_17, route, world_0, world_9}
use Rattle.seam_law_clients.proofs.Loading.{clients_fit_loaded}
use Rattle.seam_law_clients.proofs.CrossingLooks as looks
use Rattle.seam_law_clients.proofs.Room.{small_of}
use Rattle.seam_node_steps.proofs.Tables.{computing}
use Rattle.seam_law_clients.proofs.Crossing.{load, row, quiet}

-- ---- what the loaded world has

record IsYoung (r : RealView) : Type 0 where
  orders : r.orders ≡ table.empty
  type : r.ty ≡ 0

record Young (h : Has) : Type 0 where
  real : (r : RealView) → real_in h ≡ Some r → IsYoung r
  part : (p : PartView) → h.base.part ≡ Some p → p.orders ≡ table.empty

-- of maps of one or two entries
module _ {X : Type 0} (P : X → Type 0) where
  same_value : (v x : X) → Some v ≡ Some x → P v → P x
  same_value v x is holds = let one : v ≡ x = cc in subst P one holds

  one_kept : (m : Map X) (e : ℕ) (v : X) → ((q : ℕ) (x : X) → table.get m q ≡ Some x → P x) → P v → (q : ℕ) (x : X) →
      table.get (table.insert m e v) q ≡ Some x → P x
  one_kept m e v each holds = set_keeps (λ q x. P x) m e (Some v) each (λ x is. same_value v x is holds)

  of_one : (e : ℕ) (v : X) → P v → (q : ℕ) (x : X) → table.get (only e v) q ≡ Some x → P x
  of_one e v holds = one_kept no e v (λ q x at. absurd (none_there q x at)) holds

  of_two : (e : ℕ) (v third : X) → P v → P third → (q : ℕ) (x : X) → table.get (and_third e v third) q ≡ Some x → P x
  of_two e v third holds last = one_kept (only 3 third) e v (of_one 3 third last) holds

no_part : (p : PartView) → None ≡ Some p → p.orders ≡ table.empty
no_part p at = absurd (let z = at in cc)

none_real : (r : RealView) → None ≡ Some r → IsYoung r
none_real r at = absurd (let z = at in cc)

module _ (e : ℕ) where
  abbrev Y : ℕ → NodeView → Type 0
  Y k s = Young (has_of e s)

  idle_is : (k : ℕ) → Young (has_of e (idle two_cells k))
  idle_is k = record { real = λ r at. absurd (none_there e r at); part = no_part }

  first_cell : Young (has_of e (cell_0 (and_third 1 watcher_1 walker) no no (1 ∷ 3 ∷ [])))
  first_cell = record {
    real = of_two IsYoung 1 watcher_1 walker (record { orders = refl; type = refl }) (record { orders = refl; type = refl }) e;
    part = no_part;
  }

  second_cell : Young (has_of e (cell_1 (only 2 watcher_2) no (2 ∷ [])))
  second_cell = record {
    real = of_one IsYoung 2 watcher_2 (record { orders = refl; type = refl }) e;
    part = no_part;
  }

  first_base : Young (has_of e (base_16 (order.Cell the_move ∷ []) (route 0 0)))
  first_base = record {
    real = none_real;
    part = of_one (λ p. p.orders ≡ table.empty) 2 (with_proxy (here 16) (new_part (here 16) 0)) refl e;
  }

  second_base : Young (has_of e (base_17 (route 0 0)))
  second_base = record {
    real = none_real;
    part = of_two (λ p. p.orders ≡ table.empty) 1 (with_proxy (here 17) (new_part (here 17) 0)) (new_part (here 17) 0) refl refl e;
  }

  nodes_are : EachFrom Y 0 world_0.nodes
  unfolding world_0
  nodes_are = (
    first_cell,
    (
      second_cell,
      idle_each Y two_cells 2 14 (base_16 (order.Cell the_move ∷ []) (route 0 0) ∷ base_17 (route 0 0) ∷ []) (λ k low. idle_is k)
          (first_base, (second_base, tt)),
    ),
  )

  young : (k : ℕ) → Young ((entity_flow e world_0).slot k)
  young = slots (λ k h. Young h) e world_0 (each_node Y world_0.nodes nodes_are) (λ k. record { real = none_real; part = no_part })

  young_loaded : (k : ℕ) → Young ((entity_flow e (loaded empty_world batch)).slot k)
  young_loaded k = subst (λ w. Young ((entity_flow e w).slot k)) (sym load) (young k)

-- ---- the call is in turn

abbrev Numbers : ℕ → ℕ → Type 0
Numbers e s = AreNumbered opening batch e s 1

none_called : (e s : ℕ) (a : Bool) → eqb 3 e ≡ a → (a ≡ true → s ≡ 1 → ⊥) → calls_of batch e s ≡ []
none_called e s true is n = rw (is, ne_eqb 1 s (λ x. n refl (sym x))) refl
none_called e s false is n = rw is refl

none_called_at : (e s j : ℕ) (a b : Bool) → eqb 3 e ≡ a → eqb 16 j ≡ b → (a ≡ true → s ≡ 1 → ⊥) → calls_at batch e s j ≡ []
none_called_at e s j true true is at n = rw (at, is, ne_eqb 1 s (λ x. n refl (sym x))) refl
none_called_at e s j false true is at n = rw (at, is) refl
none_called_at e s j a false is at n = rw at refl

none_numbered : (e s : ℕ) → (eqb 3 e ≡ true → s ≡ 1 → ⊥) → Numbers e s
none_numbered e s n = record {
  node = 16;
  is_base = omega arith;
  in_net = omega arith;
  calls =
      none_called_at e s 16 (eqb 3 e) (eqb 16 16) refl refl n ∙ sym (ap (number_from 1) (none_called e s (eqb 3 e) refl n));
  others = λ j m. none_called_at e s j (eqb 3 e) (eqb 16 j) refl refl n;
  room = let none = ap length (none_called e s (eqb 3 e) refl n) in omega (arith, none);
}

one_numbered : Numbers 3 1
one_numbered = record {
  node = 16;
  is_base = omega arith;
  in_net = omega arith;
  calls = refl;
  others = λ j n. rw (ne_eqb 16 j (λ x. n (sym x))) refl;
  room = omega arith;
}

numbered : (e s : ℕ) → Numbers e s
numbered e s = elim (cases_eq 3 e) [
  | inl is ↦ elim (cases_eq 1 s) [
    | inl at ↦ subst (λ x. Numbers x s) is (subst (Numbers 3) at one_numbered)
    | inr n ↦ none_numbered e s (λ z at. n (sym at))
  ]
  | inr n ↦ none_numbered e s (λ z at. let other = ne_eqb 3 e n in absurd (let y = sym z ∙ other in cc))
]

for_real : (e k : ℕ) (r : RealView) → real_at e (loaded empty_world batch) k ≡ Some r → IsForReal opening batch e r
for_real e k r at =
    let young = (young_loaded e k).real r at in
    record {
      fit = (
        (λ is. let same : 3 ≡ e = is in
            subst (λ t. fits_cell_part (here_at opening 0) e t the_move ≡ true) (sym young.type)
            (subst (λ x. fits_cell_part (here_at opening 0) x 0 the_move ≡ true) same refl)),
        tt,
      );
      numbered = λ s. subst (AreNumbered opening batch e s) (sym (next_is_one r.orders s young.orders)) (numbered e s);
    }

no_base_call : (e s : ℕ) (a : Bool) → eqb 3 e ≡ a → base_calls_of batch e s ≡ []
no_base_call e s true is = rw is refl
no_base_call e s false is = rw is refl

no_base_call_at : (e s j : ℕ) (a b : Bool) → eqb 3 e ≡ a → eqb 16 j ≡ b → base_calls_at batch e s j ≡ []
no_base_call_at e s j true true is at = rw (at, is) refl
no_base_call_at e s j false true is at = rw (at, is) refl
no_base_call_at e s j a false is at = rw at refl

for_part : (e : ℕ) (p : PartView) → ((entity_flow e (loaded empty_world batch)).slot (home_of opening e)).base.part ≡ Some p →
    IsForPart opening batch e p
for_part e p at = record {
  fit = (tt, tt);
  numbered = λ s.
      subst (AreBaseNumbered opening batch e s) (sym (next_is_one p.orders s ((young_loaded e (home_of opening e)).part p at))) (record {
        node = 16;
        is_base = omega arith;
        in_net = omega arith;
        calls =
            no_base_call_at e s 16 (eqb 3 e) (eqb 16 16) refl refl ∙ sym (ap (number_from 1) (no_base_call e s (eqb 3 e) refl));
        others = λ j n. no_base_call_at e s j (eqb 3 e) (eqb 16 j) refl refl;
        room = let none = ap length (no_base_call e s (eqb 3 e) refl) in omega (arith, none);
      });
}

-- ---- the batch fits

holder_of : (e : ℕ) → holders world_0 e ≡ 1 → holders (loaded empty_world batch) e ≡ 1
holder_of e one = ap (λ w. holders w e) load ∙ one

holds_1 : holders world_0 1 ≡ 1
unfolding world_0
holds_1 = simp computing

holds_2 : holders world_0 2 ≡ 1
unfolding world_0
holds_2 = simp computing

holds_3 : holders world_0 3 ≡ 1
unfolding world_0
holds_3 = simp computing

fits : IsFitting opening empty_world batch
unfolding IsDistinct
fits = record {
  tree = frame_is.tree;
  space = refl;
  cells = omega arith;
  creates = (
    record { new = is_new 1; unshown = λ e k r at. absurd (no_real e k r at); type = omega arith; inside = refl },
    (
      record { new = is_new 2; unshown = λ e k r at. absurd (no_real e k r at); type = omega arith; inside = refl },
      (record { new = is_new 3; unshown = λ e k r at. absurd (no_real e k r at); type = omega arith; inside = refl }, tt),
    ),
  );
  once = ((refl, (refl, tt)), ((refl, tt), (tt, tt)));
  clients = (holder_of 1 holds_1, (holder_of 2 holds_2, tt));
  unseen = ((λ k r at. absurd (no_real 1 k r at)), ((λ k r at. absurd (no_real 2 k r at)), tt));
  one_each = ((refl, tt), (tt, tt));
  destroys = tt;
  ends_once = tt;
  spares = (refl, tt);
  unmoved = (refl, tt);
  known = (
    (λ e is. let same : 3 ≡ e = cc in subst (λ x. holders (loaded empty_world batch) x ≡ 1) same (holder_of 3 holds_3)),
    tt,
  );
  calls = for_real;
  few = omega arith;
  small = λ e k r at. absurd (no_real e k r at);
}

brings : FitsParts opening empty_world batch
brings = record {
  numbers = (omega arith, (omega arith, (omega arith, tt)));
  calls = for_part;
  small = λ e k r at. absurd (no_real e k r at);
}

pub may_be_loaded : MayBeLoaded opening empty_world batch
may_be_loaded = record { begin = record { between = between; fits = fits }; parts = parts_between; brings = brings }

pub no_copies : AreCopiesBetweenRounds opening empty_world
no_copies = opened_copied builtin standard between.frame (omega arith)

-- ---- so its clients, which show nothing yet, fit

pub no_clients : ClientsFit opening (λ e. new_client standard) empty_world
no_clients = record { each = λ e k r at v has. absurd (no_real e k r at) }

pub clients_fit : ClientsFit (framed opening batch) (clients_loaded opening batch (λ e. new_client standard)) (loaded empty_world batch)
clients_fit = clients_fit_loaded opening empty_world batch may_be_loaded (λ e. new_client standard) no_clients

-- ---- where the entities are

first_there : real_at 1 world_0 0 ≡ Some watcher_1
unfolding world_0
first_there = simp computing

second_there : real_at 2 world_0 1 ≡ Some watcher_2
unfolding world_0
second_there = simp computing

third_there : real_at 3 world_0 0 ≡ Some walker
unfolding world_0
third_there = simp computing

pub witnesses : (real_at 1 (loaded empty_world batch) 0 ≡ Some watcher_1) × (real_at 2 (loaded empty_world batch) 1 ≡ Some watcher_2)
witnesses = (
  ap (λ w. real_at 1 w 0) load ∙ first_there,
  ap (λ w. real_at 2 w 1) load ∙ second_there,
)

pub before : real_at 3 (loaded empty_world batch) 0 ≡ Some walker
before = ap (λ w. real_at 3 w 0) load ∙ third_there

pub after : real_at 3 world_9 1 ≡ Some crossed
unfolding world_9
after = simp computing

-- ---- the calls

pub calls_lead : RunsTo (loaded empty_world batch) (events_of steps) world_9
calls_lead =
    subst (λ w. RunsTo w (events_of steps) world_9) (sym load) (row_leads 3 1 world_0 steps row)

-- ---- the round

pub looks_lead : RunsTo (look_loaded world_9) (events_of look_steps) look_11
looks_lead =
    subst (λ w. RunsTo w (events_of look_steps) look_11) (sym looks.load)
    (row_leads 3 1 look_0 look_steps looks.row)

-- none is reaped
reapable : AreReapable world_9 []
unfolding IsDistinct
reapable = record {
  there = tt;
  once = tt;
  small = λ e k r at.
      let few =
      (calls_end_small opening empty_world batch may_be_loaded world_9 (events_of steps) calls_lead).reals e k r at in
      small_of (r.beat + 1) (omega (arith, few));
}

pub goes_round : GoesThroughRound empty_world batch look_11
goes_round = record {
  called = world_9;
  call_events = events_of steps;
  calls = calls_lead;
  calls_done = quiet;
  gone = [];
  may = reapable;
  reaped = world_9;
  reap_events = [];
  reaps = leads_nowhere node_has_work node_steps world_9;
  reaps_done = quiet;
  look_events = events_of look_steps;
  looks = looks_lead;
}

-- The next round of that world: a call to an entity that its client has in view.
use Rattle.seam_law_rounds.proofs.Prelude.{◌≡◌, ℕ, ◌≤◌, Bool, true, false, cond, eqb, [], ◌∷◌, length, Option, None, Some, refl, sym, ap}
use Rattle.seam_law_rounds.proofs.Prelude.{◌∙◌, subst, arith, inl, inr, option_map, slice_get, nat_cmp, eq_by_cmp, nat_cmp_total, cases_eq}
use Rattle.seam_law_rounds.proofs.Prelude.{ne_eqb, Call as CallData, Batch, RealView, fits_cell_part, Map, PartView, holders, new_part}
use Rattle.seam_law_rounds.proofs.Prelude.{part_begins, loaded, look_loaded, NodeView, Cell, no, here, cell, idle, space, both, batch_of}
use Rattle.seam_law_rounds.proofs.Prelude.{move_to, watcher, entered, part_of, second_0, second_4, base_line, line, own, enter_2}
use Rattle.seam_law_rounds.proofs.Prelude.{second_look_0, second_look_4, second_steps, second_looks, slot_at, number_from, here_at, Has}
use Rattle.seam_law_rounds.proofs.Prelude.{has_of, has_none, entity_flow, events_of, real_in, home_of, sent_by, RunsTo, real_at}
use Rattle.seam_law_rounds.proofs.Prelude.{IsBetweenRounds, IsFitting, IsForReal, AreNumbered, numbers_of, calls_of, calls_at, node_loaded}
use Rattle.seam_law_rounds.proofs.Prelude.{opening, base_calls_of, base_calls_at, AreBaseNumbered, IsForPart, FitsParts}
use Rattle.seam_law_rounds.proofs.Prelude.{HasPartsBetweenRounds, HasSmallNumbers, MayBeLoaded, computing, EachFrom, each_node, slots}
use Rattle.seam_law_rounds.proofs.Prelude.{none_there, row_leads}
use Rattle.std.specs.List.{IsDistinct}
use Rattle.std.specs.FinMap as table
use Rattle.seam_node_steps.specs.Prelude.{still}
use Rattle.seam_node_steps.specs.ViewRounds as view
use Rattle.seam_node_steps.specs.ViewRounds.{first_look_5}
use Rattle.seam_node_steps.proofs.Views as views
use Rattle.seam_law_rounds.proofs.Loaded.{slot_is, real_was}
use Rattle.seam_law_rounds.proofs.CallsEnd.{calls_end_between}
use Rattle.seam_law_rounds.proofs.Looking.{look_ends_between}
use Rattle.seam_law_rounds.proofs.PartLoads.{SamePart, part_at, part_stays}
use Rattle.seam_law_rounds.proofs.ExampleOpening.{one_is_tree}
use Rattle.seam_law_rounds.proofs.ExampleRound.{after_looks, next_is_one}
use Rattle.seam_law_rounds.proofs.BaseCallsEnd.{calls_end_with_parts, calls_end_small}
use Rattle.seam_law_rounds.proofs.Calms.{look_ends_with_parts}

abbrev the_move : CallData
the_move = move_to 1 1310

abbrev batch : Batch
batch = batch_of the_move

-- ---- what the world has

record IsYoung (r : RealView) : Type 0 where
  orders : r.orders ≡ table.empty
  type : r.ty ≡ 0
  numbers : numbers_of r ≡ 0
  told : sent_by r ≤ 2

record IsYoungPart (p : PartView) : Type 0 where
  orders : p.orders ≡ table.empty
  version : p.version ≡ 0

record Young (h : Has) : Type 0 where
  real : (r : RealView) → real_in h ≡ Some r → IsYoung r
  part : (p : PartView) → h.base.part ≡ Some p → IsYoungPart p

got : {X : Type 0} (a b : X) (e : ℕ) → table.get (both a b) e
    ≡ cond (eq_by_cmp nat_cmp e 1) (Some a) (cond (eq_by_cmp nat_cmp e 2) (Some b) None)
got {X = X} a b e =
    let none : Map X = table.empty in
    table.get-insert nat_cmp_total (table.insert none 2 b) 1 a e
    ∙ ap (cond (eq_by_cmp nat_cmp e 1) (Some a)) (table.get-insert nat_cmp_total none 2 b e
    ∙ ap (cond (eq_by_cmp nat_cmp e 2) (Some b)) (table.get-empty nat_cmp e))

watcher_is : IsYoung (watcher entered)
watcher_is = record { orders = refl; type = refl; numbers = refl; told = omega arith }

still_is : IsYoung still
still_is = record { orders = refl; type = refl; numbers = refl; told = omega arith }

either : (a b : Bool) (r : RealView) → cond a (Some (watcher entered)) (cond b (Some still) None) ≡ Some r → IsYoung r
either true b r at = let same : watcher entered ≡ r = cc in subst IsYoung same watcher_is
either false true r at = let same : still ≡ r = cc in subst IsYoung same still_is
either false false r at = cc

no_part : (p : PartView) → None ≡ Some p → IsYoungPart p
no_part p at = absurd (let z = at in cc)

no_real : (r : RealView) → None ≡ Some r → IsYoung r
no_real r at = absurd (let z = at in cc)

abbrev home : NodeView
home = Cell (cell space 0 (both (watcher entered) still) no no [] [])

abbrev shown_part : PartView
shown_part = part_of 3 (base_line ∷ line 2 own ∷ line 3 enter_2 ∷ []) 3

one_part : (a p : PartView) (b : Bool) → IsYoungPart a → cond b (Some a) None ≡ Some p → IsYoungPart p
one_part a p true young at = let same : a ≡ p = cc in subst IsYoungPart same young
one_part a p false young at = cc

part_at_two : (a p : PartView) (n e : ℕ) → IsYoungPart a → table.get (table.insert (table.empty {R = nat_cmp}) n a) e ≡ Some p →
    IsYoungPart p
part_at_two a p n e young at =
    let none : Map PartView = table.empty in
    one_part a p (eq_by_cmp nat_cmp e n) young
    (sym (table.get-insert nat_cmp_total none n a e ∙ ap (cond (eq_by_cmp nat_cmp e n) (Some a)) (table.get-empty nat_cmp e)) ∙ at)

module _ (e : ℕ) where
  abbrev Y : ℕ → NodeView → Type 0
  Y k s = Young (has_of e s)

  idle_is : (k : ℕ) → Young (has_of e (idle space k))
  idle_is k = record { real = λ r at. absurd (none_there e r at); part = no_part }

  home_is : Young (has_of e home)
  home_is = record {
    real = λ r at. either (eq_by_cmp nat_cmp e 1) (eq_by_cmp nat_cmp e 2) r (sym (got (watcher entered) still e) ∙ at);
    part = no_part;
  }

  first_is : Young (has_of e (view.base_16 []))
  first_is = record {
    real = no_real;
    part = λ p at. part_at_two (new_part (here 16) 0) p 2 e (record { orders = refl; version = refl }) at;
  }

  second_is : Young (has_of e (view.base_17 shown_part))
  second_is = record {
    real = no_real;
    part = λ p at. part_at_two shown_part p 1 e (record { orders = refl; version = refl }) at;
  }

  nodes_are : EachFrom Y 0 first_look_5.nodes
  unfolding first_look_5
  nodes_are = (
    home_is,
    (
      idle_is 1,
      (
        idle_is 2,
        (
          idle_is 3,
          (
            idle_is 4,
            (
              idle_is 5,
              (
                idle_is 6,
                (
                  idle_is 7,
                  (
                    idle_is 8,
                    (
                      idle_is 9,
                      (
                        idle_is 10,
                        (
                          idle_is 11,
                          (
                            idle_is 12,
                            (
                              idle_is 13,
                              (
                                idle_is 14,
                                (
                                  idle_is 15,
                                  (first_is, (second_is, tt)),
                                ),
                              ),
                            ),
                          ),
                        ),
                      ),
                    ),
                  ),
                ),
              ),
            ),
          ),
        ),
      ),
    ),
  )

  young : (k : ℕ) → Young ((entity_flow e first_look_5).slot k)
  young =
      slots (λ k h. Young h) e first_look_5 (each_node Y first_look_5.nodes nodes_are) (λ k. record { real = no_real; part = no_part })

-- ---- what is loaded

real_loaded : (e k : ℕ) (r : RealView) → real_at e (loaded first_look_5 batch) k ≡ Some r → (r.orders ≡ table.empty) × (r.ty ≡ 0)
real_loaded e k r at =
    let q = real_was first_look_5 batch e (refl, tt) tt k r at in
    let y = (young e k).real q.0 q.2 in
    (ap (λ (x : RealView). x.orders) (sym q.3) ∙ y.orders, ap (λ (x : RealView). x.ty) (sym q.3) ∙ y.type)

part_from_same : (o : Option PartView) (p : PartView) → ((q : PartView) → o ≡ Some q → q.orders ≡ table.empty) →
    SamePart (option_map part_begins o) (Some p) → p.orders ≡ table.empty
part_from_same None p young k = absurd (let z = k in cc)
part_from_same (Some q) p young k =
    let same : p ≡ record (part_begins q) { proxy = k.0 } = let z = k.1 in cc in
    ap (λ (x : PartView). x.orders) same ∙ young q refl

part_loaded : (e k : ℕ) (p : PartView) → ((entity_flow e (loaded first_look_5 batch)).slot k).base.part ≡ Some p → p.orders ≡ table.empty
part_loaded e k p at = by (slice_get first_look_5.nodes k) refl
  where
    by : (o : Option NodeView) → slice_get first_look_5.nodes k ≡ o → p.orders ≡ table.empty
    by None is =
        absurd (let z = sym (ap (λ h. h.base.part) (slot_is first_look_5 batch e k
        ∙ ap (λ o. slot_at (has_of e) has_none (option_map (node_loaded batch) o)) is)) ∙ at in cc)
    by (Some s) is =
        let there : part_at e (node_loaded batch s) ≡ Some p =
        sym (ap (λ h. h.base.part) (slot_is first_look_5 batch e k
        ∙ ap (λ o. slot_at (has_of e) has_none (option_map (node_loaded batch) o)) is)) ∙ at in
        part_from_same (part_at e s) p
        (λ q was. ((young e k).part q (ap (λ o. (slot_at (has_of e) has_none o).base.part) is ∙ was)).orders)
        (subst (SamePart (option_map part_begins (part_at e s))) there (part_stays e batch tt s))

-- ---- the call is in turn

abbrev Numbers : ℕ → ℕ → Type 0
Numbers e s = AreNumbered opening batch e s 1

none_called : (e s : ℕ) (a : Bool) → eqb 2 e ≡ a → (a ≡ true → s ≡ 1 → ⊥) → calls_of batch e s ≡ []
none_called e s true is n = rw (is, ne_eqb 1 s (λ x. n refl (sym x))) refl
none_called e s false is n = rw is refl

none_there_at : (e s j : ℕ) (a b : Bool) → eqb 2 e ≡ a → eqb 16 j ≡ b → (a ≡ true → s ≡ 1 → ⊥) → calls_at batch e s j ≡ []
none_there_at e s j true true is at n = rw (at, is, ne_eqb 1 s (λ x. n refl (sym x))) refl
none_there_at e s j false true is at n = rw (at, is) refl
none_there_at e s j a false is at n = rw at refl

none_numbered : (e s : ℕ) → (eqb 2 e ≡ true → s ≡ 1 → ⊥) → Numbers e s
none_numbered e s n = record {
  node = 16;
  is_base = omega arith;
  in_net = omega arith;
  calls =
      none_there_at e s 16 (eqb 2 e) (eqb 16 16) refl refl n ∙ sym (ap (number_from 1) (none_called e s (eqb 2 e) refl n));
  others = λ j m. none_there_at e s j (eqb 2 e) (eqb 16 j) refl refl n;
  room = let none = ap length (none_called e s (eqb 2 e) refl n) in omega (arith, none);
}

one_numbered : Numbers 2 1
one_numbered = record {
  node = 16;
  is_base = omega arith;
  in_net = omega arith;
  calls = refl;
  others = λ j n. rw (ne_eqb 16 j (λ x. n (sym x))) refl;
  room = omega arith;
}

numbered : (e s : ℕ) → Numbers e s
numbered e s = elim (cases_eq 2 e) [
  | inl is ↦ elim (cases_eq 1 s) [
    | inl at ↦ subst (λ x. Numbers x s) is (subst (Numbers 2) at one_numbered)
    | inr n ↦ none_numbered e s (λ z at. n (sym at))
  ]
  | inr n ↦ none_numbered e s (λ z at. let no_two = ne_eqb 2 e n in absurd (let y = sym z ∙ no_two in cc))
]

for_real : (e k : ℕ) (r : RealView) → real_at e (loaded first_look_5 batch) k ≡ Some r → IsForReal opening batch e r
for_real e k r at =
    let young = real_loaded e k r at in
    record {
      fit = (
        (λ is. let same : 2 ≡ e = is in
            subst (λ t. fits_cell_part (here_at opening 0) e t the_move ≡ true) (sym young.1)
            (subst (λ x. fits_cell_part (here_at opening 0) x 0 the_move ≡ true) same refl)),
        tt,
      );
      numbered = λ s. subst (AreNumbered opening batch e s) (sym (next_is_one r.orders s young.0)) (numbered e s);
    }

no_base_call : (e s : ℕ) (a : Bool) → eqb 2 e ≡ a → base_calls_of batch e s ≡ []
no_base_call e s true is = rw is refl
no_base_call e s false is = rw is refl

no_base_call_at : (e s j : ℕ) (a b : Bool) → eqb 2 e ≡ a → eqb 16 j ≡ b → base_calls_at batch e s j ≡ []
no_base_call_at e s j true true is at = rw (at, is) refl
no_base_call_at e s j false true is at = rw (at, is) refl
no_base_call_at e s j a false is at = rw at refl

for_part : (e : ℕ) (p : PartView) → ((entity_flow e (loaded first_look_5 batch)).slot (home_of opening e)).base.part ≡ Some p →
    IsForPart opening batch e p
for_part e p at = record {
  fit = (tt, tt);
  numbered = λ s.
      subst (AreBaseNumbered opening batch e s) (sym (next_is_one p.orders s (part_loaded e (home_of opening e) p at))) (record {
        node = 16;
        is_base = omega arith;
        in_net = omega arith;
        calls =
            no_base_call_at e s 16 (eqb 2 e) (eqb 16 16) refl refl ∙ sym (ap (number_from 1) (no_base_call e s (eqb 2 e) refl));
        others = λ j n. no_base_call_at e s j (eqb 2 e) (eqb 16 j) refl refl;
        room = let none = ap length (no_base_call e s (eqb 2 e) refl) in omega (arith, none);
      });
}

-- ---- the batch fits

holder_is : holders (loaded first_look_5 batch) 2 ≡ 1
unfolding first_look_5
holder_is = simp computing

fits : IsFitting opening first_look_5 batch
unfolding IsDistinct
fits = record {
  tree = one_is_tree;
  space = refl;
  cells = omega arith;
  creates = tt;
  once = tt;
  clients = tt;
  unseen = tt;
  one_each = tt;
  destroys = tt;
  ends_once = tt;
  spares = (refl, tt);
  unmoved = (refl, tt);
  known = ((λ e is. let same : 2 ≡ e = cc in subst (λ x. holders (loaded first_look_5 batch) x ≡ 1) same holder_is), tt);
  calls = for_real;
  few = omega arith;
  small = λ e k r at. let none = ((young e k).real r at).numbers in omega (arith, none);
}

brings : FitsParts opening first_look_5 batch
brings = record {
  numbers = tt;
  calls = for_part;
  small = λ e k r at p there.
      let few = ((young e k).real r at).told in
      let none = ((young e (home_of opening e)).part p there).version in
      omega (arith, few, none);
}

pub next_may_be_loaded : MayBeLoaded opening first_look_5 batch
next_may_be_loaded = record { begin = record { between = after_looks.0; fits = fits }; parts = after_looks.1; brings = brings }

-- ---- the events of its calls, and of its looks

pub next_leads : RunsTo (loaded first_look_5 batch) (events_of second_steps) second_4
next_leads =
    subst (λ w. RunsTo w (events_of second_steps) second_4) (sym views.second_load)
    (row_leads 2 1 second_0 second_steps views.second_row)

pub next_looks_lead : RunsTo (look_loaded second_4) (events_of second_looks) second_look_4
next_looks_lead =
    subst (λ w. RunsTo w (events_of second_looks) second_look_4) (sym views.second_look_load)
    (row_leads 2 1 second_look_0 second_looks views.second_look_row)

calls_between : IsBetweenRounds opening second_4
calls_between =
    calls_end_between opening first_look_5 batch (record { between = after_looks.0; fits = fits }) second_4 (events_of second_steps)
    next_leads views.second_quiet

calls_parts : HasPartsBetweenRounds opening second_4
calls_parts =
    calls_end_with_parts opening first_look_5 batch next_may_be_loaded second_4 (events_of second_steps) next_leads views.second_quiet

calls_small : HasSmallNumbers opening second_4
calls_small = calls_end_small opening first_look_5 batch next_may_be_loaded second_4 (events_of second_steps) next_leads

pub after_next : IsBetweenRounds opening second_look_4 × HasPartsBetweenRounds opening second_look_4
after_next = (
  look_ends_between opening second_4 calls_between (events_of second_looks) second_look_4 next_looks_lead views.second_look_quiet,
  look_ends_with_parts opening second_4 calls_between calls_parts calls_small (events_of second_looks) second_look_4 next_looks_lead
      views.second_look_quiet,
)

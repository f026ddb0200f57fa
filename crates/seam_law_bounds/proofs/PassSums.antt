-- The calls that are passed on, order by order.
use Rattle.seam_law_bounds.proofs.Prelude.{◌≡◌, ℕ, ◌+◌, ◌*◌, ◌≤◌, ◌⊎◌, Bool, true, false, cond, eqb, List, [], ◌∷◌, Option, None, Some}
use Rattle.seam_law_bounds.proofs.Prelude.{refl, ap, ◌∙◌, arith, inl, inr, slice_get, AllByRecursion, eq-eqb, link, input_from, happens}
use Rattle.seam_law_bounds.proofs.Prelude.{AllEnabled, total, Event, Input, From, Call as CallData, Order, rank_of, Msg, CellView, slot_of}
use Rattle.seam_law_bounds.proofs.Prelude.{NodeView, World, node_steps, node_has_work, Cell, Base, slot_at, has_of, has_none, entity_flow}
use Rattle.seam_law_bounds.proofs.Prelude.{RunsTo, brings_call, was_left, passes_on, passes, is_left, passes_by, is_pass, all_passes}
use Rattle.seam_law_bounds.proofs.Prelude.{one_if_cell, leads_nowhere, leads_by_one, leads_join, all_two}
use Rattle.seam_call.specs.declared.order.Order.TheVariants as order
use Rattle.seam_entity.specs.declared.message.Msg.TheVariants.{Call}
use Rattle.seam_law_bounds.proofs.Cans.{fed_by}

-- the call is one of those that are ordered
abbrev pub IsIn : List (ℕ × Order) → CallData → Type 0
IsIn [] c = ⊥
IsIn (o ∷ os) c = (o.1 ≡ order.Cell c) ⊎ IsIn os c

-- 1 where the event passes on the call that the order is
abbrev pub passed_now : World → Event → Order → ℕ
passed_now v x (order.Cell c) = cond {A = ℕ} (passes_on c.entity (rank_of c.sender) c.number v x) 1 0
passed_now v x _ = 0

-- how often the events do
abbrev pub passed_in : World → List Event → Order → ℕ
passed_in w es (order.Cell c) = passes c.entity (rank_of c.sender) c.number w es
passed_in w es _ = 0

-- ---- sums

total_two : {X : Type 0} (h f g : X → ℕ) (xs : List X) → ((x : X) → f x + g x ≤ h x) → total f xs + total g xs ≤ total h xs
total_two h f g [] each = omega arith
total_two h f g (x ∷ xs) each =
    let here = each x in
    let rest = total_two h f g xs each in
    omega (arith, here, rest)

-- where each order's number is at most m for a call to a cell part, and else none, all are at most m for each such call
pub cells_bound : (h : Order → ℕ) (m : ℕ) (os : List (ℕ × Order)) → AllByRecursion (λ o. h o.1 ≤ one_if_cell o.1 * m) os →
    total (λ o. h o.1) os ≤ total (λ o. one_if_cell o.1) os * m
cells_bound h m [] each = omega arith
cells_bound h m (o ∷ os) each =
    let rest = cells_bound h m os each.1 in
    step (h o.1) (total (λ o. h o.1) os) (one_if_cell o.1) (total (λ o. one_if_cell o.1) os) each.0 rest
  where
    step : (x y a b : ℕ) → x ≤ a * m → y ≤ b * m → x + y ≤ (a + b) * m
    step x y a b here rest = let sum = parts a b in omega (arith, here, rest, sum)
      where
        parts : (a b : ℕ) → (a + b) * m ≡ a * m + b * m
        parts a b = grind arith

-- ---- an event

module _ (v : World) (x : Event) where
  in_counts : (os : List (ℕ × Order)) (c : CallData) → IsIn os c → passes_on c.entity (rank_of c.sender) c.number v x ≡ true →
      1 ≤ total (λ o. passed_now v x o.1) os
  in_counts [] c h on = absurd h
  in_counts (o ∷ os) c (inl is) on =
      let a = ap (passed_now v x) is in
      let b = ap (λ d. cond {A = ℕ} d 1 0) on in
      omega (arith, a, b)
  in_counts (o ∷ os) c (inr h) on = let rest = in_counts os c h on in omega (arith, rest)

  module _ (os : List (ℕ × Order)) (calls : (a : ℕ) (c : CallData) (ms : List Msg) → link v.rows a x.node ≡ Call c ∷ ms → IsIn os c) where
    abbrev Counts : Type 0
    Counts = 1 ≤ total (λ o. passed_now v x o.1) os

    found_in : (from : Option ℕ) (a : ℕ) (c : CallData) → input_from v.rows x.node from ≡ Some (From a (Call c)) → IsIn os c
    found_in None a c fed = cc
    found_in (Some b) a c fed = let first = fed_by b (link v.rows b x.node) a (Call c) fed in calls b c first.0 first.1

    call_counts : (n : CellView) (a : ℕ) (c : CallData) → slice_get v.nodes x.node ≡ Some (Cell n) →
        input_from v.rows x.node x.from ≡ Some (From a (Call c)) → is_left (slot_of n c.entity) ≡ true → Counts
    call_counts n a c node fed is =
        let own =
        all_two (eqb c.entity c.entity) _ (eq-eqb c.entity c.entity refl)
        (all_two (eqb (rank_of c.sender) (rank_of c.sender)) (eqb c.number c.number)
        (eq-eqb (rank_of c.sender) (rank_of c.sender) refl) (eq-eqb c.number c.number refl)) in
        let brings = ap (brings_call c.entity (rank_of c.sender) c.number) fed ∙ own in
        let went = ap (λ o. was_left (slot_at (has_of c.entity) has_none o)) node ∙ is in
        in_counts os c (found_in x.from a c fed)
        (all_two (brings_call c.entity (rank_of c.sender) c.number (input_from v.rows x.node x.from))
        (was_left ((entity_flow c.entity v).slot x.node)) brings went)

    by_message : (n : CellView) (a : ℕ) (m : Msg) → slice_get v.nodes x.node ≡ Some (Cell n) →
        input_from v.rows x.node x.from ≡ Some (From a m) → passes_by (Some (Cell n)) (Some (From a m)) ≡ true → Counts
    by_message n a (Call c) node fed is = call_counts n a c node fed is
    by_message n a _ node fed is = cc

    by_input : (o : Option NodeView) (i : Option (Input Msg)) → slice_get v.nodes x.node ≡ o → input_from v.rows x.node x.from ≡ i →
        passes_by o i ≡ true → Counts
    by_input (Some (Cell n)) (Some (From a m)) node fed is = by_message n a m node fed is
    by_input (Some (Base b)) (Some i) node fed is = cc
    by_input _ _ node fed is = cc

    counts_by : (b : Bool) → is_pass v x ≡ b → cond {A = ℕ} b 1 0 ≤ total (λ o. passed_now v x o.1) os
    counts_by false is = omega arith
    counts_by true is = by_input (slice_get v.nodes x.node) (input_from v.rows x.node x.from) refl refl is

    event_counts : cond {A = ℕ} (is_pass v x) 1 0 ≤ total (λ o. passed_now v x o.1) os
    event_counts = counts_by (is_pass v x) refl

-- ---- a run

one_more : (w : World) (x : Event) (es : List Event) (o : Order) →
    passed_now w x o + passed_in (happens node_steps w x) es o ≤ passed_in w (x ∷ es) o
one_more w x es (order.Cell c) = omega arith
one_more w x es _ = omega arith

pub passes_are_ordered : (os : List (ℕ × Order)) (w : World) →
    ((v : World) (ds : List Event) → RunsTo w ds v → (a k : ℕ) (c : CallData) (ms : List Msg) → link v.rows a k ≡ Call c ∷ ms → IsIn os c) →
    (es : List Event) → AllEnabled node_has_work node_steps w es → all_passes w es ≤ total (λ o. passed_in w es o.1) os
passes_are_ordered os w calls [] on = omega arith
passes_are_ordered os w calls (x ∷ es) on =
    let here = event_counts w x os (λ a c ms at. calls w [] (leads_nowhere node_has_work node_steps w) a x.node c ms at) in
    let next = happens node_steps w x in
    let one = leads_by_one node_has_work node_steps w x on.0 in
    let rest =
    passes_are_ordered os next
    (λ v ds run a k c ms at. calls v (x ∷ ds) (leads_join node_has_work node_steps w next v (x ∷ []) ds one run) a k c ms at) es on.1 in
    let both =
    total_two (λ o. passed_in w (x ∷ es) o.1) (λ o. passed_now w x o.1) (λ o. passed_in next es o.1) os (λ o. one_more w x es o.1) in
    omega (arith, here, rest, both)

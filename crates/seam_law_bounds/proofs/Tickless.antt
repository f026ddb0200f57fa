-- A round without ticks ends.
use Rattle.seam_law_bounds.proofs.Prelude.{◌≡◌, ℕ, ◌+◌, ◌*◌, ◌≤◌, false, List, [], ◌∷◌, length, refl, arith, AllByRecursion, EachNode}
use Rattle.seam_law_bounds.proofs.Prelude.{total, Event, Order, Batch, World, Frame, is_tick_order, HasNoLooks, RunsTo, MayBeLoaded, Sizes}
use Rattle.seam_law_bounds.proofs.Prelude.{order_weight, AllCan, HoldsNothing, entities, one_if_tick, cell_orders, base_orders, tick_orders}
use Rattle.seam_law_bounds.proofs.Prelude.{events_of_round, looks_lead}
use Rattle.seam_call.specs.declared.order.Order.TheVariants as order
use Rattle.seam_law_bounds.proofs.Cans.{can_by}
use Rattle.seam_law_bounds.proofs.Counts.{none_times}
use Rattle.seam_law_bounds.proofs.RoundPhase.{g, start, plain_with, frame_start, empty_start, sole_start, frame_then, base_then, cell_then}
use Rattle.seam_law_bounds.proofs.RoundPhase.{round_long}
use Rattle.seam_law_bounds.proofs.Starts.{IsPlain, looks_start, told_start}

tick_by : (o : Order) → is_tick_order o ≡ false → one_if_tick o ≡ 0
tick_by order.Tick h = cc
tick_by _ h = refl

ticks_none : (os : List (ℕ × Order)) → AllByRecursion (λ o. is_tick_order o.1 ≡ false) os → total (λ o. one_if_tick o.1) os ≡ 0
ticks_none [] h = refl
ticks_none (o ∷ os) h = let here = tick_by o.1 h.0 in let rest = ticks_none os h.1 in omega (arith, here, rest)

-- the sum of the weights, without ticks, and of the calls that are passed on
the_sum : (b c d k e w : ℕ) → e * (1 + (17 + b)) + (c * (3 + (17 + b)) + 3 * d) + c * (1 + c) ≤ events_of_round b c d k e w
the_sum b c d k e w = let same = plain b c d e in omega (arith, same)
  where
    plain : (b c d e : ℕ) →
        e * (1 + (17 + b)) + (c * (3 + (17 + b)) + 3 * d) + c * (1 + c) ≡ c * (c + 4) + (3 * d + (e + (e + c) * (17 + b)))
    plain b c d e = grind arith

module _ (f : Frame) (w : World) (b : Batch) (may : MayBeLoaded f w b) (none : HoldsNothing w)
    (no_ticks : AllByRecursion (λ o. is_tick_order o.1 ≡ false) b.orders) where
  abbrev s0 : World
  s0 = start f w b may none

  abbrev h : Frame
  h = g f w b may none

  abbrev NoTick : Order → Type 0
  NoTick o = is_tick_order o ≡ false

  plain : EachNode (λ k s. IsPlain NoTick s) s0.nodes
  plain = plain_with f w b may none NoTick no_ticks

  looks_then : (v : World) (es : List Event) → RunsTo s0 es v → (e : ℕ) → HasNoLooks e v
  looks_then v es run e =
      let frame = frame_start f w b may none in
      let empty = empty_start f w b may none in
      let sole = sole_start f w b may none e in
      let t = told_start h e s0 frame empty NoTick plain (λ o is. is) sole in
      (looks_lead h e t.0 s0 v es
      (record { frame = frame; looks = looks_start h e s0 frame empty NoTick plain (λ o is. is) sole; told = t.1 }) run).looks

  can : (z : Sizes) → f.settings.bases ≤ z.bases → AllCan z s0
  can z enough v es run x o =
      can_by z h v enough (frame_then f w b may none v es run) (looks_then v es run) (cell_then f w b may none v es run)
      (base_then f w b may none v es run) x.node x.from o.node o.input o.is_node o.is_fed

  pub tickless_ends : (v : World) (es : List Event) → RunsTo s0 es v → (n : ℕ) →
      length es ≤ events_of_round f.settings.bases (cell_orders b) (base_orders b) (tick_orders b) (entities s0) n
  tickless_ends v es run n =
      let z : Sizes = record { bases = f.settings.bases; lines = 0; witnesses = λ k. 0 } in
      let long = round_long f w b may none v es run z (can z (omega arith)) in
      let quiet = none_times (tick_orders b) (order_weight z order.Tick) (ticks_none b.orders no_ticks) in
      let sum = the_sum f.settings.bases (cell_orders b) (base_orders b) (tick_orders b) (entities s0) n in
      omega (arith, long, quiet, sum)

-- A round ends, with its ticks.
use Rattle.seam_law_bounds.proofs.Prelude.{◌≡◌, ℕ, zero, suc, ◌+◌, ◌*◌, ◌≤◌, List, length, refl, ap, arith, range_with_len, total, Event}
use Rattle.seam_law_bounds.proofs.Prelude.{Batch, cell_count, World, loaded, Frame, RunsTo, MayBeLoaded, Sizes, look_weight, tick_weight}
use Rattle.seam_law_bounds.proofs.Prelude.{order_weight, AllCan, LooksFit, Always, HoldsNothing, entities, cell_orders, base_orders}
use Rattle.seam_law_bounds.proofs.Prelude.{tick_orders, events_of_round}
use Rattle.seam_call.specs.declared.order.Order.TheVariants as order
use Rattle.seam_law_bounds.proofs.Cans.{can_look}
use Rattle.seam_law_bounds.proofs.RoundPhase.{g, start, frame_then, base_then, cell_then, round_long}

-- what is fixed in a round in which no cell has more than n witnesses: a look is about the entities that are there
abbrev pub sizes_of_round : Frame → World → Batch → ℕ → Sizes
sizes_of_round f w b n = record { bases = f.settings.bases; lines = entities (loaded w b); witnesses = λ k. n }

-- what a tick order weighs where each cell has as many witnesses
ticks_flat : (z : Sizes) (n from len : ℕ) → ((k : ℕ) → z.witnesses k ≡ n) →
    total (tick_weight z) (range_with_len from len) ≡ len * (1 + n * look_weight z)
ticks_flat z n from zero h = let none = nothing (1 + n * look_weight z) in omega (arith, none)
  where
    nothing : (c : ℕ) → 0 * c ≡ 0
    nothing c = omega arith
ticks_flat z n from (suc len) h =
    let one = ap (λ m. 1 + m * look_weight z) (h from) in
    let two = ticks_flat z n (from + 1) len h in
    step (tick_weight z from) (total (tick_weight z) (range_with_len (from + 1) len)) (1 + n * look_weight z) len one two
  where
    step : (t r c m : ℕ) → t ≡ c → r ≡ m * c → t + r ≡ suc m * c
    step t r c m one two = grind (arith, one, two)

tick_is : (z : Sizes) (n : ℕ) → ((k : ℕ) → z.witnesses k ≡ n) → order_weight z order.Tick ≡ 1 + 16 * (1 + n * look_weight z)
tick_is z n h = let one = ticks_flat z n 0 cell_count h in omega (arith, one)

-- the weights and the calls that are passed on are the table
the_table : (b c d k e w tick : ℕ) → tick ≡ 1 + 16 * (1 + w * (3 + 2 * e)) →
    e * (1 + (17 + b)) + (c * (3 + (17 + b)) + (3 * d + k * tick)) + c * (1 + c) ≡ events_of_round b c d k e w
the_table b c d k e w tick h = let at = ap (λ t. k * t) h in grind (arith, at)

module _ (f : Frame) (w : World) (b : Batch) (may : MayBeLoaded f w b) (none : HoldsNothing w) (n : ℕ)
    (few : Always (LooksFit (sizes_of_round f w b n)) (start f w b may none)) where
  abbrev s0 : World
  s0 = start f w b may none

  abbrev z : Sizes
  z = sizes_of_round f w b n

  can : AllCan z s0
  can v es run x o =
      can_look z (g f w b may none) v (omega arith) (frame_then f w b may none v es run) (few v es run)
      (cell_then f w b may none v es run) (base_then f w b may none v es run) x.node o.node o.input o.is_node

  pub round_ends : (v : World) (es : List Event) → RunsTo s0 es v →
      length es ≤ events_of_round f.settings.bases (cell_orders b) (base_orders b) (tick_orders b) (entities s0) n
  round_ends v es run =
      let long = round_long f w b may none v es run z can in
      let sum =
      the_table f.settings.bases (cell_orders b) (base_orders b) (tick_orders b) (entities s0) n (order_weight z order.Tick)
      (tick_is z n (λ k. refl)) in
      omega (arith, long, sum)

-- In each phase each call on a link finds its way, whatever entity it is for.
use Rattle.seam_law_rounds.proofs.Prelude.{◌≡◌, ℕ, ◌⊎◌, Bool, true, false, List, inl, inr, AllByRecursion, Event, Batch, RealView, Msg}
use Rattle.seam_law_rounds.proofs.Prelude.{GhostDrop, Tick, Reap, Update, World, loaded, reaps_loaded, look_loaded, Frame, entity_flow}
use Rattle.seam_law_rounds.proofs.Prelude.{IsTickTo, CallsFindTheirWay, follow, is_call, is_visited, RunsTo, IsBetweenRounds, AreReapable}
use Rattle.seam_law_rounds.proofs.Prelude.{MayBegin, refl, all_weaker, none_follow, each_finds, unknown_leads}
use Rattle.seam_law_rounds.proofs.Shape.{Somewhere, Nowhere, search_real}
use Rattle.seam_law_rounds.proofs.Calm.{IsCalmTo, IsCalm}
use Rattle.seam_law_rounds.proofs.Phases.{calm_leads}
use Rattle.seam_law_rounds.proofs.Going.{lead_after}
use Rattle.seam_law_rounds.proofs.Reaping as reaping
use Rattle.seam_law_rounds.proofs.Looking as looking
use Rattle.seam_law_rounds.proofs.Unknown.{nobody, unknown_in_round, unknown_reaps, unknown_look}

-- ---- where no call comes

tick_is_none : (k : ℕ) (m : Msg) → IsTickTo k m → is_call m ≡ false
tick_is_none k Tick h = refl
tick_is_none k _ h = absurd h

calm_is_none : (told : Bool) (home : ℕ) (r : RealView) (k : ℕ) (m : Msg) → IsCalmTo told home r k m → is_call m ≡ false
calm_is_none told home r k (GhostDrop e n) h = refl
calm_is_none told home r k Tick h = refl
calm_is_none told home r k (Reap e) h = refl
calm_is_none told home r k (Update u) h = refl
calm_is_none told home r k _ h = absurd h

ticks_follow : (visited : Bool) (k : ℕ) (ms : List Msg) → AllByRecursion (IsTickTo k) ms → follow visited ms ≡ true
ticks_follow visited k ms h = none_follow visited ms (all_weaker (IsTickTo k) (λ m. is_call m ≡ false) ms (tick_is_none k) h)

calm_follow : (visited : Bool) (told : Bool) (home : ℕ) (r : RealView) (k : ℕ) (ms : List Msg) →
    AllByRecursion (IsCalmTo told home r k) ms → follow visited ms ≡ true
calm_follow visited told home r k ms h =
    none_follow visited ms (all_weaker (IsCalmTo told home r k) (λ m. is_call m ≡ false) ms (calm_is_none told home r k) h)

abbrev Follow : World → ℕ → ℕ → ℕ → Type 0
Follow v e a k = follow (is_visited ((entity_flow e v).slot k)) ((entity_flow e v).mail a k) ≡ true

-- ---- a round

module _ (f : Frame) (w : World) (b : Batch) (begin : MayBegin f w b) (v : World) (es : List Event) (run : RunsTo (loaded w b) es v) where
  round_by : (e a k : ℕ) → Somewhere e (loaded w b) ⊎ Nowhere e (loaded w b) → Follow v e a k
  round_by e a k (inl p) = (lead_after f w b begin e p.0 p.1 p.2 v es run).calls a k
  round_by e a k (inr n) =
      let u = unknown_in_round f w b begin e (nobody f w b begin e n) v es run in
      ticks_follow (is_visited ((entity_flow e v).slot k)) k ((entity_flow e v).mail a k) (u.letters a k)

  pub round_ways : CallsFindTheirWay v
  round_ways = each_finds v (λ e a k. round_by e a k (search_real e (loaded w b)))

-- ---- the other phases

module _ (f : Frame) (u : World) (between : IsBetweenRounds f u) (es : List ℕ) (may : AreReapable u es) (vs : List Event) (v : World)
    (run : RunsTo (reaps_loaded u es) vs v) where
  reaps_by : (e a k : ℕ) → Somewhere e u ⊎ Nowhere e u → Follow v e a k
  reaps_by e a k (inl p) =
      let told = reaping.is_told e es in
      let calm : IsCalm f e p.0 p.1 u told v =
      calm_leads f between.frame u between e p.0 p.1 p.2 told (reaping.small f u between es may e p.0 p.1 p.2) (reaps_loaded u es) v vs
      (reaping.calm f u between es may e p.0 p.1 p.2) run in
      calm_follow (is_visited ((entity_flow e v).slot k)) told p.0 p.1 k ((entity_flow e v).mail a k) (calm.mail a k)
  reaps_by e a k (inr n) =
      let x = unknown_leads f e (reaps_loaded u es) v vs (unknown_reaps f u between es may e n) run in
      ticks_follow (is_visited ((entity_flow e v).slot k)) k ((entity_flow e v).mail a k) (x.letters a k)

  pub reaps_ways : CallsFindTheirWay v
  reaps_ways = each_finds v (λ e a k. reaps_by e a k (search_real e u))

module _ (f : Frame) (u : World) (between : IsBetweenRounds f u) (vs : List Event) (v : World) (run : RunsTo (look_loaded u) vs v) where
  looks_by : (e a k : ℕ) → Somewhere e u ⊎ Nowhere e u → Follow v e a k
  looks_by e a k (inl p) =
      let calm : IsCalm f e p.0 p.1 u false v =
      calm_leads f between.frame u between e p.0 p.1 p.2 false (looking.small f u between p.1) (look_loaded u) v vs
      (looking.calm f u between e p.0 p.1 p.2) run in
      calm_follow (is_visited ((entity_flow e v).slot k)) false p.0 p.1 k ((entity_flow e v).mail a k) (calm.mail a k)
  looks_by e a k (inr n) =
      let x = unknown_leads f e (look_loaded u) v vs (unknown_look f u between e n) run in
      ticks_follow (is_visited ((entity_flow e v).slot k)) k ((entity_flow e v).mail a k) (x.letters a k)

  pub looks_ways : CallsFindTheirWay v
  looks_ways = each_finds v (λ e a k. looks_by e a k (search_real e u))

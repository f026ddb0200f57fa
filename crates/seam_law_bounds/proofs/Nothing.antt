-- A world that holds nothing, and has both records between rounds, holds nothing again at the end of each phase.
use Rattle.seam_law_bounds.proofs.Prelude.{◌≡◌, ℕ, ◌⊎◌, List, [], length, Option, None, Some, refl, sym, ap, ◌∙◌, subst, arith, inl, inr}
use Rattle.seam_law_bounds.proofs.Prelude.{cases_eq, IsQuiet, Event, Batch, order_or, RealView, WitnessView, holders, PartView, ProxyView}
use Rattle.seam_law_bounds.proofs.Prelude.{World, node_has_work, loaded, look_loaded, slot_at, letters_of, Frame, mine, has_of, has_none}
use Rattle.seam_law_bounds.proofs.Prelude.{entity_flow, home_of, RunsTo, real_at, framed, IsBetweenRounds, HasPartsBetweenRounds}
use Rattle.seam_law_bounds.proofs.Prelude.{HasSmallNumbers, MayBeLoaded, AreFor, proxy_weight, part_weight, HoldsNothing, weight_or}
use Rattle.seam_law_bounds.proofs.Prelude.{quiet_links, one_after, one_holder, quiet_home, no_held, calls_end_between, look_keeps}
use Rattle.seam_law_bounds.proofs.Prelude.{look_ends_between, Somewhere, Nowhere, search_real, unknown_look, IsTickOrder}
use Rattle.seam_law_bounds.proofs.Prelude.{calls_end_with_parts}
use Rattle.std.specs.FinMap as table
use Rattle.seam_law_rounds.proofs.Calms.{look_ends_with_parts}
use Rattle.seam_law_bounds.proofs.Bare.{HoldsNone, IsIdle, idle_leads}
use Rattle.seam_law_bounds.proofs.LookPhase.{plain_start}
use Rattle.seam_law_bounds.proofs.RoundPhase.{idle_then}
use Rattle.seam_law_bounds.proofs.Starts.{parts_none}

-- a client that is in step holds no update
client_none : (a : Option WitnessView) (o : Option ProxyView) (version : ℕ) → AreFor a o version → weight_or proxy_weight o ≡ 0
client_none a None version h = refl
client_none None (Some x) version h = absurd h
client_none (Some w) (Some x) version h = ap length h.none_held

module _ (f : Frame) (v : World) (parts : HasPartsBetweenRounds f v) where
  -- the part of an entity that is there holds nothing
  there_none : (e k : ℕ) (r : RealView) → real_at e v k ≡ Some r → (j : ℕ) (p : PartView) →
      ((entity_flow e v).slot j).base.part ≡ Some p → part_weight p ≡ 0
  there_none e k r at j p has = elim (cases_eq j (home_of f e)) [
    | inl is ↦
        let home = ap (λ i. ((entity_flow e v).slot i).base.part) (sym is) ∙ has in
        let s = parts.parts e k r at in
        let same : s.part ≡ p = let z = sym s.here ∙ home in cc in
        let calls =
        no_held p.orders (subst (λ (q : PartView). (x : ℕ) → (order_or (table.get q.orders x)).held ≡ []) same s.none_held) in
        let client = client_none r.witness p.proxy p.version (parts.clients e k r at p home) in
        omega (arith, calls, client)
    | inr n ↦ absurd (let z = sym ((parts.parts e k r at).others j n) ∙ has in cc)
  ]

  -- so it is enough that those of entities that are not there hold nothing
  nothing_by : ((e : ℕ) → Nowhere e v → (k : ℕ) → HoldsNone ((entity_flow e v).slot k).base) → HoldsNothing v
  nothing_by gone k b node e p at = by (search_real e v)
    where
      has : ((entity_flow e v).slot k).base.part ≡ Some p
      has = ap (λ o. (slot_at (has_of e) has_none o).base.part) node ∙ at

      by : Somewhere e v ⊎ Nowhere e v → part_weight p ≡ 0
      by (inl s) = there_none e s.0 s.1 s.2 k p has
      by (inr n) = sym (ap (weight_or part_weight) has) ∙ gone e n k

-- an entity with a holder is somewhere in a quiet world
module _ (f : Frame) (v : World) (between : IsBetweenRounds f v) where
  not_nowhere : (e : ℕ) → holders v e ≡ 1 → Nowhere e v → ⊥
  not_nowhere e one n = let h = quiet_home f v between e one in let z = sym (n h.node) ∙ h.here in cc

-- ---- after a round's calls

module _ (f : Frame) (w : World) (b : Batch) (may : MayBeLoaded f w b) (none : HoldsNothing w) (v : World) (es : List Event)
    (run : RunsTo (loaded w b) es v) (quiet : IsQuiet node_has_work v) where
  calls_gone : (e : ℕ) → Nowhere e v → Somewhere e (loaded w b) ⊎ Nowhere e (loaded w b) → (k : ℕ) →
      HoldsNone ((entity_flow e v).slot k).base
  calls_gone e n (inl p) k =
      absurd (not_nowhere (framed f b) v (calls_end_between f w b may.begin v es run quiet) e
      (one_after f w b may.begin e p.0 p.1 p.2 v es run) n)
  calls_gone e n (inr m) k = (idle_then f w b may none v es run e m).parts k

  pub calls_end_nothing : HoldsNothing v
  calls_end_nothing =
      nothing_by (framed f b) v (calls_end_with_parts f w b may v es run quiet) (λ e n. calls_gone e n (search_real e (loaded w b)))

-- ---- after looks

pub idle_in_looks : (f : Frame) (u : World) (between : IsBetweenRounds f u) → HoldsNothing u → (vs : List Event) (v : World) →
    RunsTo (look_loaded u) vs v → (e : ℕ) → Nowhere e u → IsIdle f e v
idle_in_looks f u between none vs v run e n =
    idle_leads f e (look_loaded u) v vs
    (record { unknown = unknown_look f u between e n; parts = parts_none IsTickOrder (look_loaded u) (plain_start f u between none) e }) run

module _ (f : Frame) (u : World) (between : IsBetweenRounds f u) (parts : HasPartsBetweenRounds f u) (small : HasSmallNumbers f u)
    (none : HoldsNothing u) (vs : List Event) (v : World) (run : RunsTo (look_loaded u) vs v) (quiet : IsQuiet node_has_work v) where
  still : (e x y : ℕ) → (entity_flow e u).mail x y ≡ []
  still e x y = ap (letters_of (mine e)) (quiet_links node_has_work u between.nodes.sound.square between.quiet x y)

  looks_gone : (e : ℕ) → Nowhere e v → Somewhere e u ⊎ Nowhere e u → (k : ℕ) → HoldsNone ((entity_flow e v).slot k).base
  looks_gone e n (inl p) k =
      absurd (not_nowhere f v (look_ends_between f u between vs v run quiet) e
      (look_keeps f u between vs v run e (one_holder f u e p.0 p.1 (between.settled e p.0 p.1 p.2) (still e))) n)
  looks_gone e n (inr m) k =
      (idle_in_looks f u between none vs v run e m).parts k

  pub looks_end_nothing : HoldsNothing v
  looks_end_nothing =
      nothing_by f v (look_ends_with_parts f u between parts small vs v run quiet) (λ e n. looks_gone e n (search_real e u))

-- The phases of a round: each may begin where the one before has ended, and ends itself.
use Rattle.std.proofs.Common.{◌≡◌, ℕ, ◌+◌, ◌*◌, ◌^◌, ◌<◌, ◌≤◌, true, List, [], ◌∷◌, map, length, refl, sym, ap, ◌∙◌, subst, arith}
use Rattle.std.specs.List.{AllByRecursion}
use Rattle.std.proofs.lemmas.Bool.Decides.{nat_tests}
use Rattle.seam_node_steps.specs.Prelude.{IsQuiet, total, Event, Order, Batch, limit, may_rise, RealView, holders, NodeView, World}
use Rattle.seam_node_steps.specs.Prelude.{node_steps, node_has_work, Cell, Base, loaded, reaps_loaded, look_loaded, ordered_at}
use Rattle.seam_law_calls.specs.Prelude.{Frame}
use Rattle.seam_law_rounds.specs.Prelude.{numbers_of, AreReapable, MayBeLoaded}
use Rattle.seam_law_ghosts.specs.Prelude.{GoesThroughRound}
use Rattle.seam_law_all.specs.Prelude.{KeepsRecordsWithin, ObeysLaws, may_load}
use Rattle.seam_law_bounds.specs.Prelude.{witnesses_at, all_witnesses, entities, cell_orders, base_orders, tick_orders, events_of_round}
use Rattle.seam_law_bounds.specs.Prelude.{events_of_looks}
use Rattle.seam_net_runs.specs.Finishing.{EndsWithin}
use Rattle.seam_rule_clients.specs.Clients.{ClientReplica}
use Rattle.seam_core.specs.Worlds.{Leads}
use Rattle.seam_quiet.specs.RoundRuns.{MayRun, BeginsPhase, bases_of, most_of_calls}
use Rattle.seam_quiet.specs.RoundRuns.BeginsPhase.{calls_begin, reaps_begin, looks_begin}

-- ---- reaps may begin

each_holder : (w v : World) (es : List ℕ) → ((e : ℕ) → holders w e ≡ 1 → holders v e ≡ 1) → AllByRecursion (λ e. holders w e ≡ 1) es →
    AllByRecursion (λ e. holders v e ≡ 1) es
each_holder w v [] keep all = tt
each_holder w v (e ∷ es) keep all = (keep e all.0, each_holder w v es keep all.1)

beat_may_rise : (r : RealView) → numbers_of r < 2 ^ 61 + 2 ^ 60 → may_rise r.beat ≡ true
beat_may_rise r small = by r.beat (omega (arith, small))
  where
    by : (n : ℕ) → n + 1 < limit → may_rise n ≡ true
    by n lt = grind (arith, nat_tests)

module _ (f : Frame) (clients : ℕ → ClientReplica) (w : World) (b : Batch) (may : MayRun f clients w b) where
  pub may_be_loaded : MayBeLoaded f w b
  may_be_loaded = may_load may.keeps may.given

  -- where the calls have ended, the batch's destroys may be reaped
  pub reapable : (u : World) → ObeysLaws f clients w b u → (g : Frame) (shown : ℕ → ClientReplica) → KeepsRecordsWithin g shown u →
      AreReapable u b.destroys
  reapable u laws g shown within = record {
    there = each_holder (loaded w b) u b.destroys laws.one_real may.given.reals.destroys;
    once = may.given.reals.ends_once;
    small = λ e k r at. beat_may_rise r (within.small.reals e k r at);
  }

  bases_are : bases_of w ≡ f.settings.bases
  bases_are = let many = may.keeps.reals.many in omega (arith, many)

  -- the table of a round by the base nodes that the world has
  pub by_bases : (n : ℕ) → n ≤ events_of_round f.settings.bases (cell_orders b) (base_orders b) (tick_orders b) (entities (loaded w b))
      (all_witnesses (loaded w b)) → n ≤ most_of_calls w b
  by_bases n le = subst (λ k. n ≤ events_of_round k (cell_orders b) (base_orders b) (tick_orders b) (entities (loaded w b))
      (all_witnesses (loaded w b))) (sym bases_are) le

-- ---- a round, made of its phases

module _ (w : World) (b : Batch) (called reaped v : World) (es ds ls : List Event) (calls : Leads (loaded w b) es called)
    (calls_done : IsQuiet node_has_work called) (may : AreReapable called b.destroys)
    (reaps : Leads (reaps_loaded called b.destroys) ds reaped)
    (reaps_done : IsQuiet node_has_work reaped) (looks : Leads (look_loaded reaped) ls v) where
  abbrev pub goes_through : GoesThroughRound w b v
  goes_through = record {
    called = called;
    call_events = es;
    calls = calls;
    calls_done = calls_done;
    gone = b.destroys;
    may = may;
    reaped = reaped;
    reap_events = ds;
    reaps = reaps;
    reaps_done = reaps_done;
    look_events = ls;
    looks = looks;
  }

-- ---- who looks

-- an order to look makes no witness
same_at : (o : ℕ × Order) (s : NodeView) → witnesses_at (ordered_at o s) ≡ witnesses_at s
same_at o (Cell c) = refl
same_at o (Base b) = refl

same_total : (o : ℕ × Order) (ss : List NodeView) → total witnesses_at (map (ordered_at o) ss) ≡ total witnesses_at ss
same_total o [] = refl
same_total o (s ∷ ss) = let one = same_at o s in let more = same_total o ss in omega (arith, one, more)

pub same_witnesses : (u : World) → all_witnesses (look_loaded u) ≡ all_witnesses u
same_witnesses u = same_total _ u.nodes

-- ---- each phase ends

-- how many events the phase has at most that begins in world u
abbrev pub most_events : World → Batch → World → ℕ
most_events w b u = most_of_calls w b + (18 * length b.destroys + events_of_looks (entities (loaded w b)) (all_witnesses u))

-- each phase has at most as many as all three together may have
module _ (n a b c : ℕ) where
  of_calls : n ≤ a → n ≤ a + (b + c)
  of_calls le = omega (arith, le)

  of_reaps : n ≤ b → n ≤ a + (b + c)
  of_reaps le = omega (arith, le)

  of_looks : n ≤ c → n ≤ a + (b + c)
  of_looks le = omega (arith, le)

module _ (w : World) (b : Batch) (calls_end : (es : List Event) (v : World) → Leads (loaded w b) es v → length es ≤ most_of_calls w b)
    (reaps_end : (called : World) (ds : List Event) → Leads (loaded w b) ds called → IsQuiet node_has_work called → (es : List Event)
    (v : World) → Leads (reaps_loaded called b.destroys) es v → length es ≤ 18 * length b.destroys)
    (looks_end : (v : World) (round : GoesThroughRound w b v) →
    length round.look_events ≤ events_of_looks (entities (loaded w b)) (all_witnesses round.reaped)) where
  -- the round goes on with other looks
  looking : (u v : World) (round : GoesThroughRound w b u) (es : List Event) → Leads (look_loaded round.reaped) es v →
      GoesThroughRound w b v
  looking u v round es leads = record {
    called = round.called;
    call_events = round.call_events;
    calls = round.calls;
    calls_done = round.calls_done;
    gone = round.gone;
    may = round.may;
    reaped = round.reaped;
    reap_events = round.reap_events;
    reaps = round.reaps;
    reaps_done = round.reaps_done;
    look_events = es;
    looks = leads;
  }

  from_on : (x u v : World) (es : List Event) → u ≡ x → Leads u es v → Leads x es v
  from_on x u v es is leads = subst (λ y. Leads y es v) is leads

  pub each_ends : (u : World) → BeginsPhase w b u → EndsWithin node_has_work node_steps u (most_events w b u)
  unfolding looking
  each_ends u (calls_begin is) es v leads =
      of_calls (length es) (most_of_calls w b) (18 * length b.destroys) (events_of_looks (entities (loaded w b)) (all_witnesses u))
      (calls_end es v (from_on (loaded w b) u v es is leads))
  each_ends u (reaps_begin called ds calls quiet is) es v leads =
      of_reaps (length es) (most_of_calls w b) (18 * length b.destroys) (events_of_looks (entities (loaded w b)) (all_witnesses u))
      (reaps_end called ds calls quiet es v (from_on (reaps_loaded called b.destroys) u v es is leads))
  each_ends u (looks_begin round gone is) es v leads =
      let few = looks_end v (looking u v round es (from_on (look_loaded round.reaped) u v es is leads)) in
      let same : all_witnesses u ≡ all_witnesses round.reaped = ap all_witnesses is ∙ same_witnesses round.reaped in
      of_looks (length es) (most_of_calls w b) (18 * length b.destroys) (events_of_looks (entities (loaded w b)) (all_witnesses u))
      (subst (λ n. length es ≤ events_of_looks (entities (loaded w b)) n) (sym same) few)

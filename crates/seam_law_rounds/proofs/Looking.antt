-- The phase of looks: each entity keeps its one real.
use Rattle.seam_law_rounds.proofs.Prelude.{◌≡◌, ℕ, Bool, true, false, cond, eqb, List, Some, refl, ap, ◌∙◌, subst, length-map, IsQuiet}
use Rattle.seam_law_rounds.proofs.Prelude.{Event, Order, RealView, may_rise, cell_count, base_of, holders, World, node_has_work, ordered_at}
use Rattle.seam_law_rounds.proofs.Prelude.{look_loaded, Nobody, Frame, here_at, entity_flow, real_in, real_of, RunsTo, real_at}
use Rattle.seam_law_rounds.proofs.Prelude.{IsBetweenRounds, HasNoCalls, quiet_tasks, counted_none, none_counts, gone_leads}
use Rattle.seam_call.specs.declared.order.Order.TheVariants as order
use Rattle.seam_law_rounds.proofs.Ready.{quiet_home}
use Rattle.seam_law_rounds.proofs.Calm.{one_if, IsCalm}
use Rattle.seam_law_rounds.proofs.Starting.{Given, starts_calm}
use Rattle.seam_law_rounds.proofs.Giving.{look_framed, some_base, look_given, look_cell, reals_stay, keeps_look}
use Rattle.seam_law_rounds.proofs.Ending.{calls_none}
use Rattle.seam_law_rounds.proofs.Phases.{calm_leads, stays_alive, between_again}

abbrev pub tick : ℕ × Order
tick = (cell_count, order.Tick)

zero_by : (b : Bool) → 0 ≡ cond {A = ℕ} b 0 0
zero_by true = refl
zero_by false = refl

module _ (f : Frame) (u : World) (between : IsBetweenRounds f u) where
  stay : (e k : ℕ) → real_at e (look_loaded u) k ≡ real_at e u k
  stay e k = reals_stay e (ordered_at tick) (look_cell e tick) u k

  pub small : (r : RealView) → false ≡ true → may_rise r.beat ≡ true
  small r h = cc

  module _ (e home : ℕ) (r : RealView) (here : real_at e u home ≡ Some r) where
    pub calm : IsCalm f e home r u false (look_loaded u)
    calm =
        starts_calm f u between e home r here (ordered_at tick) false (look_framed f u between.nodes tick refl)
        (reals_stay e (ordered_at tick) (look_cell e tick) u) (some_base f u between.nodes e home r here) (λ k s at.
        subst (λ n. Given e n s (ordered_at tick s)) (zero_by (eqb k (base_of (here_at f 0) e)))
        (look_given e f k cell_count s (quiet_tasks node_has_work u between.quiet k s at)))

  nobody : (e : ℕ) → Nobody real_in real_of (entity_flow e u) → Nobody real_in real_of (entity_flow e (look_loaded u))
  nobody e n = record { slots = λ k. stay e k ∙ n.slots k; mail = n.mail }

  module _ (vs : List Event) (v : World) (run : RunsTo (look_loaded u) vs v) where
    pub look_keeps : (e : ℕ) → holders u e ≡ 1 → holders v e ≡ 1
    look_keeps e one =
        let h = quiet_home f u between e one in
        stays_alive f between.frame u between e h.node h.real h.here false (small h.real) refl (look_loaded u) v vs
        (calm e h.node h.real h.here) (ap one_if (stay e h.node ∙ h.here)) run

    pub look_makes_none : (e : ℕ) → holders u e ≡ 0 → holders v e ≡ 0
    look_makes_none e zero =
        none_counts v e
        (gone_leads f between.frame e (look_loaded u) v vs (look_framed f u between.nodes tick refl) (nobody e (counted_none u e zero)) run)

    pub look_calls_none : (e : ℕ) → holders u e ≡ 1 → HasNoCalls e v
    look_calls_none e one =
        let h = quiet_home f u between e one in
        calls_none f e h.node h.real u (between.settled e h.node h.real h.here) false v
        (calm_leads f between.frame u between e h.node h.real h.here false (small h.real) (look_loaded u) v vs
        (calm e h.node h.real h.here) run)

    pub look_ends_between : IsQuiet node_has_work v → IsBetweenRounds f v
    look_ends_between quiet =
        between_again f u between (look_loaded u) (look_framed f u between.nodes tick refl) (length-map u.nodes (ordered_at tick)) nobody
        (λ e. false) calm (λ e k r here. small r) v vs run quiet (λ e k q at kept. keeps_look e tick u kept)

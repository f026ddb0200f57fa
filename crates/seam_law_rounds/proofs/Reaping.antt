-- The phase of reaps: each entity that is to be reaped has its one real until its Reap comes.
use Rattle.seam_law_rounds.proofs.Prelude.{◌≡◌, ℕ, ◌+◌, ◌<◌, ◌≤◌, Bool, true, false, cond, eqb, nat_lt, List, [], ◌∷◌, ◌++◌, length, Some}
use Rattle.seam_law_rounds.proofs.Prelude.{refl, sym, ap, ◌∙◌, subst, arith, AllByRecursion, eq-eqb, ne_eqb, nat_tests, append_assoc}
use Rattle.seam_law_rounds.proofs.Prelude.{length-map, IsQuiet, Event, RealView, may_rise, base_of, holders, NodeView, World, node_has_work}
use Rattle.seam_law_rounds.proofs.Prelude.{with_nodes, reap_ordered_at, reaps_loaded, Nobody, Frame, here_at, IsInFrame, times, entity_flow}
use Rattle.seam_law_rounds.proofs.Prelude.{real_in, real_of, RunsTo, real_at, IsBetweenRounds, each, AreReapable, reap_comes, HasNoCalls}
use Rattle.seam_law_rounds.proofs.Prelude.{quiet_tasks, counted_none, none_counts, gone_leads}
use Rattle.seam_law_rounds.proofs.Loading.{nodes_after}
use Rattle.seam_law_rounds.proofs.Ready.{quiet_home}
use Rattle.seam_law_rounds.proofs.Calm.{one_if, IsCalm}
use Rattle.seam_law_rounds.proofs.Starting.{Given, times_at_most_one, starts_calm}
use Rattle.seam_law_rounds.proofs.Giving.{reaps_framed, some_base, reaps_given, reaps_cell, reals_stay, keeps_reaps}
use Rattle.seam_law_rounds.proofs.Ending.{calls_none}
use Rattle.seam_law_rounds.proofs.Phases.{calm_leads, counted_until, stays_alive, told_is_gone, between_again}
use Rattle.seam_law_rounds.specs.Between.{KeepsRoutes}

abbrev pub is_told : ℕ → List ℕ → Bool
is_told e es = nat_lt 0 (times e es)

once_by : (n : ℕ) (b : Bool) → nat_lt 0 n ≡ b → n ≤ 1 → n ≡ cond {A = ℕ} b 1 0
once_by n true is most = let few : 0 < n = grind (arith, nat_tests, is) in omega (arith, few, most)
once_by n false is most = grind (arith, nat_tests, is)

pub never_by : (e : ℕ) (es : List ℕ) → AllByRecursion (λ x. x ≡ e → ⊥) es → times e es ≡ 0
never_by e [] h = refl
never_by e (x ∷ es) h = ap (λ b. cond {A = ℕ} b (times e es + 1) (times e es)) (ne_eqb x e h.0) ∙ never_by e es h.1

middle_by : (b : Bool) (n : ℕ) → 1 ≤ n → 1 ≤ cond {A = ℕ} b (n + 1) n
middle_by true n h = omega arith
middle_by false n h = h

some_times : (e : ℕ) (first later : List ℕ) → 1 ≤ times e (first ++ e ∷ later)
some_times e [] later =
    let is = ap (λ b. cond {A = ℕ} b (times e later + 1) (times e later)) (eq-eqb e e refl) in
    omega (arith, is)
some_times e (x ∷ first) later = middle_by (eqb x e) (times e (first ++ e ∷ later)) (some_times e first later)

above : (n : ℕ) → 1 ≤ n → nat_lt 0 n ≡ true
above n h = grind (arith, nat_tests, h)

none_above : (n : ℕ) → n ≡ 0 → nat_lt 0 n ≡ false
none_above n h = grind (arith, nat_tests, h)

module _ (f : Frame) (u : World) (between : IsBetweenRounds f u) (es : List ℕ) (may : AreReapable u es) where
  abbrev turn : NodeView → NodeView
  turn = each reap_ordered_at es

  pub loaded_is : reaps_loaded u es ≡ with_nodes u turn
  loaded_is = nodes_after reap_ordered_at u es

  stay : (e k : ℕ) → real_at e (reaps_loaded u es) k ≡ real_at e u k
  stay e k = ap (λ w. real_at e w k) loaded_is ∙ reals_stay e turn (reaps_cell e es) u k

  module _ (e home : ℕ) (r : RealView) (here : real_at e u home ≡ Some r) where
    pub calm : IsCalm f e home r u (is_told e es) (reaps_loaded u es)
    calm =
        subst (IsCalm f e home r u (is_told e es)) (sym loaded_is)
        (starts_calm f u between e home r here turn (is_told e es) (reaps_framed f u between.nodes es) (reals_stay e turn
        (reaps_cell e es) u)
        (some_base f u between.nodes e home r here) (λ k s at.
        subst (λ n. Given e (cond {A = ℕ} (eqb k (base_of (here_at f 0) e)) n 0) s (turn s))
        (once_by (times e es) (nat_lt 0 (times e es)) refl (times_at_most_one e es may.once))
        (reaps_given e f k es s (between.nodes.nodes k s at) (quiet_tasks node_has_work u between.quiet k s at))))

    pub small : is_told e es ≡ true → may_rise r.beat ≡ true
    small told = may.small e home r here

    alive : one_if (real_at e (reaps_loaded u es) home) ≡ 1
    alive = ap one_if (stay e home ∙ here)

  frame_loaded : IsInFrame f (reaps_loaded u es)
  frame_loaded = subst (IsInFrame f) (sym loaded_is) (reaps_framed f u between.nodes es)

  nobody : (e : ℕ) → Nobody real_in real_of (entity_flow e u) → Nobody real_in real_of (entity_flow e (reaps_loaded u es))
  nobody e n =
      subst (λ w. Nobody real_in real_of (entity_flow e w)) (sym loaded_is)
      (record { slots = λ k. reals_stay e turn (reaps_cell e es) u k ∙ n.slots k; mail = n.mail })

  module _ (vs : List Event) (v : World) (run : RunsTo (reaps_loaded u es) vs v) where
    pub reap_counts : (e : ℕ) → holders u e ≡ 1 → holders v e ≡ cond (reap_comes e (reaps_loaded u es) vs) 0 1
    reap_counts e one =
        let h = quiet_home f u between e one in
        ap (λ w. holders w e) run.is_run
        ∙ counted_until f between.frame u between e h.node h.real h.here (is_told e es) (small e h.node h.real h.here) vs
        (reaps_loaded u es) (calm e h.node h.real h.here) (alive e h.node h.real h.here) run.each

    pub others_stay : (e : ℕ) → holders u e ≡ 1 → AllByRecursion (λ x. x ≡ e → ⊥) es → holders v e ≡ 1
    others_stay e one others =
        let h = quiet_home f u between e one in
        stays_alive f between.frame u between e h.node h.real h.here (is_told e es) (small e h.node h.real h.here)
        (none_above (times e es) (never_by e es others)) (reaps_loaded u es) v vs (calm e h.node h.real h.here)
        (alive e h.node h.real h.here) run

    pub none_come : (e : ℕ) → holders u e ≡ 0 → holders v e ≡ 0
    none_come e zero =
        none_counts v e
        (gone_leads f between.frame e (reaps_loaded u es) v vs frame_loaded (nobody e (counted_none u e zero)) run)

    pub no_calls : (e : ℕ) → holders u e ≡ 1 → HasNoCalls e v
    no_calls e one =
        let h = quiet_home f u between e one in
        calls_none f e h.node h.real u (between.settled e h.node h.real h.here) (is_told e es) v
        (calm_leads f between.frame u between e h.node h.real h.here (is_told e es) (small e h.node h.real h.here) (reaps_loaded u es) v vs
        (calm e h.node h.real h.here) run)

    module _ (quiet : IsQuiet node_has_work v) where
      ended : (e : ℕ) (first later : List ℕ) → es ≡ first ++ e ∷ later → holders u e ≡ 1 → holders v e ≡ 0
      ended e first later is one =
          let h = quiet_home f u between e one in
          let c = calm_leads f between.frame u between e h.node h.real h.here (is_told e es) (small e h.node h.real h.here)
          (reaps_loaded u es) v vs (calm e h.node h.real h.here) run in
          told_is_gone f between.frame u between e h.node h.real h.here (is_told e es) (small e h.node h.real h.here) v c quiet
          (above (times e es) (subst (λ l. 1 ≤ times e l) (sym is) (some_times e first later)))

      ended_by : (first xs : List ℕ) → es ≡ first ++ xs → AllByRecursion (λ e. holders u e ≡ 1) xs →
          AllByRecursion (λ e. holders v e ≡ 0) xs
      ended_by first [] is h = tt
      ended_by first (e ∷ xs) is h =
          (ended e first xs is h.0, ended_by (first ++ e ∷ []) xs (is ∙ sym (append_assoc first (e ∷ []) xs)) h.1)

      pub all_reaped : AllByRecursion (λ e. holders v e ≡ 0) es
      all_reaped = ended_by [] es refl may.there

      -- one that is there was not reaped
      others_by : (e k : ℕ) (q : RealView) → real_at e v k ≡ Some q → (xs : List ℕ) → AllByRecursion (λ x. holders v x ≡ 0) xs →
          AllByRecursion (λ x. x ≡ e → ⊥) xs
      others_by e k q at [] none = tt
      others_by e k q at (x ∷ xs) none = (
        λ is. let z = sym ((counted_none v x none.0).slots k) ∙ (subst (λ y. real_at y v k ≡ Some q) (sym is) at) in cc,
        others_by e k q at xs none.1,
      )

      keeps : (e k : ℕ) (q : RealView) → real_at e v k ≡ Some q → KeepsRoutes e u → KeepsRoutes e (reaps_loaded u es)
      keeps e k q at kept =
          subst (KeepsRoutes e) (sym loaded_is) (keeps_reaps e es (others_by e k q at es all_reaped) u kept)

      pub reaps_end_between : IsBetweenRounds f v
      reaps_end_between =
          between_again f u between (reaps_loaded u es) frame_loaded
          (ap (λ w. length w.nodes) loaded_is ∙ length-map u.nodes turn) nobody (λ e. is_told e es) calm small v vs run quiet
          keeps

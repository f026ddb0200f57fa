-- Reaps keep the record of clients: no witness tells anything, and the entities that are left are what they were.
use Rattle.seam_law_clients.proofs.Prelude.{◌≡◌, ℕ, ◌≤◌, List, [], Option, None, Some, refl, sym, ap, ◌∙◌, subst, arith, option_map}
use Rattle.seam_law_clients.proofs.Prelude.{slice_get, AllByRecursion, slice_get-map, Event, RealView, WitnessView, NodeView, World}
use Rattle.seam_law_clients.proofs.Prelude.{node_has_work, with_nodes, reap_ordered_at, reaps_loaded, slot_at, letters_of, Frame, IsInFrame}
use Rattle.seam_law_clients.proofs.Prelude.{mine, has_of, has_none, entity_flow, real_of, sent_by, tick_in, EachReal, HasToldAtMost}
use Rattle.seam_law_clients.proofs.Prelude.{HasNoLooks, RunsTo, real_at, IsBetweenRounds, each, AreReapable, HadSameReal, FitsWitness}
use Rattle.seam_law_clients.proofs.Prelude.{ClientsFit, quiet_links, quiet_tasks, idle_orders, reaps_framed, reaps_cell, reals_stay}
use Rattle.seam_law_clients.proofs.Prelude.{NoTicks, each_happens, reaps_without_ticks, idle_looks, reaps_leave, ClientReplica, EachKeeps}
use Rattle.seam_law_clients.proofs.Prelude.{runs_keep}
use Rattle.seam_law_rounds.proofs.Reaping as reaping
use Rattle.seam_law_calls.proofs.NoLooks.{WithoutLooks, looks_happen}
use Rattle.seam_law_clients.proofs.OneLook.{same_real}
use Rattle.seam_law_rounds.specs.Prelude.{NeverShown}

-- ---- where no one looks a witness stays what it is

module _ (f : Frame) (e n : ℕ) (witness : Option WitnessView) where
  record IsUntold (w : World) : Type 0 where
    without : WithoutLooks f e n w
    same : EachReal e (λ r. r.witness ≡ witness) w

  untold_happens : EachKeeps IsUntold
  untold_happens w v o h = record {
    without = looks_happen f e n w v o h.without;
    same =
        each_happens (λ r. r.witness ≡ witness) (λ r q same is. same ∙ is) f e w v o h.without.frame
        (λ k m r q x y shown at wit now sum is. let none = h.without.looks.cells k in absurd (omega (arith, at, none))) h.same;
  }

  pub untold_leads : (w v : World) (es : List Event) → IsInFrame f w → HasNoLooks e w → HasToldAtMost e n w →
      EachReal e (λ r. r.witness ≡ witness) w → RunsTo w es v → EachReal e (λ r. r.witness ≡ witness) v
  untold_leads w v es frame looks told same run =
      (runs_keep IsUntold untold_happens w v es (record {
        without = record { frame = frame; looks = looks; told = told };
        same = same;
      }) run).same

-- ---- the phase of reaps

module _ (f : Frame) (u : World) (between : IsBetweenRounds f u) (es : List ℕ) (may : AreReapable u es) (vs : List Event) (v : World)
    (run : RunsTo (reaps_loaded u es) vs v) where
  abbrev turn : NodeView → NodeView
  turn = each reap_ordered_at es

  abbrev start : World
  start = with_nodes u turn

  turned : RunsTo start vs v
  turned = subst (λ w. RunsTo w vs v) (reaping.loaded_is f u between es may) run

  inside : IsInFrame f start
  inside = reaps_framed f u between.nodes es

  module _ (e : ℕ) where
    slot_is : (k : ℕ) → (entity_flow e start).slot k ≡ slot_at (has_of e) has_none (option_map turn (slice_get u.nodes k))
    slot_is k = ap (slot_at (has_of e) has_none) (slice_get-map turn u.nodes k)

    no_mail : (a k : ℕ) → (entity_flow e start).mail a k ≡ []
    no_mail a k = ap (letters_of (mine e)) (quiet_links node_has_work u between.nodes.sound.square between.quiet a k)

    looks_by : (k : ℕ) (o : Option NodeView) → slice_get u.nodes k ≡ o →
        ((slot_at (has_of e) has_none (option_map turn o)).cell.looks ≡ 0)
        × NoTicks (slot_at (has_of e) has_none (option_map turn o)).base.orders
    looks_by k None at = (refl, tt)
    looks_by k (Some s) at =
        let idle = quiet_tasks node_has_work u between.quiet k s at in (
          ap (λ c. c.looks) (reaps_cell e es s) ∙ idle_looks e s idle,
          reaps_without_ticks e es s (subst NoTicks (sym (idle_orders e s idle)) tt),
        )

    no_looks : HasNoLooks e start
    no_looks = record {
      cells = λ k. ap (λ s. s.cell.looks) (slot_is k) ∙ (looks_by k (slice_get u.nodes k) refl).0;
      orders = λ k. subst (λ s. NoTicks s.base.orders) (sym (slot_is k)) (looks_by k (slice_get u.nodes k) refl).1;
      letters = λ a k. subst (AllByRecursion (λ m. tick_in m ≡ None)) (sym (no_mail a k)) tt;
    }

    -- each real is the one that was there
    module _ (home : ℕ) (r : RealView) (here : real_at e u home ≡ Some r) where
      each_start : (P : RealView → Type 0) → P r → EachReal e P start
      each_start P holds = record {
        cells = λ k q at.
            let same = same_real f u between e home k r q here (sym (reals_stay e turn (reaps_cell e es) u k) ∙ at) in
            subst P (sym same.1) holds;
        hands = λ a k. subst (AllByRecursion (λ m. (q : RealView) → real_of m ≡ Some q → P q)) (sym (no_mail a k)) tt;
      }

      same_witness : EachReal e (λ q. q.witness ≡ r.witness) v
      same_witness =
          untold_leads f e (sent_by r) r.witness start v vs inside no_looks
          (each_start (λ q. sent_by q ≤ sent_by r) (omega arith)) (each_start (λ q. q.witness ≡ r.witness) refl) turned

  -- a real that is left is what it was
  pub stays : (e k : ℕ) (q : RealView) → real_at e v k ≡ Some q → real_at e u k ≡ Some q
  stays e k q at =
      let there : HadSameReal e k q u = reaps_leave f u between es may vs v run e k q at in
      let witness = (same_witness e k there.real there.here).cells k q at in
      let same : q ≡ there.real = there.same ∙ ap (λ x. let now : RealView = record there.real { witness = x } in now) witness in
      there.here ∙ ap Some (sym same)

  -- whom no client was shown, none is shown
  pub never_shown_reaped : (n : ℕ) → NeverShown u n → NeverShown v n
  never_shown_reaped n never e k q at x has = never e k q (stays e k q at) x has

  module _ (clients : ℕ → ClientReplica) (fit : ClientsFit f clients u) where
    still_fits : (r : RealView) (x : WitnessView) (c : ClientReplica) → FitsWitness f u r x c → FitsWitness f v r x c
    still_fits r x c began = record {
      others = began.others;
      view = began.view;
      radius = began.radius;
      hysteresis = began.hysteresis;
      told = began.told;
      not_ahead = began.not_ahead;
      own = began.own;
      others_not_ahead = λ y j version q shown here. began.others_not_ahead y j version q shown (stays y j q here);
    }

    pub clients_fit_reaped : ClientsFit f clients v
    clients_fit_reaped = record {
      each = λ e k q at x has. still_fits q x (clients e) (fit.each e k q (stays e k q at) x has);
    }

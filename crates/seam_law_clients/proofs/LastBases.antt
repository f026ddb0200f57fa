-- Where entities are reaped, and where witnesses look, no call to a base part waits, and nothing is stray at a base node.
use Rattle.seam_law_clients.proofs.Prelude.{◌≡◌, ℕ, ◌+◌, ◌^◌, ◌<◌, ◌≤◌, ◌++◌, Bool, true, false, is_none, List, [], ◌∷◌, Option, None, Some}
use Rattle.seam_law_clients.proofs.Prelude.{refl, sym, ap, ◌∙◌, subst, arith, inl, inr, AllByRecursion, cases_eq, LeadsTo, Event, item_at}
use Rattle.seam_law_clients.proofs.Prelude.{Order, order_or, RealView, WitnessView, Msg, BaseCall, Hand, Current, GhostSet, GhostDrop, Tick}
use Rattle.seam_law_clients.proofs.Prelude.{Reap, limit, may_rise, may_show, stray_update, cell_count, PartView, ProxyView, holders, World}
use Rattle.seam_law_clients.proofs.Prelude.{node_steps, node_has_work, reaps_loaded, look_loaded, letters_of, more_letter, packed, bears}
use Rattle.seam_law_clients.proofs.Prelude.{of_number, Frame, here_at, entity_flow, real_in, strays_at, is_stuck, numbered_from, base_mail}
use Rattle.seam_law_clients.proofs.Prelude.{part_desk, sent_of, home_of, update_in, NoUpdateComes, NothingIsStray, IsSettled}
use Rattle.seam_law_clients.proofs.Prelude.{IsBetweenRounds, AreReapable, AreFor, HasSettledPart, HasPartsBetweenRounds, HasSmallNumbers}
use Rattle.seam_law_clients.proofs.Prelude.{Update as UpdateData, may_execute, all_two, below_is, quiet_home, IsCalmOrder, IsCalmTo, IsCalm}
use Rattle.seam_law_clients.proofs.Prelude.{calm_leads, reaps_tell_none, look_settles, look_finds, look_acts, slice_get}
use Rattle.std.specs.FinMap as table
use Rattle.seam_node_steps.specs.Prelude.{Update}
use Rattle.seam_law_flow.specs.Prelude.{held_in}
use Rattle.seam_law_rounds.specs.Prelude.{HasNoCallsToBase}
use Rattle.seam_call.specs.declared.order.Order.TheVariants as order
use Rattle.seam_entity.specs.declared.message.Msg.TheVariants.{Call}
use Rattle.seam_law_calls.proofs.NoStray.{ordered_by}
use Rattle.seam_law_rounds.proofs.Still.{none_calls}
use Rattle.seam_law_rounds.proofs.Reaping as reaping
use Rattle.seam_law_rounds.proofs.Looking as looking
use Rattle.seam_law_clients.proofs.Reaped.{part_same}

-- a part that holds no call, and may execute one
record IsAtRest (p : PartView) : Type 0 where
  none_held : (s : ℕ) → (order_or (table.get p.orders s)).held ≡ []
  may : may_execute p ≡ true

-- ---- a calm entity

module _ (f : Frame) (e home : ℕ) (r : RealView) (u : World) (settled : IsSettled f e home r u) (told : Bool) (v : World)
    (calm : IsCalm f e home r u told v)
    (parts : (k : ℕ) (p : PartView) → ((entity_flow e v).slot k).base.part ≡ Some p → IsAtRest p)
    (updates : (a k : ℕ) (m : UpdateData) (ms : List Msg) → (entity_flow e v).mail a k ≡ Update m ∷ ms →
    stray_update m ((entity_flow e v).slot k).base.part ≡ false) where
  -- ---- no call waits

  no_letters : (s k : ℕ) (ms : List Msg) → AllByRecursion (IsCalmTo told home r k) ms → letters_of (base_mail s) ms ≡ []
  no_letters s k [] h = refl
  no_letters s k (GhostDrop x n ∷ ms) h = no_letters s k ms h.1
  no_letters s k (Tick ∷ ms) h = no_letters s k ms h.1
  no_letters s k (Reap x ∷ ms) h = no_letters s k ms h.1
  no_letters s k (Update m ∷ ms) h = no_letters s k ms h.1
  no_letters s k (_ ∷ ms) h = absurd h.0

  held_by : (s n : ℕ) (o : Option PartView) → ((p : PartView) → o ≡ Some p → IsAtRest p) → held_in n (part_desk s o) ≡ []
  held_by s n None rest = refl
  held_by s n (Some p) rest = ap (λ l. more_letter (item_at n l) []) ((rest p refl).none_held s)

  no_calls : HasNoCallsToBase e v
  no_calls s n = record {
    slots = λ k.
        let b = ((entity_flow e v).slot k).base in
        ap packed (ap (λ l. letters_of (of_number n) (letters_of (numbered_from s) l) ++ held_in n (part_desk s b.part))
        (none_calls e b.orders (calm.nodes k).orders) ∙ held_by s n b.part (parts k));
    mail = λ x y. ap (letters_of (bears n)) (no_letters s y ((entity_flow e v).mail x y) (calm.mail x y));
  }

  -- ---- nothing is stray

  at_base : (m : Msg) (a k : ℕ) (ms : List Msg) → cell_count ≤ k → (entity_flow e v).mail a k ≡ m ∷ ms → IsCalmTo told home r k m →
      strays_at (here_at f k) ((entity_flow e v).slot k).base m ≡ false
  at_base (GhostDrop x n) a k ms high at h = let low = h.2 in absurd (omega (arith, low, high))
  at_base Tick a k ms high at h = absurd (omega (arith, h, high))
  at_base (Reap x) a k ms high at h =
      let low = settled.fits.home in
      let few = calm.cells in
      absurd (omega (arith, h, low, few, high))
  at_base (Update u) a k ms high at h = updates a k u ms at
  at_base _ a k ms high at h = absurd h

  routed : (k : ℕ) (o : Order) (os : List Order) → ((entity_flow e v).slot k).base.orders ≡ o ∷ os →
      is_none ((entity_flow e v).slot k).base.route ≡ false
  routed k o os at =
      let n = ordered_by f e v k calm.frame (slice_get v.nodes k) refl o os at in
      ap is_none ((calm.nodes k).route ∙ settled.routes k n.from n.below)

  at_node : (o : Order) (k : ℕ) (os : List Order) → ((entity_flow e v).slot k).base.orders ≡ o ∷ os → IsCalmOrder e o →
      is_stuck (here_at f k) ((entity_flow e v).slot k).base o ≡ false
  at_node (order.Cell c) k os at h = absurd h
  at_node (order.Base c) k os at h = absurd h
  at_node order.Tick k os at h = refl
  at_node (order.Reap x) k os at h = routed k (order.Reap x) os at
  at_node (order.Bounds x) k os at h = absurd h

  none_stray : NothingIsStray f e v
  none_stray = record {
    letters = λ a k m ms high at. at_base m a k ms high at (subst (AllByRecursion (IsCalmTo told home r k)) at (calm.mail a k)).0;
    orders = λ k o os at. at_node o k os at (subst (AllByRecursion (IsCalmOrder e)) at (calm.nodes k).orders).0;
    parts = λ k p at. (parts k p at).may;
  }

-- ---- the phase of reaps

module _ (f : Frame) (u : World) (between : IsBetweenRounds f u) (parts : HasPartsBetweenRounds f u) (small : HasSmallNumbers f u)
    (es : List ℕ) (may : AreReapable u es) (vs : List Event) (v : World) (run : LeadsTo node_has_work node_steps (reaps_loaded u es) vs v)
  where
    module _ (e home : ℕ) (r : RealView) (here : real_in ((entity_flow e u).slot home) ≡ Some r) where
      calm : IsCalm f e home r u (reaping.is_told e es) v
      calm =
          calm_leads f between.frame u between e home r here (reaping.is_told e es) (reaping.small f u between es may e home r here)
          (reaps_loaded u es) v vs (reaping.calm f u between es may e home r here) run

      had : HasSettledPart f e r.ty u
      had = parts.parts e home r here

      shows_by : (o : Option WitnessView) (x : Option ProxyView) → r.witness ≡ o → had.part.proxy ≡ x → AreFor o x had.part.version →
          may_show x ≡ true
      shows_by None None seen has are = refl
      shows_by None (Some x) seen has are = absurd are
      shows_by (Some w) None seen has are = absurd are
      shows_by (Some w) (Some x) seen has are =
          let lines = are.lines in
          let next = are.next in
          let sent = ap sent_of seen in
          let few = small.clients e home r here had.part had.here in
          below_is (x.last + 1) limit (omega (arith, lines, next, sent, few))

      had_rests : IsAtRest had.part
      had_rests = record {
        none_held = had.none_held;
        may =
            let few = small.clients e home r here had.part had.here in
            all_two (may_rise had.part.version) (may_show had.part.proxy) (below_is (had.part.version + 1) limit (omega (arith, few)))
            (shows_by r.witness had.part.proxy refl refl (parts.clients e home r here had.part had.here));
      }

      rests : (k : ℕ) (p : PartView) → ((entity_flow e v).slot k).base.part ≡ Some p → IsAtRest p
      rests k p at =
          let was = part_same f u between parts es may e home r here vs v run k p at in
          elim (cases_eq k (home_of f e)) [
            | inl is ↦
                let same : had.part ≡ p =
                let z = sym had.here ∙ (ap (λ j. ((entity_flow e u).slot j).base.part) (sym is) ∙ was) in cc in
                subst IsAtRest same had_rests
            | inr away ↦ absurd (let z = sym (had.others k away) ∙ was in cc)
          ]

      untold : (a k : ℕ) (m : UpdateData) (ms : List Msg) → (entity_flow e v).mail a k ≡ Update m ∷ ms →
          stray_update m ((entity_flow e v).slot k).base.part ≡ false
      untold a k m ms at =
          let none : NoUpdateComes e v = reaps_tell_none f u between parts es may vs v run e in
          let all : AllByRecursion (λ x. update_in x ≡ None) (Update m ∷ ms) =
          subst (AllByRecursion (λ x. update_in x ≡ None)) at (none a k) in
          absurd (let z = all.0 in cc)

      pub reaps_stray_none_of : NothingIsStray f e v
      reaps_stray_none_of = none_stray f e home r u (between.settled e home r here) (reaping.is_told e es) v calm rests untold

    pub reaps_make_no_call : (e : ℕ) → holders u e ≡ 1 → HasNoCallsToBase e v
    reaps_make_no_call e one =
        let h = quiet_home f u between e one in
        no_calls f e h.node h.real u (between.settled e h.node h.real h.here) (reaping.is_told e es) v (calm e h.node h.real h.here)
        (rests e h.node h.real h.here) (untold e h.node h.real h.here)

    pub reaps_stray_none : (e : ℕ) → holders u e ≡ 1 → NothingIsStray f e v
    reaps_stray_none e one =
        let h = quiet_home f u between e one in reaps_stray_none_of e h.node h.real h.here

-- ---- the phase of looks

module _ (f : Frame) (u : World) (between : IsBetweenRounds f u) (parts : HasPartsBetweenRounds f u) (small : HasSmallNumbers f u)
    (vs : List Event) (v : World) (run : LeadsTo node_has_work node_steps (look_loaded u) vs v) where
  module _ (e home : ℕ) (r : RealView) (here : real_in ((entity_flow e u).slot home) ≡ Some r) where
    looked : IsCalm f e home r u false v
    looked =
        calm_leads f between.frame u between e home r here false (looking.small f u between r) (look_loaded u) v vs
        (looking.calm f u between e home r here) run

    part_now : HasSettledPart f e r.ty v
    part_now = look_settles f u between parts small vs v run e home r here

    rests_now : (k : ℕ) (p : PartView) → ((entity_flow e v).slot k).base.part ≡ Some p → IsAtRest p
    rests_now k p at = elim (cases_eq k (home_of f e)) [
      | inl is ↦
          let same : part_now.part ≡ p =
          let z = sym part_now.here ∙ (ap (λ j. ((entity_flow e v).slot j).base.part) (sym is) ∙ at) in cc in
          record {
            none_held = subst (λ (y : PartView). (s : ℕ) → (order_or (table.get y.orders s)).held ≡ []) same part_now.none_held;
            may = look_acts f u between parts small vs v run e home r here k p at;
          }
      | inr away ↦ absurd (let z = sym (part_now.others k away) ∙ at in cc)
    ]

    told_rightly : (a k : ℕ) (m : UpdateData) (ms : List Msg) → (entity_flow e v).mail a k ≡ Update m ∷ ms →
        stray_update m ((entity_flow e v).slot k).base.part ≡ false
    told_rightly a k m ms at =
        let finds = look_finds f u between parts small vs v run e home r here a k m ms at in
        finds.may

    pub looks_stray_none_of : NothingIsStray f e v
    looks_stray_none_of = none_stray f e home r u (between.settled e home r here) false v looked rests_now told_rightly

  pub looks_make_no_call : (e : ℕ) → holders u e ≡ 1 → HasNoCallsToBase e v
  looks_make_no_call e one =
      let h = quiet_home f u between e one in
      no_calls f e h.node h.real u (between.settled e h.node h.real h.here) false v (looked e h.node h.real h.here)
      (rests_now e h.node h.real h.here) (told_rightly e h.node h.real h.here)

  pub looks_stray_none : (e : ℕ) → holders u e ≡ 1 → NothingIsStray f e v
  looks_stray_none e one =
      let h = quiet_home f u between e one in looks_stray_none_of e h.node h.real h.here

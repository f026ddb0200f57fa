-- An entity with a client or without one, from a world in which nothing of it is on its way to one that is quiet.
use Rattle.seam_law_rounds.proofs.Prelude.{◌≡◌, ℕ, ◌+◌, ◌^◌, ◌<◌, ◌≤◌, ◌-◌, true, false, cond, is_some, List, [], ◌∷◌, length, Option, None}
use Rattle.seam_law_rounds.proofs.Prelude.{Some, refl, sym, ap, ◌∙◌, subst, arith, inl, inr, AllByRecursion, cases_eq, eq-eqb, append-nil}
use Rattle.seam_law_rounds.proofs.Prelude.{append_cancel_left, IsQuiet, Event, item_at, Shown, RealView, WitnessView, Msg, PartView}
use Rattle.seam_law_rounds.proofs.Prelude.{ProxyView, World, node_has_work, Flow, letters_of, Delivery, Life, number_from, Frame, IsInFrame}
use Rattle.seam_law_rounds.proofs.Prelude.{Has, entity_flow, real_of, IsSpared, IsFrame, HasOne, sent_of, sent_by, home_of, HasNoClient}
use Rattle.seam_law_rounds.proofs.Prelude.{proxy_of, updates_at, shown_in, lines_in, shown_at, tells, EachReal, HasToldAtMost, HasClient}
use Rattle.seam_law_rounds.proofs.Prelude.{HasRoomFor, RunsTo, real_at, AreInStep, AreFor, IsServed, bare, served, bare_leads, all_shown}
use Rattle.seam_law_rounds.proofs.Prelude.{client_leads, IsSeen, seen_leads}
use Rattle.seam_law_flow.specs.Prelude.{numbered}
use Rattle.seam_law_calls.specs.Prelude.{order_in}
use Rattle.seam_order.specs.Held.{RiseFrom}

-- a world that has an entity's one real and its base part, with nothing about it on its way
pub record HasItStill (f : Frame) (e ty : ℕ) (r : RealView) (p : PartView) (w : World) : Type 0 where
  pub frame : IsFrame f
  pub known : ty < length f.defs
  pub one : HasOne f e ty w
  pub spared : IsSpared e w
  pub still : (x y : ℕ) → (entity_flow e w).mail x y ≡ []
  pub real : (k : ℕ) (q : RealView) → real_at e w k ≡ Some q → r ≡ q
  pub here : ((entity_flow e w).slot (home_of f e)).base.part ≡ Some p
  pub others : (k : ℕ) → (k ≡ home_of f e → ⊥) → ((entity_flow e w).slot k).base.part ≡ None

module _ (f : Frame) (e ty : ℕ) (r : RealView) (p : PartView) (w : World) (h : HasItStill f e ty r p w) where
  abbrev home : ℕ
  home = home_of f e

  abbrev flow : Flow Has Msg
  flow = entity_flow e w

  pub each_real : (P : RealView → Type 0) → P r → EachReal e P w
  each_real P is = record {
    cells = λ k q at. subst P (h.real k q at) is;
    hands = λ a k. subst (AllByRecursion (λ m. (q : RealView) → real_of m ≡ Some q → P q)) (sym (h.still a k)) tt;
  }

  no_client : p.proxy ≡ None → HasNoClient e w
  no_client none k q at = elim (cases_eq k home) [
    | inl is ↦
        let same : p ≡ q = let z = sym h.here ∙ (ap (λ j. (flow.slot j).base.part) (sym is) ∙ at) in cc in
        ap (λ (y : PartView). y.proxy) (sym same) ∙ none
    | inr n ↦ absurd (let z = sym (h.others k n) ∙ at in cc)
  ]

  module _ (x : ProxyView) (has : p.proxy ≡ Some x) where
    proxy_is : proxy_of (flow.slot home).base.part ≡ Some x
    proxy_is = ap proxy_of h.here ∙ has

    abbrev us : List Shown
    us = letters_of shown_in x.lines

    us_are : shown_at (flow.slot home) ≡ us
    us_are = ap (λ o. letters_of shown_in (lines_in o)) proxy_is

    order_is : updates_at (flow.slot home) ≡ x.updates
    order_is = ap order_in proxy_is

    held_none : x.updates.held ≡ [] → (j : ℕ) → (updates_at (flow.slot j)).held ≡ []
    held_none none j = elim (cases_eq j home) [
      | inl is ↦ ap (λ i. (updates_at (flow.slot i)).held) is ∙ (ap (λ o. o.held) order_is ∙ none)
      | inr n ↦ ap (λ o. (order_in (proxy_of o)).held) (h.others j n)
    ]

    -- what was shown is all that was told, from the number `first` on
    delivered : (first : ℕ) → 1 ≤ first → x.updates.next ≡ first + length us → x.updates.next ≤ 2 ^ 62 → x.updates.held ≡ [] →
        Delivery updates_at shown_at tells flow home first us
    delivered first low at few none =
        let next = ap (λ o. o.next) order_is in
        record {
          rest = [];
          parts = sym (append-nil (shown_at (flow.slot home)) ∙ us_are);
          next = next ∙ (at ∙ ap (λ l. first + length l) (sym us_are));
          small = omega (arith, at, few);
          in_order = record {
            from_one = omega (arith, next, at, low);
            small = omega (arith, next, few);
            rising = subst (RiseFrom (updates_at (flow.slot home)).next) (sym (held_none none home)) tt;
          };
          life = λ n. record {
            slots = λ j. ap (item_at n) (held_none none j);
            mail = λ a b. ap (letters_of (λ m. numbered n (tells m))) (h.still a b);
          };
        }

    starts_served : (v : WitnessView) → r.witness ≡ Some v → AreInStep v x p.version → v.sent < 2 ^ 62 → IsServed f e ty w
    starts_served v seen step few =
        let next = step.next in
        let among = step.shown in
        let sent = ap sent_of seen in
        let first : (n : ℕ) × (1 ≤ n) × (x.updates.next ≡ n + length us) = from (length us) x.updates.next among in
        let at = first.2 in
        served first.0 first.1
        (record {
          frame = h.frame;
          known = h.known;
          one = h.one;
          part = p;
          here = h.here;
          proxy = x;
          has = has;
          lines = step.lines;
          issued = us;
          told = each_real (λ q. sent_by q + 1 ≡ first.0 + length us) (omega (arith, next, sent, at));
          delivery = delivered first.0 first.1 first.2 (omega (arith, next, few)) step.none_held;
        }) (each_real (IsSeen f e true) (ap is_some seen))
      where
        from : (m n : ℕ) → m < n → (k : ℕ) × (1 ≤ k) × (n ≡ k + m)
        from m n lt = (n - m, omega (arith, lt), omega (arith, lt))

  starts_by : (a : Option WitnessView) (b : Option ProxyView) → r.witness ≡ a → p.proxy ≡ b → AreFor a b p.version →
      sent_of a < 2 ^ 62 → IsServed f e ty w
  starts_by None None seen has are few = bare (no_client has) (each_real (IsSeen f e false) (ap is_some seen))
  starts_by None (Some x) seen has are few = absurd are
  starts_by (Some v) None seen has are few = absurd are
  starts_by (Some v) (Some x) seen has are few = starts_served x has v seen are few

  pub starts : AreFor r.witness p.proxy p.version → sent_by r < 2 ^ 62 → IsServed f e ty w
  starts are few = starts_by r.witness p.proxy refl refl are few

-- what its witness told
module _ {f : Frame} {e ty : ℕ} {r : RealView} {p : PartView} {w : World} where
  pub told_at_start : HasItStill f e ty r p w → HasToldAtMost e (sent_by r) w
  told_at_start h = each_real f e ty r p w h (λ q. sent_by q ≤ sent_by r) (omega arith)

-- ---- over a list of events

-- a client in w has numbers until v, where its witness has told at most n
pub record HasNumbers (e n : ℕ) (w v : World) : Type 0 where
  pub room : HasRoomFor e n w
  pub most : HasToldAtMost e n v

module _ (f : Frame) (e ty : ℕ) (w v : World) (es : List Event) (run : RunsTo w es v) (frame : IsInFrame f w)
    (spared : IsSpared e w) (n : ℕ) (numbers : HasNumbers e n w v) where
  pub serves_then : IsServed f e ty w → IsServed f e ty v
  serves_then (bare none unseen) = bare (bare_leads f e w v es frame spared none run) (seen_leads f e false w v es frame unseen run)
  serves_then (served first low client seen) =
      served first low (client_leads f e ty first n w v es client spared numbers.room run numbers.most)
      (seen_leads f e true w v es frame seen run)

-- ---- in a quiet world

module _ (f : Frame) (e ty : ℕ) (v : World) (frame : IsInFrame f v) (quiet : IsQuiet node_has_work v) (k : ℕ) (q : RealView)
    (at : real_at e v k ≡ Some q) (p : PartView) (there : ((entity_flow e v).slot (home_of f e)).base.part ≡ Some p) where
  abbrev end : Has
  end = (entity_flow e v).slot (home_of f e)

  none_seen : (o : Option WitnessView) → is_some o ≡ false → o ≡ None
  none_seen None is = refl
  none_seen (Some w) is = cc

  some_seen : (o : Option WitnessView) → is_some o ≡ true → (w : WitnessView) × (o ≡ Some w)
  some_seen None is = cc
  some_seen (Some w) is = (w, refl)

  module _ (first : ℕ) (low : 1 ≤ first) (h : HasClient f e ty first v) where
    all : shown_at end ≡ h.issued
    all = all_shown f e v frame quiet ty first h

    part_is : h.part ≡ p
    part_is = let z = sym h.here ∙ there in cc

    proxy_there : proxy_of end.base.part ≡ Some h.proxy
    proxy_there = ap proxy_of h.here ∙ h.has

    order_there : updates_at end ≡ h.proxy.updates
    order_there = ap order_in proxy_there

    rest_none : h.delivery.rest ≡ []
    rest_none =
        append_cancel_left (shown_at end) h.delivery.rest []
        (sym h.delivery.parts ∙ (sym all ∙ sym (append-nil (shown_at end))))

    -- nothing is held
    no_item : (n : ℕ) → item_at n (updates_at end).held ≡ None
    no_item n =
        let none : item_at n (number_from (updates_at end).next h.delivery.rest) ≡ None =
        ap (λ l. item_at n (number_from (updates_at end).next l)) rest_none in
        let life =
        subst (Life (λ s. item_at n (updates_at s).held) (λ m. numbered n (tells m)) (entity_flow e v) (home_of f e)) none
        (h.delivery.life n) in
        life.slots (home_of f e)

    empty_by : (ps : List (ℕ × Shown)) → ((n : ℕ) → item_at n ps ≡ None) → ps ≡ []
    empty_by [] none = refl
    empty_by (x ∷ xs) none =
        let first_is : item_at x.0 (x ∷ xs) ≡ Some x.1 = ap (λ c. cond c (Some x.1) (item_at x.0 xs)) (eq-eqb x.0 x.0 refl) in
        absurd (let z = sym first_is ∙ none x.0 in cc)

    in_step : (w : WitnessView) → q.witness ≡ Some w → AreInStep w h.proxy p.version
    in_step w seen =
        let told = h.told.cells k q at in
        let sent = ap sent_of seen in
        let next = h.delivery.next in
        let same = ap (λ o. o.next) order_there in
        let many = ap length all in
        let lines = ap (λ o. length (letters_of shown_in (lines_in o))) proxy_there in
        let last = h.lines in
        let version = ap (λ (y : PartView). y.version) part_is in
        record {
          next = omega (arith, told, sent, next, same, many);
          none_held = ap (λ o. o.held) (sym order_there) ∙ empty_by (updates_at end).held no_item;
          shown = omega (arith, lines, next, same, low);
          lines = omega (arith, last, version);
        }

    ends_served : is_some q.witness ≡ true → AreFor q.witness p.proxy p.version
    ends_served is =
        let w = some_seen q.witness is in
        let has : p.proxy ≡ Some h.proxy = ap (λ (y : PartView). y.proxy) (sym part_is) ∙ h.has in
        subst (λ a. AreFor a p.proxy p.version) (sym w.1)
        (subst (λ b. AreFor (Some w.0) b p.version) (sym has) (in_step w.0 w.1))

  pub ends : IsServed f e ty v → AreFor q.witness p.proxy p.version
  ends (bare none unseen) =
      subst (λ a. AreFor a p.proxy p.version) (sym (none_seen q.witness (unseen.cells k q at)))
      (subst (λ b. AreFor None b p.version) (sym (none (home_of f e) p there)) tt)
  ends (served first low client seen) = ends_served first low client (seen.cells k q at)

-- Each time that a call is passed on it comes to a node of higher rank: an event.
use Rattle.seam_law_bounds.proofs.Prelude.{◌≡◌, ℕ, ◌+◌, ◌<◌, ◌≤◌, ◌⊎◌, Bool, true, false, ◌||◌, ◌&&◌, cond, is_some, is_none, List, [], ◌∷◌}
use Rattle.seam_law_bounds.proofs.Prelude.{◌++◌, length, Option, None, Some, refl, sym, ap, ◌∙◌, subst, arith, inl, inr, AllByRecursion}
use Rattle.seam_law_bounds.proofs.Prelude.{cases_eq, happens, enabled, run, AllEnabled, Occurs, items_to, Input, From, Event, item_at}
use Rattle.seam_law_bounds.proofs.Prelude.{Call as CallData, Order, RealView, Msg, Hand, Reap, NextPlace, RouteView, World, node_steps}
use Rattle.seam_law_bounds.proofs.Prelude.{node_has_work, Flow, Goes, comes, letter_in, letters_of, more_letter, slot_at, IsSilent}
use Rattle.seam_law_bounds.proofs.Prelude.{carried_in, TokenPlace, In, On, number_from, of_number, Frame, Has, kept_if, mine, has_of}
use Rattle.seam_law_bounds.proofs.Prelude.{has_none, entity_flow, MovesTo, real_in, real_of, IsOne, IsFrame, is_visited, cell_order_from}
use Rattle.seam_law_bounds.proofs.Prelude.{AreCallsOf, is_hand_from, has_hand_from, ComesTo, is_handed_over, is_numbered, brings_call}
use Rattle.seam_law_bounds.proofs.Prelude.{was_left, passes_on, hands_over, passes, hand_overs, occurs, Rest, whole, tail, More, own, none}
use Rattle.seam_law_bounds.proofs.Prelude.{change, one_here, first_is, sole_here, event_moves_with, both, goes, room, calm_of, call_in}
use Rattle.seam_law_bounds.proofs.Prelude.{Came, road, items_fit}
use Rattle.seam_law_bounds.specs.Prelude.{rank_of}
use Rattle.seam_machine.proofs.Occurring.{node_there}
use Rattle.seam_call.specs.declared.order.Order.TheVariants as order
use Rattle.seam_entity.specs.declared.message.Msg.TheVariants.{Call}
use Rattle.seam_law_calls.proofs.CellRuns.{Kept, kept_happens, finds}
use Rattle.seam_law_bounds.specs.Passes.{is_to}
use Rattle.seam_law_bounds.proofs.Ranking.{rank_real, rank_next, hand_from, landed_by, Ranked, Raises, raises}
use Rattle.seam_law_bounds.proofs.CallSends.{FewerOrders, Sends, plain, ordered, passed, sends}
use Rattle.seam_law_bounds.proofs.Following.{comes_less, has_before, Follows, follow_more, follow_append, none_follow}
use Rattle.seam_law_bounds.proofs.Alone.{stored, AreOthers, stored_first, IsAlone, alone_by}
use Rattle.seam_node_steps.specs.Prelude.{Boundaries}

-- ---- letters that are no call

module _ (s n : ℕ) where
  no_call : (m : Msg) → call_in m ≡ None → is_numbered s n m ≡ false
  no_call (Call c) h = cc
  no_call _ h = refl

  no_calls : (ps : List (ℕ × Msg)) → IsSilent call_in ps → AllByRecursion (λ p. is_numbered s n p.1 ≡ false) ps
  no_calls [] h = tt
  no_calls (p ∷ ps) h = (no_call p.1 h.0, no_calls ps h.1)

  others_to : (j : ℕ) (ps : List (ℕ × Msg)) → AllByRecursion (λ p. is_numbered s n p.1 ≡ false) ps → AreOthers s n (items_to j ps)
  others_to j ps h = items_fit (λ k m. is_numbered s n m ≡ false) j ps h

  -- the input that brings the call brings it to the entity's flow
  brought : (e : ℕ) (i : Input Msg) → brings_call e s n (Some i) ≡ true →
      (c : CallData) × (is_numbered s n (Call c) ≡ true) × (letter_in (mine e) i ≡ Some (Call c))
  brought e (From a (Call c)) h =
      let p = both (is_to e (Call c)) (is_numbered s n (Call c)) h in
      (c, p.1, ap (λ b. kept_if b (Call c)) p.0)
  brought e _ h = cc

left_of : (r : Option RealView) (q : Option NextPlace) → (is_none r && is_some q) ≡ true → (r ≡ None) × (y : NextPlace) × (q ≡ Some y)
left_of None (Some q) h = (refl, q, refl)
left_of None None h = cc
left_of (Some r) q h = cc

-- the real is here before, and not after
abbrev goes_off : Option RealView → Option RealView → Bool
goes_off a b = is_some a && is_none b

stays_on : (a : Option RealView) (r : RealView) → goes_off a (Some r) ≡ false
stays_on None r = refl
stays_on (Some q) r = refl

-- ---- what waits among the orders

first_gone : (s n : ℕ) (o : Option (ℕ × CallData)) (os : List (ℕ × CallData)) → letters_of (of_number n) (more_letter o os) ≡ [] →
    letters_of (of_number n) os ≡ []
first_gone s n None os h = h
first_gone s n (Some p) os h = by (of_number n p) (letters_of (of_number n) os) h
  where
    by : (o : Option CallData) (ls : List CallData) → more_letter o ls ≡ [] → ls ≡ []
    by None ls h = h
    by (Some x) ls h = cc

module _ (f : Frame) (frame : IsFrame f) (e ty : ℕ) (known : ty < length f.defs) (first : ℕ → ℕ) (batch : ℕ → List CallData)
    (ours : AreCallsOf f e ty batch) (s n low : ℕ) where
  abbrev pub Keeps : World → Type 0
  Keeps w = Kept f frame e ty known first batch ours w

  abbrev pub FollowsFrom : ℕ → World → Type 0
  FollowsFrom m w =
      (k j : ℕ) → Follows (is_numbered s n) m (m ≤ rank_of ((entity_flow e w).slot j)) ((entity_flow e w).mail k j)

  -- the call was passed on p times, and does not wait among the orders where it was; and it comes to a node of rank low + p
  pub record Climbed (p : ℕ) (w : World) : Type 0 where
    pub unsent : (p ≡ 0) ⊎ ((k : ℕ) → stored s n ((entity_flow e w).slot k) ≡ [])
    pub follows : FollowsFrom (low + p) w

  -- the same with what a run keeps: the real was handed over h times since its generation was `low`
  pub record Passing (h p : ℕ) (w : World) : Type 0 where
    pub kept : Keeps w
    pub ranked : Ranked f frame e ty known w
    pub top : ranked.routed.real.generation ≡ low + h
    pub few : p ≤ h
    pub nexts : (k : ℕ) (q : NextPlace) → ((entity_flow e w).slot k).cell.slot.next ≡ Some q → low + 1 ≤ q.generation
    pub climbed : Climbed p w

  -- a call that was sent off last waits there alone, so that it is enough where that is
  settles : (v : World) (k j m p : ℕ) (l : List Msg) (c : CallData) → Keeps v → is_numbered s n (Call c) ≡ true →
      (entity_flow e v).mail k j ≡ l ++ Call c ∷ [] → m ≡ low + p → ComesTo (entity_flow e v) k j m → Climbed p v
  settles v k j m p l c kept is at same comes_to =
      let t = kept.turns s in
      let alone : IsAlone s n (entity_flow e v) k j l =
      alone_by s n (entity_flow e v) k j l c is at (item_at n (number_from t.desk.order.next t.in_turn.rest)) (t.in_turn.life n) in
      record {
        unsent = inr alone.orders;
        follows = subst (λ x. FollowsFrom x v) same (λ x y. there alone x y (cases_eq x k) (cases_eq y j));
      }
    where
      last_by : ComesTo (entity_flow e v) k j m → (m ≤ rank_of ((entity_flow e v).slot j)) ⊎ (has_hand_from m l ≡ true)
      last_by (inl a) = inl a
      last_by (inr a) = inr (has_before m l c (sym (ap (has_hand_from m) at) ∙ a))

      here : IsAlone s n (entity_flow e v) k j l →
          Follows (is_numbered s n) m (m ≤ rank_of ((entity_flow e v).slot j)) ((entity_flow e v).mail k j)
      here alone =
          subst (Follows (is_numbered s n) m (m ≤ rank_of ((entity_flow e v).slot j))) (sym at)
          (follow_append (is_numbered s n) m (m ≤ rank_of ((entity_flow e v).slot j)) l (Call c ∷ [])
          (none_follow (is_numbered s n) m (m ≤ rank_of ((entity_flow e v).slot j)) l alone.before) ((λ z. last_by comes_to), tt))

      there : IsAlone s n (entity_flow e v) k j l → (x y : ℕ) → (x ≡ k) ⊎ (x ≡ k → ⊥) → (y ≡ j) ⊎ (y ≡ j → ⊥) →
          Follows (is_numbered s n) m (m ≤ rank_of ((entity_flow e v).slot y)) ((entity_flow e v).mail x y)
      there alone x y (inl a) (inl b) =
          subst (λ i. Follows (is_numbered s n) m (m ≤ rank_of ((entity_flow e v).slot y)) ((entity_flow e v).mail i y)) (sym a)
          (subst (λ i. Follows (is_numbered s n) m (m ≤ rank_of ((entity_flow e v).slot i)) ((entity_flow e v).mail k i)) (sym b)
          (here alone))
      there alone x y (inr a) b =
          none_follow (is_numbered s n) m (m ≤ rank_of ((entity_flow e v).slot y)) ((entity_flow e v).mail x y)
          (alone.others x y (λ z u. a z))
      there alone x y (inl a) (inr b) =
          none_follow (is_numbered s n) m (m ≤ rank_of ((entity_flow e v).slot y)) ((entity_flow e v).mail x y)
          (alone.others x y (λ z u. b u))

  module _ (h p : ℕ) (w : World) (x : Event) (its : Passing h p w) (on : enabled node_has_work w x ≡ true) where
    abbrev o : Occurs w x
    o = occurs node_has_work w x on

    abbrev next : World
    next = happens node_steps w x

    abbrev before : Flow Has Msg
    before = entity_flow e w

    abbrev after : Flow Has Msg
    after = entity_flow e next

    kept_then : Keeps next
    kept_then = kept_happens f frame e ty known first batch ours w x o its.kept

    abbrev rise : Raises f frame e ty known w next its.ranked
    rise = raises f frame e ty known w x o its.ranked

    -- where the real is or was, the rank is at least the least one
    high_by : (k : ℕ) (r : Option RealView) (q : Option NextPlace) → real_in (before.slot k) ≡ r → (before.slot k).cell.slot.next ≡ q →
        (is_some r || is_some q) ≡ true → low ≤ rank_of (before.slot k)
    high_by k (Some r) q has at z =
        let same = (sole_here real_in real_of before its.ranked.routed.place its.ranked.routed.real r k its.ranked.routed.one has).1 in
        let gen = ap (λ (y : RealView). y.generation) same in
        let rank = rank_real (before.slot k) r has in
        let top = its.top in
        omega (arith, gen, rank, top)
    high_by k None (Some q) has at z =
        let rank = rank_next (before.slot k) q has at in
        let up = its.nexts k q at in
        omega (arith, rank, up)
    high_by k None None has at z = cc

    high : (k : ℕ) → is_visited (before.slot k) ≡ true → low ≤ rank_of (before.slot k)
    high k z = high_by k (real_in (before.slot k)) (before.slot k).cell.slot.next refl refl z

    -- ---- a step by which the call comes from a link, and what its node has then

    module _ {Fact : Has → Option Msg → Type 0}
        (g : Goes (λ k a i b out. MovesTo f e k a i b out × Fact a i) before after) where
      abbrev sent : List (ℕ × Msg)
      sent = g.moves.0.sent

      came_from : (c : CallData) → comes g.input ≡ Some (Call c) → (a : ℕ) × (before.mail a g.k ≡ Call c ∷ g.rest)
      came_from c is =
          let i = first_is (λ y. None) Some before g.k g.input g.rest (Call c) g.head (ap (carried_in Some) is) in
          let same : i.1 ≡ Call c = let z = i.3 in cc in
          (i.0, i.4 ∙ ap (λ l. l ∷ g.rest) same)

      what : Sends f e g.k (before.slot g.k) (comes g.input) (after.slot g.k) sent
      what =
          sends f e g.k (before.slot g.k) (comes g.input) (after.slot g.k) sent
          (λ c is. let at = came_from c is in (finds f frame e ty known first batch ours w its.kept at.0 g.k c g.rest at.1).cell)
          g.moves.0.moves

      -- the one letter that it sends is the last of its link
      last_of : (j : ℕ) (c : CallData) → sent ≡ (j, Call c) ∷ [] → (l : List Msg) × (after.mail g.k j ≡ l ++ Call c ∷ [])
      last_of j c is = let d = change g g.k j in (d.l, d.is ∙ ap (λ y. d.l ++ y) (by d.m d.more))
        where
          by : (m : List Msg) → More g.out g.k g.k j m → m ≡ Call c ∷ []
          by m (own same z) = z ∙ (g.moves.0.items j ∙ (ap (items_to j) is ∙ one_here j (Call c)))
          by m (none no_ z) = absurd (no_ refl)

      -- the call comes to the node of its head with that rank
      head_high : (c : CallData) → is_numbered s n (Call c) ≡ true → comes g.input ≡ Some (Call c) → low + p ≤ rank_of (before.slot g.k)
      head_high c is came =
          let at = came_from c came in
          (subst (Follows (is_numbered s n) (low + p) (low + p ≤ rank_of (before.slot g.k))) at.1 (its.climbed.follows at.0 g.k)).0 is

      -- a call that is passed on comes to a node of higher rank
      climb_on : (c : CallData) (q : NextPlace) (m : ℕ) → is_numbered s n (Call c) ≡ true → comes g.input ≡ Some (Call c) →
          real_in (before.slot g.k) ≡ None → (before.slot g.k).cell.slot.next ≡ Some q → (after.slot g.k).cell.slot.next ≡ Some q →
          m ≤ low + (p + 1) → ComesTo after g.k q.cell m
      climb_on c q m is came away at then few =
          let head = head_high c is came in
          let rank = rank_next (before.slot g.k) q away at in
          let up = its.nexts g.k q at in
          comes_less after g.k q.cell m q.generation (omega (arith, head, rank, up, few)) (rise.after.ranks.climb g.k q then)

    -- ---- what an event leaves, whether it passes the call on or not

    abbrev calm : letter_in (mine e) o.input ≡ Some (Reap e) → ⊥
    calm = calm_of f e w x o its.ranked.has.fits.frame its.ranked.spared

    abbrev g : Goes (λ k a i b out. MovesTo f e k a i b out × Came f e i) before after
    g = goes f frame e ty known w x o its.ranked.has calm

    lands_high : (r : RealView) (bs : Option Boundaries) → comes g.input ≡ Some (Hand r bs) → rank_of (after.slot g.k) ≡ r.generation
    lands_high r bs is =
        let space = room f frame e ty known w x o its.ranked.has calm in
        landed_by f e w next g space its.ranked.routed its.ranked.ranks (road f e w next g space its.ranked.routed) r bs is

    rest_follows : (k j m : ℕ) (l : List Msg) → Rest before g.k g.input k j l →
        Follows (is_numbered s n) m (m ≤ rank_of (before.slot j)) (before.mail k j) →
        Follows (is_numbered s n) m (m ≤ rank_of (after.slot j)) l
    rest_follows k j m l (whole is no_) old =
        follow_more (is_numbered s n) m (m ≤ rank_of (before.slot j)) (m ≤ rank_of (after.slot j)) l
        (λ a. let up = rise.stays j in omega (arith, a, up))
        (subst (Follows (is_numbered s n) m (m ≤ rank_of (before.slot j))) (sym is) old)
    rest_follows k j m l (tail y at from to is) old =
        follow_more (is_numbered s n) m ((m ≤ rank_of (before.slot j)) ⊎ (is_hand_from m y.1 ≡ true)) (m ≤ rank_of (after.slot j)) l by
        (subst (Follows (is_numbered s n) m (m ≤ rank_of (before.slot j))) is old).1
      where
        by : (m ≤ rank_of (before.slot j)) ⊎ (is_hand_from m y.1 ≡ true) → m ≤ rank_of (after.slot j)
        by (inl a) = let up = rise.stays j in omega (arith, a, up)
        by (inr a) =
            let r = hand_from m y.1 a in
            let rank = lands_high r.0 r.1 (ap comes at ∙ ap Some r.2) in
            let there = ap (λ i. rank_of (after.slot i)) to in
            let big = r.3 in
            omega (arith, rank, there, big)

    fewer_stored : FewerOrders f e g.k (before.slot g.k) (comes g.input) (after.slot g.k) g.moves.0.sent →
        stored s n (before.slot g.k) ≡ [] → stored s n (after.slot g.k) ≡ []
    fewer_stored (inl same) none_ = ap (λ l. letters_of (of_number n) (letters_of (cell_order_from s) l)) same ∙ none_
    fewer_stored (inr d) none_ =
        first_gone s n (cell_order_from s d.0) (letters_of (cell_order_from s) (after.slot g.k).base.orders)
        (sym (ap (λ l. letters_of (of_number n) (letters_of (cell_order_from s) l)) d.1) ∙ none_)

    unsent_by : FewerOrders f e g.k (before.slot g.k) (comes g.input) (after.slot g.k) g.moves.0.sent →
        (p ≡ 0) ⊎ ((k : ℕ) → stored s n (before.slot k) ≡ []) → (p ≡ 0) ⊎ ((k : ℕ) → stored s n (after.slot k) ≡ [])
    unsent_by fewer (inl z) = inl z
    unsent_by fewer (inr all) = inr (λ k. elim (cases_eq k g.k) [
      | inl is ↦ ap (λ i. stored s n (after.slot i)) is ∙ fewer_stored fewer (all g.k)
      | inr no_ ↦ ap (stored s n) (g.others k no_) ∙ all k
    ])

    -- where it does not send the call
    stays_climbed : ((j : ℕ) → AreOthers s n (g.out j)) →
        FewerOrders f e g.k (before.slot g.k) (comes g.input) (after.slot g.k) g.moves.0.sent → Climbed p next
    stays_climbed none_ fewer = record {
      unsent = unsent_by fewer its.climbed.unsent;
      follows = λ k j. let d = change g k j in
          subst (Follows (is_numbered s n) (low + p) (low + p ≤ rank_of (after.slot j))) (sym d.is)
          (follow_append (is_numbered s n) (low + p) (low + p ≤ rank_of (after.slot j)) d.l d.m
          (rest_follows k j (low + p) d.l d.rest (its.climbed.follows k j))
          (none_follow (is_numbered s n) (low + p) _ d.m (more_others k j d.m d.more)));
    }
      where
        more_others : (k j : ℕ) (m : List Msg) → More g.out g.k k j m → AreOthers s n m
        more_others k j m (own same z) = subst (AreOthers s n) (sym z) (none_ j)
        more_others k j m (none no_ z) = subst (AreOthers s n) (sym z) tt

    out_others : AllByRecursion (λ y. is_numbered s n y.1 ≡ false) g.moves.0.sent → (j : ℕ) → AreOthers s n (g.out j)
    out_others h j = subst (AreOthers s n) (sym (g.moves.0.items j)) (others_to s n j g.moves.0.sent h)

    one_other : (j : ℕ) (c : CallData) → g.moves.0.sent ≡ (j, Call c) ∷ [] → is_numbered s n (Call c) ≡ false →
        AllByRecursion (λ y. is_numbered s n y.1 ≡ false) g.moves.0.sent
    one_other j c is other = subst (AllByRecursion (λ y. is_numbered s n y.1 ≡ false)) (sym is) (other, tt)

    none_yet : (c : CallData) (os : List Order) → is_numbered s n (Call c) ≡ true → (before.slot g.k).base.orders ≡ order.Cell c ∷ os →
        (p ≡ 0) ⊎ ((k : ℕ) → stored s n (before.slot k) ≡ []) → p ≡ 0
    none_yet c os is at (inl z) = z
    none_yet c os is at (inr all) =
        absurd (stored_first s n c (letters_of (cell_order_from s) os) is
        (sym (ap (λ l. letters_of (of_number n) (letters_of (cell_order_from s) l)) at) ∙ all g.k))

    ordered_by : (b : Bool) (c : CallData) (r : RouteView) → is_numbered s n (Call c) ≡ b →
        (before.slot g.k).base.orders ≡ order.Cell c ∷ (after.slot g.k).base.orders → (before.slot g.k).base.route ≡ Some r →
        g.moves.0.sent ≡ (r.cell, Call c) ∷ [] → Climbed p next
    ordered_by true c r is at route z =
        let last = last_of g r.cell c z in
        let zero_ = none_yet c (after.slot g.k).base.orders is at its.climbed.unsent in
        let there = high r.cell (its.kept.lead.routes g.k r route) in
        let up = rise.stays r.cell in
        settles next g.k r.cell (low + p) p last.0 c kept_then is last.1 refl (inl (omega (arith, zero_, there, up)))
    ordered_by false c r is at route z = stays_climbed (out_others (one_other r.cell c z is)) (inr (order.Cell c, at))

    passed_by : (b : Bool) (c : CallData) (q : NextPlace) → is_numbered s n (Call c) ≡ b → comes g.input ≡ Some (Call c) →
        real_in (before.slot g.k) ≡ None → (before.slot g.k).cell.slot.next ≡ Some q → (after.slot g.k).cell.slot.next ≡ Some q →
        (after.slot g.k).base.orders ≡ (before.slot g.k).base.orders → g.moves.0.sent ≡ (q.cell, Call c) ∷ [] → Climbed p next
    passed_by true c q is came away at then same z =
        let last = last_of g q.cell c z in
        settles next g.k q.cell (low + p) p last.0 c kept_then is last.1 refl
        (climb_on g c q (low + p) is came away at then (omega arith))
    passed_by false c q is came away at then same z = stays_climbed (out_others (one_other q.cell c z is)) (inl same)

    climbed_by : Sends f e g.k (before.slot g.k) (comes g.input) (after.slot g.k) g.moves.0.sent → Climbed p next
    climbed_by (plain silent idle fewer) = stays_climbed (out_others (no_calls s n g.moves.0.sent silent)) fewer
    climbed_by (ordered c r none_ at route z) = ordered_by (is_numbered s n (Call c)) c r refl at route z
    climbed_by (passed c q came away at then same z) = passed_by (is_numbered s n (Call c)) c q refl came away at then same z

    climbed_then : Climbed p next
    climbed_then = climbed_by (what g)

    -- ---- an event that passes the call on

    abbrev Told : Has → Option Msg → Type 0
    Told a i = (a ≡ has_of e o.node) × (i ≡ letter_in (mine e) o.input)

    told : Goes (λ k a i b out. MovesTo f e k a i b out × Told a i) before after
    told = event_moves_with f w x o its.ranked.has.fits.frame e (λ a i. Told a i) (refl, refl)

    module _ (is : passes_on e s n w x ≡ true) where
      abbrev parts : (brings_call e s n (Some o.input) ≡ true) × (was_left (has_of e o.node) ≡ true)
      parts =
          let b = both _ (was_left (before.slot x.node)) is in
          (ap (brings_call e s n) (sym o.is_fed) ∙ b.0, sym (ap (λ y. was_left (slot_at (has_of e) has_none y)) o.is_node) ∙ b.1)

      abbrev call_is : (c : CallData) × (is_numbered s n (Call c) ≡ true) × (letter_in (mine e) o.input ≡ Some (Call c))
      call_is = brought s n e o.input parts.0

      abbrev comes_there : comes told.input ≡ Some (Call call_is.0)
      comes_there = told.moves.1.1 ∙ call_is.2

      abbrev left : (real_in (before.slot told.k) ≡ None) × (y : NextPlace) × ((before.slot told.k).cell.slot.next ≡ Some y)
      left =
          left_of (real_in (before.slot told.k)) (before.slot told.k).cell.slot.next (ap was_left told.moves.1.0 ∙ parts.1)

      more_by : Sends f e told.k (before.slot told.k) (comes told.input) (after.slot told.k) told.moves.0.sent → Climbed (p + 1) next
      more_by (plain silent idle fewer) = absurd (idle call_is.0 comes_there left.0 left.1 left.2)
      more_by (ordered c r none_ at route z) = absurd (let y = sym none_ ∙ comes_there in cc)
      more_by (passed c q came away at then same z) =
          let one : call_is.0 ≡ c = let y = sym comes_there ∙ came in cc in
          let its_number : is_numbered s n (Call c) ≡ true = subst (λ y. is_numbered s n (Call y) ≡ true) one call_is.1 in
          let last = last_of told q.cell c z in
          settles next told.k q.cell (low + (p + 1)) (p + 1) last.0 c kept_then its_number last.1 refl
          (climb_on told c q (low + (p + 1)) its_number came away at then (omega arith))

      more_climbed : Climbed (p + 1) next
      more_climbed = more_by (what told)

      room_for : p + 1 ≤ h
      room_for =
          let head = head_high told call_is.0 call_is.1 comes_there in
          let rank = rank_next (before.slot told.k) left.1 left.0 left.2 in
          let up = its.nexts told.k left.1 left.2 in
          let most = (its.ranked.ranks.nexts told.k left.1 left.2).1 in
          let top = its.top in
          omega (arith, head, rank, up, most, top)

    passes_by : (b : Bool) → passes_on e s n w x ≡ b → (p + cond {A = ℕ} b 1 0 ≤ h) × Climbed (p + cond {A = ℕ} b 1 0) next
    passes_by true is = (room_for is, more_climbed is)
    passes_by false is =
        let few = its.few in
        let same : p ≡ p + 0 = omega arith in
        (omega (arith, few), subst (λ y. Climbed y next) same climbed_then)

    -- ---- an event that hands the real over

    slot_stays : (k : ℕ) → (k ≡ x.node → ⊥) → after.slot k ≡ before.slot k
    slot_stays k no_ = ap (slot_at (has_of e) has_none) (node_there node_steps w x o k no_)

    handed_is : (a b : TokenPlace) (r q : RealView) → IsOne e w a r → IsOne e next b q → hands_over e w x ≡ is_handed_over a b
    handed_is (In a) (In b) r q one then = elim (cases_eq x.node a) [
      | inl is ↦ elim (cases_eq b x.node) [
        | inl same ↦
            ap (goes_off (real_in (before.slot x.node))) (sym (ap (λ i. real_in (after.slot i)) same) ∙ then.here)
            ∙ stays_on (real_in (before.slot x.node)) q
        | inr no_ ↦ absurd (
            let none_ = one.others b (λ z. no_ (z ∙ sym is)) in
            let some_ = sym (ap real_in (slot_stays b no_)) ∙ then.here in
            let z = sym none_ ∙ some_ in
            cc)
      ]
      | inr no_ ↦ ap (λ y. goes_off y (real_in (after.slot x.node))) (one.others x.node no_)
    ]
    handed_is (In a) (On b d) r q one then = elim (cases_eq x.node a) [
      | inl is ↦
          ap (λ y. goes_off y (real_in (after.slot x.node))) (ap (λ i. real_in (before.slot i)) is ∙ one.here)
          ∙ ap (goes_off (Some r)) (then.slots x.node)
      | inr no_ ↦ absurd (
          let some_ = ap real_in (slot_stays a (λ z. no_ (sym z))) ∙ one.here in
          let z = sym (then.slots a) ∙ some_ in
          cc)
    ]
    handed_is (On a c) b r q one then = ap (λ y. goes_off y (real_in (after.slot x.node))) (one.slots x.node)

    new_next : (q : NextPlace) (k : ℕ) →
        ((before.slot k).cell.slot.next ≡ Some q) ⊎ (q.generation ≡ its.ranked.routed.real.generation + 1) → low + 1 ≤ q.generation
    new_next q k (inl old) = its.nexts k q old
    new_next q k (inr new) = let top = its.top in omega (arith, top, new)

    pub passing_then : Passing (h + cond {A = ℕ} (hands_over e w x) 1 0) (p + cond {A = ℕ} (passes_on e s n w x) 1 0) next
    passing_then =
        let counts = passes_by (passes_on e s n w x) refl in
        let few = counts.0 in
        let top = its.top in
        let handed = handed_is its.ranked.routed.place rise.after.routed.place its.ranked.routed.real rise.after.routed.real
        its.ranked.routed.one rise.after.routed.one in
        let raised = rise.raised ∙ ap (λ y. its.ranked.routed.real.generation + cond {A = ℕ} y 1 0) (sym handed) in
        record {
          kept = kept_then;
          ranked = rise.after;
          top = omega (arith, raised, top);
          few = omega (arith, few);
          nexts = λ k q at. new_next q k (rise.nexts k q at);
          climbed = counts.1;
        }

  -- ---- every list of events

  pub passing_is : (w : World) (h p a b : ℕ) → a ≡ h → b ≡ p → Passing a b w → Passing h p w
  passing_is w h p a b hands times its = subst (λ y. Passing h y w) times (subst (λ y. Passing y b w) hands its)

  pub passing_leads : (w : World) (es : List Event) (h p : ℕ) → Passing h p w → AllEnabled node_has_work node_steps w es →
      Passing (h + hand_overs e w es) (p + passes e s n w es) (run node_steps w es)
  passing_leads w [] h p its on = passing_is w (h + 0) (p + 0) h p (omega arith) (omega arith) its
  passing_leads w (x ∷ es) h p its on =
      let hands = cond {A = ℕ} (hands_over e w x) 1 0 in
      let times = cond {A = ℕ} (passes_on e s n w x) 1 0 in
      let then = happens node_steps w x in
      passing_is (run node_steps then es) (h + (hands + hand_overs e then es)) (p + (times + passes e s n then es))
      (h + hands + hand_overs e then es) (p + times + passes e s n then es) (omega arith) (omega arith)
      (passing_leads then es (h + hands) (p + times) (passing_then h p w x its on.0) on.1)

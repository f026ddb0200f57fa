-- No event lowers a rank, and each next place has a higher one.
use Rattle.seam_law_bounds.proofs.Prelude.{◌≡◌, ℕ, ◌+◌, ◌-◌, ◌<◌, ◌≤◌, ◌⊎◌, Bool, true, false, cond, ◌||◌, nat_le, List, [], ◌∷◌, ◌++◌}
use Rattle.seam_law_bounds.proofs.Prelude.{length, Option, None, Some, refl, sym, ap, ◌∙◌, subst, arith, inl, inr, option_map, cases_eq}
use Rattle.seam_law_bounds.proofs.Prelude.{nat_tests, happens, items_to, Event, RealView, Msg, Hand, NextPlace, World, node_steps, Flow}
use Rattle.seam_law_bounds.proofs.Prelude.{Goes, comes, carried_in, TokenPlace, In, On, Frame, Has, entity_flow, MovesTo, real_in, real_of}
use Rattle.seam_law_bounds.proofs.Prelude.{IsSpared, IsFrame, HasOne, is_hand_from, has_hand_from, ComesTo, AreRanked, is_handed_over}
use Rattle.seam_law_bounds.proofs.Prelude.{Climbs, Rest, whole, tail, More, own, none, change, one_here, sole_here, sole_came, FindsRoom}
use Rattle.seam_law_bounds.proofs.Prelude.{goes, room, one_happens, calm_of, spared_happens, IsRouted, Came, road, grown, place_then}
use Rattle.seam_law_bounds.proofs.Prelude.{routed_by, RunsKeep, runs_keep, Occurs}
use Rattle.seam_law_bounds.specs.Prelude.{rank_of}
use Rattle.seam_machine.proofs.SendLemmas.{items_to-append}
use Rattle.seam_law_rounds.proofs.RoadMoves.{generation_of, generation_in, Roads, plain, arrives, departs}
use Rattle.seam_law_bounds.specs.Ranks.{rank_by}
use Rattle.seam_node_steps.specs.Prelude.{Boundaries}
use Rattle.seam_law_calls.proofs.Holds.{either}

-- ---- lists of letters

from_left : (n : ℕ) (xs ys : List Msg) → has_hand_from n xs ≡ true → has_hand_from n (xs ++ ys) ≡ true
from_left n [] ys h = cc
from_left n (x ∷ xs) ys h = left_by (is_hand_from n x) (has_hand_from n xs) (from_left n xs ys) h
  where
    left_by : (a b : Bool) → (b ≡ true → has_hand_from n (xs ++ ys) ≡ true) → (a || b) ≡ true → (a || has_hand_from n (xs ++ ys)) ≡ true
    left_by true b more h = refl
    left_by false b more h = more h

from_right : (n : ℕ) (xs ys : List Msg) → has_hand_from n ys ≡ true → has_hand_from n (xs ++ ys) ≡ true
from_right n [] ys h = h
from_right n (x ∷ xs) ys h = right_by (is_hand_from n x) (has_hand_from n (xs ++ ys)) (from_right n xs ys h)
  where
    right_by : (a b : Bool) → b ≡ true → (a || b) ≡ true
    right_by true b h = refl
    right_by false b h = h

above_is : (a b : ℕ) → a ≤ b → nat_le a b ≡ true
above_is a b h = grind (arith, nat_tests)

pub hand_from : (n : ℕ) (m : Msg) → is_hand_from n m ≡ true → (r : RealView) × (bs : Option Boundaries) × (m ≡ Hand r bs) ×
    (n ≤ r.generation)
hand_from n (Hand r bs) h = (r, bs, refl, grind (arith, nat_tests, h))
hand_from n _ h = cc

-- ---- ranks of slots

pub rank_real : (h : Has) (r : RealView) → real_in h ≡ Some r → rank_of h ≡ r.generation
rank_real h r at = ap (λ o. rank_by o h.cell.slot.next) at

pub rank_next : (h : Has) (n : NextPlace) → real_in h ≡ None → h.cell.slot.next ≡ Some n → rank_of h ≡ n.generation - 1
rank_next h n away at = ap (λ o. rank_by o h.cell.slot.next) away ∙ ap (rank_by None) at

pub rank_none : (h : Has) → real_in h ≡ None → h.cell.slot.next ≡ None → rank_of h ≡ 0
rank_none h away at = ap (λ o. rank_by o h.cell.slot.next) away ∙ ap (rank_by None) at

abbrev by_generation : Option ℕ → Option NextPlace → ℕ
by_generation (Some g) n = g
by_generation None (Some n) = n.generation - 1
by_generation None None = 0

rank_is_by : (o : Option RealView) (n : Option NextPlace) → rank_by o n ≡ by_generation (option_map generation_of o) n
rank_is_by None None = refl
rank_is_by None (Some n) = refl
rank_is_by (Some r) n = refl

same_rank : (s t : Has) → generation_in t ≡ generation_in s → t.cell.slot.next ≡ s.cell.slot.next → rank_of t ≡ rank_of s
same_rank s t gen next =
    rank_is_by (real_in t) t.cell.slot.next
    ∙ (ap (λ o. by_generation o t.cell.slot.next) gen ∙ (ap (by_generation (generation_in s)) next
    ∙ sym (rank_is_by (real_in s) s.cell.slot.next)))

-- ---- a step

module _ (f : Frame) (e : ℕ) (w v : World)
    (g : Goes (λ k s i t out. MovesTo f e k s i t out × Came f e i) (entity_flow e w) (entity_flow e v))
    (room : (r : RealView) (bs : Option Boundaries) → comes g.input ≡ Some (Hand r bs) → FindsRoom f g.k ((entity_flow e w).slot g.k) r)
    (h : IsRouted f e w)
    (a : AreRanked (entity_flow e w) h.real.generation) where
  abbrev before : Flow Has Msg
  before = entity_flow e w

  abbrev after : Flow Has Msg
  after = entity_flow e v

  abbrev sent : List (ℕ × Msg)
  sent = g.moves.0.sent

  abbrev RoadsOf : Type 0
  RoadsOf = Roads f e g.k (before.slot g.k) (comes g.input) (after.slot g.k) sent

  came_is : (r : RealView) (bs : Option Boundaries) → comes g.input ≡ Some (Hand r bs) → r.generation ≡ h.real.generation
  came_is r bs is = ap generation_of (sole_came real_in real_of g h.place h.real r h.one (ap (carried_in real_of) is)).2

  here_is : (r : RealView) → real_in (before.slot g.k) ≡ Some r → r.generation ≡ h.real.generation
  here_is r is = ap generation_of (sole_here real_in real_of before h.place h.real r g.k h.one is).1

  gone_rank : (q : RealView) (j : ℕ) → real_in (after.slot g.k) ≡ None →
      (after.slot g.k).cell.slot.next ≡ Some (record { cell = j; generation = q.generation }) → rank_of (after.slot g.k) ≡ q.generation - 1
  gone_rank q j gone next = rank_next (after.slot g.k) (record { cell = j; generation = q.generation }) gone next

  -- the rank of the node that makes the step does not fall
  own_rank : RoadsOf → rank_of (before.slot g.k) ≤ rank_of (after.slot g.k)
  own_rank (plain no_hand gen next silent) = let same = same_rank (before.slot g.k) (after.slot g.k) gen next in omega (arith, same)
  own_rank (arrives r bs is low free at next z) =
      let high = a.highest g.k in
      let now = rank_real (after.slot g.k) r at in
      let top = came_is r bs is in
      omega (arith, high, now, top)
  own_rank (departs r q j first no_hand was gone gen next silent z) =
      let had = rank_real (before.slot g.k) r was in
      let now = gone_rank q j gone next in
      omega (arith, had, now, gen)

  pub rank_stays : RoadsOf → (k : ℕ) → rank_of (before.slot k) ≤ rank_of (after.slot k)
  rank_stays x k = elim (cases_eq k g.k) [
    | inl is ↦
        let own = own_rank x in
        let b = ap (λ j. rank_of (before.slot j)) is in
        let c = ap (λ j. rank_of (after.slot j)) is in
        omega (arith, own, b, c)
    | inr n ↦ let same = ap rank_of (g.others k n) in omega (arith, same)
  ]

  abbrev top : RoadsOf → ℕ
  top x = grown f e w v g room h x

  not_less : (x : RoadsOf) → h.real.generation ≤ top x
  not_less (plain no_hand gen next silent) = omega arith
  not_less _ = omega arith

  own_high : (x : RoadsOf) → rank_of (after.slot g.k) ≤ top x
  own_high (plain no_hand gen next silent) =
      let same = same_rank (before.slot g.k) (after.slot g.k) gen next in
      let high = a.highest g.k in
      omega (arith, same, high)
  own_high (arrives r bs is low free at next z) =
      let now = rank_real (after.slot g.k) r at in
      let same = came_is r bs is in
      omega (arith, now, same)
  own_high (departs r q j first no_hand was gone gen next silent z) =
      let now = gone_rank q j gone next in
      let same = here_is r was in
      omega (arith, now, gen, same)

  highest_then : (x : RoadsOf) (k : ℕ) → rank_of (after.slot k) ≤ top x
  highest_then x k = elim (cases_eq k g.k) [
    | inl is ↦ let own = own_high x in let c = ap (λ j. rank_of (after.slot j)) is in omega (arith, own, c)
    | inr n ↦
        let same = ap rank_of (g.others k n) in
        let high = a.highest k in
        let more = not_less x in
        omega (arith, same, high, more)
  ]

  -- ---- next places

  -- the next place was there before, or the real left for it
  data Next (x : RoadsOf) (k : ℕ) (n : NextPlace) : Type 0 where
    was : (before.slot k).cell.slot.next ≡ Some n → Next x k n
    new : (r q : RealView) (j : ℕ) (first : List (ℕ × Msg)) → k ≡ g.k → q.generation ≡ r.generation + 1 →
        r.generation ≡ h.real.generation → top x ≡ h.real.generation + 1 → record { cell = j; generation = q.generation } ≡ n →
        sent ≡ first ++ (j, Hand q None) ∷ [] → Next x k n

  own_next : (x : RoadsOf) (n : NextPlace) → (after.slot g.k).cell.slot.next ≡ Some n → Next x g.k n
  own_next (plain no_hand gen next silent) n at = was (sym next ∙ at)
  own_next (arrives r bs is low free there next z) n at = absurd (let y = sym next ∙ at in cc)
  own_next (departs r q j first no_hand had gone gen next silent z) n at =
      new r q j first refl gen (here_is r had) refl (let y = sym next ∙ at in cc) z

  next_of : (x : RoadsOf) (k : ℕ) (n : NextPlace) → (after.slot k).cell.slot.next ≡ Some n → Next x k n
  next_of x k n at = elim (cases_eq k g.k) [
    | inl is ↦
        subst (λ j. Next x j n) (sym is) (own_next x n (sym (ap (λ j. (after.slot j).cell.slot.next) is) ∙ at))
    | inr m ↦ was (sym (ap (λ s. s.cell.slot.next) (g.others k m)) ∙ at)
  ]

  bounds_by : (x : RoadsOf) (k : ℕ) (n : NextPlace) → Next x k n → (1 ≤ n.generation) × (n.generation ≤ top x)
  bounds_by x k n (was at) =
      let low = (a.nexts k n at).0 in
      let high = (a.nexts k n at).1 in
      let more = not_less x in
      (low, omega (arith, high, more))
  bounds_by x k n (new r q j first is gen same up at z) =
      let now : q.generation ≡ n.generation = ap (λ (y : NextPlace). y.generation) at in
      (omega (arith, now, gen), omega (arith, now, gen, same, up))

  -- a hand-over that comes gives its node its rank
  pub landed_by : (x : RoadsOf) (r : RealView) (bs : Option Boundaries) → comes g.input ≡ Some (Hand r bs) → rank_of (after.slot g.k)
      ≡ r.generation
  landed_by (plain no_hand gen next silent) r bs is = absurd (no_hand r bs is)
  landed_by (departs q p j first no_hand had gone gen next silent z) r bs is = absurd (no_hand r bs is)
  landed_by (arrives q os at low free there next z) r bs is =
      let same : q ≡ r = let y = sym at ∙ is in cc in
      rank_real (after.slot g.k) q there ∙ ap generation_of same

  rest_by : (x : RoadsOf) (k j n : ℕ) (l m : List Msg) → after.mail k j ≡ l ++ m → Rest before g.k g.input k j l →
      has_hand_from n (before.mail k j) ≡ true → ComesTo after k j n
  rest_by x k j n l m is (whole same no_) h =
      inr (ap (has_hand_from n) is ∙ from_left n l m (ap (has_hand_from n) same ∙ h))
  rest_by x k j n l m is (tail p at from to same) h = head_by (either (is_hand_from n p.1) (has_hand_from n l) (sym (ap
      (has_hand_from n) same) ∙ h))
    where
      head_by : (is_hand_from n p.1 ≡ true) ⊎ (has_hand_from n l ≡ true) → ComesTo after k j n
      head_by (inr more) = inr (ap (has_hand_from n) is ∙ from_left n l m more)
      head_by (inl hand) =
          let r = hand_from n p.1 hand in
          let rank = landed_by x r.0 r.1 (ap comes at ∙ ap Some r.2) in
          let there = ap (λ i. rank_of (after.slot i)) to in
          let high = r.3 in
          inl (omega (arith, rank, there, high))

  old_by : (x : RoadsOf) (k j n : ℕ) → ComesTo before k j n → ComesTo after k j n
  old_by x k j n (inl low) = let up = rank_stays x j in inl (omega (arith, low, up))
  old_by x k j n (inr hand) = let c = change g k j in rest_by x k j n c.l c.m c.is c.rest hand

  more_by : (q : RealView) (j : ℕ) (first : List (ℕ × Msg)) (l m : List Msg) → sent ≡ first ++ (j, Hand q None) ∷ [] →
      after.mail g.k j ≡ l ++ m → More g.out g.k g.k j m → has_hand_from q.generation (after.mail g.k j) ≡ true
  more_by q j first l m z is (none no_ nil) = absurd (no_ refl)
  more_by q j first l m z is (own same out) =
      let items : m ≡ items_to j first ++ Hand q None ∷ [] =
      out
      ∙ (g.moves.0.items j
      ∙ (ap (items_to j) z ∙ (items_to-append j first ((j, Hand q None) ∷ []) ∙ ap (λ y. items_to j first ++ y)
      (one_here j (Hand q None))))) in
      ap (has_hand_from q.generation) is
      ∙ from_right q.generation l m
      (ap (has_hand_from q.generation) items
      ∙ from_right q.generation (items_to j first) (Hand q None ∷ [])
      (ap (λ b. b || false) (above_is q.generation q.generation (omega arith))))

  climb_by : (x : RoadsOf) (k : ℕ) (n : NextPlace) → Next x k n → ComesTo after k n.cell n.generation
  climb_by x k n (was at) = old_by x k n.cell n.generation (a.climb k n at)
  climb_by x k n (new r q j first is gen same up at z) =
      let c = change g g.k j in
      subst (λ (y : NextPlace). ComesTo after k y.cell y.generation) at
      (subst (λ i. ComesTo after i j q.generation) (sym is) (inr (more_by q j first c.l c.m z c.is c.more)))

  -- a next place that is new has the generation with which the real left
  raised_by : (x : RoadsOf) (k : ℕ) (n : NextPlace) → Next x k n →
      ((before.slot k).cell.slot.next ≡ Some n) ⊎ (n.generation ≡ h.real.generation + 1)
  raised_by x k n (was at) = inl at
  raised_by x k n (new r q j first is gen same up at z) =
      let now : q.generation ≡ n.generation = ap (λ (y : NextPlace). y.generation) at in
      inr (omega (arith, now, gen, same))

  pub nexts_then : (x : RoadsOf) (k : ℕ) (n : NextPlace) → (after.slot k).cell.slot.next ≡ Some n →
      ((before.slot k).cell.slot.next ≡ Some n) ⊎ (n.generation ≡ h.real.generation + 1)
  nexts_then x k n at = raised_by x k n (next_of x k n at)

  pub ranked_then : (x : RoadsOf) → AreRanked after (top x)
  ranked_then x = record {
    highest = highest_then x;
    nexts = λ k n at. bounds_by x k n (next_of x k n at);
    climb = λ k n at. climb_by x k n (next_of x k n at);
  }

-- ---- hand-overs

same_place : (p : TokenPlace) (n : ℕ) → n ≡ n + cond {A = ℕ} (is_handed_over p p) 1 0
same_place (In k) n = omega arith
same_place (On a b) n = omega arith

lands_in : (p : TokenPlace) (a k n : ℕ) → p ≡ On a k → n ≡ n + cond {A = ℕ} (is_handed_over p (In k)) 1 0
lands_in (On x y) a k n is = omega arith
lands_in (In x) a k n is = cc

leaves_for : (p : TokenPlace) (k j n : ℕ) → p ≡ In k → n + 1 ≡ n + cond {A = ℕ} (is_handed_over p (On k j)) 1 0
leaves_for (In x) k j n is = refl
leaves_for (On x y) k j n is = cc

module _ (f : Frame) (e : ℕ) (w v : World)
    (g : Goes (λ k s i t out. MovesTo f e k s i t out × Came f e i) (entity_flow e w) (entity_flow e v))
    (room : (r : RealView) (bs : Option Boundaries) → comes g.input ≡ Some (Hand r bs) → FindsRoom f g.k ((entity_flow e w).slot g.k) r)
    (h : IsRouted f e w)
    (a : AreRanked (entity_flow e w) h.real.generation) where
  pub handed_by : (x : Roads f e g.k ((entity_flow e w).slot g.k) (comes g.input) ((entity_flow e v).slot g.k) g.moves.0.sent) →
      grown f e w v g room h x ≡ h.real.generation + cond {A = ℕ} (is_handed_over h.place (place_then f e w v g room h x)) 1 0
  handed_by (plain no_hand gen next silent) = same_place h.place h.real.generation
  handed_by (arrives r bs is low free at next z) =
      let from = sole_came real_in real_of g h.place h.real r h.one (ap (carried_in real_of) is) in
      lands_in h.place from.0 g.k h.real.generation from.1
  handed_by (departs r q j first no_hand had gone gen next silent z) =
      leaves_for h.place g.k j h.real.generation (sole_here real_in real_of (entity_flow e w) h.place h.real r g.k h.one had).0

-- ---- every list of events

module _ (f : Frame) (frame : IsFrame f) (e ty : ℕ) (known : ty < length f.defs) where
  -- what a run keeps: the real, wherever it is, and the ranks
  pub record Ranked (w : World) : Type 0 where
    pub has : HasOne f e ty w
    pub spared : IsSpared e w
    pub routed : IsRouted f e w
    pub ranks : AreRanked (entity_flow e w) routed.real.generation

  -- what an event leaves: the ranks after it, none of which fell, and the generation of the real
  pub record Raises (w v : World) (h : Ranked w) : Type 0 where
    pub after : Ranked v
    pub stays : (k : ℕ) → rank_of ((entity_flow e w).slot k) ≤ rank_of ((entity_flow e v).slot k)
    pub nexts : (k : ℕ) (n : NextPlace) → ((entity_flow e v).slot k).cell.slot.next ≡ Some n →
        (((entity_flow e w).slot k).cell.slot.next ≡ Some n) ⊎ (n.generation ≡ h.routed.real.generation + 1)
    pub raised : after.routed.real.generation
        ≡ h.routed.real.generation + cond {A = ℕ} (is_handed_over h.routed.place after.routed.place) 1 0

  module _ (w : World) (v : Event) (o : Occurs w v) (h : Ranked w) where
    abbrev next : World
    next = happens node_steps w v

    pub raises : Raises w next h
    raises =
        let calm = calm_of f e w v o h.has.fits.frame h.spared in
        let g = goes f frame e ty known w v o h.has calm in
        let space = room f frame e ty known w v o h.has calm in
        let x = road f e w next g space h.routed in
        let rises = routed_by f e w next g space h.routed x in
        record {
          after = record {
            has = (one_happens f frame e ty known w v o h.has calm).has;
            spared = spared_happens f e w v o h.has.fits.frame h.spared;
            routed = rises.0;
            ranks = subst (AreRanked (entity_flow e next)) (sym rises.1) (ranked_then f e w next g space h.routed h.ranks x);
          };
          stays = rank_stays f e w next g space h.routed h.ranks x;
          nexts = nexts_then f e w next g space h.routed h.ranks x;
          raised = rises.1 ∙ (handed_by f e w next g space h.routed h.ranks x
              ∙ ap (λ p. h.routed.real.generation + cond {A = ℕ} (is_handed_over h.routed.place p) 1 0) (sym rises.2));
        }

    pub climbs : Climbs e w next
    climbs = record {
      place = h.routed.place;
      real = h.routed.real;
      one = h.routed.one;
      ranks = h.ranks;
      place_then = raises.after.routed.place;
      real_then = raises.after.routed.real;
      one_then = raises.after.routed.one;
      ranks_then = raises.after.ranks;
      stays = raises.stays;
      raised = raises.raised;
    }

  pub ranked_leads : RunsKeep Ranked
  ranked_leads = runs_keep Ranked (λ w v o h. (raises w v o h).after)

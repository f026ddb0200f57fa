-- Over every list of events each base node's newest route, among the one that it has and those on their way, leads to the real.
use Rattle.seam_law_rounds.proofs.Prelude.{◌≡◌, ℕ, zero, suc, ◌+◌, ◌<◌, ◌≤◌, true, is_some, List, [], ◌∷◌, ◌++◌, map, length, Option, None}
use Rattle.seam_law_rounds.proofs.Prelude.{Some, refl, sym, ap, ◌∙◌, subst, arith, inl, inr, option_map, AllByRecursion, range_with_len}
use Rattle.seam_law_rounds.proofs.Prelude.{cases_eq, eq-eqb, ne_eqb, happens, items_to, Event, RealView, Msg, Hand, Current, Reap, limit}
use Rattle.seam_law_rounds.proofs.Prelude.{cell_count, base_numbers, current_to, currents, RouteView, World, node_steps, Flow, Goes, comes}
use Rattle.seam_law_rounds.proofs.Prelude.{letters_of, NotAbove, OfEntry, AllBring, entry_in, greater_entry, Newest, IsSilent, carried_in}
use Rattle.seam_law_rounds.proofs.Prelude.{TokenPlace, In, On, SendsNone, SendsOne, still, turns, lands, leaves, Frame, here_at, Has as Had}
use Rattle.seam_law_rounds.proofs.Prelude.{entity_flow, real_burden, real_in, real_of, IsOne, IsSpared, IsFrame, HasOne, MovesTo, RunsTo}
use Rattle.seam_law_rounds.proofs.Prelude.{real_at, as_entry, route_entry, sent_route, NewestRouteIsRight, all_append, came, sees_none}
use Rattle.seam_law_rounds.proofs.Prelude.{sees_after_silent, sees_one_here, sees_one_there, sole_here, sole_came, sole_goes, mapped_silent}
use Rattle.seam_law_rounds.proofs.Prelude.{goes, room, one_keeps, FindsRoom, sent_kept, items_fit}
use Rattle.seam_law_flow.specs.Prelude.{Has}
use Rattle.seam_law_flow.proofs.NewestLemmas.{newest_stays, newest_rises, newest_rests}
use Rattle.seam_law_rounds.proofs.RoadMoves.{road_of, generation_of, IsGoodRoute, Roads, plain, arrives, departs, roads, Reroutes, reroutes}
use Rattle.seam_node_steps.specs.Prelude.{Boundaries}

-- ---- letters that bring no route and carry no real

no_carried : (i : Option Msg) → ((r : RealView) (bs : Option Boundaries) → i ≡ Some (Hand r bs) → ⊥) → carried_in real_of i ≡ None
no_carried (Some (Hand r bs)) n = absurd (n r bs refl)
no_carried _ n = refl

record Neither (m : Msg) : Type 0 where
  real : real_of m ≡ None
  route : sent_route m ≡ None
  good : IsGoodRoute m

neither : (m : Msg) → road_of m ≡ None → Neither m
neither (Hand r bs) h = cc
neither (Current e j g) h = cc
neither _ h = record { real = refl; route = refl; good = λ x j g is. absurd (let z = is in cc) }

no_reals : (ps : List (ℕ × Msg)) → IsSilent road_of ps → IsSilent real_of ps
no_reals [] h = tt
no_reals (p ∷ ps) h = ((neither p.1 h.0).real, no_reals ps h.1)

no_routes : (ps : List (ℕ × Msg)) → IsSilent road_of ps → AllByRecursion (λ p. sent_route p.1 ≡ None) ps
no_routes [] h = tt
no_routes (p ∷ ps) h = ((neither p.1 h.0).route, no_routes ps h.1)

all_good : (ps : List (ℕ × Msg)) → IsSilent road_of ps → AllByRecursion (λ p. IsGoodRoute p.1) ps
all_good [] h = tt
all_good (p ∷ ps) h = ((neither p.1 h.0).good, all_good ps h.1)

bring_none : (Q : ℕ × ℕ → Type 0) (ms : List Msg) → AllByRecursion (λ m. sent_route m ≡ None) ms → AllBring sent_route Q ms
bring_none Q [] h = tt
bring_none Q (m ∷ ms) h = (subst (OfEntry Q) (sym h.0) tt, bring_none Q ms h.1)

-- ---- what each base node is told of a hand-over that came

told_past : (m : Msg) (a n b : ℕ) → b < a → items_to b (map (λ (x : ℕ). (x, m)) (range_with_len a n)) ≡ []
told_past m a zero b lt = refl
told_past m a (suc n) b lt = rw (ne_eqb a b (λ is. omega (arith, is, lt))) (told_past m (a + 1) n b (omega (arith, lt)))

told_here : (m : Msg) (a n b : ℕ) → a ≤ b → b < a + n → items_to b (map (λ (x : ℕ). (x, m)) (range_with_len a n)) ≡ m ∷ []
told_here m a zero b high low = absurd (omega (arith, high, low))
told_here m a (suc n) b high low = elim (cases_eq a b) [
  | inl is ↦ rw (eq-eqb a b is) (ap (λ l. m ∷ l) (told_past m (a + 1) n b (omega (arith, is))))
  | inr no_ ↦ rw (ne_eqb a b no_) (told_here m (a + 1) n b (omega (arith, high, no_)) (omega (arith, low)))
]

current_good : (k x n : ℕ) → k < cell_count → n < limit → IsGoodRoute (Current x k n)
current_good k x n low few y j m is =
    let a : k ≡ j = let z = is in cc in
    let b : n ≡ m = let z = is in cc in
    (omega (arith, low, a), omega (arith, few, b))

hand_good : (r : RealView) → IsGoodRoute (Hand r None)
hand_good r x j m is = absurd (let z = is in cc)

module _ (f : Frame) (e : ℕ) where
  pub record IsRouted (w : World) : Type 0 where
    pub place : TokenPlace
    pub real : RealView
    pub one : IsOne e w place real
    pub good : (a k : ℕ) → AllByRecursion IsGoodRoute ((entity_flow e w).mail a k)
    pub there : (b : ℕ) → cell_count ≤ b → b < cell_count + f.settings.bases → is_some ((entity_flow e w).slot b).base.route ≡ true
    pub known : (b : ℕ) → cell_count ≤ b → b < cell_count + f.settings.bases → NewestRouteIsRight place real (entity_flow e w) b

  abbrev Any : RealView → RealView → Type 0
  Any r q = Unit {0}

  same_known : (p : TokenPlace) (r q : RealView) (w : Flow Had Msg) (b : ℕ) → q.generation ≡ r.generation → NewestRouteIsRight p r w b →
      NewestRouteIsRight p q w b
  same_known (In k) r q w b is h = subst (λ n. Newest route_entry sent_route w b n k) (sym is) h
  same_known (On a k) r q w b is h = (h.0, h.1, (let lt = h.2 in omega (arith, lt, is)), h.3)

  told_good : (k : ℕ) (r : RealView) → real_burden r < limit → k < cell_count → (js : List ℕ) →
      AllByRecursion {X = ℕ × Msg} (λ p. IsGoodRoute p.1) (map (current_to (here_at f k) r) js)
  told_good k r few low [] = tt
  told_good k r few low (j ∷ js) =
      let small : r.generation < limit = omega (arith, few) in
      (current_good k r.entity r.generation low small, told_good k r few low js)

  -- what is known of the letter that comes
  abbrev pub Came : Option Msg → Type 0
  Came i = ((r : RealView) (bs : Option Boundaries) → i ≡ Some (Hand r bs) → real_burden r < limit) × (i ≡ Some (Reap e) → ⊥)

  -- ---- a step

  module _ (w v : World) (g : Goes (λ k s i t out. MovesTo f e k s i t out × Came i) (entity_flow e w) (entity_flow e v))
      (room : (r : RealView) (bs : Option Boundaries) → comes g.input ≡ Some (Hand r bs) → FindsRoom f g.k ((entity_flow e w).slot g.k) r)
      (h : IsRouted w) where
    abbrev pub before : Flow Had Msg
    before = entity_flow e w

    abbrev pub after : Flow Had Msg
    after = entity_flow e v

    abbrev pub sent : List (ℕ × Msg)
    sent = g.moves.0.sent

    pub road : Roads f e g.k (before.slot g.k) (comes g.input) (after.slot g.k) sent
    road = roads f e g.k (before.slot g.k) (comes g.input) (after.slot g.k) sent room g.moves.1.1 g.moves.0.moves

    letter_good : (m : Msg) → comes g.input ≡ Some m → IsGoodRoute m
    letter_good m is = (came (λ a k m. IsGoodRoute m) g m is h.good).1

    -- a base node that makes the step
    module _ (high : cell_count ≤ g.k) (low : g.k < cell_count + f.settings.bases) where
      turned : Reroutes f e g.k (before.slot g.k) (comes g.input) (after.slot g.k) sent high (h.there g.k high low) letter_good
      turned =
          reroutes f e g.k (before.slot g.k) (comes g.input) (after.slot g.k) sent high (h.there g.k high low) letter_good g.moves.0.moves

    module _ (b : ℕ) (high : cell_count ≤ b) (low : b < cell_count + f.settings.bases) where
      takes : g.k ≡ b → route_entry (after.slot b) ≡ greater_entry (route_entry (before.slot b)) (entry_in sent_route (comes g.input))
      takes is =
          subst (λ x. route_entry (after.slot x) ≡ greater_entry (route_entry (before.slot x)) (entry_in sent_route (comes g.input))) is
          (turned (omega (arith, is, high)) (omega (arith, is, low))).takes

      there_then : is_some (after.slot b).base.route ≡ true
      there_then = elim (cases_eq b g.k) [
        | inl is ↦ ap (λ x. is_some (after.slot x).base.route) is ∙ (turned (omega (arith, is, high)) (omega (arith, is, low))).there
        | inr n ↦ ap (λ s. is_some s.base.route) (g.others b n) ∙ h.there b high low
      ]

      no_out : (ps : List (ℕ × Msg)) → AllByRecursion (λ p. sent_route p.1 ≡ None) ps → sent ≡ ps → (key c : ℕ) →
          AllBring sent_route (NotAbove key c) (g.out b)
      no_out ps none is key c =
          bring_none (NotAbove key c) (g.out b)
          (subst (AllByRecursion (λ m. sent_route m ≡ None)) (sym (g.moves.0.items b ∙ ap (items_to b) is)) (items_fit
          (λ k m. sent_route m ≡ None) b ps none))

      stays_new : (key c : ℕ) → Newest route_entry sent_route before b key c → (ps : List (ℕ × Msg)) →
          AllByRecursion (λ p. sent_route p.1 ≡ None) ps → sent ≡ ps → Newest route_entry sent_route after b key c
      stays_new key c n ps none is = newest_stays sent_route route_entry g b key c n takes (no_out ps none is key c)

      known_stays : (p : TokenPlace) (r : RealView) → NewestRouteIsRight p r before b → AllByRecursion (λ p. sent_route p.1 ≡ None) sent →
          NewestRouteIsRight p r after b
      known_stays (In k) r n none = stays_new r.generation k n sent none refl
      known_stays (On a k) r n none = (n.0, n.1, n.2, stays_new n.0 n.1 n.3 sent none refl)

    good_then : AllByRecursion (λ p. IsGoodRoute p.1) sent → (a k : ℕ) → AllByRecursion IsGoodRoute (after.mail a k)
    good_then all =
        sent_kept (λ a k m. IsGoodRoute m) g sent g.moves.0.items h.good all

    sends_none : IsSilent road_of sent → SendsNone real_of g.out
    sends_none silent j = ap (letters_of real_of) (g.moves.0.items j) ∙ sees_none real_of j sent (no_reals sent silent)

    -- what is routed then, the generation of the real, and where it is
    abbrev pub Grows : ℕ → TokenPlace → Type 0
    Grows n p = (x : IsRouted v) × (x.real.generation ≡ n) × (x.place ≡ p)

    -- the real stays
    plain_by : (x y : Option RealView) → real_in (before.slot g.k) ≡ x → real_in (after.slot g.k) ≡ y →
        option_map generation_of y ≡ option_map generation_of x → carried_in real_of (comes g.input) ≡ None → IsSilent road_of sent →
        Grows h.real.generation h.place
    plain_by None None was is gen none silent = (
      record {
        place = h.place;
        real = h.real;
        one = sole_goes real_in real_of Any g h.place h.real h.one (still (is ∙ sym was) none (sends_none silent));
        good = good_then (all_good sent silent);
        there = there_then;
        known = λ b high low. known_stays b high low h.place h.real (h.known b high low) (no_routes sent silent);
      },
      refl,
      refl,
    )
    plain_by (Some r) (Some q) was is gen none silent =
        let same = (sole_here real_in real_of before h.place h.real r g.k h.one was).1 in
        let rise : q.generation ≡ h.real.generation = (let z : q.generation ≡ r.generation = let y = gen in cc in z)
        ∙ ap generation_of same in (
          record {
            place = h.place;
            real = q;
            one = sole_goes real_in real_of Any g h.place h.real h.one (turns r q was is (inr tt) none (sends_none silent));
            good = good_then (all_good sent silent);
            there = there_then;
            known = λ b high low.
                known_stays b high low h.place q (same_known h.place h.real q before b rise (h.known b high low)) (no_routes sent silent);
          },
          rise,
          refl,
        )
    plain_by None (Some q) was is gen none silent = cc
    plain_by (Some r) None was is gen none silent = cc

    -- the real comes
    key_by : (p : TokenPlace) (a b : ℕ) → p ≡ On a g.k → NewestRouteIsRight p h.real before b →
        (key : ℕ) × (c : ℕ) × (key < h.real.generation) × Newest route_entry sent_route before b key c
    key_by (On x y) a b is n = n
    key_by (In x) a b is n = cc

    arrives_by : (r : RealView) (bs : Option Boundaries) → comes g.input ≡ Some (Hand r bs) → g.k < cell_count → real_in (after.slot g.k)
        ≡ Some r →
        sent ≡ currents (here_at f g.k) r → Grows h.real.generation (In g.k)
    arrives_by r bs is low at z =
        let carried = ap (carried_in real_of) is in
        let from = sole_came real_in real_of g h.place h.real r h.one carried in
        let no_hands : IsSilent real_of sent =
        subst (IsSilent real_of) (sym z) (mapped_silent real_of (current_to (here_at f g.k) r) (λ b. refl) (base_numbers
        (here_at f g.k))) in
        let none : SendsNone real_of g.out =
        λ j. ap (letters_of real_of) (g.moves.0.items j) ∙ sees_none real_of j sent no_hands in (
          record {
            place = In g.k;
            real = r;
            one = sole_goes real_in real_of Any g h.place h.real h.one (lands r r carried at (inl refl) none);
            good = good_then (subst (AllByRecursion (λ p. IsGoodRoute p.1)) (sym z) (told_good g.k r (g.moves.1.0 r bs is) low
                (base_numbers (here_at f g.k))));
            there = there_then;
            known = λ b high below.
                let n = key_by h.place from.0 b from.1 (h.known b high below) in
                let out : g.out b ≡ Current r.entity g.k r.generation ∷ [] =
                g.moves.0.items b ∙ (ap (items_to b) z ∙ told_here
                (Current r.entity g.k r.generation) cell_count f.settings.bases b high below) in
                newest_rises sent_route route_entry g b n.0 r.generation n.1 g.k n.3
                (let lt = n.2 in let gen = ap generation_of from.2 in omega (arith, lt, gen))
                (λ same. absurd (omega (arith, same, low, high)))
                (subst (AllBring sent_route (NotAbove r.generation g.k)) (sym out) (inr (refl, refl), tt))
                (inr (subst (Has sent_route (r.generation, g.k)) (sym out) (inl refl)));
          },
          ap generation_of from.2,
          refl,
        )

    -- the real goes
    at_by : (p : TokenPlace) (b : ℕ) → p ≡ In g.k → NewestRouteIsRight p h.real before b →
        Newest route_entry sent_route before b h.real.generation g.k
    at_by (In x) b is n = let same : x ≡ g.k = let z = is in cc in subst (Newest route_entry sent_route before b h.real.generation) same n
    at_by (On x y) b is n = cc

    departs_by : (r q : RealView) (j : ℕ) (first : List (ℕ × Msg)) →
        ((x : RealView) (bs : Option Boundaries) → comes g.input ≡ Some (Hand x bs) → ⊥) →
        real_in (before.slot g.k) ≡ Some r → real_in (after.slot g.k) ≡ None → q.generation ≡ r.generation + 1 → IsSilent road_of first →
        sent ≡ first ++ (j, Hand q None) ∷ [] → Grows (h.real.generation + 1) (On g.k j)
    departs_by r q j first no_hand was gone gen silent z =
        let at = sole_here real_in real_of before h.place h.real r g.k h.one was in
        let one : SendsOne real_of g.out j q = record {
          here =
              ap (letters_of real_of) (g.moves.0.items j ∙ ap (items_to j) z)
              ∙ (sees_after_silent real_of j first ((j, Hand q None) ∷ []) (no_reals first silent) ∙ sees_one_here real_of j (Hand q None));
          others = λ x n.
              ap (letters_of real_of) (g.moves.0.items x ∙ ap (items_to x) z)
              ∙ (sees_after_silent real_of x first ((j, Hand q None) ∷ []) (no_reals first silent) ∙ sees_one_there real_of j x
              (Hand q None) n);
        } in
        let rise : h.real.generation < q.generation = let same = ap generation_of at.1 in omega (arith, gen, same) in (
          record {
            place = On g.k j;
            real = q;
            one = sole_goes real_in real_of Any g h.place h.real h.one (leaves r q j was gone (inr tt) (no_carried
                (comes g.input) no_hand) one);
            good = good_then (subst (AllByRecursion (λ p. IsGoodRoute p.1)) (sym z)
                (all_append (λ p. IsGoodRoute p.1) first ((j, Hand q None) ∷ []) (all_good first silent) (hand_good q, tt)));
            there = there_then;
            known = λ b high low. (
              h.real.generation,
              g.k,
              rise,
              stays_new b high low h.real.generation g.k (at_by h.place b at.0 (h.known b high low)) (first ++ (j, Hand q None) ∷ [])
                  (all_append (λ p. sent_route p.1 ≡ None) first ((j, Hand q None) ∷ []) (no_routes first silent) (refl, tt)) z,
            );
          },
          gen ∙ ap (λ x. generation_of x + 1) at.1,
          refl,
        )

    -- the generation after the step: it rises by one where the real is handed over
    abbrev pub grown : Roads f e g.k (before.slot g.k) (comes g.input) (after.slot g.k) sent → ℕ
    grown (plain no_hand gen next silent) = h.real.generation
    grown (arrives r bs is low free at next z) = h.real.generation
    grown (departs r q j first no_hand was gone gen next silent z) = h.real.generation + 1

    abbrev pub place_then : Roads f e g.k (before.slot g.k) (comes g.input) (after.slot g.k) sent → TokenPlace
    place_then (plain no_hand gen next silent) = h.place
    place_then (arrives r bs is low free at next z) = In g.k
    place_then (departs r q j first no_hand was gone gen next silent z) = On g.k j

    pub routed_by : (x : Roads f e g.k (before.slot g.k) (comes g.input) (after.slot g.k) sent) → Grows (grown x) (place_then x)
    routed_by (plain no_hand gen next silent) =
        plain_by (real_in (before.slot g.k)) (real_in (after.slot g.k)) refl refl gen (no_carried (comes g.input) no_hand) silent
    routed_by (arrives r bs is low free at next z) = arrives_by r bs is low at z
    routed_by (departs r q j first no_hand was gone gen next silent z) = departs_by r q j first no_hand was gone gen silent z

    pub routed_goes : IsRouted v
    routed_goes = (routed_by road).0

  -- ---- every list of events

  module _ (frame : IsFrame f) (ty : ℕ) (known : ty < length f.defs) where
    pub routed_leads : (w v : World) (es : List Event) → HasOne f e ty w → IsSpared e w → IsRouted w → RunsTo w es v → IsRouted v
    routed_leads w v es has spared routed run =
        one_keeps f frame e ty known IsRouted (λ x a o one its calm was.
        routed_goes x (happens node_steps x a) (goes f frame e ty known x a o one calm) (room f frame e ty known x a o one calm) was) w v es
        has spared run routed

  -- ---- where nothing is on its way

  route_by : (o : Option RouteView) (key c : ℕ) → is_some o ≡ true → as_entry o ≡ (key, c) → o ≡ Some
      (record { cell = c; generation = key })
  route_by None key c some is = cc
  route_by (Some x) key c some is =
      let a : x.generation ≡ key = ap (λ p. p.0) is in
      let b : x.cell ≡ c = ap (λ p. p.1) is in
      ap (λ j. let y : RouteView = record { cell = j; generation = x.generation } in Some y) b
      ∙ ap (λ n. let y : RouteView = record { cell = c; generation = n } in Some y) a

  module _ (w : World) (h : IsRouted w) (still : (a k : ℕ) → (entity_flow e w).mail a k ≡ []) (k : ℕ) (r : RealView)
      (here : real_at e w k ≡ Some r) (b : ℕ) (high : cell_count ≤ b) (low : b < cell_count + f.settings.bases) where
    at_home : (p : TokenPlace) → p ≡ In k → NewestRouteIsRight p h.real (entity_flow e w) b →
        Newest route_entry sent_route (entity_flow e w) b h.real.generation k
    at_home (In x) is n =
        let same : x ≡ k = let z = is in cc in
        subst (Newest route_entry sent_route (entity_flow e w) b h.real.generation) same n
    at_home (On x y) is n = cc

    pub quiet_route : ((entity_flow e w).slot b).base.route ≡ Some (record { cell = k; generation = r.generation })
    quiet_route =
        let at = sole_here real_in real_of (entity_flow e w) h.place h.real r k h.one here in
        let n = at_home h.place at.0 (h.known b high low) in
        route_by ((entity_flow e w).slot b).base.route r.generation k (h.there b high low)
        (newest_rests sent_route route_entry (entity_flow e w) b h.real.generation k n (λ x. still x b)
        ∙ ap (λ m. let p : ℕ × ℕ = (m, k) in p) (sym (ap generation_of at.1)))

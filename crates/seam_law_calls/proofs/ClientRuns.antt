-- An entity's client: what each event keeps of it, and what an update finds that comes.
use Rattle.seam_law_calls.proofs.Prelude.{◌≡◌, ℕ, ◌+◌, ◌<◌, ◌≤◌, true, false, not, is_some, List, [], ◌∷◌, ◌++◌, length, ◌⊎◌, Option, None}
use Rattle.seam_law_calls.proofs.Prelude.{Some, refl, sym, ap, ◌∙◌, subst, arith, inl, inr, cond, Bool, option_map, AllByRecursion, nat_cmp}
use Rattle.seam_law_calls.proofs.Prelude.{Ordering, Less, Equal, Greater, cases_eq, eq-eqb, length-append, happens, Occurs, Event, item_at}
use Rattle.seam_law_calls.proofs.Prelude.{next_item, after_item, Order, Shown, RealView, Msg, Hand, Update, limit, may_rise, Here}
use Rattle.seam_law_calls.proofs.Prelude.{may_offer, PartView, ProxyView, line_if, base_text, may_show, stray_update, stray_proxy_update}
use Rattle.seam_law_calls.proofs.Prelude.{offered_update, shows_next, World, node_steps, Flow, Goes, comes, letters_of, more_letter}
use Rattle.seam_law_calls.proofs.Prelude.{carried_in, TokenPlace, In, On, SoleIn, Sole, Delivery, IsToward, Life, number_from, Frame}
use Rattle.seam_law_calls.proofs.Prelude.{here_at, Has, AtBase, entity_flow, MovesTo, real_in, real_of, IsSpared, IsOne, Missed, sent_by}
use Rattle.seam_law_calls.proofs.Prelude.{base_burden, home_of, tells, proxy_of, order_in, updates_at, shown_at, EachReal, HasToldAtMost}
use Rattle.seam_law_calls.proofs.Prelude.{HasClient, HasRoomFor, FindsClient, real_at, letters_kept, came, one_more, first_is, sole_first}
use Rattle.seam_law_calls.proofs.Prelude.{sole_here, item_bounds, offer_next, offer_early, delivery_goes}
use Rattle.seam_law_flow.specs.Prelude.{numbered}
use Rattle.seam_call.specs.declared.order.Order.TheVariants as order
use Rattle.seam_call.specs.declared.shown.Update.{Update as UpdateData}
use Rattle.seam_law_calls.proofs.Classify.{event_moves}
use Rattle.seam_law_calls.proofs.Holds.{all_two, below_is}
use Rattle.seam_law_calls.proofs.OneReal.{one_happens, calm_of}
use Rattle.seam_law_calls.proofs.PartSteps.{equal_of, greater_of, part_moves}
use Rattle.seam_law_calls.proofs.ClientSteps.{CallShown, as_it_was, lined, ClientAfter, keeps, calls, misses_it, is_told, is_shown}
use Rattle.seam_law_calls.proofs.ClientSteps.{client_after}
use Rattle.seam_law_calls.proofs.WitnessKept.{OfReal, all_weaker}
use Rattle.seam_law_calls.proofs.ClientTold.{Told, told_by}
use Rattle.seam_law_calls.proofs.BaseRuns.{unordered, version_room}

-- ---- the one real is one of the reals

module _ (P : RealView → Type 0) where
  first_by : (m : Msg) (ms : List Msg) (r : RealView) (o : Option RealView) → real_of m ≡ o → OfReal P m →
      (letters_of real_of ms ≡ r ∷ [] → P r) → more_letter o (letters_of real_of ms) ≡ r ∷ [] → P r
  first_by m ms r None is h more at = more at
  first_by m ms r (Some q) is h more at = let same : q ≡ r = cc in h r (is ∙ ap Some same)

  -- what is true of each real that letters carry is true of the only one
  only_hand : (ms : List Msg) (r : RealView) → AllByRecursion (OfReal P) ms → letters_of real_of ms ≡ r ∷ [] → P r
  only_hand [] r h at = cc
  only_hand (m ∷ ms) r h at = first_by m ms r (real_of m) refl h.0 (only_hand ms r h.1) at

  pub one_of : (e : ℕ) (w : World) (p : TokenPlace) (r : RealView) → IsOne e w p r → EachReal e P w → P r
  one_of e w (In k) r one each = each.cells k r one.here
  one_of e w (On a b) r one each = only_hand ((entity_flow e w).mail a b) r (each.hands a b) one.here

  none_by : (m : Msg) (ms : List Msg) (o : Option RealView) → real_of m ≡ o → more_letter o (letters_of real_of ms) ≡ [] →
      (letters_of real_of ms ≡ [] → AllByRecursion (OfReal P) ms) → AllByRecursion (OfReal P) (m ∷ ms)
  none_by m ms None is at more = ((λ r has. let no = sym is ∙ has in absurd cc), more at)
  none_by m ms (Some q) is at more = cc

  -- where letters carry none, anything is true of those that they carry
  none_of_them : (ms : List Msg) → letters_of real_of ms ≡ [] → AllByRecursion (OfReal P) ms
  none_of_them [] at = tt
  none_of_them (m ∷ ms) at = none_by m ms (real_of m) refl at (none_of_them ms)

-- ---- in a world

module _ (f : Frame) (e ty first n : ℕ) (w : World) (h : HasClient f e ty first w) (most : HasToldAtMost e n w)
    (room : HasRoomFor e n w) where
  abbrev flow : Flow Has Msg
  flow = entity_flow e w

  abbrev home : ℕ
  home = home_of f e

  -- no number of an update is greater
  issued_most : first + length h.issued ≤ n + 1
  issued_most =
      let is = one_of (λ r. sent_by r + 1 ≡ first + length h.issued) e w h.one.place h.one.real h.one.one h.told in
      let few = one_of (λ r. sent_by r ≤ n) e w h.one.place h.one.real h.one.one most in
      omega (arith, is, few)

  order_is : updates_at (flow.slot home) ≡ h.proxy.updates
  order_is = ap (λ o. order_in (proxy_of o)) h.here ∙ ap order_in h.has

  next_most : h.proxy.updates.next ≤ n + 1
  next_most =
      let d = h.delivery in
      let same = ap (λ o. o.next) order_is in
      let is = d.next in
      let parts = ap length d.parts ∙ length-append (shown_at (flow.slot home)) d.rest in
      let all = issued_most in
      omega (arith, same, is, parts, all)

  version_most : h.part.version ≤ base_burden e w
  version_most = version_room e w home h.part h.here

  pub last_may_rise : may_rise h.proxy.last ≡ true
  last_may_rise =
      let a = h.lines in
      let b = next_most in
      let c = version_most in
      below_is (h.proxy.last + 1) limit (omega (arith, a, b, c, room))

  -- the base part of the home may be shown a line
  pub part_may_show : (p : PartView) → (flow.slot home).base.part ≡ Some p → may_show p.proxy ≡ true
  part_may_show p has =
      let same : h.part ≡ p = let z = sym h.here ∙ has in cc in
      ap (λ x. may_show x.proxy) (sym same) ∙ (ap may_show h.has ∙ last_may_rise)

  -- ---- an update that comes

  module _ (a k : ℕ) (u : UpdateData) (rest : List Msg) (at : flow.mail a k ≡ Update u ∷ rest) where
    abbrev keeps_it : Has → Option Shown
    keeps_it s = item_at u.number (updates_at s).held

    abbrev bears_it : Msg → Option Shown
    bears_it m = numbered u.number (tells m)

    born : bears_it (Update u) ≡ Some u.shown
    born = ap (λ t. cond t (Some u.shown) None) (eq-eqb u.number u.number refl)

    record Due : Type 0 where
      low : h.proxy.updates.next ≤ u.number
      high : u.number < first + length h.issued
      home_is : k ≡ home
      free : keeps_it (flow.slot k) ≡ None

    due_by : (o : Option Shown) → item_at u.number (number_from (updates_at (flow.slot home)).next h.delivery.rest) ≡ o →
        Life keeps_it bears_it flow home o → Due
    due_by None is life =
        let none = life.mail a k in
        let some = ap (letters_of bears_it) at ∙ one_more keeps_it bears_it (Update u) rest (Some u.shown) born in
        absurd (let z = sym none ∙ some in cc)
    due_by (Some x) is life =
        let c = sole_first keeps_it bears_it flow life.place x u.shown a k (Update u) rest life.sole born at in
        let old : Sole keeps_it bears_it flow (On a k) x = subst (λ z. Sole keeps_it bears_it flow z x) c.0 life.sole in
        let b = item_bounds u.number (updates_at (flow.slot home)).next x h.delivery.rest is in
        let same = ap (λ o. o.next) order_is in
        let low = b.0 in
        let high = b.1 in
        let next = h.delivery.next in
        let parts = ap length h.delivery.parts ∙ length-append (shown_at (flow.slot home)) h.delivery.rest in
        record {
          low = omega (arith, low, same);
          high = omega (arith, high, next, parts);
          home_is = subst (IsToward home) c.0 life.toward;
          free = old.slots k;
        }

    due : Due
    due = due_by (item_at u.number (number_from (updates_at (flow.slot home)).next h.delivery.rest)) refl (h.delivery.life u.number)

    here_now : (flow.slot k).base.part ≡ Some h.part
    here_now = ap (λ x. (flow.slot x).base.part) due.home_is ∙ h.here

    may : may_offer h.proxy.updates u.number ≡ true
    may =
        let low = due.low in
        let high = due.high in
        let from_one = h.delivery.in_order.from_one in
        let same = ap (λ o. o.next) order_is in
        let most = issued_most in
        let there = ap (λ o. item_at u.number (order_in (proxy_of o)).held) here_now ∙ ap (λ o. item_at u.number (order_in o).held) h.has in
        all_two _ _ (below_is 0 u.number (omega (arith, low, from_one, same)))
        (all_two _ _ (below_is (u.number + 1) limit (omega (arith, high, most, room)))
        (ap (λ o. not (is_some o)) (sym there ∙ due.free)))

    pub finds_client : FindsClient f e k (flow.slot k).base u
    finds_client = record {
      home = due.home_is;
      part = h.part;
      here = here_now;
      proxy = h.proxy;
      has = h.has;
      may =
          ap (stray_update u) here_now ∙ (ap (λ o. stray_proxy_update u o) h.has
          ∙ ap not (all_two _ _ may last_may_rise));
    }

-- an update that finds the client is not missed
pub never_missed : (f : Frame) (e k : ℕ) (b : AtBase) (u : UpdateData) → FindsClient f e k b u → Missed (here_at f k) u b.part → ⊥
never_missed f e k b u finds (inl low) = let home = finds.home in omega (arith, low, home)
never_missed f e k b u finds (inr (inl alone)) = let z = sym (alone finds.part finds.here) ∙ finds.has in cc
never_missed f e k b u finds (inr (inr stray)) = let z = sym finds.may ∙ stray in cc

-- ---- the lines

lines_after : (h : Here) (p q : PartView) (x : ProxyView) → CallShown h p q → p.proxy ≡ Some x → x.last ≤ x.updates.next + p.version →
    (y : ProxyView) × (q.proxy ≡ Some y) × (y.last ≤ y.updates.next + q.version)
lines_after h p q x (as_it_was v is) has le = (x, is ∙ has, omega (arith, le, v))
lines_after h p q x (lined due z v is) has le = by due (is ∙ ap (option_map (line_if due (base_text h z))) has)
  where
    by : (d : Bool) → q.proxy ≡ Some (line_if d (base_text h z) x) → (y : ProxyView) × (q.proxy ≡ Some y) ×
        (y.last ≤ y.updates.next + q.version)
    by true at = (_, at, omega (arith, le, v))
    by false at = (x, at, omega (arith, le, v))

-- what an event leaves of the part and its client
record Lined (b : AtBase) : Type 0 where
  part : PartView
  here : b.part ≡ Some part
  proxy : ProxyView
  has : part.proxy ≡ Some proxy
  lines : proxy.last ≤ proxy.updates.next + part.version

lined_same : (s t : AtBase) → t.part ≡ s.part → Lined s → Lined t
lined_same s t is l = record { part = l.part; here = is ∙ l.here; proxy = l.proxy; has = l.has; lines = l.lines }

lined_call : (h : Here) (s t : AtBase) (p q : PartView) → s.part ≡ Some p → t.part ≡ Some q → CallShown h p q → Lined s → Lined t
lined_call h s t p q a b c l =
    let one : l.part ≡ p = let z = sym l.here ∙ a in cc in
    let le = l.lines in
    let v = ap (λ y. y.version) one in
    let after = lines_after h p q l.proxy c (ap (λ y. y.proxy) (sym one) ∙ l.has) (omega (arith, le, v)) in
    record { part = q; here = b; proxy = after.0; has = after.1; lines = after.2 }

-- an update that is shown, or held, adds no more to the last number than to the next
told_lines : (x : ProxyView) (u : UpdateData) (o : Ordering) → nat_cmp u.number x.updates.next ≡ o →
    (offered_update x u o).last + x.updates.next ≤ x.last + (offered_update x u o).updates.next
told_lines x u Less is = omega arith
told_lines x u Equal is =
    let rises = ap (λ o. o.next) (offer_next x.updates u.number u.shown (equal_of u.number x.updates.next is)) in
    omega (arith, rises)
told_lines x u Greater is =
    let same = ap (λ o. o.next) (offer_early x.updates u.number u.shown (greater_of u.number x.updates.next is)) in
    omega (arith, same)

shown_lines : (x : ProxyView) (o : Option Shown) → is_some o ≡ true → next_item x.updates ≡ o →
    (shows_next x o).last + x.updates.next ≤ x.last + (shows_next x o).updates.next
shown_lines x None ready is = cc
shown_lines x (Some s) ready is = let rises = ap (λ i. (after_item x.updates i).next) is in omega (arith, rises)

lined_told : (s t : AtBase) (p : PartView) (x y : ProxyView) → s.part ≡ Some p → p.proxy ≡ Some x →
    t.part ≡ Some (record p { proxy = Some y }) → y.last + x.updates.next ≤ x.last + y.updates.next → Lined s → Lined t
lined_told s t p x y a b c less l =
    let one : l.part ≡ p = let z = sym l.here ∙ a in cc in
    let same : l.proxy ≡ x = let z = sym l.has ∙ (ap (λ q. q.proxy) one ∙ b) in cc in
    let le = l.lines in
    let v = ap (λ q. q.version) one in
    let last = ap (λ q. q.last) same in
    let next = ap (λ q. q.updates.next) same in
    record { part = record p { proxy = Some y }; here = c; proxy = y; has = refl; lines = omega (arith, less, le, v, last, next) }

lined_after : (h : Here) (s : AtBase) (i : Option Msg) (t : AtBase) → ClientAfter h s i t → Lined s → Lined t
lined_after h s i t (keeps n is) l = lined_same s t is l
lined_after h s i t (calls p q n has after c) l = lined_call h s t p q has after c l
lined_after h s i t (misses_it u n why is) l = lined_same s t is l
lined_after h s i t (is_told u p x n has is after) l =
    lined_told s t p x _ has is after (told_lines x u (nat_cmp u.number x.updates.next) refl) l
lined_after h s i t (is_shown p x n has is ready after) l =
    lined_told s t p x _ has is after (shown_lines x (next_item x.updates) ready refl) l

-- ---- an event

module _ (f : Frame) (e ty first n : ℕ) (w : World) (v : Event) (o : Occurs w v) (h : HasClient f e ty first w) (spared : IsSpared e w)
    (most : HasToldAtMost e n w) (room : HasRoomFor e n w) where
  abbrev next : World
  next = happens node_steps w v

  abbrev step : Goes (MovesTo f e) (entity_flow e w) (entity_flow e next)
  step = event_moves f w v o h.one.fits.frame e

  abbrev before : Has
  before = (entity_flow e w).slot step.k

  abbrev after : Has
  after = (entity_flow e next).slot step.k

  abbrev number : ℕ
  number = first + length h.issued

  calm : (os : List Order) → before.base.orders ≡ order.Reap e ∷ os → ⊥
  calm os = unordered e w step.k os spared

  comes_due : (u : UpdateData) → comes step.input ≡ Some (Update u) → FindsClient f e step.k before.base u
  comes_due u is =
      let i = first_is (λ x. None) Some (entity_flow e w) step.k step.input step.rest (Update u) step.head (ap (carried_in Some) is) in
      let same : i.1 ≡ Update u = let z = i.3 in cc in
      finds_client f e ty first n w h most room i.0 step.k u step.rest (i.4 ∙ ap (λ l. l ∷ step.rest) same)

  told : Told f e step.k number before (comes step.input) after step.moves.sent step.out step.moves.items
  told =
      told_by f e step.k number before (comes step.input) after step.moves.sent step.out step.moves.items (λ r is. h.told.cells step.k r is)
      (λ r bs is. (came (λ a k m. (q : RealView) → real_of m ≡ Some q → sent_by q + 1 ≡ number) step (Hand r bs) is h.told.hands).1 r refl)
      (λ u is. never_missed f e step.k before.base u (comes_due u is)) calm step.moves.moves

  abbrev Follows : RealView → Type 0
  Follows r = sent_by r + 1 ≡ number + length told.us

  -- the other reals: there are none where the witness told something
  record Others : Type 0 where
    cells : (k : ℕ) → (k ≡ step.k → ⊥) → (r : RealView) → real_at e w k ≡ Some r → Follows r
    hands : (a k : ℕ) → AllByRecursion (λ m. (r : RealView) → real_of m ≡ Some r → Follows r) ((entity_flow e w).mail a k)

  others_by : (told.us ≡ []) ⊎ ((r : RealView) × (real_in before ≡ Some r)) → Others
  others_by (inl none) =
      let same = ap length none in
      record {
        cells = λ k away r is. let was = h.told.cells k r is in omega (arith, was, same);
        hands = λ a k.
            all_weaker (λ m. (r : RealView) → real_of m ≡ Some r → sent_by r + 1 ≡ number) (λ m. (r : RealView) → real_of m ≡ Some r →
            Follows r) ((entity_flow e w).mail a k) (λ m was r is. let at = was r is in omega (arith, at, same)) (h.told.hands a k);
      }
  others_by (inr p) =
      let at = sole_here real_in real_of (entity_flow e w) h.one.place h.one.real p.0 step.k h.one.one p.1 in
      let one : SoleIn real_in real_of (entity_flow e w) step.k h.one.real =
      subst (λ z. Sole real_in real_of (entity_flow e w) z h.one.real) at.0 h.one.one in
      record {
        cells = λ k away r is. let z = sym (one.others k away) ∙ is in absurd cc;
        hands = λ a k. none_of_them Follows ((entity_flow e w).mail a k) (one.mail a k);
      }

  others : Others
  others = others_by told.teller

  cells_next : (k : ℕ) (r : RealView) → real_at e next k ≡ Some r → Follows r
  cells_next k = elim (cases_eq k step.k) [
    | inl is ↦ subst (λ x. (r : RealView) → real_at e next x ≡ Some r → Follows r) (sym is) told.slot
    | inr away ↦ λ r has. others.cells k away r (ap real_in (sym (step.others k away)) ∙ has)
  ]

  each_next : EachReal e Follows next
  each_next = record {
    cells = cells_next;
    hands = letters_kept (λ a k m. (r : RealView) → real_of m ≡ Some r → Follows r) step others.hands told.hands;
  }

  delivery_next : Delivery updates_at shown_at tells (entity_flow e next) (home_of f e) first (h.issued ++ told.us)
  delivery_next =
      subst (λ us. Delivery updates_at shown_at tells (entity_flow e next) (home_of f e) first (h.issued ++ us)) told.issued
      (delivery_goes updates_at shown_at tells step first h.issued (home_of f e) h.delivery told.passes)

  lined_then : (k : ℕ) → (k ≡ step.k → ⊥) ⊎ (k ≡ step.k) → Lined ((entity_flow e w).slot k).base → Lined ((entity_flow e next).slot k).base
  lined_then k (inl away) l = subst (λ s. Lined s.base) (sym (step.others k away)) l
  lined_then k (inr is) l =
      subst (λ x. Lined ((entity_flow e next).slot x).base) (sym is)
      (lined_after (here_at f step.k) before.base (comes step.input) after.base
      (client_after (here_at f step.k) e before.base (comes step.input) after.base step.moves.sent calm
      (part_moves f e step.k before (comes step.input) after step.moves.sent step.moves.moves))
      (subst (λ x. Lined ((entity_flow e w).slot x).base) is l))

  lined_next : Lined ((entity_flow e next).slot (home_of f e)).base
  lined_next =
      lined_then (home_of f e) (elim (cases_eq (home_of f e) step.k) [ inl is ↦ inr is | inr away ↦ inl away ])
      (record { part = h.part; here = h.here; proxy = h.proxy; has = h.has; lines = h.lines })

  pub client_happens : HasClient f e ty first next
  client_happens =
      let l = lined_next in
      record {
        frame = h.frame;
        known = h.known;
        one = (one_happens f h.frame e ty h.known w v o h.one (calm_of f e w v o h.one.fits.frame spared)).has;
        part = l.part;
        here = l.here;
        proxy = l.proxy;
        has = l.has;
        lines = l.lines;
        issued = h.issued ++ told.us;
        told =
            let many = length-append h.issued told.us in
            record {
              cells = λ k r has. let is = each_next.cells k r has in omega (arith, is, many);
              hands = λ a k.
                  all_weaker (λ m. (r : RealView) → real_of m ≡ Some r → Follows r) (λ m. (r : RealView) → real_of m ≡ Some r →
                  sent_by r + 1 ≡ first + length (h.issued ++ told.us)) ((entity_flow e next).mail a k)
                  (λ m was r is. let at = was r is in omega (arith, at, many)) (each_next.hands a k);
            };
        delivery = delivery_next;
      }

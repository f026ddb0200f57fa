-- Each sender's calls of a batch to base parts are in turn in a loaded world, and it has what the laws of base parts ask.
use Rattle.seam_law_rounds.proofs.Prelude.{◌≡◌, ℕ, ◌+◌, ◌*◌, ◌^◌, ◌<◌, ◌≤◌, Bool, true, false, cond, eqb, nat_lt, List, [], ◌∷◌, map}
use Rattle.seam_law_rounds.proofs.Prelude.{length, Option, None, Some, refl, sym, ap, ◌∙◌, subst, arith, inl, inr, option_map, slice_get}
use Rattle.seam_law_rounds.proofs.Prelude.{AllByRecursion, cases_eq, cases_lt, eqb-true, eq-eqb, ne_eqb, slice_get-map, slice_get_cases}
use Rattle.seam_law_rounds.proofs.Prelude.{items_to, item_at, Call as CallData, Order, Batch, rank_of, order_or, RealView, Msg, limit}
use Rattle.seam_law_rounds.proofs.Prelude.{cell_count, PartView, fits_base_part, NodeView, World, node_has_work, loaded, Flow, slot_at}
use Rattle.seam_law_rounds.proofs.Prelude.{letters_of, more_letter, number_from, of_number, Desk, AreInTurn, Frame, here_at, Has, kept_if}
use Rattle.seam_law_rounds.proofs.Prelude.{has_of, has_none, order_concerns, orders_of, entity_flow, is_from, from_sender, numbered_from}
use Rattle.seam_law_rounds.proofs.Prelude.{base_call_of, part_desk, base_mail, as_base_sender, IsBaseCallOf, AreBaseCallsOf, part_burden}
use Rattle.seam_law_rounds.proofs.Prelude.{node_base_burden, mine_base_burden, base_burden, home_of, IsHomeward, HasPart, HasBaseCalls}
use Rattle.seam_law_rounds.proofs.Prelude.{IsForNode, HasRoutes, real_at, order_in, framed, node_loaded, next_to, base_calls_of}
use Rattle.seam_law_rounds.proofs.Prelude.{base_calls_at, AreBaseNumbered, IsFitBaseOrder, IsForPart, MayBeLoaded, quiet_links, weight_or}
use Rattle.seam_law_rounds.proofs.Prelude.{letters_of-number_from, loaded_in_turn}
use Rattle.std.specs.FinMap as table
use Rattle.seam_call.specs.declared.order.Order.TheVariants as order
use Rattle.seam_law_rounds.proofs.Framing.{in_frame}
use Rattle.seam_law_rounds.proofs.Loading.{loaded_is, node_there}
use Rattle.seam_law_rounds.proofs.Loaded.{no_mail, slot_is}
use Rattle.seam_law_rounds.proofs.Turns.{node_orders, node_none}
use Rattle.seam_law_rounds.proofs.Room.{no_held, none_below, from_all, most, sum_most, rows_none}
use Rattle.seam_law_rounds.proofs.Going.{settled_loaded, spared_loaded}
use Rattle.seam_law_rounds.proofs.PartsLoaded.{LoadedPart}

-- ---- the calls fit

module _ (f : Frame) (e ty s : ℕ) where
  abbrev Ours : List CallData → Type 0
  Ours cs = AllByRecursion (IsBaseCallOf f ty s) cs

  from_by : (c : CallData) (rest : List CallData) (b : Bool) → is_from s c ≡ b → fits_base_part (here_at f 0) ty c ≡ true → Ours rest →
      Ours (more_letter (kept_if b c) rest)
  from_by c rest true is h all = (record { sender = eqb-true (rank_of c.sender) s is; fits = h }, all)
  from_by c rest false is h all = all

  abbrev calls_in : List Order → List CallData
  calls_in os = letters_of (from_sender s) (letters_of base_call_of os)

  ours_by : (o : Order) (rs : List Order) (b : Bool) → order_concerns e o ≡ b → IsFitBaseOrder f e ty o → Ours (calls_in rs) →
      Ours (calls_in (cond b (o ∷ rs) rs))
  ours_by o rs false is h all = all
  ours_by (order.Base c) rs true is h all = from_by c (calls_in rs) (is_from s c) refl (h (eqb-true c.entity e is)) all
  ours_by _ rs true is h all = all

  pub ours : (os : List (ℕ × Order)) → AllByRecursion (λ o. IsFitBaseOrder f e ty o.1) os → Ours (calls_in (orders_of e (map order_in os)))
  ours [] h = tt
  ours (o ∷ os) h = ours_by o.1 (orders_of e (map order_in os)) (order_concerns e o.1) refl h.0 (ours os h.1)

-- ---- how many they are

few_by : (e : ℕ) (o : Order) (rs : List Order) (n : ℕ) (b : Bool) → length (letters_of base_call_of rs) ≤ 3 * n →
    length (letters_of base_call_of (cond b (o ∷ rs) rs)) ≤ 3 * (n + 1)
few_by e o rs n false h = omega (arith, h)
few_by e (order.Cell c) rs n true h = omega (arith, h)
few_by e _ rs n true h = omega (arith, h)

few_calls : (e : ℕ) (os : List Order) → length (letters_of base_call_of (orders_of e os)) ≤ 3 * length os
few_calls e [] = omega arith
few_calls e (o ∷ os) =
    let more = few_by e o (orders_of e os) (length os) (order_concerns e o) (few_calls e os) in
    omega (arith, more)

-- ---- in turn

module _ (f : Frame) (w : World) (b : Batch) (may : MayBeLoaded f w b) (e home : ℕ) (r : RealView)
    (here : real_at e (loaded w b) home ≡ Some r) (its : LoadedPart f w b e r.ty) where
  abbrev g : Frame
  g = framed f b

  abbrev then : Flow Has Msg
  then = entity_flow e (loaded w b)

  abbrev part : PartView
  part = its.settled.part

  for_part : IsForPart f b e part
  for_part = may.brings.calls e part its.settled.here

  still : (x y : ℕ) → then.mail x y ≡ []
  still = no_mail f w b may.begin e

  slot_there : (k : ℕ) (o : Option NodeView) → slice_get w.nodes k ≡ o →
      then.slot k ≡ slot_at (has_of e) has_none (option_map (node_loaded b) o)
  slot_there k o at = slot_is w b e k ∙ ap (λ x. slot_at (has_of e) has_none (option_map (node_loaded b) x)) at

  orders_there : (k : ℕ) (n : NodeView) → slice_get w.nodes k ≡ Some n → cell_count ≤ k →
      (has_of e (node_loaded b n)).base.orders ≡ orders_of e (items_to k b.orders)
  orders_there = node_orders f w b may.begin.between may.begin.fits.tree may.begin.fits.unmoved e

  orders_none : (k : ℕ) (n : NodeView) → slice_get w.nodes k ≡ Some n → k < cell_count → (has_of e (node_loaded b n)).base.orders ≡ []
  orders_none = node_none f w b may.begin.between may.begin.fits.tree may.begin.fits.unmoved e

  module _ (s : ℕ) where
    abbrev kept_in : List Order → List (ℕ × CallData)
    kept_in os = letters_of (numbered_from s) (letters_of base_call_of os)

    abbrev stored : ℕ → List (ℕ × CallData)
    stored k = kept_in (then.slot k).base.orders

    there_by : (k : ℕ) (n : NodeView) → slice_get w.nodes k ≡ Some n → cell_count ≤ k → stored k ≡ base_calls_at b e s k
    there_by k n at high = ap (λ h. kept_in h.base.orders) (slot_there k (Some n) at) ∙ ap kept_in (orders_there k n at high)

    none_by : (k : ℕ) (o : Option NodeView) → slice_get w.nodes k ≡ o → base_calls_at b e s k ≡ [] → stored k ≡ []
    none_by k None at none = ap (λ h. kept_in h.base.orders) (slot_there k None at)
    none_by k (Some n) at none = elim (cases_lt k cell_count) [
      | inr high ↦ there_by k n at high ∙ none
      | inl low ↦ ap (λ h. kept_in h.base.orders) (slot_there k (Some n) at) ∙ ap kept_in (orders_none k n at low)
    ]

    abbrev first : ℕ
    first = next_to s part

    abbrev numbers : AreBaseNumbered f b e s first
    numbers = for_part.numbered s

    abbrev desk_at : List (ℕ × CallData) → Desk CallData
    desk_at held = record { order = record { next = first; held = held }; done = [] }

    store_by : (n : ℕ) (o : Option NodeView) → slice_get w.nodes numbers.node ≡ o →
        letters_of (of_number n) (stored numbers.node) ≡ more_letter (item_at n (number_from first (base_calls_of b e s))) []
    store_by n None at =
        let many = may.begin.between.many in
        let in_net = numbers.in_net in
        elim (slice_get_cases w.nodes numbers.node).1 [
          | inl p ↦ absurd (let z = sym at ∙ p.2 in cc)
          | inr p ↦ let past = p.0 in absurd (omega (arith, past, many, in_net))
        ]
    store_by n (Some m) at =
        ap (letters_of (of_number n)) (there_by numbers.node m at numbers.is_base ∙ numbers.calls)
        ∙ letters_of-number_from n first (base_calls_of b e s)

    sender_in_turn : AreInTurn first (base_calls_of b e s) (as_base_sender s then)
    sender_in_turn = loaded_in_turn first (base_calls_of b e s) (as_base_sender s then) numbers.node (home_of f e) (record {
      mail = λ x y. ap (letters_of (base_mail s)) (still x y);
      store = λ n. store_by n (slice_get w.nodes numbers.node) refl;
      stores = λ j n. none_by j (slice_get w.nodes j) refl (numbers.others j n);
      here =
          ap (part_desk s) its.settled.here
          ∙ (ap (λ d. Some (record { order = order_or (table.get part.orders s); done = letters_of (from_sender s) d })) its.idle
          ∙ ap (λ h. Some (desk_at h)) (its.settled.none_held s));
      others = λ j n. ap (part_desk s) (its.settled.others j n);
      from_one = its.settled.from_one s;
      small = numbers.room;
    })

  -- ---- room

  part_weighs : (k : ℕ) (o : Option PartView) → (k ≡ home_of f e → o ≡ Some part) → ((k ≡ home_of f e → ⊥) → o ≡ None) →
      weight_or part_burden o ≤ cond {A = ℕ} (eqb k (home_of f e)) part.version 0
  part_weighs k o at others = elim (cases_eq k (home_of f e)) [
    | inl is ↦
        let a = ap (weight_or part_burden) (at is) in
        let none = no_held part.orders its.settled.none_held in
        rw (eq-eqb k (home_of f e) is) (omega (arith, a, none))
    | inr n ↦
        let a = ap (weight_or part_burden) (others n) in
        rw (ne_eqb k (home_of f e) n) (omega (arith, a))
  ]

  orders_weigh : (k : ℕ) (n : NodeView) → slice_get w.nodes k ≡ Some n →
      length (letters_of base_call_of (has_of e (node_loaded b n)).base.orders) ≤ 3 * length (items_to k b.orders)
  orders_weigh k n at = elim (cases_lt k cell_count) [
    | inl low ↦ let none = ap (λ os. length (letters_of base_call_of os)) (orders_none k n at low) in omega (arith, none)
    | inr high ↦
        let is = ap (λ os. length (letters_of base_call_of os)) (orders_there k n at high) in
        let few = few_calls e (items_to k b.orders) in
        omega (arith, is, few)
  ]

  node_weighs : (k : ℕ) (n : NodeView) → slice_get w.nodes k ≡ Some n →
      node_base_burden e (node_loaded b n) ≤ most (home_of f e) part.version b.orders k
  node_weighs k n at =
      let same = slot_there k (Some n) at in
      let mine = part_weighs k (has_of e (node_loaded b n)).base.part
      (λ is. ap (λ h. h.base.part) (sym same) ∙ (ap (λ j. (then.slot j).base.part) is ∙ its.settled.here))
      (λ m. ap (λ h. h.base.part) (sym same) ∙ its.settled.others k m) in
      let orders = orders_weigh k n at in
      omega (arith, mine, orders)

  -- what the part has yet to do is not much more than its version
  pub few_more : base_burden e (loaded w b) ≤ part.version + 2 ^ 20
  few_more =
      let nodes : List NodeView = map (node_loaded b) w.nodes in
      let sum = sum_most (home_of f e) part.version b.orders (node_base_burden e) 0 nodes (λ j t at.
      let n = node_there (slice_get w.nodes j) (node_loaded b) t (sym (slice_get-map (node_loaded b) w.nodes j) ∙ at) in
      let same : j ≡ j + 0 = omega arith in
      subst (λ i. node_base_burden e t ≤ most (home_of f e) part.version b.orders i) same
      (subst (λ t. node_base_burden e t ≤ most (home_of f e) part.version b.orders j) n.2 (node_weighs j n.0 n.1))) in
      let all = from_all b.orders in
      let links =
      rows_none (mine_base_burden e) w.rows (quiet_links node_has_work w may.begin.between.nodes.sound.square may.begin.between.quiet) in
      let is = ap (base_burden e) (loaded_is w b) in
      let past : cond {A = ℕ} (nat_lt (home_of f e) 0) 0 part.version ≡ part.version =
      ap (λ c. cond {A = ℕ} c 0 part.version) (none_below (home_of f e)) in
      let short = may.begin.fits.few in
      omega (arith, sum, all, links, is, past, short)

  room : base_burden e (loaded w b) + 1 < limit
  room = let most = few_more in let few = its.small in omega (arith, most, few)

  -- ---- all of it

  has_part : HasPart g e r.ty (loaded w b)
  has_part = record {
    frame = in_frame f w b may.begin;
    part = part;
    here = its.settled.here;
    others = its.settled.others;
    type = its.settled.type;
    calls = λ a k. subst (AllByRecursion (IsHomeward g e k)) (sym (still a k)) tt;
  }

  own_calls : AreBaseCallsOf g r.ty (base_calls_of b e)
  own_calls s =
      subst (λ t. AllByRecursion (IsBaseCallOf g t s) (base_calls_of b e s)) its.settled.type
      (ours g e part.ty s b.orders for_part.fit)

  pub calls_loaded : HasBaseCalls g e r.ty (λ s. next_to s part) (base_calls_of b e) (loaded w b)
  calls_loaded = record {
    part = has_part;
    spared = spared_loaded f w b may.begin e home r here;
    ours = own_calls;
    turns = sender_in_turn;
    room = room;
  }

  pub routes_loaded : HasRoutes g e (loaded w b)
  routes_loaded = record {
    routes = λ k is. (_, (settled_loaded f w b may.begin e home r here).routes k is.from is.below);
    letters = λ a k. subst (AllByRecursion (IsForNode g k)) (sym (still a k)) tt;
  }

-- A loaded world has few entities, and each witness in it is to look few times: so it tells few updates.
use Rattle.seam_law_rounds.proofs.Prelude.{◌≡◌, ℕ, suc, ◌+◌, ◌*◌, ◌^◌, ◌<◌, ◌≤◌, Bool, true, false, cond, eqb, nat_lt, is_some, List, []}
use Rattle.seam_law_rounds.proofs.Prelude.{◌∷◌, length, Option, None, Some, refl, sym, ap, ◌∙◌, subst, arith, inl, inr, option_map}
use Rattle.seam_law_rounds.proofs.Prelude.{slice_get, AllByRecursion, cases_lt, slice_get-map, link, items_to, total, Event, Ghost, copy_in}
use Rattle.seam_law_rounds.proofs.Prelude.{Create, Order, Batch, GhostCopy, RealView, cell_count, base_of, has_any, ready_entity, PartView}
use Rattle.seam_law_rounds.proofs.Prelude.{NodeView, World, node_has_work, Cell, Base, real_if, part_if, with_route, created_at, attached}
use Rattle.seam_law_rounds.proofs.Prelude.{cell_round, base_round, order_if, ordered_at, loaded, with_nodes, Division, leaf_at, cells_of}
use Rattle.seam_law_rounds.proofs.Prelude.{slot_at, letters_of, Frame, here_at, mine, times, order_concerns, orders_of, has_of, has_none}
use Rattle.seam_law_rounds.proofs.Prelude.{real_in, sent_by, EachReal, HasToldAtMost, most_entities, IsBlank, CarriesNoEntity, IsAbsent}
use Rattle.seam_law_rounds.proofs.Prelude.{HasFewEntities, SeesFew, order_looks, node_looks, mine_looks, looks_left, most_shown, RunsTo}
use Rattle.seam_law_rounds.proofs.Prelude.{IsBetweenRounds, each, made, node_loaded, HasPartsBetweenRounds, FitsParts, MayBegin}
use Rattle.seam_law_rounds.proofs.Prelude.{quiet_links, quiet_tasks, NoTicks, each_weaker}
use Rattle.std.specs.FinMap as table
use Rattle.seam_call.specs.declared.order.Order.TheVariants as order
use Rattle.seam_ghosts.proofs.Forgotten.{get_with_copies}
use Rattle.seam_law_calls.proofs.Quieting.{none_left}
use Rattle.seam_law_rounds.proofs.Loading.{each_keeps, Any, any, loaded_is, node_there}
use Rattle.seam_law_rounds.proofs.Loaded.{no_mail, slot_is}
use Rattle.seam_law_rounds.proofs.Making.{AreOthers}
use Rattle.seam_law_rounds.proofs.Room.{from_all, most, sum_most, rows_none}
use Rattle.seam_law_rounds.proofs.Turns.{node_orders, node_none}
use Rattle.seam_law_calls.proofs.Telling.{tells_at_most, sees_few_then}
use Rattle.seam_law_rounds.proofs.Joining.{is_among, peopled, real_in_node, real_joined, real_peopled}
use Rattle.seam_law_rounds.proofs.Attaching.{real_from}
use Rattle.seam_law_rounds.proofs.Serving.{HasItStill, each_real, told_at_start}
use Rattle.seam_law_calls.proofs.Holds.{neither}

-- what a witness tells in a phase of a round is at most this
abbrev pub most_told : ℕ
most_told = 2 ^ 57

-- in v the witness of the entity, whose real was r, has told no more than that
abbrev pub TellsFew : ℕ → RealView → World → Type 0
TellsFew e r v = HasToldAtMost e (sent_by r + most_told) v

-- ---- a load leaves copies and look lists as they are

-- what of a cell no load changes
abbrev aside : ℕ → NodeView → Option GhostCopy × ℕ
aside e n = (copy_in (has_of e n).cell.slot.ghost, (has_of e n).cell.looks)

copy_kept : (o : Option (Ghost GhostCopy)) (c : Option GhostCopy) → copy_in o ≡ c → copy_in (cond (is_some c) o None) ≡ copy_in o
copy_kept o (Some c) is = refl
copy_kept o None is = sym is

module _ (e : ℕ) (g : Option GhostCopy × ℕ) where
  abbrev IsAside : NodeView → Type 0
  IsAside n = aside e n ≡ g

  begun_aside : (n : ℕ) (s : NodeView) → IsAside s → IsAside (base_round n s)
  begun_aside n (Cell c) h = h
  begun_aside n (Base b) h = h

  created_aside : (t : Division) (x : Create) (s : NodeView) → Any x → IsAside s → IsAside (created_at t x s)
  created_aside t x (Cell c) u h = by (eqb (leaf_at t x.pos) c.here.me)
    where
      by : (b : Bool) → IsAside (Cell (real_if b c x))
      by true = h
      by false = h
  created_aside t x (Base n) u h = by (eqb (base_of n.here x.entity) n.here.me)
    where
      by : (b : Bool) → IsAside (Base (part_if b (with_route n x.entity (leaf_at t x.pos)) x))
      by true = h
      by false = h

  joined_aside : (q : ℕ) (s : NodeView) → Any q → IsAside s → IsAside (attached q s)
  joined_aside q (Cell c) u h = h
  joined_aside q (Base n) u h = h

  round_aside : (t : Division) (s : NodeView) → IsAside s → IsAside (cell_round t s)
  round_aside t (Cell c) h =
      let o = table.get c.ghosts e in
      ap (λ c. (c, times e looks)) (ap copy_in (get_with_copies c.ghosts e) ∙ copy_kept o (copy_in o) refl) ∙ h
    where
      looks : List ℕ
      looks = c.looks
  round_aside t (Base n) h = h

  ordered_aside : (o : ℕ × Order) (s : NodeView) → Any o → IsAside s → IsAside (ordered_at o s)
  ordered_aside o (Cell c) u h = h
  ordered_aside o (Base n) u h = by (eqb o.0 n.here.me)
    where
      by : (b : Bool) → IsAside (Base (order_if b n o.1))
      by true = h
      by false = h

  loaded_aside : (b : Batch) (s : NodeView) → IsAside s → IsAside (node_loaded b s)
  loaded_aside b s h =
      each_keeps ordered_at IsAside Any ordered_aside b.orders (any b.orders) (cell_round b.tree (made b s))
      (round_aside b.tree (made b s)
      (each_keeps attached IsAside Any joined_aside b.clients (any b.clients) (each (created_at b.tree) b.creates
      (base_round (cells_of b.tree) s))
      (each_keeps (created_at b.tree) IsAside Any (created_aside b.tree) b.creates (any b.creates) (base_round (cells_of b.tree) s)
      (begun_aside (cells_of b.tree) s h))))

pub idle_looks : (e : ℕ) (s : NodeView) → node_has_work s ≡ false → (has_of e s).cell.looks ≡ 0
idle_looks e (Cell c) h =
    ap (times e) (none_left c.looks (neither (is_some (ready_entity c)) _ (neither (has_any c.survey) _ h).1).1)
idle_looks e (Base n) h = refl

-- ---- how often a witness is to look, by the orders

abbrev order_ticks : Order → ℕ
order_ticks order.Tick = 1
order_ticks _ = 0

abbrev pub ticks_of : List Order → ℕ
ticks_of os = total order_ticks os

one_order : (o : Order) → (order_looks o ≡ 16 * order_ticks o) × (order_ticks o ≤ 1)
one_order (order.Cell c) = (refl, omega arith)
one_order _ = (refl, omega arith)

looks_are : (os : List Order) → total order_looks os ≡ 16 * ticks_of os
looks_are [] = refl
looks_are (o ∷ os) = let one = (one_order o).0 in let more = looks_are os in omega (arith, one, more)

few_ticks : (e : ℕ) (os : List Order) → ticks_of (orders_of e os) ≤ length os
few_ticks e [] = omega arith
few_ticks e (o ∷ os) = by (order_concerns e o) (few_ticks e os)
  where
    by : (b : Bool) → ticks_of (orders_of e os) ≤ length os → ticks_of (cond b (o ∷ orders_of e os) (orders_of e os)) ≤ length (o ∷ os)
    by true more = let one = (one_order o).1 in omega (arith, one, more)
    by false more = omega (arith, more)

abbrev pub node_ticks : ℕ → NodeView → ℕ
node_ticks e n = ticks_of (has_of e n).base.orders

module _ (e : ℕ) where
  -- in nodes that are not about to look
  nodes_look : (ns : List NodeView) → ((k : ℕ) (t : NodeView) → slice_get ns k ≡ Some t → (has_of e t).cell.looks ≡ 0) →
      3 * total (node_looks e) ns ≡ 16 * total (λ t. 3 * node_ticks e t) ns
  nodes_look [] none = refl
  nodes_look (n ∷ ns) none =
      let here = none 0 n refl in
      let orders = looks_are (has_of e n).base.orders in
      let more = nodes_look ns (λ k t at. none (suc k) t at) in
      omega (arith, here, orders, more)

  few_looks : (os : List (ℕ × Order)) (w : World) →
      ((k : ℕ) (t : NodeView) → slice_get w.nodes k ≡ Some t → ((has_of e t).cell.looks ≡ 0) × (node_ticks e t ≤ length (items_to k os))) →
      ((a k : ℕ) → link w.rows a k ≡ []) → looks_left e w ≤ 16 * length os
  few_looks os w each links =
      let looks = nodes_look w.nodes (λ k t at. (each k t at).0) in
      let sum = sum_most 0 0 os (λ t. 3 * node_ticks e t) 0 w.nodes (λ j t at.
      let same : j ≡ j + 0 = omega arith in
      let few = (each j t at).1 in
      subst (λ i. 3 * node_ticks e t ≤ most 0 0 os i) same (omega (arith, few))) in
      let all = from_all os in
      let none = rows_none (mine_looks e) w.rows links in
      let past : cond {A = ℕ} (nat_lt 0 0) 0 0 ≡ 0 = refl in
      omega (arith, looks, sum, all, none, past)

-- ---- so it tells few updates

module _ (f : Frame) (e ty : ℕ) (r : RealView) (p : PartView) (w : World) (h : HasItStill f e ty r p w) (few : HasFewEntities w)
    (sees : SeesFew r) (n : ℕ) (left : looks_left e w ≤ n) (small : n ≤ 2 ^ 23) (v : World) (es : List Event) (run : RunsTo w es v) where
  each_sees : EachReal e SeesFew w
  each_sees = each_real f e ty r p w h SeesFew sees

  told_before : HasToldAtMost e (sent_by r) w
  told_before = told_at_start h

  pub tells_most : HasToldAtMost e (sent_by r + most_shown * n) v
  tells_most =
      each_weaker (λ q. sent_by q ≤ sent_by r + most_shown * looks_left e w) (λ q. sent_by q ≤ sent_by r + most_shown * n) e v
      (λ q le. omega (arith, le, left))
      (tells_at_most f h.frame.tree.cells_to e (sent_by r) w v es h.one.fits.frame few each_sees told_before run)

  pub tells_few : TellsFew e r v
  tells_few =
      each_weaker (λ q. sent_by q ≤ sent_by r + most_shown * n) (λ q. sent_by q ≤ sent_by r + most_told) e v
      (λ q le. omega (arith, le, small)) tells_most

  pub sees_then : EachReal e SeesFew v
  sees_then = sees_few_then f h.frame.tree.cells_to e (sent_by r) w v es h.one.fits.frame few each_sees told_before run

-- ---- a batch

module _ (f : Frame) (w : World) (b : Batch) (begin : MayBegin f w b) (had : HasPartsBetweenRounds f w) (brings : FitsParts f w b) where
  -- an entity past the bound is not created
  others_by : (e : ℕ) → most_entities ≤ e → (xs : List Create) → AllByRecursion (λ x. x.entity < most_entities) xs → AreOthers e xs
  others_by e le [] h = tt
  others_by e le (x ∷ xs) h = ((λ is. let lt = h.0 in omega (arith, is, lt, le)), others_by e le xs h.1)

  module _ (e : ℕ) (le : most_entities ≤ e) where
    blank_by : (k : ℕ) (o : Option NodeView) → slice_get w.nodes k ≡ o →
        IsBlank (slot_at (has_of e) has_none (option_map (node_loaded b) o))
    blank_by k None at = record { real = refl; copy = refl }
    blank_by k (Some s) at =
        let was = subst (λ o. IsBlank (slot_at (has_of e) has_none o)) at (had.entities e le k) in
        record {
          real = real_by (real_in (has_of e (node_loaded b s))) refl was.real;
          copy = ap (λ p. p.0) (loaded_aside e (aside e s) b s refl) ∙ was.copy;
        }
      where
        real_by : (o : Option RealView) → real_in (has_of e (node_loaded b s)) ≡ o → real_in_node e s ≡ None → o ≡ None
        real_by None is none = refl
        real_by (Some r) is none =
            let q =
            real_from (is_among e b.clients) (here_at f k) (real_in_node e (peopled b s)) r
            (sym (real_joined e f b k s (begin.between.nodes.nodes k s at)) ∙ is) in
            let same : real_in_node e (peopled b s) ≡ None = real_peopled e b s (others_by e le b.creates brings.numbers) ∙ none in
            absurd (let z = sym same ∙ q.1 in cc)

    absent_loaded : IsAbsent e (loaded w b)
    absent_loaded = record {
      cells = λ k. subst IsBlank (sym (slot_is w b e k)) (blank_by k (slice_get w.nodes k) refl);
      letters = λ a k. subst (AllByRecursion CarriesNoEntity) (sym (no_mail f w b begin e a k)) tt;
    }

  pub few_loaded : HasFewEntities (loaded w b)
  few_loaded e le = absent_loaded e le

  module _ (e : ℕ) where
    looks_by : (k : ℕ) (s : NodeView) → slice_get w.nodes k ≡ Some s →
        ((has_of e (node_loaded b s)).cell.looks ≡ 0) × (node_ticks e (node_loaded b s) ≤ length (items_to k b.orders))
    looks_by k s at = (
      ap (λ p. p.1) (loaded_aside e (aside e s) b s refl) ∙ idle_looks e s (quiet_tasks node_has_work w begin.between.quiet k s at),
      elim (cases_lt k cell_count) [
        | inl low ↦ let none = ap ticks_of (node_none f w b begin.between begin.fits.tree begin.fits.unmoved e k s at low) in omega
            (arith, none)
        | inr high ↦
            let is = ap ticks_of (node_orders f w b begin.between begin.fits.tree begin.fits.unmoved e k s at high) in
            let few = few_ticks e (items_to k b.orders) in
            omega (arith, is, few)
      ],
    )

    pub looks_loaded : looks_left e (loaded w b) ≤ 16 * length b.orders
    looks_loaded =
        subst (λ v. looks_left e v ≤ 16 * length b.orders) (sym (loaded_is w b))
        (few_looks e b.orders (with_nodes w (node_loaded b))
        (λ k t at.
        let s = node_there (slice_get w.nodes k) (node_loaded b) t (sym (slice_get-map (node_loaded b) w.nodes k) ∙ at) in
        subst (λ t. ((has_of e t).cell.looks ≡ 0) × (node_ticks e t ≤ length (items_to k b.orders))) s.2 (looks_by k s.0 s.1))
        (quiet_links node_has_work w begin.between.nodes.sound.square begin.between.quiet))

-- orders that are no ticks
pub no_ticks : (os : List Order) → NoTicks os → ticks_of os ≡ 0
no_ticks [] h = refl
no_ticks (order.Cell c ∷ os) h = let more = no_ticks os h.1 in omega (arith, more)
no_ticks (order.Base c ∷ os) h = let more = no_ticks os h.1 in omega (arith, more)
no_ticks (order.Tick ∷ os) h = absurd (let z = h.0 in cc)
no_ticks (order.Reap x ∷ os) h = let more = no_ticks os h.1 in omega (arith, more)
no_ticks (order.Bounds x ∷ os) h = let more = no_ticks os h.1 in omega (arith, more)

-- ---- a load that only gives orders

module _ (f : Frame) (u : World) (between : IsBetweenRounds f u) (had : HasPartsBetweenRounds f u) (turn : NodeView → NodeView)
    (cells : (e : ℕ) (s : NodeView) → (has_of e (turn s)).cell ≡ (has_of e s).cell) where
  blank_turned : (e : ℕ) → most_entities ≤ e → (k : ℕ) (o : Option NodeView) → slice_get u.nodes k ≡ o →
      IsBlank (slot_at (has_of e) has_none (option_map turn o))
  blank_turned e le k None at = record { real = refl; copy = refl }
  blank_turned e le k (Some s) at =
      let was = subst (λ o. IsBlank (slot_at (has_of e) has_none o)) at (had.entities e le k) in
      record {
        real = ap (λ c. c.slot.real) (cells e s) ∙ was.real;
        copy = ap (λ c. copy_in c.slot.ghost) (cells e s) ∙ was.copy;
      }

  pub few_turned : HasFewEntities (with_nodes u turn)
  few_turned e le = record {
    cells = λ k.
        subst IsBlank (sym (ap (slot_at (has_of e) has_none) (slice_get-map turn u.nodes k)))
        (blank_turned e le k (slice_get u.nodes k) refl);
    letters = λ a k.
        subst (AllByRecursion CarriesNoEntity)
        (sym (ap (letters_of (mine e)) (quiet_links node_has_work u between.nodes.sound.square between.quiet a k))) tt;
  }

  pub looks_turned : (e : ℕ) (os : List (ℕ × Order)) →
      ((k : ℕ) (s : NodeView) → slice_get u.nodes k ≡ Some s → node_ticks e (turn s) ≤ length (items_to k os)) →
      looks_left e (with_nodes u turn) ≤ 16 * length os
  looks_turned e os few =
      few_looks e os (with_nodes u turn)
      (λ k t at.
      let s = node_there (slice_get u.nodes k) turn t (sym (slice_get-map turn u.nodes k) ∙ at) in
      subst (λ t. ((has_of e t).cell.looks ≡ 0) × (node_ticks e t ≤ length (items_to k os))) s.2
      (ap (λ c. c.looks) (cells e s.0) ∙ idle_looks e s.0 (quiet_tasks node_has_work u between.quiet k s.0 s.1), few k s.0 s.1))
      (quiet_links node_has_work u between.nodes.sound.square between.quiet)

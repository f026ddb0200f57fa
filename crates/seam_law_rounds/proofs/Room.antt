-- What a loaded world has yet to do of an entity leaves room in its numbers.
use Rattle.seam_law_rounds.proofs.Prelude.{◌≡◌, ℕ, suc, ◌+◌, ◌*◌, ◌^◌, ◌<◌, ◌≤◌, Bool, true, false, cond, T, eqb, ◌&&◌, nat_lt, List, []}
use Rattle.seam_law_rounds.proofs.Prelude.{◌∷◌, map, length, Option, None, Some, refl, sym, ap, ◌∙◌, subst, arith, inl, inr, is_lt, find}
use Rattle.seam_law_rounds.proofs.Prelude.{option_map, slice_get, slice_index_or, nat_cmp, below_all, is_sorted, cases_eq, cases_lt, eq-eqb}
use Rattle.seam_law_rounds.proofs.Prelude.{ne_eqb, nat_tests, unsigned_tied, found, link, total, items_to, Occurs, Task, Event, OrderView}
use Rattle.seam_law_rounds.proofs.Prelude.{Call as CallData, Order, Batch, Orders, order_or, RealView, limit, has_any, cell_count, NodeView}
use Rattle.seam_law_rounds.proofs.Prelude.{World, node_has_work, Cell, Base, cell_round, ordered_at, loaded, real_begins, slot_at, Frame}
use Rattle.seam_law_rounds.proofs.Prelude.{Has, has_of, has_none, times, one_more_if, order_concerns, orders_of, entity_flow, held_of}
use Rattle.seam_law_rounds.proofs.Prelude.{held_in, real_burden, order_burden, node_burden, mine_burden, burden, real_in, real_at, each}
use Rattle.seam_law_rounds.proofs.Prelude.{made, node_loaded, MayBegin, quiet_links, weight_or, weight_bounds, slice_get-map}
use Rattle.std.specs.FinMap as table
use Rattle.std.specs.FinMap.Entries.{find as key_find}
use Rattle.seam_net_runs.specs.Weights.{totals, links_weight}
use Rattle.seam_call.specs.declared.order.Order.TheVariants as order
use Rattle.seam_law_rounds.proofs.Loading.{each_keeps, Any, any, loaded_is, node_there, get-each_value}
use Rattle.seam_law_rounds.proofs.Loaded.{Loaded, slot_is}
use Rattle.seam_law_rounds.proofs.Turns.{node_orders, node_none}

-- ---- an entity is at most once in a survey list, and only where its real is

both : (a b : Bool) → T (a && b) → T a × T b
both true b h = (tt, h)
both false b h = absurd h

lies_below : (x y : ℕ) → T (is_lt (nat_cmp x y)) → x < y
lies_below x y h = grind (arith, nat_tests, h)

times_none : {X : Type 0} (e x : ℕ) (ps : List (ℕ × X)) → e ≤ x → T (below_all nat_cmp x ps) → times e (map (λ p. p.0) ps) ≡ 0
times_none e x [] low h = refl
times_none e x (p ∷ ps) low h =
    let two = both (is_lt (nat_cmp x p.0)) (below_all nat_cmp x ps) h in
    let lt = lies_below x p.0 two.0 in
    let apart : p.0 ≡ e → ⊥ = λ is. omega (arith, is, lt, low) in
    ap (λ b. one_more_if b (times e (map (λ p. p.0) ps))) (ne_eqb p.0 e apart) ∙ times_none e x ps low two.1

abbrev pub one_if : {X : Type 0} → Option X → ℕ
one_if None = 0
one_if (Some x) = 1

times_by : {X : Type 0} (e : ℕ) (p : ℕ × X) (ps : List (ℕ × X)) → T (below_all nat_cmp p.0 ps) →
    times e (map (λ p. p.0) ps) ≤ one_if (key_find nat_cmp e ps) → times e (map (λ p. p.0) (p ∷ ps)) ≤ one_if (key_find nat_cmp e (p ∷ ps))
times_by e p ps below more = elim (cases_eq p.0 e) [
  | inl is ↦
      let none = times_none e p.0 ps (omega (arith, is)) below in
      rw (eq-eqb p.0 e is, unsigned_tied e p.0 ∙ eq-eqb e p.0 (sym is)) (omega (arith, none))
  | inr n ↦ rw (ne_eqb p.0 e n, unsigned_tied e p.0 ∙ ne_eqb e p.0 (λ is. n (sym is))) more
]

times_once : {X : Type 0} (e : ℕ) (ps : List (ℕ × X)) → T (is_sorted nat_cmp ps) →
    times e (map (λ p. p.0) ps) ≤ one_if (key_find nat_cmp e ps)
times_once e [] h = omega arith
times_once e (p ∷ ps) h =
    let two = both (below_all nat_cmp p.0 ps) (is_sorted nat_cmp ps) h in
    times_by e p ps two.0 (times_once e ps two.1)

keys_once : {X : Type 0} (e : ℕ) (m : table.FinMap nat_cmp X) → times e (table.keys m) ≤ one_if (table.get m e)
keys_once e m =
    subst (λ o. times e (table.keys m) ≤ one_if o) (sym (table.get-entries m e)) (times_once e (table.entries m) (table.entries_sorted m))

abbrev pub Surveys : ℕ → NodeView → Type 0
Surveys e n = (has_of e n).cell.survey ≤ one_if (real_in (has_of e n))

begun_one : (o : Option RealView) → one_if (option_map real_begins o) ≡ one_if o
begun_one None = refl
begun_one (Some r) = refl

round_surveys : (e : ℕ) (b : Batch) (n : NodeView) → Surveys e (cell_round b.tree n)
round_surveys e b (Cell c) =
    subst (λ n. times e (table.keys c.reals) ≤ n)
    (sym (ap one_if (get-each_value real_begins c.reals e) ∙ begun_one (table.get c.reals e))) (keys_once e c.reals)
round_surveys e b (Base n) = omega arith

ordered_surveys : (e : ℕ) (o : ℕ × Order) (n : NodeView) → Any o → Surveys e n → Surveys e (ordered_at o n)
ordered_surveys e o (Cell c) u h = h
ordered_surveys e o (Base n) u h = omega arith

pub loaded_surveys : (e : ℕ) (b : Batch) (s : NodeView) → Surveys e (node_loaded b s)
loaded_surveys e b s =
    each_keeps ordered_at (Surveys e) Any (ordered_surveys e) b.orders (any b.orders) (cell_round b.tree (made b s))
    (round_surveys e b (made b s))

-- ---- no call is held

abbrev holds_some : ℕ × OrderView CallData → Bool
holds_some p = has_any p.1.held

none_length : {A : Type 0} (xs : List A) → has_any xs ≡ false → length xs ≡ 0
none_length [] h = refl
none_length (x ∷ xs) h = cc

held_by : (p : ℕ × OrderView CallData) (ps : List (ℕ × OrderView CallData)) (b : Bool) → holds_some p ≡ b →
    cond b (Some p) (find holds_some ps) ≡ None → (find holds_some ps ≡ None → total (λ p. held_of p.1) ps ≡ 0) →
    total (λ p. held_of p.1) (p ∷ ps) ≡ 0
held_by p ps true is h more = cc
held_by p ps false is h more = let a = none_length p.1.held is in let rest = more h in omega (arith, a, rest)

held_none : (ps : List (ℕ × OrderView CallData)) → find holds_some ps ≡ None → total (λ p. held_of p.1) ps ≡ 0
held_none [] h = refl
held_none (p ∷ ps) h = held_by p ps (holds_some p) refl h (held_none ps)

none_found : (os : Orders) → ((s : ℕ) → (order_or (table.get os s)).held ≡ []) → (o : Option (ℕ × OrderView CallData)) →
    find holds_some (table.entries os) ≡ o → o ≡ None
none_found os none None at = refl
none_found os none (Some p) at =
    let two = found holds_some os p at in
    let empty = ap has_any (sym (ap (λ x. (order_or x).held) two.0) ∙ none p.0) in
    absurd (let z = sym two.1 ∙ empty in cc)

pub no_held : (os : Orders) → ((s : ℕ) → (order_or (table.get os s)).held ≡ []) → held_in os ≡ 0
no_held os none =
    held_none (table.entries os) (none_found os none (find holds_some (table.entries os)) refl)

-- ---- orders

at_most_three : (o : Order) → order_burden o ≤ 3
at_most_three (order.Cell c) = omega arith
at_most_three _ = omega arith

orders_by : (e : ℕ) (o : Order) (os : List Order) (b : Bool) → total order_burden (orders_of e os) ≤ 3 * length os →
    total order_burden (cond b (o ∷ orders_of e os) (orders_of e os)) ≤ 3 * length (o ∷ os)
orders_by e o os true more = let one = at_most_three o in omega (arith, one, more)
orders_by e o os false more = omega (arith, more)

orders_weigh : (e : ℕ) (os : List Order) → total order_burden (orders_of e os) ≤ 3 * length os
orders_weigh e [] = omega arith
orders_weigh e (o ∷ os) = orders_by e o os (order_concerns e o) (orders_weigh e os)

-- how many orders go to nodes from i on
abbrev pub from_on : ℕ → List (ℕ × Order) → ℕ
from_on i [] = 0
from_on i (o ∷ os) = cond {A = ℕ} (nat_lt o.0 i) 0 1 + from_on i os

from_by : (n i a b c : ℕ) (here there past : Bool) → eqb n i ≡ here → nat_lt n i ≡ there → nat_lt n (i + 1) ≡ past → a + b ≡ c →
    cond {A = ℕ} here (suc a) a + (cond {A = ℕ} past 0 1 + b) ≡ cond {A = ℕ} there 0 1 + c
from_by n i a b c true true past h t p e = absurd (grind (arith, nat_tests, h, t))
from_by n i a b c true false true h t p e = omega (arith, e)
from_by n i a b c true false false h t p e = absurd (grind (arith, nat_tests, h, p))
from_by n i a b c false true true h t p e = omega (arith, e)
from_by n i a b c false true false h t p e = absurd (grind (arith, nat_tests, t, p))
from_by n i a b c false false true h t p e = absurd (grind (arith, nat_tests, h, t, p))
from_by n i a b c false false false h t p e = omega (arith, e)

length_by : (o : Order) (os : List Order) (b : Bool) → length (cond b (o ∷ os) os) ≡ cond {A = ℕ} b (suc (length os)) (length os)
length_by o os true = refl
length_by o os false = refl

from_splits : (i : ℕ) (os : List (ℕ × Order)) → length (items_to i os) + from_on (i + 1) os ≡ from_on i os
from_splits i [] = refl
from_splits i (o ∷ os) =
    ap (λ n. n + from_on (i + 1) (o ∷ os)) (length_by o.1 (items_to i os) (eqb o.0 i))
    ∙ from_by o.0 i (length (items_to i os)) (from_on (i + 1) os) (from_on i os) (eqb o.0 i) (nat_lt o.0 i) (nat_lt o.0 (i + 1)) refl refl
    refl (from_splits i os)

below_by : (n : ℕ) (b : Bool) → nat_lt n 0 ≡ b → b ≡ false
below_by n true is = absurd (grind (arith, nat_tests, is))
below_by n false is = refl

pub none_below : (n : ℕ) → nat_lt n 0 ≡ false
none_below n = below_by n (nat_lt n 0) refl

pub from_all : (os : List (ℕ × Order)) → from_on 0 os ≡ length os
from_all [] = refl
from_all (o ∷ os) =
    let a = ap (λ b. cond {A = ℕ} b 0 1) (none_below o.0) in
    let more = from_all os in
    omega (arith, a, more)

-- ---- the sum over the nodes: one node weighs `a` more than its orders do

module _ (home a : ℕ) (os : List (ℕ × Order)) where
  abbrev pub most : ℕ → ℕ
  most i = cond {A = ℕ} (eqb i home) a 0 + 3 * length (items_to i os)

  sum_by : (i x rest : ℕ) (here past later : Bool) → eqb i home ≡ here → nat_lt home i ≡ past → nat_lt home (i + 1) ≡ later → (n : ℕ) →
      x ≤ cond {A = ℕ} here a 0 + 3 * n → (m : ℕ) → rest ≤ cond {A = ℕ} later 0 a + 3 * m → x + rest ≤ cond {A = ℕ} past 0 a + 3 * (n + m)
  sum_by i x rest true true later h p l n at m more = absurd (grind (arith, nat_tests, h, p))
  sum_by i x rest true false true h p l n at m more = omega (arith, at, more)
  sum_by i x rest true false false h p l n at m more = absurd (grind (arith, nat_tests, h, l))
  sum_by i x rest false true true h p l n at m more = omega (arith, at, more)
  sum_by i x rest false true false h p l n at m more = absurd (grind (arith, nat_tests, p, l))
  sum_by i x rest false false true h p l n at m more = absurd (grind (arith, nat_tests, h, p, l))
  sum_by i x rest false false false h p l n at m more = omega (arith, at, more)

  pub sum_most : {N : Type 0} (g : N → ℕ) (i : ℕ) (xs : List N) → ((j : ℕ) (x : N) → slice_get xs j ≡ Some x → g x ≤ most (j + i)) →
      total g xs ≤ cond {A = ℕ} (nat_lt home i) 0 a + 3 * from_on i os
  sum_most g i [] each = omega arith
  sum_most g i (x ∷ xs) each =
      let same : 0 + i ≡ i = omega arith in
      let here = subst (λ n. g x ≤ most n) same (each 0 x refl) in
      let rest = sum_most g (i + 1) xs (λ j y at.
      let same : suc j + i ≡ j + (i + 1) = omega arith in
      subst (λ n. g y ≤ most n) same (each (suc j) y at)) in
      let split = from_splits i os in
      subst (λ n. g x + total g xs ≤ cond {A = ℕ} (nat_lt home i) 0 a + 3 * n) split
      (sum_by i (g x) (total g xs) (eqb i home) (nat_lt home i) (nat_lt home (i + 1)) refl refl refl (length (items_to i os)) here
      (from_on (i + 1) os) rest)

-- ---- the links are empty

module _ {M : Type 0} (g : ℕ → M → ℕ) where
  row_none : (row : List (List M)) (i : ℕ) → ((b : ℕ) → slice_index_or row b [] ≡ []) → totals (λ b. total (g b)) i row ≡ 0
  row_none [] i h = refl
  row_none (l ∷ ls) i h =
      let first = ap (total (g i)) (h 0) in
      let rest = row_none ls (i + 1) (λ b. h (suc b)) in
      omega (arith, first, rest)

  pub rows_none : (rows : List (List (List M))) → ((a b : ℕ) → link rows a b ≡ []) → links_weight g rows ≡ 0
  rows_none [] h = refl
  rows_none (r ∷ rs) h =
      let first = row_none r 0 (h 0) in
      let rest = rows_none rs (λ a. h (suc a)) in
      omega (arith, first, rest)

-- ---- all of it

module _ (f : Frame) (w : World) (b : Batch) (begin : MayBegin f w b) (e home : ℕ) (r : RealView) (its : Loaded f w b begin e home r) where
  abbrev after : ℕ → Has
  after k = (entity_flow e (loaded w b)).slot k

  abbrev most_of : ℕ
  most_of = real_burden r + 2

  real_weighs : (k : ℕ) (s : NodeView) (o : Option RealView) → real_in (has_of e s) ≡ o → Surveys e s →
      (k ≡ home → o ≡ Some r) → ((k ≡ home → ⊥) → o ≡ None) →
      weight_or real_burden (real_in (has_of e s)) + 2 * (has_of e s).cell.survey ≤ cond {A = ℕ} (eqb k home) most_of 0
  real_weighs k s o at once here others = elim (cases_eq k home) [
    | inl is ↦
        let there = at ∙ here is in
        let a = ap (weight_or real_burden) there in
        let c = ap one_if there in
        rw (eq-eqb k home is) (omega (arith, a, c, once))
    | inr n ↦
        let there = at ∙ others n in
        let a = ap (weight_or real_burden) there in
        let c = ap one_if there in
        rw (ne_eqb k home n) (omega (arith, a, c, once))
  ]

  slot_there : (k : ℕ) (s : NodeView) → slice_get w.nodes k ≡ Some s → after k ≡ has_of e (node_loaded b s)
  slot_there k s at = slot_is w b e k ∙ ap (λ o. slot_at (has_of e) has_none (option_map (node_loaded b) o)) at

  orders_weigh_at : (k : ℕ) (s : NodeView) → slice_get w.nodes k ≡ Some s →
      total order_burden (has_of e (node_loaded b s)).base.orders ≤ 3 * length (items_to k b.orders)
  orders_weigh_at k s at = elim (cases_lt k cell_count) [
    | inl low ↦ let none = ap (total order_burden) (node_none f w b begin.between begin.fits.tree begin.fits.unmoved e k s at low) in omega
        (arith, none)
    | inr high ↦
        let is = ap (total order_burden) (node_orders f w b begin.between begin.fits.tree begin.fits.unmoved e k s at high) in
        let few = orders_weigh e (items_to k b.orders) in
        omega (arith, is, few)
  ]

  node_weighs : (k : ℕ) (s : NodeView) → slice_get w.nodes k ≡ Some s → node_burden e (node_loaded b s) ≤ most home most_of b.orders k
  node_weighs k s at =
      let t = node_loaded b s in
      let same = slot_there k s at in
      let real =
      real_weighs k t (real_in (has_of e t)) refl (loaded_surveys e b s)
      (λ is. ap real_in (sym same) ∙ (ap (λ j. real_in (after j)) is ∙ its.settled.here))
      (λ n. ap real_in (sym same) ∙ its.settled.others k n) in
      let orders = orders_weigh_at k s at in
      omega (arith, real, orders)

  -- its numbers are not much more than those of the real
  pub weighs : burden e (loaded w b) ≤ real_burden r + (3 * length b.orders + 2)
  weighs =
      let nodes : List NodeView = map (node_loaded b) w.nodes in
      let sum = sum_most home most_of b.orders (node_burden e) 0 nodes (λ j t at.
      let s = node_there (slice_get w.nodes j) (node_loaded b) t (sym (slice_get-map (node_loaded b) w.nodes j) ∙ at) in
      let same : j ≡ j + 0 = omega arith in
      subst (λ i. node_burden e t ≤ most home most_of b.orders i) same
      (subst (λ t. node_burden e t ≤ most home most_of b.orders j) s.2 (node_weighs j s.0 s.1))) in
      let all = from_all b.orders in
      let links = rows_none (mine_burden e) w.rows (quiet_links node_has_work w begin.between.nodes.sound.square begin.between.quiet) in
      let is = ap (burden e) (loaded_is w b) in
      let past : cond {A = ℕ} (nat_lt home 0) 0 most_of ≡ most_of = ap (λ c. cond {A = ℕ} c 0 most_of) (none_below home) in
      omega (arith, sum, all, links, is, past)

  pub few_more : burden e (loaded w b) < 2 ^ 61 + 2 ^ 20
  few_more =
      let none = no_held r.orders its.settled.none_held in
      let few = its.small in
      let short = begin.fits.few in
      omega (arith, weighs, none, few, short)

  pub room : burden e (loaded w b) + 1 < limit
  room = let few = few_more in omega (arith, few)

-- the numbers of a real are among those of its entity
pub real_room : (e : ℕ) (w : World) (k : ℕ) (r : RealView) → real_at e w k ≡ Some r → real_burden r ≤ burden e w
real_room e w k r has = by (slice_get w.nodes k) refl has
  where
    by : (n : Option NodeView) → slice_get w.nodes k ≡ n → real_in (slot_at (has_of e) has_none n) ≡ Some r → real_burden r ≤ burden e w
    by None at there = absurd (let z = there in cc)
    by (Some n) at there =
        let v : Event = record { node = k; from = None } in
        let o : Occurs w v = record { node = n; input = Task; is_node = at; is_fed = refl } in
        let a = weight_bounds (node_burden e) (mine_burden e) w v o in
        let y = ap (weight_or real_burden) there in
        omega (arith, a, y)

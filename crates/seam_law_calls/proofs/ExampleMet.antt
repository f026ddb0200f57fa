-- The example is a world of its frame in which the entity fits.
use Rattle.std.proofs.Common.{◌≡◌, ℕ, zero, suc, ◌+◌, ◌<◌, ◌≤◌, Bool, true, false, cond, eqb, List, [], ◌∷◌, ◌++◌, map, length, replicate}
use Rattle.std.proofs.Common.{Option}
use Rattle.std.proofs.Common.{None, Some, refl, sym, ap, ◌∙◌, subst, arith}
use Rattle.std.specs.Prelude.{slice_get, slice_index_or}
use Rattle.std.specs.List.{All, AllByRecursion, range_with_len}
use Rattle.std.specs.Ordering.{nat_cmp}
use Rattle.std.specs.Cmp.{nat_cmp_total, unsigned_tied}
use Rattle.std.proofs.lemmas.Bool.{eqb-true}
use Rattle.std.specs.FinMap as table
use Rattle.std.specs.FinSet as set
use Rattle.std.proofs.lemmas.List.Elements.{All-nil, All-cons, All-replicate}
use Rattle.seam_machine.specs.Events.{EachLink}
use Rattle.seam_node_steps.specs.Prelude.{cut_after, area, IsTree, IsProper, are_of_group, link, run, AllEnabled, IsSquare, ArePeers}
use Rattle.seam_node_steps.specs.Prelude.{EachNode, Event, Msg, Map, properties, all_held, fits_cell_part, NodeView, World, node_peers}
use Rattle.seam_node_steps.specs.Prelude.{node_has_work, node_steps, IsNode, holders, RouteView, idle, one, IsRow, two_cells, made, at_home}
use Rattle.seam_node_steps.specs.Prelude.{Division, with_cells, base_16, the_move, hit_1, hit_2}
use Rattle.seam_law_flow.specs.Prelude.{slot_at, letters_of}
use Rattle.seam_law_calls.specs.Prelude.{here_at, IsAt, IsInFrame, Has, mine, has_of, has_none, entity_flow, RealFits, IsFitReal, IsFitHand}
use Rattle.seam_law_calls.specs.Prelude.{burden, real_in, reaped_by, HasNoReaps, IsSpared, AllFits, IsFrame, frame, events_of, RunsTo}
use Rattle.seam_defs.specs.declared.flags.Group.TheVariants as group
use Rattle.seam_defs.proofs.WellFormed.{builtin-are-defs}
use Rattle.seam_defs.proofs.TestLemmas.{of_group-Decides}
use Rattle.seam_call.specs.declared.order.Order.TheVariants as order
use Rattle.seam_node_steps.specs.EarlyCall.{world_0, base_17}
use Rattle.seam_node_steps.proofs.Tables.{computing}
use Rattle.seam_law_calls.proofs.Trees.{first_tree}
use Rattle.seam_node_steps.specs.Prelude.{BringsNone}
use Rattle.seam_law_calls.specs.Frames.{BringNone}

-- ---- lists of nodes, one by one

abbrev pub EachFrom : {N : Type 0} → (ℕ → N → Type 0) → ℕ → List N → Type 0
EachFrom P i [] = Unit {0}
EachFrom P i (x ∷ xs) = P i x × EachFrom P (suc i) xs

each_at : {N : Type 0} (P : ℕ → N → Type 0) (xs : List N) (i k : ℕ) (s : N) → EachFrom P i xs → slice_get xs k ≡ Some s → P (k + i) s
each_at P [] i k s h e = cc
each_at P (x ∷ xs) i zero s h e =
    let same : x ≡ s = cc in
    let at : i ≡ 0 + i = omega arith in
    subst (λ j. P j s) at (subst (P i) same h.0)
each_at P (x ∷ xs) i (suc k) s h e =
    let at : k + suc i ≡ suc k + i = omega arith in
    subst (λ j. P j s) at (each_at P xs (suc i) k s h.1 e)

pub each_node : {N : Type 0} (P : ℕ → N → Type 0) (xs : List N) → EachFrom P 0 xs → EachNode P xs
each_node P xs h k s e = let at : k + 0 ≡ k = omega arith in subst (λ j. P j s) at (each_at P xs 0 k s h e)

-- what is true of each cell without anything is true of n idle ones from the a-th on, before nodes of which it is true
module _ (P : ℕ → NodeView → Type 0) (t : Division) where
  pub idle_each : (a n : ℕ) (ys : List NodeView) → ((k : ℕ) → k < a + n → P k (idle t k)) → EachFrom P (a + n) ys →
      EachFrom P a (map (idle t) (range_with_len a n) ++ ys)
  idle_each a zero ys each rest = let same : a + 0 ≡ a = omega arith in subst (λ j. EachFrom P j ys) same rest
  idle_each a (suc n) ys each rest =
      let same : a + suc n ≡ a + 1 + n = omega arith in
      let next : a + 1 ≡ suc a = omega arith in
      let here : a < a + suc n = omega arith in (
        each a here,
        subst (λ j. EachFrom P j (map (idle t) (range_with_len (a + 1) n) ++ ys)) next
            (idle_each (a + 1) n ys (λ k low. each k (omega (arith, low))) (subst (λ j. EachFrom P j ys) same rest)),
      )

-- so it is of each node of a world with cell 0 and two base nodes
pub nodes_of : (P : ℕ → NodeView → Type 0) (home b16 b17 : NodeView) → P 0 home → ((k : ℕ) → k < 16 → P k (idle two_cells k)) → P 16 b16 →
    P 17 b17 → EachFrom P 0 (with_cells home (idle two_cells 1) b16 b17 []).nodes
nodes_of P home b16 b17 first others sixteen seventeen =
    (first, idle_each P two_cells 1 15 (b16 ∷ b17 ∷ []) others (sixteen, (seventeen, tt)))

-- the nodes of the example that have something
abbrev pub node_0 : NodeView
node_0 = at_home made (1 ∷ [])

abbrev pub node_16 : NodeView
node_16 = base_16 (order.Cell the_move ∷ []) (0, 0)

abbrev pub node_17 : NodeView
node_17 = base_17 (order.Cell hit_1 ∷ order.Cell hit_2 ∷ []) (0, 0)

slot_by : (P : ℕ → Has → Type 0) (e k : ℕ) (o : Option NodeView) → ((s : NodeView) → o ≡ Some s → P k (has_of e s)) → P k has_none →
    P k (slot_at (has_of e) has_none o)
slot_by P e k None h n = n
slot_by P e k (Some s) h n = h s refl

pub slots : (P : ℕ → Has → Type 0) (e : ℕ) (w : World) → EachNode (λ k s. P k (has_of e s)) w.nodes → ((k : ℕ) → P k has_none) → (k : ℕ) →
    P k ((entity_flow e w).slot k)
slots P e w each none k = slot_by P e k (slice_get w.nodes k) (each k) (none k)

abbrev pub no_row : ℕ → List (List Msg)
no_row m = replicate m []

row_empty : (m k : ℕ) → slice_index_or (no_row m) k [] ≡ []
row_empty zero k = refl
row_empty (suc m) zero = refl
row_empty (suc m) (suc k) = row_empty m k

pub no_link : (n m a k : ℕ) → link (replicate n (no_row m)) a k ≡ []
no_link zero m a k = refl
no_link (suc n) m zero k = row_empty m k
no_link (suc n) m (suc a) k = no_link n m a k

-- ---- the frame

tree_is : IsTree two_cells
tree_is = record {
  size_from = omega arith;
  size_to = omega arith;
  cells_to = omega arith;
  cell_was_there = was;
  none_empty = proper;
}
  where
    was : (n : ℕ) → n < 1 → (cut_after two_cells n).cell ≤ n
    was zero h = omega arith
    was (suc n) h = absurd (omega (arith, h))

    proper : (c : ℕ) → c < 2 → IsProper (area two_cells c)
    proper zero h = record { wide = omega arith; deep = omega arith }
    proper (suc zero) h = record { wide = omega arith; deep = omega arith }
    proper (suc (suc c)) h = absurd (omega (arith, h))

pub frame_is : IsFrame frame
frame_is = record { defs = builtin-are-defs; tree = tree_is; later = tt }

-- ---- the nodes

pub none_there : {X : Type 0} (q : ℕ) (x : X) → table.get (table.empty {K = ℕ} {X = X} {R = nat_cmp}) q ≡ Some x → ⊥
none_there q x at = let none = sym (table.get-empty nat_cmp q) ∙ at in cc

low_of : (k : ℕ) → k < 16 → IsNode (idle two_cells k)
low_of k lt = record {
  me_in = lt;
  bases = omega arith;
  cells = omega arith;
  nexts = λ e n at. absurd (none_there e n at);
  keys = λ e r at. absurd (none_there e r at);
}

idle_at : (k : ℕ) → k < 16 → IsAt frame k (idle two_cells k)
idle_at k lt = record { low = lt; here = refl; tree = first_tree frame; number = refl }

-- one value alone
pub one_there : {X : Type 0} (x : X) (q : ℕ) → table.get (one x) q ≡ cond (eqb q 1) (Some x) None
one_there {X = X} x q =
    let none : Map X = table.empty in
    table.get-insert nat_cmp_total none 1 x q
    ∙ (ap (λ b. cond b (Some x) (table.get none q)) (unsigned_tied q 1)
    ∙ ap (λ o. cond (eqb q 1) (Some x) o) (table.get-empty nat_cmp q))

one_by : {X : Type 0} (x y : X) (b : Bool) → cond b (Some x) None ≡ Some y → x ≡ y
one_by x y true h = cc
one_by x y false h = cc

pub one_is : {X : Type 0} (x y : X) (q : ℕ) → table.get (one x) q ≡ Some y → x ≡ y
one_is x y q at = one_by x y (eqb q 1) (sym (one_there x q) ∙ at)

number_by : {X : Type 0} (x y : X) (q : ℕ) (b : Bool) → eqb q 1 ≡ b → cond b (Some x) None ≡ Some y → q ≡ 1
number_by x y q true is h = eqb-true q 1 is
number_by x y q false is h = cc

pub number_is : {X : Type 0} (x y : X) (q : ℕ) → table.get (one x) q ≡ Some y → q ≡ 1
number_is x y q at = number_by x y q (eqb q 1) refl (sym (one_there x q) ∙ at)

home_is : IsNode (at_home made (1 ∷ []))
home_is = record {
  me_in = omega arith;
  bases = omega arith;
  cells = omega arith;
  nexts = λ e n at. absurd (none_there e n at);
  keys = λ e r at. sym (ap (λ x. x.entity) (one_is made r e at)) ∙ sym (number_is made r e at);
}

pub route_low : (g q : ℕ) (x : RouteView) → table.get (one (record { cell = 0; generation = g })) q ≡ Some x → x.cell < 16
route_low g q x at = let same = ap (λ y. y.cell) (one_is (record { cell = 0; generation = g }) x q at) in omega (arith, same)

abbrev pub Q : ℕ → NodeView → Type 0
Q k s = IsNode s × IsAt frame k s

pub idle_is : (k : ℕ) → k < 16 → Q k (idle two_cells k)
idle_is k lt = (low_of k lt, idle_at k lt)

nodes_are : EachFrom Q 0 world_0.nodes
unfolding world_0
nodes_are =
    nodes_of Q node_0 node_16 node_17 (home_is, record { low = omega arith; here = refl; tree = first_tree frame; number = refl }) idle_is (
      record { bases = omega arith; cells = omega arith; routes = route_low 0 },
      record { high = omega arith; here = refl; cells = refl; orders = (refl, tt) },
    ) (
      record { bases = omega arith; cells = omega arith; routes = route_low 0 },
      record { high = omega arith; here = refl; cells = refl; orders = (refl, (refl, tt)) },
    )

pub peers_from : {N : Type 0} (P : N → Type 0) (xs : List N) → AllByRecursion P xs → All P xs
peers_from P [] h = All-nil P
peers_from P (x ∷ xs) h = All-cons P x xs h.0 (peers_from P xs h.1)

square_is : IsSquare world_0
unfolding world_0
square_is = record { rows = refl; links = All-replicate (λ r. length r ≡ 18) 18 (no_row 18) refl }

peers_are : ArePeers node_peers world_0
unfolding world_0
peers_are =
    peers_from (λ s. node_peers s ≡ 18) world_0.nodes (
      refl,
      (
        refl,
        (refl, (refl, (refl, (refl, (refl, (refl, (refl, (refl, (refl, (refl, (refl, (refl, (refl, (refl, (refl, (refl, tt)))))))))))))))),
      ),
    )

letters_bring_none : EachLink BringNone world_0.rows
unfolding world_0
letters_bring_none a k = subst (AllByRecursion BringsNone) (sym (no_link 18 18 a k)) tt

pub world_is : IsInFrame frame world_0
world_is = record {
  sound = record { square = square_is; peers = peers_are; states = λ k s at. (each_node Q world_0.nodes nodes_are k s at).0 };
  nodes = λ k s at. (each_node Q world_0.nodes nodes_are k s at).1;
  letters = letters_bring_none;
}

-- ---- the entity

values_are : are_of_group (properties (here_at frame 0) 0) group.Real made.state.props ≡ true
values_are = simp computing

none_held : all_held (fits_cell_part (here_at frame 0) 1 0) made.orders ≡ true
none_held = simp computing

pub made_fits : RealFits frame 1 0 0 made
made_fits = record {
  entity = refl;
  type = refl;
  values = (of_group-Decides (properties (here_at frame 0) 0) group.Real made.state.props).0 values_are;
  inside = refl;
  held = none_held;
  home = omega arith;
  haunts = λ j h. let none = sym (set.contains-empty nat_cmp j) ∙ h in absurd cc;
}

abbrev R : ℕ → Has → Type 0
R k s = IsFitReal frame 1 0 k (real_in s) × HasNoReaps s

home_fits : R 0 (has_of 1 (at_home made (1 ∷ [])))
home_fits = (λ r at. subst (RealFits frame 1 0 0) (one_is made r 1 at) made_fits, tt)

idle_fits : (k : ℕ) → R k (has_of 1 (idle two_cells k))
idle_fits k = (λ r at. absurd (none_there 1 r at), tt)

none_fits : (k : ℕ) → R k has_none
none_fits k = (λ r at. absurd (let h = at in cc), tt)

fits_at : EachFrom (λ k s. R k (has_of 1 s)) 0 world_0.nodes
unfolding world_0
fits_at =
    nodes_of (λ k s. R k (has_of 1 s)) node_0 node_16 node_17 home_fits (λ k low. idle_fits k)
    ((λ r at. absurd (let h = at in cc)), (refl, tt))
    ((λ r at. absurd (let h = at in cc)), (refl, (refl, tt)))

fit_slots : (k : ℕ) → R k ((entity_flow 1 world_0).slot k)
fit_slots = slots R 1 world_0 (each_node (λ k s. R k (has_of 1 s)) world_0.nodes fits_at) none_fits

pub no_mail : (a k : ℕ) → (entity_flow 1 world_0).mail a k ≡ []
unfolding world_0
no_mail a k = ap (letters_of (mine 1)) (no_link 18 18 a k)

pub burden_is : burden 1 world_0 ≡ 11
unfolding world_0
burden_is = simp computing

pub one_holder : holders world_0 1 ≡ 1
unfolding world_0
one_holder = simp computing

pub all_fit : AllFits frame 1 0 world_0
all_fit = record {
  frame = world_is;
  reals = λ k. (fit_slots k).0;
  hands = λ a k. subst (AllByRecursion (IsFitHand frame 1 0 k)) (sym (no_mail a k)) tt;
  room = let h = burden_is in omega (arith, h);
}

pub spared : IsSpared 1 world_0
spared = record {
  orders = λ k. (fit_slots k).1;
  letters = λ a k. subst (AllByRecursion (λ m. reaped_by m ≡ None)) (sym (no_mail a k)) tt;
}

-- ---- the run

abbrev last_of : World → List (Event × World) → World
last_of w [] = w
last_of w (s ∷ ss) = last_of s.1 ss

enabled_of : (e n : ℕ) (w : World) (ss : List (Event × World)) → IsRow e n w ss → AllEnabled node_has_work node_steps w (events_of ss)
enabled_of e n w [] row = tt
enabled_of e n w (s ∷ ss) row =
    (row.0, subst (λ v. AllEnabled node_has_work node_steps v (events_of ss)) (sym row.1) (enabled_of e n s.1 ss row.3))

run_of : (e n : ℕ) (w : World) (ss : List (Event × World)) → IsRow e n w ss → last_of w ss ≡ run node_steps w (events_of ss)
run_of e n w [] row = refl
run_of e n w (s ∷ ss) row = run_of e n s.1 ss row.3 ∙ sym (ap (λ v. run node_steps v (events_of ss)) row.1)

-- the events of a row lead to its last world
pub row_leads : (e n : ℕ) (w : World) (ss : List (Event × World)) → IsRow e n w ss → RunsTo w (events_of ss) (last_of w ss)
row_leads e n w ss row = record { each = enabled_of e n w ss row; is_run = run_of e n w ss row }

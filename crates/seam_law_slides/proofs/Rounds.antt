-- Each node goes by boundaries of the round after each event, and no cell's number falls.
use Rattle.std.proofs.Common.{◌≡◌, ℕ, ◌≤◌, Bool, true, false, ◌&&◌, List, [], ◌∷◌, Option, None, Some, refl, sym, ap, ◌∙◌, subst, arith}
use Rattle.std.specs.Prelude.{nat_lt, ◌==◌, slice_get}
use Rattle.std.specs.List.{AllByRecursion}
use Rattle.std.proofs.lemmas.Bool.Decides.{nat_tests}
use Rattle.seam_net_runs.proofs.Keeping.{each_node}
use Rattle.seam_node_steps.specs.Prelude.{Boundaries, EachNode, Event, Input, Task, From, Msg, Order, NodeView, World, CellView, BaseView}
use Rattle.seam_node_steps.specs.Prelude.{Cell, Base, are_newer, boundaries_of, bounds_in, bounds_ordered, brought, unless_first}
use Rattle.seam_node_steps.specs.Prelude.{cell_steps, node_steps, renewed, renewed_if, BringsNone, TellsNone}
use Rattle.seam_node_steps.specs.BaseCases as BaseCases
use Rattle.seam_node_steps.proofs.Peers.{cell_frame, cell_here, renewed_by}
use Rattle.seam_node_steps.proofs.ValidBases.{base_frame}
use Rattle.seam_law_calls.specs.Prelude.{Frame, HasOneTree, IsAt, IsInFrame, RunsTo, trees_of}
use Rattle.seam_law_calls.proofs.Trees.{only_tree}
use Rattle.seam_law_slides.specs.Prelude.{AreOfRound, BringsOfRound, TellsOfRound, IsCellOf, IsBaseOf, IsNodeOf, GoesByRound}
use Rattle.seam_law_calls.proofs.Keeping.{EachKeeps, RunsKeep, runs_keep}
use Rattle.seam_law_slides.proofs.Facts.{IsFed, StepsKeep, all_happen}
use Rattle.seam_law_slides.proofs.Sends.{IsBare, MayTell, cell_sends, base_sends, orders_kept}

pub each_of : {X : Type 0} (R S : X → Type 0) → ((x : X) → R x → S x) → (xs : List X) → AllByRecursion R xs → AllByRecursion S xs
each_of R S to [] h = tt
each_of R S to (x ∷ xs) h = (to x h.0, each_of R S to xs h.1)

pub both : (a b : Bool) → (a && b) ≡ true → (a ≡ true) × (b ≡ true)
both true b h = (refl, h)
both false b h = cc

module _ (f : Frame) where
  -- ---- boundaries that come, and those that a real brings

  renewed_of : (d : Bool) (c : CellView) (b : Boundaries) → AreOfRound f (boundaries_of c) → AreOfRound f b →
      AreOfRound f (boundaries_of (renewed_if d c b))
  renewed_of true c b was is = is
  renewed_of false c b was is = was

  by_some : (c : CellView) (o : Option Boundaries) → AreOfRound f (boundaries_of c) →
      ((b : Boundaries) → o ≡ Some b → AreOfRound f b) → AreOfRound f (boundaries_of (renewed c o))
  by_some c None was is = was
  by_some c (Some b) was is = renewed_of (are_newer c b) c b was (is b refl)

  abbrev pub Fed : ℕ → Input Msg → Type 0
  Fed k i = IsFed (IsNodeOf f) (λ k. BringsOfRound f) k i

  pub renewed_bounds : (k : ℕ) (c : CellView) (i : Input Msg) → AreOfRound f (boundaries_of c) → Fed k i →
      AreOfRound f (boundaries_of (renewed_by c i))
  renewed_bounds k c Task was fed = was
  renewed_bounds k c (From a m) was fed = by_some c (bounds_in m) was fed

  brought_by : (d : Bool) (b x : Boundaries) → AreOfRound f b → unless_first d b ≡ Some x → AreOfRound f x
  brought_by true b x of is = cc
  brought_by false b x of is = let same : b ≡ x = cc in subst (AreOfRound f) same of

  pub brought_of : (b : Boundaries) → AreOfRound f b → (x : Boundaries) → brought b ≡ Some x → AreOfRound f x
  brought_of b of x is = brought_by (b.number == 0) b x of is

  -- ---- a step

  pub cell_keeps : (k : ℕ) (c : CellView) (i : Input Msg) → IsCellOf f k c → Fed k i → IsCellOf f k (cell_steps c i).state
  cell_keeps k c i is fed =
      let s = cell_frame c i in
      record {
        low = is.low;
        here = cell_here c i ∙ is.here;
        bounds = ap (slice_get (trees_of f)) s.number ∙ (renewed_bounds k c i is.bounds fed ∙ ap Some (sym s.tree));
      }

  pub base_keeps : (k : ℕ) (b : BaseView) (i : Input Msg) → IsBaseOf f k b → IsBaseOf f k (BaseCases.base_steps b i).state
  base_keeps k b i is =
      let s = base_frame b i in
      record { high = is.high; here = s.here ∙ is.here; cells = s.cells ∙ is.cells; orders = orders_kept (TellsOfRound f) b i is.orders }

  pub node_keeps : (k : ℕ) (s : NodeView) (i : Input Msg) → IsNodeOf f k s → Fed k i → IsNodeOf f k (node_steps s i).state
  node_keeps k (Cell c) i is fed = cell_keeps k c i is fed
  node_keeps k (Base b) i is fed = base_keeps k b i is

  pub bare_brings : (m : Msg) → IsBare m → BringsOfRound f m
  bare_brings m is b at = absurd (let z = sym is.bounds ∙ at in cc)

  pub told_brings : (o : Order) → TellsOfRound f o → (x : Boundaries) → bounds_ordered o ≡ Some x → AreOfRound f x
  told_brings o tells x is = tells x is

  pub same_bounds : (x y : Boundaries) → Some x ≡ Some y → AreOfRound f x → AreOfRound f y
  same_bounds x y is of = let same : x ≡ y = cc in subst (AreOfRound f) same of

  keeps : StepsKeep (IsNodeOf f) (λ k. BringsOfRound f)
  keeps k (Cell c) i valid is fed = (
    cell_keeps k c i is fed,
    cell_sends (λ k m. BringsOfRound f m) (λ k m b. bare_brings m b) c i
        (λ r j at x is_it. brought_of (boundaries_of (renewed_by c i)) (renewed_bounds k c i is.bounds fed) x is_it),
  )
  keeps k (Base b) i valid is fed = (
    base_keeps k b i is,
    base_sends (λ k m. BringsOfRound f m) (λ k m b. bare_brings m b) b i
        (each_of (TellsOfRound f) (MayTell (λ k m. BringsOfRound f m) (λ k m b. bare_brings m b))
        (λ o tells x at k y same. same_bounds x y same (tells x at)) b.orders is.orders),
  )

  pub round_happens : EachKeeps (GoesByRound f)
  round_happens w v o is =
      let next = all_happen (IsNodeOf f) (λ k. BringsOfRound f) keeps w v o
      (record { sound = is.sound; nodes = is.nodes; letters = is.letters }) in
      record { sound = next.sound; nodes = next.nodes; letters = next.letters }

  pub round_leads : RunsKeep (GoesByRound f)
  round_leads = runs_keep (GoesByRound f) round_happens

  -- ---- where no boundaries move

  module _ (alone : HasOneTree f) where
    plain_node : (k : ℕ) (s : NodeView) → IsAt f k s → IsNodeOf f k s
    plain_node k (Cell c) is = record {
      low = is.low;
      here = is.here;
      bounds = ap (slice_get (trees_of f)) is.number ∙ ap Some (sym (only_tree f c.tree alone is.tree));
    }
    plain_node k (Base b) is = record {
      high = is.high;
      here = is.here;
      cells = is.cells;
      orders =
          each_of TellsNone (TellsOfRound f) (λ o none x at. absurd (let z = sym none ∙ at in cc)) b.orders is.orders;
    }

    pub plain_round : (w : World) → IsInFrame f w → GoesByRound f w
    plain_round w is = record {
      sound = is.sound;
      nodes = λ k s at. plain_node k s (is.nodes k s at);
      letters = λ a k. each_of BringsNone (BringsOfRound f) (λ m none x at. absurd (let z = sym none ∙ at in cc)) _ (is.letters a k);
    }

-- ---- numbers

below_of : (a b : ℕ) → nat_lt a b ≡ true → a ≤ b
below_of a b is = grind (arith, nat_tests, is)

newer_by : (d : Bool) (c : CellView) (b : Boundaries) → are_newer c b ≡ d → c.number ≤ (renewed_if d c b).number
newer_by true c b is = below_of c.number b.number (both (nat_lt c.number b.number) _ is).0
newer_by false c b is = omega arith

newer_some : (c : CellView) (o : Option Boundaries) → c.number ≤ (renewed c o).number
newer_some c None = omega arith
newer_some c (Some b) = newer_by (are_newer c b) c b refl

pub number_rises : (c : CellView) (i : Input Msg) → c.number ≤ (cell_steps c i).state.number
number_rises c Task = let same : (cell_steps c Task).state.number ≡ c.number = (cell_frame c Task).number in omega (arith, same)
number_rises c (From a m) =
    let same : (cell_steps c (From a m)).state.number ≡ (renewed c (bounds_in m)).number = (cell_frame c (From a m)).number in
    let up = newer_some c (bounds_in m) in
    omega (arith, same, up)

module _ (w : World) where
  abbrev IsAbove : ℕ → NodeView → Type 0
  IsAbove k s = (c d : CellView) → slice_get w.nodes k ≡ Some (Cell c) → s ≡ Cell d → c.number ≤ d.number

  step_above : (k : ℕ) (s : NodeView) (i : Input Msg) → IsAbove k s → IsAbove k (node_steps s i).state
  step_above k (Cell b) i is c d was now =
      let same : (cell_steps b i).state ≡ d = cc in
      let one = ap (λ (x : CellView). x.number) same in
      let up = number_rises b i in
      let before = is c b was refl in
      omega (arith, one, up, before)
  step_above k (Base b) i is c d was now = cc

  first_above : EachNode IsAbove w.nodes
  first_above k s at c d was now =
      let same : c ≡ d = let z = sym was ∙ at ∙ ap Some now in cc in
      let one = ap (λ (x : CellView). x.number) same in
      omega (arith, one)

  pub numbers_rise : (v : World) (es : List Event) → RunsTo w es v → (k : ℕ) (c d : CellView) → slice_get w.nodes k ≡ Some (Cell c) →
      slice_get v.nodes k ≡ Some (Cell d) → c.number ≤ d.number
  numbers_rise v es run k c d was now =
      runs_keep (λ u. EachNode IsAbove u.nodes)
      (λ u a o each. each_node IsAbove node_steps u a o each (step_above a.node o.node o.input (each a.node o.node o.is_node)))
      w v es first_above run k (Cell d) now c d was refl

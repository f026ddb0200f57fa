-- Each real that its cell's list has not needs no settling by the cell's tree, after each event; so, where nothing moves, none by the last.
use Rattle.std.proofs.Common.{◌≡◌, ℕ, ◌≤◌, ◌<◌, Bool, true, false, not, ◌&&◌, List, [], ◌∷◌, Option, None, Some, refl, sym, ap, ◌∙◌, subst}
use Rattle.std.proofs.Common.{arith}
use Rattle.std.specs.Prelude.{nat_lt, ◌==◌, ◌||◌, ◌+◌, slice_get}
use Rattle.std.specs.FinMap as table
use Rattle.std.specs.List.{AllByRecursion}
use Rattle.std.proofs.lemmas.Bool.Decides.{nat_tests}
use Rattle.std.proofs.lemmas.Bool.{eqb-true}
use Rattle.seam_machine.proofs.Quiet.{quiet_tasks}
use Rattle.seam_node_steps.specs.Prelude.{Boundaries, Cell, Base, CellView, Event, From, Input, IsQuiet, Msg, NodeView, Order, RealView}
use Rattle.seam_node_steps.specs.Prelude.{Task, World, about, are_newer, boundaries_of, bounds_in, brought, unless_first, cell_steps}
use Rattle.seam_node_steps.specs.Prelude.{cells_of, comes_late, has_any, is_stray, may_settle, node_has_work, number_in, renewed}
use Rattle.seam_node_steps.specs.Prelude.{renewed_if, slot_of, stray_hand}
use Rattle.seam_node_steps.proofs.Peers.{cell_frame, renewed_by}
use Rattle.seam_node_steps.proofs.Targets.{renewed_here}
use Rattle.seam_law_calls.specs.Prelude.{Frame, IsFrame, RunsTo, here_at, real_of, times, trees_of}
use Rattle.seam_law_ghosts.specs.Prelude.{IsRestful}
use Rattle.seam_law_slides.specs.Prelude.{AreAtRest, AreAwaited, AreLast, AreOfRound, BringsOfRound, DivideTheSpace, GoesByRound}
use Rattle.seam_law_slides.specs.Prelude.{IsCellAtRest, IsHandAtRest, IsNodeAtRest, IsNodeOf, IsCellOf, TellsOfRound, tree_by}
use Rattle.seam_law_slides.proofs.Facts.{IsFed, StepsKeep, all_lead}
use Rattle.seam_law_slides.proofs.Rounds.{Fed, base_keeps, bare_brings, brought_of, cell_keeps, each_of, renewed_bounds, same_bounds}
use Rattle.seam_law_slides.proofs.Sends.{IsBare, MayHand, MayTell, base_sends, cell_sends, gone}
use Rattle.seam_law_slides.proofs.Resting.{CellRests, HandRests, goes_rests, hears_rests, key_there, task_rests}
use Rattle.seam_law_slides.proofs.Taking.{none_later, same_tree}
use Rattle.seam_law_slides.proofs.Awaiting.{last_at_end}

at_most : (a b : ℕ) → nat_lt a b ≡ false → b ≤ a
at_most a b is = grind (arith, nat_tests, is)

not_late_by : (a b : Bool) → (a && not b) ≡ false → b ≡ false → a ≡ false
not_late_by true true h k = cc
not_late_by true false h k = cc
not_late_by false b h k = refl

module _ (f : Frame) (frame : IsFrame f) (space : DivideTheSpace f) where
  -- ---- the tree by which a real was settled is that of its number

  hand_of : (o : Option Boundaries) → ((b : Boundaries) → o ≡ Some b → AreOfRound f b) →
      AreOfRound f (record { tree = tree_by f o; number = number_in o })
  hand_of None of = refl
  hand_of (Some b) of = of b refl

  brought_tree : (d : Bool) (b : Boundaries) → (b.number == 0) ≡ d → AreOfRound f b → tree_by f (unless_first d b) ≡ b.tree
  brought_tree true b is of =
      let first = eqb-true b.number 0 is in
      let z : Some f.tree ≡ Some b.tree = sym (ap (slice_get (trees_of f)) first) ∙ of in
      cc
  brought_tree false b is of = refl

  -- ---- what a step sends

  abbrev Says : ℕ → Msg → Type 0
  Says k m = BringsOfRound f m × IsHandAtRest f k m

  bare_says : (k : ℕ) (m : Msg) → IsBare m → Says k m
  bare_says k m is = (bare_brings f m is, λ r bs at. absurd (let z : None ≡ Some r = sym is.real ∙ ap real_of at in cc))

  hand_says : (k : ℕ) (b : Boundaries) → AreOfRound f b → MayHand Says bare_says (here_at f k) b
  hand_says k b of r j at = (
    λ x is. brought_of f b of x is,
    λ q bs is.
        let real : gone Says bare_says (here_at f k) b r j ≡ q = cc in
        let with_it : brought b ≡ bs = cc in
        subst (λ o. IsRestful f.settings (tree_by f o) j q) with_it
        (subst (λ x. IsRestful f.settings (tree_by f (brought b)) j x) real
        (subst (λ t. IsRestful f.settings t j (gone Says bare_says (here_at f k) b r j)) (sym (brought_tree (b.number == 0) b refl of))
        (goes_rests f k b.tree r j (r.beat + 1) (r.generation + 1) at))),
  )

  tell_says : (o : Order) → TellsOfRound f o → MayTell Says bare_says o
  tell_says o tells x at k = ((λ y same. same_bounds f x y same (tells x at)), λ r bs is. cc)

  -- ---- a cell

  newer_rests : (k : ℕ) (d : Bool) (c : CellView) (b : Boundaries) → IsCellAtRest f k c →
      CellRests f k (boundaries_of (renewed_if d c b)) (renewed_if d c b)
  newer_rests k true c b was e none r at may = let some = key_there c.reals e r at in absurd (omega (arith, some, none))
  newer_rests k false c b was e none r at may = was e r at none may

  some_rest : (k : ℕ) (c : CellView) (o : Option Boundaries) → IsCellAtRest f k c →
      CellRests f k (boundaries_of (renewed c o)) (renewed c o)
  some_rest k c None was = λ e none r at may. was e r at none may
  some_rest k c (Some b) was = newer_rests k (are_newer c b) c b was

  module _ (k : ℕ) (c : CellView) (is : IsCellOf f k c) (was : IsCellAtRest f k c) where
    -- a real that comes, and not late
    comes_rests : (m : Msg) → Says k m → comes_late (renewed c (bounds_in m)) m ≡ false → (e : ℕ) → about m ≡ Some e →
        HandRests f k (boundaries_of (renewed c (bounds_in m))) (slot_of (renewed c (bounds_in m)) e) m
    comes_rests m says late e a r o at stray =
        let d = renewed c (bounds_in m) in
        let here : d.here ≡ here_at f k = renewed_here c (bounds_in m) ∙ is.here in
        let own : r.entity ≡ e = let z : Some r.entity ≡ Some e = sym (ap about at) ∙ a in cc in
        let came : (nat_lt (number_in o) d.number && not (stray_hand d.here d.tree r (table.get d.reals r.entity))) ≡ false =
        sym (ap (comes_late d) at) ∙ late in
        let fits : stray_hand d.here d.tree r (table.get d.reals r.entity) ≡ false =
        ap (λ h. stray_hand h d.tree r (table.get d.reals r.entity)) here
        ∙ (ap (λ i. stray_hand (here_at f k) d.tree r (table.get d.reals i)) own
        ∙ (sym (ap (is_stray (here_at f k) d.tree (slot_of d e)) at) ∙ stray)) in
        let least = at_most (number_in o) d.number (not_late_by _ _ came fits) in
        let brings : bounds_in m ≡ o = ap bounds_in at in
        let most = none_later f frame space k c (bounds_in m) is.here says.0 in
        let number : number_in o ≡ d.number = let z = ap number_in brings in omega (arith, least, most, z) in
        let of = renewed_bounds f k c (From 0 m) is.bounds says.0 in
        let tree : tree_by f o ≡ d.tree =
        same_tree f (record { tree = tree_by f o; number = number_in o }) (boundaries_of d)
        (hand_of o (λ b is_it. says.0 b (brings ∙ is_it))) of number in
        subst (λ t. IsRestful f.settings t k r) tree (says.1 r o at)

    state_rests : (i : Input Msg) → IsFed (λ k s. IsNodeOf f k s) Says k i →
        CellRests f k (boundaries_of (renewed_by c i)) (cell_steps c i).state
    state_rests Task fed = task_rests f k (boundaries_of c) c is.here refl (some_rest k c None was) c.survey refl
    state_rests (From a m) fed =
        hears_rests f k (boundaries_of (renewed c (bounds_in m))) (renewed c (bounds_in m)) (renewed_here c (bounds_in m) ∙ is.here) refl
        (some_rest k c (bounds_in m) was) m (about m) refl (comes_rests m fed)

    pub cell_rests : (i : Input Msg) → IsFed (λ k s. IsNodeOf f k s) Says k i → IsCellAtRest f k (cell_steps c i).state
    cell_rests i fed e r at none may =
        subst (λ t. IsRestful f.settings t k r) (sym (cell_frame c i).tree) (state_rests i fed e none r at may)

  -- ---- every list of events

  abbrev Is : ℕ → NodeView → Type 0
  Is k s = IsNodeOf f k s × IsNodeAtRest f k s

  here_by : (c : CellView) (i : Input Msg) → (renewed_by c i).here ≡ c.here
  here_by c Task = refl
  here_by c (From a m) = renewed_here c (bounds_in m)

  fed_round : (k : ℕ) (i : Input Msg) → IsFed Is Says k i → Fed f k i
  fed_round k Task fed = tt
  fed_round k (From a m) fed = fed.0

  fed_says : (k : ℕ) (i : Input Msg) → IsFed Is Says k i → IsFed (λ k s. IsNodeOf f k s) Says k i
  fed_says k Task fed = tt
  fed_says k (From a m) fed = fed

  keeps : StepsKeep Is Says
  keeps k (Cell c) i valid is fed =
      let round = fed_round k i fed in (
        (cell_keeps f k c i is.0 round, cell_rests k c is.0 is.1 i (fed_says k i fed)),
        cell_sends Says bare_says c i
            (subst (λ h. MayHand Says bare_says h (boundaries_of (renewed_by c i))) (sym (here_by c i ∙ is.0.here))
            (hand_says k (boundaries_of (renewed_by c i)) (renewed_bounds f k c i is.0.bounds round))),
      )
  keeps k (Base b) i valid is fed = (
    (base_keeps f k b i is.0, tt),
    base_sends Says bare_says b i (each_of (TellsOfRound f) (MayTell Says bare_says) tell_says b.orders is.0.orders),
  )

  both_all : (k : ℕ) (ms : List Msg) → AllByRecursion (BringsOfRound f) ms → AllByRecursion (IsHandAtRest f k) ms →
      AllByRecursion (Says k) ms
  both_all k [] a b = tt
  both_all k (m ∷ ms) a b = ((a.0, b.0), both_all k ms a.1 b.1)

  pub rest_leads : (w v : World) (es : List Event) → GoesByRound f w → AreAtRest f w → RunsTo w es v → AreAtRest f v
  rest_leads w v es round rest run =
      let end = all_lead Is Says keeps w v es (record {
        sound = round.sound;
        nodes = λ k s at. (round.nodes k s at, rest.nodes k s at);
        letters = λ a k. both_all k _ (round.letters a k) (rest.letters a k);
      }) run in
      record {
        nodes = λ k s at. (end.nodes k s at).1;
        letters = λ a k. each_of (Says k) (IsHandAtRest f k) (λ m says. says.1) _ (end.letters a k);
      }

  -- ---- where nothing moves

  module _ (w v : World) (es : List Event) (round : GoesByRound f w) (rest : AreAtRest f w) (wait : AreAwaited f w) (run : RunsTo w es v)
      (quiet : IsQuiet node_has_work v) where
    none_listed : (c : CellView) → node_has_work (Cell c) ≡ false → c.survey ≡ []
    none_listed c idle = none c.survey (first (has_any c.survey) _ idle)
      where
        first : (x y : Bool) → (x || y) ≡ false → x ≡ false
        first true y h = cc
        first false y h = refl

        none : (es : List ℕ) → has_any es ≡ false → es ≡ []
        none [] h = refl
        none (e ∷ es) h = cc

    pub end_rests : (k : ℕ) (c : CellView) → k < cells_of f.tree → slice_get v.nodes k ≡ Some (Cell c) → (b : Boundaries) → AreLast f b →
        (e : ℕ) (r : RealView) → table.get c.reals e ≡ Some r → may_settle r ≡ true → IsRestful f.settings b.tree k r
    end_rests k c low at b last e r has may =
        let mine = last_at_end f frame space k low w v es round (wait k low) run quiet c at in
        let tree : c.tree ≡ b.tree = same_tree f (boundaries_of c) b mine.of last.of (mine.number ∙ sym last.number) in
        let listed = ap (times e) (none_listed c (quiet_tasks node_has_work v quiet k (Cell c) at)) in
        subst (λ t. IsRestful f.settings t k r) tree ((rest_leads w v es round rest run).nodes k (Cell c) at e r has listed may)

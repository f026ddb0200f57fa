-- Each move sends its messages to nodes that have a case for them, and routes that fit.
use Rattle.seam_law_calls.proofs.Prelude.{◌≡◌, ℕ, ◌<◌, ◌≤◌, Bool, true, false, List, Option, Some, refl, sym, ap, ◌∙◌, arith, cond}
use Rattle.seam_law_calls.proofs.Prelude.{Division, Pos, IsTree, leaf_at, cells_of, RealView, Boundaries, Msg, BaseCall, Hand, Current}
use Rattle.seam_law_calls.proofs.Prelude.{GhostSet}
use Rattle.seam_law_calls.proofs.Prelude.{GhostDrop, Tick, Update, limit, cell_count, base_of, NextPlace, home_after, RouteView, Frame}
use Rattle.seam_law_calls.proofs.Prelude.{here_at, Has, CellMoves, BaseMoves, Moves, at_a_cell, at_a_base, IsFrame, IsBaseNumber}
use Rattle.seam_law_calls.proofs.Prelude.{is_for_cells, IsForNode, leaf_is_cell}
use Rattle.std.proofs.lemmas.Nat.{mod_below}
use Rattle.seam_law_calls.proofs.Trees.{tree_is}
use Rattle.seam_law_calls.proofs.BaseDeeds.{base_keeps, AllSent}
use Rattle.seam_law_calls.proofs.CellDeeds.{cell_deeds, cell_says}
use Rattle.seam_law_calls.proofs.Keeping.{units}

-- ---- messages

module _ (f : Frame) where
  for_cell : (k : ℕ) (m : Msg) → is_for_cells m ≡ true → k < cell_count → IsForNode f k m
  for_cell k m is low = record {
    cells = λ h. low;
    bases = λ h. let z = sym is ∙ h in absurd cc;
    routes = λ e j g at. let z = sym is ∙ ap is_for_cells at in absurd cc;
  }

  base_call_for : (k : ℕ) (c : _) → IsBaseNumber f k → IsForNode f k (BaseCall c)
  base_call_for k c is = record { cells = λ h. absurd cc; bases = λ h. is; routes = λ e j g at. absurd cc }

  update_for : (k : ℕ) (u : _) → IsBaseNumber f k → IsForNode f k (Update u)
  update_for k u is = record { cells = λ h. absurd cc; bases = λ h. is; routes = λ e j g at. absurd cc }

  current_for : (k x j g : ℕ) → IsBaseNumber f k → j < cell_count → g < limit → IsForNode f k (Current x j g)
  current_for k x j g is low small = record {
    cells = λ h. absurd cc;
    bases = λ h. is;
    routes = λ e i n at.
        let a : j ≡ i = cc in
        let b : g ≡ n = cc in
        (omega (arith, a, low), omega (arith, b, small));
  }

  pub home_is_base : (e : ℕ) → 1 ≤ f.settings.bases → IsBaseNumber f (base_of (here_at f 0) e)
  home_is_base e some = record { from = omega arith; below = let lt = mod_below e f.settings.bases some in omega (arith, lt) }

-- the home of a position is a cell
home_by : (me leaf : ℕ) (b : Bool) → me < cell_count → leaf < cell_count → cond b me leaf < cell_count
home_by me leaf true a c = a
home_by me leaf false a c = c

home_low : (f : Frame) (tree : Division) (k : ℕ) (p : Pos) → IsTree tree → k < cell_count → home_after (here_at f k) tree p < cell_count
home_low f tree k p is low =
    let leaf = leaf_is_cell tree p in
    let most = is.cells_to in
    home_by k (leaf_at tree p) _ low (omega (arith, leaf, most))

-- ---- moves

module _ (f : Frame) (frame : IsFrame f) (some : 1 ≤ f.settings.bases) (e k : ℕ) (s : Has) (i : Option Msg) (t : Has)
    (sent : List (ℕ × Msg)) (small : (r : RealView) (bs : Option Boundaries) → i ≡ Some (Hand r bs) → r.generation < limit) where
  abbrev Right : Type 0
  Right = AllSent (IsForNode f) sent

  cell_right : k < cell_count → ((n : NextPlace) → s.cell.slot.next ≡ Some n → n.cell < cell_count) →
      {tree : Division} → IsTree tree → CellMoves (here_at f k) tree e s.cell i t.cell sent → Right
  cell_right low nexts {tree} is_tree m =
      cell_says (IsForNode f) (record {
        sets = λ j x beat c lt. for_cell f j (GhostSet x beat c) refl lt;
        drops = λ j x beat lt. for_cell f j (GhostDrop x beat) refl lt;
        hands = λ u r q changed j has acts at.
            let home = home_low f tree k q.state.pos is_tree low in
            for_cell f j _ refl (omega (arith, home, at));
        calls = λ c n is at. for_cell f n.cell _ refl (nexts n at);
        routes = λ r bs b is le lt. current_for f b r.entity k r.generation (record { from = le; below = lt }) low (small r bs is);
        updates = λ x u. update_for f _ u (home_is_base f x some);
      }) (cell_deeds m)

  base_right : ((r : RouteView) → s.base.route ≡ Some r → r.cell < cell_count) →
      BaseMoves (here_at f k) (cells_of f.tree) e s.base i t.base sent → Right
  base_right routes m =
      let most = frame.tree.cells_to in (base_keeps (λ o. Unit {0}) (IsForNode f) m (record {
        calls = λ c r at is. for_cell f r.cell _ refl (routes r at);
        base_calls = λ c is. base_call_for f _ c (home_is_base f e some);
        ticks = λ is j lt. for_cell f j Tick refl (omega (arith, lt, most));
        reaps = λ r at is. for_cell f r.cell _ refl (routes r at);
      }) (units s.base.orders)).1

  pub sends_right : ((n : NextPlace) → s.cell.slot.next ≡ Some n → n.cell < cell_count) →
      ((r : RouteView) → s.base.route ≡ Some r → r.cell < cell_count) → Moves f e k s i t sent → Right
  sends_right nexts routes (at_a_cell tree one low m same) = cell_right low nexts (tree_is f frame tree one) m
  sends_right nexts routes (at_a_base high m same) = base_right routes m

-- A worked run from an opened world: its batch fits, and at its end a cell has the present copy of the entity.
use Rattle.std.proofs.Common.{◌≡◌, ℕ, zero, suc, ◌<◌, ◌≤◌, Bool, true, false, eqb, [], ◌∷◌, length, None, Some, refl, sym, ap, ◌∙◌, subst}
use Rattle.std.proofs.Common.{arith, inl, inr}
use Rattle.std.specs.List.{IsDistinct}
use Rattle.std.specs.Ordering.{nat_cmp}
use Rattle.std.specs.FinMap as table
use Rattle.std.proofs.lemmas.Bool.{cases_eq, ne_eqb}
use Rattle.seam_node_steps.specs.Prelude.{IsProper, area, cut_after, IsTree, builtin, standard, IsQuiet, order_or, RealView, may_rise}
use Rattle.seam_node_steps.specs.Prelude.{holders, NodeView, node_has_work, one_cell, loaded, empty_world, idle, IsRow, three_cells, batch}
use Rattle.seam_node_steps.specs.Prelude.{move_1, move_2}
use Rattle.seam_law_flow.specs.Prelude.{number_from}
use Rattle.seam_law_calls.specs.Prelude.{Frame, Has, has_of, entity_flow, events_of, real_in, IsFrame, RunsTo, real_at}
use Rattle.seam_law_rounds.specs.Prelude.{AreNumbered, IsForReal, IsBetweenRounds, IsFitting, framed, next_from, calls_of, calls_at}
use Rattle.seam_law_rounds.specs.Prelude.{first_frame, AreReapable, MayBegin}
use Rattle.seam_law_ghosts.specs.Prelude.{copy_at, AreCopiesBetweenRounds}
use Rattle.seam_call.specs.declared.order.Order.TheVariants as order
use Rattle.seam_node_steps.specs.Rows as rows
use Rattle.seam_node_steps.specs.LateGhost.{made, moved_on, at_home, left, away, heard, base_16, base_17, new_parts, with_cells, world_0}
use Rattle.seam_node_steps.specs.LateGhost.{world_14, steps}
use Rattle.seam_node_steps.proofs.Tables.{computing}
use Rattle.seam_law_calls.proofs.ExampleMet.{EachFrom, idle_each, each_node, slots, none_there, one_is, number_is, row_leads, frame_is}
use Rattle.seam_law_rounds.proofs.Opened.{opened_is_new, opened_has_none, opened_between}
use Rattle.seam_law_rounds.proofs.CallsEnd.{calls_end_between}
use Rattle.seam_law_ghosts.proofs.Rounding.{calls_end_copied}
use Rattle.seam_law_ghosts.proofs.Ending.{opened_copied}

abbrev first : Frame
first = first_frame builtin standard

-- ---- trees

one_is_tree : IsTree (one_cell 10000)
one_is_tree = record {
  size_from = omega arith;
  size_to = omega arith;
  cells_to = omega arith;
  cell_was_there = λ n h. absurd (omega (arith, h));
  none_empty = proper;
}
  where
    proper : (c : ℕ) → c < 1 → IsProper (area (one_cell 10000) c)
    proper zero h = record { wide = omega arith; deep = omega arith }
    proper (suc c) h = absurd (omega (arith, h))

three_are_tree : IsTree three_cells
three_are_tree = record {
  size_from = omega arith;
  size_to = omega arith;
  cells_to = omega arith;
  cell_was_there = was;
  none_empty = proper;
}
  where
    was : (n : ℕ) → n < 2 → (cut_after three_cells n).cell ≤ n
    was zero h = omega arith
    was (suc zero) h = omega arith
    was (suc (suc n)) h = absurd (omega (arith, h))

    proper : (c : ℕ) → c < 3 → IsProper (area three_cells c)
    proper zero h = record { wide = omega arith; deep = omega arith }
    proper (suc zero) h = record { wide = omega arith; deep = omega arith }
    proper (suc (suc zero)) h = record { wide = omega arith; deep = omega arith }
    proper (suc (suc (suc c))) h = absurd (omega (arith, h))

first_is : IsFrame first
first_is = record { defs = frame_is.defs; tree = one_is_tree; later = tt }

-- ---- nodes, one by one

module _ (P : ℕ → NodeView → Type 0) (each : (k : ℕ) → P k (idle three_cells k)) where
  nodes_of : (c0 c1 c2 b16 b17 : NodeView) → P 0 c0 → P 1 c1 → P 2 c2 → P 16 b16 → P 17 b17 →
      EachFrom P 0 (with_cells c0 c1 c2 b16 b17 []).nodes
  nodes_of c0 c1 c2 b16 b17 x y z u v = (x, (y, (z, idle_each P three_cells 3 13 (b16 ∷ b17 ∷ []) (λ k low. each k) (u, (v, tt)))))

-- the real of entity e, if the node has one, is r, and e is 1
abbrev IsItsReal : RealView → ℕ → Has → Type 0
IsItsReal r e h = (q : RealView) → real_in h ≡ Some q → (e ≡ 1) × (r ≡ q)

module _ (e : ℕ) where
  its_none : (r q : RealView) → None ≡ Some q → (e ≡ 1) × (r ≡ q)
  its_none r q at = absurd (let z = at in cc)

  its_one : (r q : RealView) → table.get (rows.one r) e ≡ Some q → (e ≡ 1) × (r ≡ q)
  its_one r q at = (number_is r q e at, one_is r q e at)

  its_no : (r q : RealView) → table.get (rows.no {X = RealView}) e ≡ Some q → (e ≡ 1) × (r ≡ q)
  its_no r q at = absurd (none_there e q at)

  is_made : (k : ℕ) → IsItsReal made e ((entity_flow e world_0).slot k)
  unfolding world_0
  is_made =
      slots (λ j h. IsItsReal made e h) e world_0
      (each_node (λ j n. IsItsReal made e (has_of e n)) world_0.nodes
      (nodes_of (λ j n. IsItsReal made e (has_of e n)) (λ k. its_no made) (at_home made (1 ∷ [])) (idle three_cells 1) (idle three_cells 2)
      (base_16 (order.Cell move_1 ∷ order.Cell move_2 ∷ []) (0, 0)) (base_17 [] (0, 0) new_parts) (its_one made) (its_no made)
      (its_no made) (its_none made) (its_none made))) (λ k. its_none made)

  is_moved : (k : ℕ) → IsItsReal moved_on e ((entity_flow e world_14).slot k)
  unfolding world_14
  is_moved =
      slots (λ j h. IsItsReal moved_on e h) e world_14
      (each_node (λ j n. IsItsReal moved_on e (has_of e n)) world_14.nodes
      (nodes_of (λ j n. IsItsReal moved_on e (has_of e n)) (λ k. its_no moved_on)
      (left (rows.ghost 3 (Some (rows.copy_at 2 5100 4000)))) (away moved_on) (heard 2 (rows.ghost 3 None)) (base_16 [] (1, 1))
      (base_17 [] (1, 1) new_parts) (its_no moved_on) (its_one moved_on) (its_no moved_on) (its_none moved_on) (its_none moved_on)))
      (λ k. its_none moved_on)

-- ---- the batch

one_first : holders world_0 1 ≡ 1
unfolding world_0
one_first = simp computing

from_one : (s : ℕ) → next_from s made ≡ 1
from_one s = ap (λ o. (order_or o).next) (table.get-empty nat_cmp s)

its_calls : AreNumbered first batch 1 1 1
its_calls = record {
  node = 16;
  is_base = omega arith;
  in_net = omega arith;
  calls = refl;
  others = λ j n. rw (ne_eqb 16 j (λ e. n (sym e))) refl;
  room = omega arith;
}

module _ (s : ℕ) (n : s ≡ 1 → ⊥) where
  no_calls : calls_of batch 1 s ≡ []
  no_calls = rw (ne_eqb 1 s (λ e. n (sym e))) refl

  none_by : (j : ℕ) (b : Bool) → eqb 16 j ≡ b → calls_at batch 1 s j ≡ []
  none_by j true is = rw (is, ne_eqb 1 s (λ e. n (sym e))) refl
  none_by j false is = rw is refl

  other_calls : AreNumbered first batch 1 s 1
  other_calls = record {
    node = 16;
    is_base = omega arith;
    in_net = omega arith;
    calls = none_by 16 true refl ∙ sym (ap (number_from 1) no_calls);
    others = λ j m. none_by j (eqb 16 j) refl;
    room = let none = ap length no_calls in omega (arith, none);
  }

numbered : (s : ℕ) → AreNumbered first batch 1 s (next_from s made)
numbered s = subst (AreNumbered first batch 1 s) (sym (from_one s)) (elim (cases_eq s 1) [
  | inl is ↦ subst (λ x. AreNumbered first batch 1 x 1) (sym is) its_calls
  | inr n ↦ other_calls s n
])

for_made : IsForReal first batch 1 made
for_made = record { fit = (λ e. refl, (λ e. refl, tt)); numbered = numbered }

no_real : (e k : ℕ) (r : RealView) → real_at e empty_world k ≡ Some r → ⊥
no_real e k r at = let z = sym (opened_has_none builtin standard first_is (omega arith) e k) ∙ at in cc

pub between : IsBetweenRounds first empty_world
between = opened_between builtin standard first_is (omega arith)

copies : AreCopiesBetweenRounds first empty_world
copies = opened_copied builtin standard first_is (omega arith)

pub has_copy : copy_at 1 world_14 0 ≡ Some (rows.copy_at 2 5100 4000)
unfolding world_14
has_copy = simp computing

one_last : holders world_14 1 ≡ 1
unfolding world_14
one_last = simp computing

pub reapable : AreReapable world_14 (1 ∷ [])
unfolding IsDistinct
reapable = record {
  there = (one_last, tt);
  once = (tt, tt);
  small = λ e k r at. subst (λ (x : RealView). may_rise x.beat ≡ true) (is_moved e k r at).1 refl;
}

-- ---- with its load and its run

module _ (load : loaded empty_world batch ≡ world_0) (row : IsRow 1 1 world_0 steps) (quiet : IsQuiet node_has_work world_14) where
  known : (e : ℕ) → Some 1 ≡ Some e → holders (loaded empty_world batch) e ≡ 1
  known e is =
      let same : 1 ≡ e = cc in
      subst (λ x. holders (loaded empty_world batch) x ≡ 1) same (ap (λ w. holders w 1) load ∙ one_first)

  pub opened_fits : IsFitting first empty_world batch
  unfolding IsDistinct
  opened_fits = record {
    tree = three_are_tree;
    space = refl;
    cells = omega arith;
    creates = (
      record {
        new = opened_is_new builtin standard first_is (omega arith) 1;
        unshown = λ e k r at. absurd (no_real e k r at);
        type = omega arith;
        inside = refl;
      },
      tt,
    );
    once = (tt, tt);
    clients = tt;
    unseen = tt;
    one_each = tt;
    destroys = tt;
    ends_once = tt;
    spares = (refl, (refl, tt));
    unmoved = (refl, (refl, tt));
    known = (known, (known, tt));
    calls = λ e k r at.
        let is = is_made e k r (ap (λ w. real_at e w k) (sym load) ∙ at) in
        subst (λ x. IsForReal first batch x r) (sym is.0) (subst (IsForReal first batch 1) is.1 for_made);
    few = omega arith;
    small = λ e k r at. absurd (no_real e k r at);
  }

  begin : MayBegin first empty_world batch
  begin = record { between = between; fits = opened_fits }

  pub run : RunsTo (loaded empty_world batch) (events_of steps) world_14
  run = subst (λ w. RunsTo w (events_of steps) world_14) (sym load) (row_leads 1 1 world_0 steps row)

  pub ends_between : IsBetweenRounds (framed first batch) world_14
  ends_between = calls_end_between first empty_world batch begin world_14 (events_of steps) run quiet

  pub ends_copied : AreCopiesBetweenRounds (framed first batch) world_14
  ends_copied = calls_end_copied first empty_world batch begin copies world_14 (events_of steps) run quiet

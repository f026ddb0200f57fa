-- A quiet world that holds nothing weighs nothing.
use Rattle.seam_law_bounds.proofs.Prelude.{◌≡◌, ℕ, ◌*◌, Bool, true, false, cond, List, [], ◌∷◌, length, Option, None, Some, refl, sym, ap}
use Rattle.seam_law_bounds.proofs.Prelude.{◌∙◌, arith, nat_lt, find, slice_get, nat_tests, link, total, RealView, Map, has_any, CellView}
use Rattle.seam_law_bounds.proofs.Prelude.{BaseView, NodeView, World, node_has_work, Cell, Base, slot_at, Frame, has_of, has_none, held_in}
use Rattle.seam_law_bounds.proofs.Prelude.{real_in, IsBetweenRounds, Sizes, settling, look_weight, real_weight, part_weight, order_weight}
use Rattle.seam_law_bounds.proofs.Prelude.{node_weight, letter_weight, world_weight, HoldsNothing, quiet_links, quiet_tasks, found}
use Rattle.seam_law_bounds.proofs.Prelude.{map_total, no_held, rows_none}
use Rattle.std.specs.FinMap as table
use Rattle.seam_law_rounds.proofs.Starting.{none_weighs}
use Rattle.seam_law_bounds.proofs.Counts.{none_times}
use Rattle.seam_law_calls.proofs.Holds.{neither}
use Rattle.seam_law_calls.proofs.Quieting.{none_left}

-- ---- maps

module _ {X : Type 0} (f : X → ℕ) where
  abbrev weighs : ℕ × X → Bool
  weighs p = nat_lt 0 (f p.1)

  none_by : (p : ℕ × X) (ps : List (ℕ × X)) (b : Bool) → weighs p ≡ b → cond b (Some p) (find weighs ps) ≡ None →
      (find weighs ps ≡ None → total (λ q. f q.1) ps ≡ 0) → total (λ q. f q.1) (p ∷ ps) ≡ 0
  none_by p ps true is h more = cc
  none_by p ps false is h more =
      let here = zero_of (f p.1) is in
      let rest = more h in
      omega (arith, here, rest)
    where
      zero_of : (n : ℕ) → nat_lt 0 n ≡ false → n ≡ 0
      zero_of n is = grind (arith, nat_tests, is)

  none_found : (ps : List (ℕ × X)) → find weighs ps ≡ None → total (λ q. f q.1) ps ≡ 0
  none_found [] h = refl
  none_found (p ∷ ps) h = none_by p ps (weighs p) refl h (none_found ps)

  -- where each value weighs nothing, so do all
  pub map_weighs_none : (m : Map X) → ((k : ℕ) (x : X) → table.get m k ≡ Some x → f x ≡ 0) → map_total f m ≡ 0
  map_weighs_none m each = none_found (table.entries m) (never (find weighs (table.entries m)) refl)
    where
      never : (o : Option (ℕ × X)) → find weighs (table.entries m) ≡ o → o ≡ None
      never None at = refl
      never (Some p) at =
          let two = found weighs m p at in
          let zero = each p.0 p.1 two.0 in
          let no = ap (λ n. nat_lt 0 n) zero in
          absurd (let y = sym two.1 ∙ no in cc)

-- ---- idle nodes

pub idle_survey : (c : CellView) → node_has_work (Cell c) ≡ false → c.survey ≡ []
idle_survey c h = none_left c.survey (neither (has_any c.survey) _ h).0

pub idle_looks : (c : CellView) → node_has_work (Cell c) ≡ false → c.looks ≡ []
idle_looks c h = none_left c.looks (neither _ (has_any c.looks) (neither (has_any c.survey) _ h).1).1

pub idle_base : (b : BaseView) → node_has_work (Base b) ≡ false → b.orders ≡ []
idle_base b h = none_left b.orders (neither (has_any b.orders) _ h).0

-- ---- a quiet world

module _ (z : Sizes) (f : Frame) (u : World) (between : IsBetweenRounds f u) (none : HoldsNothing u) where
  pub empty_links : (a b : ℕ) → link u.rows a b ≡ []
  empty_links a b = quiet_links node_has_work u between.nodes.sound.square between.quiet a b

  real_weighs : (k : ℕ) (c : CellView) → slice_get u.nodes k ≡ Some (Cell c) → (e : ℕ) (r : RealView) → table.get c.reals e ≡ Some r →
      real_weight z r ≡ 0
  real_weighs k c node e r at =
      let there = ap (λ o. real_in (slot_at (has_of e) has_none o)) node ∙ at in
      let held = no_held r.orders (between.settled e k r there).none_held in
      none_times (held_in r.orders) (settling z) held

  node_weighs : (k : ℕ) (s : NodeView) → slice_get u.nodes k ≡ Some s → node_has_work s ≡ false → node_weight z s ≡ 0
  node_weighs k (Cell c) node idle =
      let reals = map_weighs_none (real_weight z) c.reals (real_weighs k c node) in
      let survey = ap (λ l. length l * settling z) (idle_survey c idle) in
      let looks = ap (λ l. length l * look_weight z) (idle_looks c idle) in
      omega (arith, reals, survey, looks)
  node_weighs k (Base b) node idle =
      let orders = ap (total (order_weight z)) (idle_base b idle) in
      let parts = map_weighs_none part_weight b.parts (none k b node) in
      omega (arith, orders, parts)

  pub quiet_weighs : world_weight z u ≡ 0
  quiet_weighs =
      let nodes =
      none_weighs (node_weight z) u.nodes (λ k s at. node_weighs k s at (quiet_tasks node_has_work u between.quiet k s at)) in
      let links = rows_none (letter_weight z) u.rows empty_links in
      omega (arith, nodes, links)

-- A real that fits still fits after a call that fits, and where it settles.
use Rattle.seam_law_calls.proofs.Prelude.{◌≡◌, ℕ, ◌+◌, ◌<◌, Bool, true, false, ◌&&◌, nat_lt, nat_le, length, Some, cond, refl, sym, ◌∙◌}
use Rattle.seam_law_calls.proofs.Prelude.{subst, arith, nat_tests, Pos, Division, leaf_at, cells_of, Cells, haunts_of, Part, TypeDef, State}
use Rattle.seam_law_calls.proofs.Prelude.{Deed, Move, Method, method_of, AreDefs, IsType, fits_deed, fit_values, after, IsOfGroup}
use Rattle.seam_law_calls.proofs.Prelude.{OrderView, next_item, Call, rank_of, is_for, order_of, RealView, is_inside, can_do, Here, type_at}
use Rattle.seam_law_calls.proofs.Prelude.{order_passes, order_is_ready, ready_order, fits_cell_part, may_call, with_offer, executed}
use Rattle.seam_law_calls.proofs.Prelude.{executed_ready, settled_to, home_after, haunts_at, Frame, IsTreeOf, here_at, RealFits, IsFrame}
use Rattle.seam_law_calls.proofs.Prelude.{leaf_is_cell, fit-Decides}
use Rattle.std.specs.FinMap as table
use Rattle.std.specs.FinSet as set
use Rattle.seam_haunt.specs.Haunts.{is_haunt}
use Rattle.seam_haunt.proofs.Chosen.{contains_chosen}
use Rattle.seam_defs.specs.declared.flags.Part.TheVariants as part
use Rattle.seam_defs.specs.declared.flags.Group.TheVariants as group
use Rattle.seam_defs.specs.Groups.{held_by}
use Rattle.seam_defs.specs.Tests.{same_part}
use Rattle.seam_defs.proofs.Numbers.{type_of-is}
use Rattle.seam_defs.proofs.Keeping.{method-keeps}
use Rattle.seam_law_calls.proofs.Trees.{cells_alike}
use Rattle.seam_law_calls.proofs.Holds.{both, picked_passes, item_passes_too, held_offered, held_taken}

-- ---- deeds

part_is : (p : Part) → same_part p part.Cell ≡ true → held_by p ≡ group.Real
part_is part.Cell is = refl
part_is part.Base is = cc

module _ (t : TypeDef) (is : IsType t) where
  deed_keeps : (size : ℕ) (s : State) (d : Deed) → can_do size t part.Cell d ≡ true → IsOfGroup t.properties group.Real s.props →
      IsOfGroup t.properties group.Real (after t s d).props
  deed_keeps size s (Move p) can of = of
  deed_keeps size s (Method m args) can of =
      let one = both (same_part (method_of t m).part part.Cell) _ can in
      let two = both (fits_deed t (Method m args)) true one.1 in
      let fits = both (nat_lt m (length t.methods)) (fit_values (method_of t m).args args) two.0 in
      let within : m < length t.methods = let few = fits.0 in grind (arith, nat_tests, few) in
      let g = part_is (method_of t m).part one.0 in
      subst (λ x. IsOfGroup t.properties x (after t s (Method m args)).props) g
      (method-keeps t.properties (method_of t m) args ((fit-Decides (method_of t m).args args).0 fits.1)
      (is.bodies m _ within) s.props (subst (λ x. IsOfGroup t.properties x s.props) (sym g) of))

  deed_inside : (size : ℕ) (s : State) (d : Deed) → can_do size t part.Cell d ≡ true → is_inside size s.pos ≡ true →
      is_inside size (after t s d).pos ≡ true
  deed_inside size s (Move p) can in_space = (both (same_part part.Cell part.Cell) (is_inside size p) can).1
  deed_inside size s (Method m args) can in_space = in_space

module _ (f : Frame) (defs : AreDefs f.defs) (e ty k : ℕ) where
  abbrev h : Here
  h = here_at f k

  can_of : (x y : ℕ) (c : Call) → fits_cell_part h x y c ≡ true → can_do f.settings.size (type_at h y) part.Cell c.deed ≡ true
  can_of x y c fits = (both (is_for part.Cell x c) (can_do f.settings.size (type_at h y) part.Cell c.deed) fits).1

  -- ---- a call

  pub executed_fits : (r : RealView) (c : Call) → RealFits f e ty k r → may_call h r c ≡ true → RealFits f e ty k (executed h r c)
  executed_fits r c is may =
      let fits = (both (fits_cell_part h r.entity r.ty c) _ may).0 in
      let can = can_of r.entity r.ty c fits in
      record {
        entity = is.entity;
        type = is.type;
        values = deed_keeps (type_at h r.ty) (type_of-is f.defs defs r.ty) f.settings.size r.state c.deed can is.values;
        inside = deed_inside (type_at h r.ty) (type_of-is f.defs defs r.ty) f.settings.size r.state c.deed can is.inside;
        held =
            held_offered (fits_cell_part h r.entity r.ty) r.orders (rank_of c.sender) (order_of r.orders c.sender) c.number c is.held refl
            fits;
        home = is.home;
        haunts = is.haunts;
      }

  pub held_fits : (r : RealView) (c : Call) → RealFits f e ty k r → may_call h r c ≡ true → RealFits f e ty k (with_offer r c)
  held_fits r c is may =
      let fits = (both (fits_cell_part h r.entity r.ty c) _ may).0 in
      record {
        entity = is.entity;
        type = is.type;
        values = is.values;
        inside = is.inside;
        held =
            held_offered (fits_cell_part h r.entity r.ty) r.orders (rank_of c.sender) (order_of r.orders c.sender) c.number c is.held refl
            fits;
        home = is.home;
        haunts = is.haunts;
      }

  pub ready_fits : (r : RealView) (o : ℕ × OrderView Call) (c : Call) → RealFits f e ty k r → ready_order r.orders ≡ Some o →
      next_item o.1 ≡ Some c → RealFits f e ty k (executed_ready h r o c)
  ready_fits r o c is at item =
      let test = fits_cell_part h r.entity r.ty in
      let passes = picked_passes (order_passes test) order_is_ready o (table.entries r.orders) is.held at in
      let fits = item_passes_too test o.1.next c o.1.held passes item in
      let can = can_of r.entity r.ty c fits in
      record {
        entity = is.entity;
        type = is.type;
        values = deed_keeps (type_at h r.ty) (type_of-is f.defs defs r.ty) f.settings.size r.state c.deed can is.values;
        inside = deed_inside (type_at h r.ty) (type_of-is f.defs defs r.ty) f.settings.size r.state c.deed can is.inside;
        held = held_taken test r.orders o.0 o.1 is.held passes;
        home = is.home;
        haunts = is.haunts;
      }

-- ---- settling

low_of : (a b n : ℕ) → (nat_le 0 a && nat_lt a (0 + n)) ≡ true → a < n
low_of a b n is = grind (arith, nat_tests, is)

module _ (f : Frame) (frame : IsFrame f) (tree : Division) (of : IsTreeOf f tree) where
  haunts_low : (p : Pos) (home : ℕ) (old : Cells) (near far j : ℕ) → set.contains (haunts_of p home old tree near far) j ≡ true →
      j < cells_of f.tree
  haunts_low p home old near far j is =
      let test = is_haunt p home old tree near far in
      let parts = both (nat_le 0 j && nat_lt j (0 + cells_of tree)) (test j) (sym (contains_chosen test 0 (cells_of tree) j) ∙ is) in
      let low = low_of j 0 (cells_of tree) parts.0 in
      let alike = cells_alike f frame tree of in
      omega (arith, low, alike)

  pub settled_fits : (e ty k : ℕ) (q : RealView) (j home : ℕ) (old : Cells) (beat generation : ℕ) → RealFits f e ty k q →
      home < cells_of f.tree → RealFits f e ty home (settled_to q (haunts_at (here_at f k) tree q.state.pos j old) beat generation)
  settled_fits e ty k q j home old beat generation is low = record {
    entity = is.entity;
    type = is.type;
    values = is.values;
    inside = is.inside;
    held = is.held;
    home = low;
    haunts = λ i there.
        haunts_low q.state.pos j old f.settings.ghost_distance (f.settings.ghost_distance + f.settings.ghost_hysteresis) i there;
  }

  home_low : (b : Bool) (k : ℕ) (p : Pos) → k < cells_of f.tree → cond b k (leaf_at tree p) < cells_of f.tree
  home_low true k p low = low
  home_low false k p low = let leaf = leaf_is_cell tree p in let alike = cells_alike f frame tree of in omega (arith, leaf, alike)

  pub home_is_low : (k : ℕ) (p : Pos) (j : ℕ) → home_after (here_at f k) tree p ≡ j → k < cells_of f.tree → j < cells_of f.tree
  home_is_low k p j at low = subst (λ i. i < cells_of f.tree) at (home_low _ k p low)

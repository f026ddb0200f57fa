-- What a load makes of an entity that the batch creates: its real in the leaf of its position, and a route to there.
use Rattle.seam_law_rounds.proofs.Prelude.{◌≡◌, ℕ, ◌<◌, ◌≤◌, Bool, true, false, cond, eqb, List, [], ◌∷◌, ◌++◌, map, Option, None, Some}
use Rattle.seam_law_rounds.proofs.Prelude.{refl, sym, ap, ◌∙◌, subst, arith, inl, inr, AllByRecursion, list_all, nat_cmp, unsigned_tied}
use Rattle.seam_law_rounds.proofs.Prelude.{cases_eq, eqb-true, eq-eqb, leaf_at, cells_of, IsTree, type_of, AreDefs, IsType, Create, Batch}
use Rattle.seam_law_rounds.proofs.Prelude.{Map, set_at, cell_count, properties, base_of, CellView, BaseView, NodeView, World, Cell, Base}
use Rattle.seam_law_rounds.proofs.Prelude.{order_passes, created, fits_cell_part, IsNode, real_if, part_if, with_route, created_at}
use Rattle.seam_law_rounds.proofs.Prelude.{base_round, Frame, here_at, IsAt, Has, has_of, has_none, orders_of, RealFits, real_in}
use Rattle.seam_law_rounds.proofs.Prelude.{reaped_by_order, HasNoReaps, created_entity, MayBeMade, framed, each, node_loaded, leaf_is_cell}
use Rattle.seam_law_rounds.proofs.Prelude.{entries_empty, get-set_at}
use Rattle.std.specs.List.{IsDistinct}
use Rattle.std.specs.FinMap as table
use Rattle.std.specs.FinSet as set
use Rattle.seam_defs.specs.declared.flags.Group.TheVariants as group
use Rattle.seam_defs.proofs.Numbers.{type_of-is}
use Rattle.seam_defs.proofs.Starts.{start_of_group}
use Rattle.seam_node_steps.specs.Prelude.{TellsNone}
use Rattle.seam_law_rounds.proofs.Framing.{While, while_created}
use Rattle.seam_law_rounds.proofs.Staying.{Stays, same, stays_as, Becomes, IsRouted, base_stays, creates_stay, becomes_after}

-- ---- where a batch creates an entity

abbrev pub AreOthers : ℕ → List Create → Type 0
AreOthers e xs = AllByRecursion (λ x. x.entity ≡ e → ⊥) xs

-- nowhere, or once
pub data Creation (e : ℕ) (xs : List Create) : Type 0 where
  nowhere : AreOthers e xs → Creation e xs
  once : (before : List Create) (x : Create) (later : List Create) → xs ≡ before ++ x ∷ later → x.entity ≡ e → AreOthers e before
      → AreOthers e later → Creation e xs

others_by : (e : ℕ) (x : Create) → x.entity ≡ e → (xs : List Create) →
    AllByRecursion (λ y. eqb x.entity y ≡ false) (map created_entity xs) → AreOthers e xs
others_by e x is [] h = tt
others_by e x is (y ∷ ys) h = (apart, others_by e x is ys h.1)
  where
    apart : y.entity ≡ e → ⊥
    apart at = let no = sym (eq-eqb x.entity y.entity (is ∙ sym at)) ∙ h.0 in cc

more : (e : ℕ) (x : Create) (xs : List Create) → (x.entity ≡ e → ⊥) → Creation e xs → Creation e (x ∷ xs)
more e x xs n (nowhere h) = nowhere (n, h)
more e x xs n (once before y later is at h k) = once (x ∷ before) y later (ap (λ l. x ∷ l) is) at (n, h) k

pub creation_of : (e : ℕ) (xs : List Create) → IsDistinct eqb (map created_entity xs) → Creation e xs
unfolding IsDistinct
creation_of e [] h = nowhere tt
creation_of e (x ∷ xs) h = elim (cases_eq x.entity e) [
  | inl is ↦ once [] x xs refl is tt (others_by e x is xs h.0)
  | inr n ↦ more e x xs n (creation_of e xs h.1)
]

pub middle : {A : Type 0} (P : A → Type 0) (before : List A) (x : A) (later : List A) → AllByRecursion P (before ++ x ∷ later) → P x
middle P [] x later h = h.0
middle P (y ∷ ys) x later h = middle P ys x later h.1

each_splits : {A : Type 0} (g : A → NodeView → NodeView) (xs ys : List A) (s : NodeView) → each g (xs ++ ys) s ≡ each g ys (each g xs s)
each_splits g [] ys s = refl
each_splits g (x ∷ xs) ys s = each_splits g xs ys (g x s)

-- ---- what is made of it

-- what node k has of the entity when it was just created
pub record Made (f : Frame) (b : Batch) (x : Create) (k : ℕ) (h : Has) : Type 0 where
  pub real : real_in h ≡ cond (eqb (leaf_at b.tree x.pos) k) (Some (created (here_at f k) x.entity x.ty x.pos)) None
  pub route : cell_count ≤ k → h.base.route ≡ Some (record { cell = leaf_at b.tree x.pos; generation = 0 })
  pub spared : HasNoReaps h

module _ (f : Frame) (b : Batch) (tree : IsTree b.tree) (x : Create) (k : ℕ) where
  abbrev e : ℕ
  e = x.entity

  abbrev leaf : ℕ
  leaf = leaf_at b.tree x.pos

  set_there : {X : Type 0} (m : Map X) (o : Option X) → table.get (set_at m e o) e ≡ o
  set_there m o = get-set_at m e e o ∙ ap (λ c. cond c o (table.get m e)) (unsigned_tied e e ∙ eq-eqb e e refl)

  cell_by : (c : CellView) (d : Bool) → c.here ≡ here_at f k → table.get c.reals e ≡ None →
      table.get (real_if d c x).reals e ≡ cond d (Some (created (here_at f k) e x.ty x.pos)) None
  cell_by c true here none =
      set_there c.reals (Some (created c.here e x.ty x.pos)) ∙ ap (λ h. Some (created h e x.ty x.pos)) here
  cell_by c false here none = none

  base_by : (n : BaseView) (d : Bool) → (has_of e (Base (part_if d (with_route n e leaf) x))).base.route
      ≡ Some (record { cell = leaf; generation = 0 })
  base_by n true = set_there n.routes (Some (record { cell = leaf; generation = 0 }))
  base_by n false = set_there n.routes (Some (record { cell = leaf; generation = 0 }))

  orders_by : (n : BaseView) (d : Bool) → orders_of e n.orders ≡ [] → HasNoReaps (has_of e (Base (part_if d (with_route n e leaf) x)))
  orders_by n true none = subst (AllByRecursion (λ o. reaped_by_order o ≡ None)) (sym none) tt
  orders_by n false none = subst (AllByRecursion (λ o. reaped_by_order o ≡ None)) (sym none) tt

  made_by : {keeps : Type 0} (s : NodeView) → While TellsNone f b tree k s → Stays same keeps has_none (has_of e s) →
      Made f b x k (has_of e (created_at b.tree x s))
  made_by (Cell c) at h = record {
    real =
        cell_by c (eqb leaf c.here.me) at.here h.real
        ∙ ap (λ j. cond (eqb leaf j) (Some (created (here_at f k) e x.ty x.pos)) None) (ap (λ q. q.me) at.here);
    route = λ high. let low = at.low in absurd (omega (arith, low, high));
    spared = tt;
  }
  made_by (Base n) at h = record {
    real = sym (none_by (eqb leaf k) refl);
    route = λ high. base_by n (eqb (base_of n.here e) n.here.me);
    spared = orders_by n (eqb (base_of n.here e) n.here.me) h.orders;
  }
    where
      none_by : (d : Bool) → eqb leaf k ≡ d → cond d (Some (created (here_at f k) e x.ty x.pos)) None ≡ None
      none_by true is =
          let same = eqb-true leaf k is in
          let low = leaf_is_cell b.tree x.pos in
          let most = tree.cells_to in
          let high = at.high in
          absurd (omega (arith, same, low, most, high))
      none_by false is = refl

  -- what a load makes of the entity at a node that had nothing of it
  module _ (before later : List Create) (is : b.creates ≡ before ++ x ∷ later) (first : AreOthers e before) (last : AreOthers e later)
      (spares : AllByRecursion (λ o. reaped_by_order o.1 ≡ None) b.orders) where
    abbrev pub until : NodeView → NodeView
    until s = created_at b.tree x (each (created_at b.tree) before (base_round (cells_of b.tree) s))

    pub node_made : (s : NodeView) → IsNode s → IsAt f k s → has_of e s ≡ has_none → Made f b x k (has_of e (until s))
    node_made s node at none =
        made_by (each (created_at b.tree) before (base_round (cells_of b.tree) s)) (while_created f b tree k before s node at)
        (creates_stay e b.tree before first (IsRouted e s) has_none (base_round (cells_of b.tree) s)
        (subst (λ g. Stays same (IsRouted e s) g (has_of e (base_round (cells_of b.tree) s))) none (base_stays e (cells_of b.tree) s)))

    pub node_after : (s : NodeView) → Becomes e (Unit {0}) (has_of e (until s)) (has_of e (node_loaded b s))
    node_after s =
        let split = ap (λ l. each (created_at b.tree) l (base_round (cells_of b.tree) s)) is
        ∙ each_splits (created_at b.tree) before (x ∷ later) (base_round (cells_of b.tree) s) in
        becomes_after e b spares (Unit {0}) (has_of e (until s)) (each (created_at b.tree) b.creates (base_round (cells_of b.tree) s))
        (subst (λ n. Stays same (Unit {0}) (has_of e (until s)) (has_of e n)) (sym split)
        (creates_stay e b.tree later last (Unit {0}) (has_of e (until s)) (until s) (stays_as (has_of e (until s)))))

-- ---- the real that is made

haunts_none : (j : ℕ) → set.contains (set.empty {K = ℕ} {R = nat_cmp}) j ≡ true → ⊥
haunts_none j h = let no = sym (set.contains-empty nat_cmp j) ∙ h in cc

pub made_fits : (f : Frame) (defs : AreDefs f.defs) (b : Batch) (w : World) (x : Create) (k : ℕ) → MayBeMade f w x → k < cells_of b.tree →
    RealFits (framed f b) x.entity x.ty k (created (here_at f k) x.entity x.ty x.pos)
made_fits f defs b w x k may low = record {
  entity = refl;
  type = refl;
  values =
      let type : IsType (type_of f.defs x.ty) = type_of-is f.defs defs x.ty in
      start_of_group (properties (here_at f k) x.ty) group.Real type.defaults;
  inside = may.inside;
  held = ap (list_all (order_passes (fits_cell_part (here_at f k) x.entity x.ty))) entries_empty;
  home = low;
  haunts = λ j h. absurd (haunts_none j h);
}

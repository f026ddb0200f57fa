-- What a load makes of the nodes of a quiet world that holds nothing.
use Rattle.seam_law_bounds.proofs.Prelude.{◌≡◌, ℕ, Bool, true, false, eqb, List, [], ◌∷◌, map, Option, None, Some, refl, sym, ap, ◌∙◌}
use Rattle.seam_law_bounds.proofs.Prelude.{subst, arith, T, ◌&&◌, option_map, AllByRecursion, nat_cmp, is_lt, nat_cmp_total, is_sorted}
use Rattle.seam_law_bounds.proofs.Prelude.{below_all, leaf_at, cells_of, Create, Order, Batch, properties_of, Here, base_of, properties}
use Rattle.seam_law_bounds.proofs.Prelude.{Map, with_value, each_value, has_any, BaseView, PartView, ProxyView, base_text, CellView}
use Rattle.seam_law_bounds.proofs.Prelude.{NodeView, node_has_work, Cell, Base, real_if, part_if, with_route, new_part, created_at}
use Rattle.seam_law_bounds.proofs.Prelude.{with_proxy, attached, cell_round, base_round, new_proxy, proxy_begins, part_begins, order_if}
use Rattle.seam_law_bounds.proofs.Prelude.{ordered_at, held_of, each, made, node_loaded, proxy_weight, part_weight, weight_or, all_append}
use Rattle.seam_law_bounds.proofs.Prelude.{each_keeps, Any, any, set_keeps, get-each_value}
use Rattle.std.specs.FinMap as table
use Rattle.seam_defs.specs.declared.flags.Group.TheVariants as group
use Rattle.seam_law_bounds.proofs.BaseWeights.{line_weighs}
use Rattle.seam_law_bounds.proofs.QuietWeights.{map_weighs_none, idle_looks, idle_base}
use Rattle.seam_law_bounds.proofs.Starts.{IsPlain}

-- ---- entries of a map whose values were changed

module _ {X Y : Type 0} (f : X → Y) where
  below_each : (k : ℕ) (es : List (ℕ × X)) → T (below_all nat_cmp k es) → T (below_all nat_cmp k (map (with_value f) es))
  below_each k [] h = tt
  below_each k (e ∷ es) h = both (is_lt (nat_cmp k e.0)) _ _ h (below_each k es)
    where
      both : (b : Bool) (c d : Bool) → T (b && c) → (T c → T d) → T (b && d)
      both true c d h g = g h
      both false c d h g = h

  sorted_each : (es : List (ℕ × X)) → T (is_sorted nat_cmp es) → T (is_sorted nat_cmp (map (with_value f) es))
  sorted_each [] h = tt
  sorted_each (e ∷ es) h =
      both (below_all nat_cmp e.0 es) (is_sorted nat_cmp es) _ _ h (below_each e.0 es) (sorted_each es)
    where
      both : (a b c d : Bool) → T (a && b) → (T a → T c) → (T b → T d) → T (c && d)
      both true b true d h g k = k h
      both true b false d h g k = g tt
      both false b c d h g k = absurd h

  pub entries_each : (m : Map X) → table.entries (each_value f m) ≡ map (with_value f) (table.entries m)
  entries_each m =
      let es = map (with_value f) (table.entries m) in
      let sorted = sorted_each (table.entries m) (table.entries_sorted m) in
      let same : each_value f m ≡ table.from_sorted es =
      table.same_map nat_cmp_total table.nat_cmp-IsAntisymmetric _ _ (λ q.
      table.get-from_entries nat_cmp_total es q ∙ sym (table.get-from_sorted nat_cmp es q sorted)) in
      ap table.entries same ∙ table.entries-from_sorted nat_cmp es sorted

-- ---- parts

abbrev HoldNone : BaseView → Type 0
HoldNone b = (e : ℕ) (p : PartView) → table.get b.parts e ≡ Some p → part_weight p ≡ 0

begins_by : (o : Option ProxyView) → weight_or proxy_weight (option_map proxy_begins o) ≡ weight_or proxy_weight o
begins_by None = refl
begins_by (Some x) = refl

begins_weighs : (p : PartView) → part_weight (part_begins p) ≡ part_weight p
begins_weighs p = let one = begins_by p.proxy in omega (arith, one)

mapped_by : (o : Option PartView) (q : PartView) → option_map part_begins o ≡ Some q → (p : PartView) × (o ≡ Some p) × (part_begins p ≡ q)
mapped_by None q h = cc
mapped_by (Some p) q h = let same : part_begins p ≡ q = cc in (p, refl, same)

new_weighs : (h : Here) (ty : ℕ) → part_weight (new_part h ty) ≡ 0
new_weighs h ty =
    let none = map_weighs_none held_of (table.empty {R = nat_cmp}) (λ k o at. let no = sym (table.get-empty nat_cmp k) ∙ at in absurd cc) in
    omega (arith, none)

joined_weighs : (h : Here) (p : PartView) → part_weight p ≡ 0 → part_weight (with_proxy h p) ≡ 0
joined_weighs h p none =
    let q : PartView = record p { proxy = Some new_proxy } in
    let one = line_weighs (has_any (properties_of (properties h p.ty) group.BaseClient)) (base_text h q) (Some new_proxy) in
    omega (arith, one, none)

joined_by : (h : Here) (o : Option PartView) (q : PartView) → option_map (with_proxy h) o ≡ Some q →
    ((p : PartView) → o ≡ Some p → part_weight p ≡ 0) → part_weight q ≡ 0
joined_by h None q is each = cc
joined_by h (Some p) q is each =
    let same : with_proxy h p ≡ q = cc in
    subst (λ x. part_weight x ≡ 0) same (joined_weighs h p (each p refl))

-- ---- nodes before their orders

-- no look is due, no order is given, and parts hold nothing
abbrev pub IsBlank : NodeView → Type 0
IsBlank (Cell c) = c.looks ≡ []
IsBlank (Base b) = (b.orders ≡ []) × HoldNone b

begun_blank : (n : ℕ) (s : NodeView) → IsBlank s → IsBlank (base_round n s)
begun_blank n (Cell c) h = h
begun_blank n (Base b) h = (
  h.0,
  λ e q at.
      let was = mapped_by (table.get b.parts e) q (sym (get-each_value part_begins b.parts e) ∙ at) in
      subst (λ x. part_weight x ≡ 0) was.2 (begins_weighs was.0 ∙ h.1 e was.0 was.1),
)

part_blank : (d : Bool) (b : BaseView) (x : Create) → IsBlank (Base b) → IsBlank (Base (part_if d b x))
part_blank true b x h = (
  h.0,
  set_keeps (λ e p. part_weight p ≡ 0) b.parts x.entity (Some (new_part b.here x.ty)) h.1
      (λ p is. let same : new_part b.here x.ty ≡ p = cc in subst (λ y. part_weight y ≡ 0) same (new_weighs b.here x.ty)),
)
part_blank false b x h = h

created_blank : (b : Batch) (x : Create) (s : NodeView) → Any x → IsBlank s → IsBlank (created_at b.tree x s)
created_blank b x (Cell c) u h = by (eqb (leaf_at b.tree x.pos) c.here.me)
  where
    by : (d : Bool) → IsBlank (Cell (real_if d c x))
    by true = h
    by false = h
created_blank b x (Base n) u h =
    part_blank (eqb (base_of n.here x.entity) n.here.me) (with_route n x.entity (leaf_at b.tree x.pos)) x h

joined_blank : (q : ℕ) (s : NodeView) → Any q → IsBlank s → IsBlank (attached q s)
joined_blank q (Cell c) u h = h
joined_blank q (Base n) u h = (
  h.0,
  set_keeps (λ e p. part_weight p ≡ 0) n.parts q (option_map (with_proxy n.here) (table.get n.parts q)) h.1
      (λ p is. joined_by n.here (table.get n.parts q) p is (h.1 q)),
)

round_blank : (b : Batch) (s : NodeView) → IsBlank s → IsBlank (cell_round b.tree s)
round_blank b (Cell c) h = h
round_blank b (Base n) h = h

pub loaded_blank : (b : Batch) (s : NodeView) → IsBlank s → IsBlank (cell_round b.tree (made b s))
loaded_blank b s h =
    round_blank b (made b s)
    (each_keeps attached IsBlank Any joined_blank b.clients (any b.clients) _
    (each_keeps (created_at b.tree) IsBlank Any (created_blank b) b.creates (any b.creates) _ (begun_blank (cells_of b.tree) s h)))

pub idle_blank : (s : NodeView) → node_has_work s ≡ false →
    ((b : BaseView) → s ≡ Base b → (e : ℕ) (p : PartView) → table.get b.parts e ≡ Some p → part_weight p ≡ 0) → IsBlank s
idle_blank (Cell c) idle none = idle_looks c idle
idle_blank (Base b) idle none = (idle_base b idle, none b refl)

-- ---- with their orders

module _ (Ok : Order → Type 0) where
  plain_if : (d : Bool) (b : BaseView) (o : Order) → Ok o → IsPlain Ok (Base b) → IsPlain Ok (Base (order_if d b o))
  plain_if true b o ok h = (all_append Ok b.orders (o ∷ []) h.0 (ok, tt), h.1)
  plain_if false b o ok h = h

  pub plain_by : (o : ℕ × Order) (s : NodeView) → Ok o.1 → IsPlain Ok s → IsPlain Ok (ordered_at o s)
  plain_by o (Cell c) ok h = h
  plain_by o (Base b) ok h = plain_if (eqb o.0 b.here.me) b o.1 ok h

  pub blank_is_plain : (s : NodeView) → IsBlank s → IsPlain Ok s
  blank_is_plain (Cell c) h = h
  blank_is_plain (Base b) h = (subst (AllByRecursion Ok) (sym h.0) tt, h.1)

  pub loaded_plain : (b : Batch) → AllByRecursion (λ o. Ok o.1) b.orders → (s : NodeView) → IsBlank s → IsPlain Ok (node_loaded b s)
  loaded_plain b all s h =
      each_keeps ordered_at (IsPlain Ok) (λ o. Ok o.1) plain_by b.orders all (cell_round b.tree (made b s))
      (blank_is_plain _ (loaded_blank b s h))

-- a cell is given no order
pub cell_ordered : (c : CellView) (os : List (ℕ × Order)) → each ordered_at os (Cell c) ≡ Cell c
cell_ordered c [] = refl
cell_ordered c (o ∷ os) = cell_ordered c os

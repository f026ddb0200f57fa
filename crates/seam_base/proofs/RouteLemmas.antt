-- Routes go to cells.
use Rattle.std.proofs.Common.{◌≡◌, ℕ, ◌<◌, Bool, true, false, not, cond, ◌&&◌, List, Option, None, Some, refl, sym, ap, ◌∙◌, arith}
use Rattle.std.specs.Prelude.{nat_lt, if◌then◌else◌}
use Rattle.std.specs.Ordering.{nat_cmp, eq_by_cmp}
use Rattle.std.specs.Cmp.{nat_cmp_total}
use Rattle.std.specs.FinMap as table
use Rattle.std.proofs.lemmas.Bool.Decides.{nat_tests}
use Rattle.seam_node_steps.specs.Prelude.{cell_count, is_small, Map, BaseView, RouteView, current, newer_route, sends_none, stray_current}
use Rattle.seam_node_steps.specs.Prelude.{RoutesAreCells, routes_without}
use Rattle.seam_node_steps.proofs.Gone.{left_without}
use Rattle.seam_node_steps.specs.BaseCases.{unless_stray}
use Rattle.seam_base.specs.Routes.{gives_way}

pub no_routes : RoutesAreCells table.empty
no_routes e r is = let none = sym (table.get-empty nat_cmp e) ∙ is in absurd (cc)

route_in : (d : Bool) (x r : RouteView) (o : Option RouteView) → cond d (Some x) o ≡ Some r → x.cell < cell_count →
    (o ≡ Some r → r.cell < cell_count) → r.cell < cell_count
route_in true x r o h lt f = let e : x ≡ r = cc in let c = ap (λ y. y.cell) e in omega (arith, c, lt)
route_in false x r o h lt f = f h

pub route_put : (m : Map RouteView) (e : ℕ) (new : RouteView) → new.cell < cell_count → RoutesAreCells m →
    RoutesAreCells (table.insert m e new)
route_put m e new lt are q r is =
    route_in (eq_by_cmp nat_cmp q e) new r (table.get m q) (sym (table.get-insert nat_cmp_total m e new q) ∙ is) lt (are q r)

-- routes that are left go to cells
pub left_are_cells : (es : List ℕ) (m : Map RouteView) → RoutesAreCells m → RoutesAreCells (routes_without es m)
left_are_cells es m are e r at = are e r (left_without e es m r at)

-- a route gives way to one to a cell alone
pub new_is_cell : (o : Option RouteView) (new : RouteView) → gives_way o new ≡ true → new.cell < cell_count
new_is_cell None new h = cc
new_is_cell (Some r) new h = by (nat_lt new.cell cell_count) refl h
  where
    by : (a : Bool) → nat_lt new.cell cell_count ≡ a → (a && (is_small new.generation && nat_lt r.generation new.generation)) ≡ true →
        new.cell < cell_count
    by true t h = grind (arith, nat_tests)
    by false t h = cc

-- ---- the new route in place of one that gives way

abbrev pub renewed : RouteView → RouteView → RouteView
renewed r new = if gives_way (Some r) new then new else r

pub renewed_are_cells : (m : Map RouteView) (e : ℕ) (r new : RouteView) → Some r ≡ table.get m e → RoutesAreCells m →
    RoutesAreCells (table.insert m e (renewed r new))
renewed_are_cells m e r new at are = route_put m e (renewed r new) (by (gives_way (Some r) new) refl) are
  where
    by : (t : Bool) → gives_way (Some r) new ≡ t → (if t then new else r).cell < cell_count
    by true h = new_is_cell (Some r) new h
    by false h = are e r (sym at)

number_is : (q e : ℕ) → eq_by_cmp nat_cmp q e ≡ true → e ≡ q
number_is q e t = grind (arith, nat_tests)

-- a route written as it was leaves the routes
same_routes : (m : Map RouteView) (e : ℕ) (r : RouteView) → Some r ≡ table.get m e → table.insert m e r ≡ m
same_routes m e r at =
    table.same_map nat_cmp_total table.nat_cmp-IsAntisymmetric _ _ (λ q.
    table.get-insert nat_cmp_total m e r q ∙ by q (eq_by_cmp nat_cmp q e) refl)
  where
    by : (q : ℕ) (t : Bool) → eq_by_cmp nat_cmp q e ≡ t → cond t (Some r) (table.get m q) ≡ table.get m q
    by q true is = at ∙ ap (table.get m) (number_is q e is)
    by q false is = refl

-- and that is what the case of a current leaves
pub node_renewed : (b : BaseView) (e : ℕ) (r new : RouteView) → Some r ≡ table.get b.routes e →
    record b { routes = table.insert b.routes e (renewed r new) }
    ≡ (unless_stray (stray_current new (table.get b.routes e)) b (sends_none (current b e new (table.get b.routes e)))).state
node_renewed b e r new at =
    by (nat_lt new.cell cell_count) (is_small new.generation) (nat_lt r.generation new.generation)
    ∙ ap (λ o. (unless_stray (stray_current new o) b (sends_none (current b e new o))).state) at
  where
    same : record b { routes = table.insert b.routes e r } ≡ b
    same = ap (λ m. record b { routes = m }) (same_routes b.routes e r at)

    by : (cell small newer : Bool) → record b { routes = table.insert b.routes e (if (cell && (small && newer)) then new else r) }
        ≡ (unless_stray (not (cell && small)) b (sends_none (newer_route newer b e new))).state
    by true true true = refl
    by true true false = same
    by true false newer = same
    by false small newer = same

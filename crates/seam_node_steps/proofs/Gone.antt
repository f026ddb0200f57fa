-- For callers: which routes are left where those to some entities are forgotten.
use Rattle.std.proofs.Common.{◌≡◌, ℕ, Bool, true, false, cond, List, [], ◌∷◌, None, Some, refl, sym, ap, ◌∙◌}
use Rattle.std.specs.List.{AllByRecursion}
use Rattle.std.specs.Ordering.{nat_cmp, eq_by_cmp}
use Rattle.std.specs.Cmp.{nat_cmp_total, unsigned_tied}
use Rattle.std.specs.FinMap as table
use Rattle.std.proofs.lemmas.Bool.{ne_eqb}
use Rattle.seam_node_steps.specs.Prelude.{Map, RouteView, routes_without}

module _ (e : ℕ) where
  -- who has no route gets none
  pub none_without : (es : List ℕ) (m : Map RouteView) → table.get m e ≡ None → table.get (routes_without es m) e ≡ None
  none_without [] m none = none
  none_without (q ∷ es) m none =
      none_without es (table.remove m q) (table.get-remove nat_cmp_total m q e ∙ by (eq_by_cmp nat_cmp e q))
    where
      by : (b : Bool) → cond b None (table.get m e) ≡ None
      by true = refl
      by false = none

  -- the routes of others stay
  pub others_without : (es : List ℕ) (m : Map RouteView) → AllByRecursion (λ q. q ≡ e → ⊥) es →
      table.get (routes_without es m) e ≡ table.get m e
  others_without [] m others = refl
  others_without (q ∷ es) m others =
      others_without es (table.remove m q) others.1
      ∙ (table.get-remove nat_cmp_total m q e
      ∙ ap (λ b. cond b None (table.get m e)) (unsigned_tied e q ∙ ne_eqb e q (λ is. others.0 (sym is))))

  -- one that is left was there
  pub left_without : (es : List ℕ) (m : Map RouteView) (r : RouteView) → table.get (routes_without es m) e ≡ Some r →
      table.get m e ≡ Some r
  left_without [] m r at = at
  left_without (q ∷ es) m r at =
      by (eq_by_cmp nat_cmp e q) (sym (table.get-remove nat_cmp_total m q e) ∙ left_without es (table.remove m q) r at)
    where
      by : (b : Bool) → cond b None (table.get m e) ≡ Some r → table.get m e ≡ Some r
      by true is = absurd (let z = is in cc)
      by false is = is

-- The allowed places of a boundary are those from the least to the greatest.
use Rattle.std.proofs.Common.{◌≡◌, ◌↔◌, ℕ, ◌+◌, ◌-◌, ◌<◌, ◌≤◌, arith, ap, sym, ◌∙◌, inl, inr, subst}
use Rattle.std.proofs.lemmas.Bool.{cases_lt}
use Rattle.seam_geo.specs.Pos.{gap}
use Rattle.seam_geo.specs.declared.pos.Pos.{Pos}
use Rattle.seam_geo.specs.Rect.{Area}
use Rattle.seam_tree.specs.declared.boundary.Boundary.{Boundary}
use Rattle.seam_tree.specs.Boundary.{place_along}
use Rattle.seam_tree.specs.Division.{Division, NoneEmpty, HasBoundary, IsTree, area_divided_by}
use Rattle.seam_tree.specs.Change.{with_place}
use Rattle.seam_tree.proofs.Changes.{with_place_tree}
use Rattle.seam_balance.specs.Balance.{IsAllowed, boundary_at}
use Rattle.seam_balance.proofs.Convex.{none_empty_between, allowed_runs, own_place_none_empty}

-- what the search for the least and the greatest allowed place found
pub record IsRange (t : Division) (b shift low high : ℕ) : Type 0 where
  pub low_from : (boundary_at t b).at - shift ≤ low
  pub low_to : low ≤ (boundary_at t b).at
  pub low_allowed : NoneEmpty (with_place t b low)
  pub lowest : (at : ℕ) → (boundary_at t b).at - shift ≤ at → at < low → ¬ NoneEmpty (with_place t b at)
  pub high_from : (boundary_at t b).at ≤ high
  pub high_to : high ≤ (boundary_at t b).at + shift
  pub high_allowed : NoneEmpty (with_place t b high)
  pub highest : (at : ℕ) → high < at → at ≤ (boundary_at t b).at + shift →
      at < place_along (boundary_at t b).axis (area_divided_by t b).high → ¬ NoneEmpty (with_place t b at)

-- an allowed place is below the end of the divided area
pub allowed_end : (t : Division) (b at : ℕ) → IsTree t → HasBoundary t b → NoneEmpty (with_place t b at) →
    at < place_along (boundary_at t b).axis (area_divided_by t b).high
allowed_end t b at tree there none = (allowed_runs t b at tree there (with_place_tree t b at tree none)).to_high

pub range_allowed : (t : Division) (b shift low high : ℕ) → IsTree t → HasBoundary t b → IsRange t b shift low high → (at : ℕ) →
    IsAllowed t b shift at ↔ ((low ≤ at) × (at ≤ high))
range_allowed t b shift low high tree there range at = (
  λ allowed.
      let near : gap at (boundary_at t b).at ≤ shift = allowed.near in (
        elim (cases_lt at low) [ inl l ↦ absurd (range.lowest at (omega arith) l allowed.none_empty) | inr g ↦ g ],
        elim (cases_lt high at) [
          | inl l ↦ absurd (range.highest at l (omega arith) (allowed_end t b at tree there allowed.none_empty) allowed.none_empty)
          | inr g ↦ g
        ],
      ),
  λ inside. record {
    near = omega (arith, inside.0, inside.1, range.low_from, range.high_to);
    none_empty = none_empty_between t b low at high tree there inside.0 inside.1 range.low_allowed range.high_allowed;
  },
)

-- the boundary may stay where it is
pub own_place : (t : Division) (b : ℕ) (x : Boundary) → IsTree t → x ≡ boundary_at t b → NoneEmpty (with_place t b x.at)
own_place t b x tree is = subst (λ (y : Boundary). NoneEmpty (with_place t b y.at)) (sym is) (own_place_none_empty t b tree)

-- where the divided area ends along the boundary's axis
pub end_is : (t : Division) (b : ℕ) (x : Boundary) (a : Area) (high : Pos) (end : ℕ) → x ≡ boundary_at t b → a ≡ area_divided_by t b →
    high ≡ a.high → end ≡ place_along x.axis high → end ≡ place_along (boundary_at t b).axis (area_divided_by t b).high
end_is t b x a high end x_is a_is high_is e =
    e
    ∙ ap (λ (p : Pos). place_along x.axis p) (high_is ∙ ap (λ (y : Area). y.high) a_is)
    ∙ ap (λ (y : Boundary). place_along y.axis (area_divided_by t b).high) x_is

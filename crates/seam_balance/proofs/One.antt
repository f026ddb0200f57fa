-- There is at most one best place of a boundary, and at most one balanced tree.
use Rattle.std.proofs.Common.{◌≡◌, ℕ, ◌≤◌, List, [], ◌∷◌, sym, ◌∙◌, subst, arith, inl, inr}
use Rattle.std.proofs.lemmas.Bool.{cases_lt}
use Rattle.seam_geo.specs.declared.pos.Pos.{Pos}
use Rattle.seam_tree.specs.Division.{Division}
use Rattle.seam_tree.specs.Change.{with_place}
use Rattle.seam_balance.specs.Balance.{IsBest, BalancedInTurn}

-- no best place is below another
not_below : (t : Division) (b shift : ℕ) (positions : List Pos) (at other : ℕ) → IsBest t b shift positions at →
    IsBest t b shift positions other → other ≤ at
not_below t b shift positions at other best same =
    elim (cases_lt at other) [
      | inl l ↦ absurd (omega (arith, same.lowest at best.allowed l, best.least other same.allowed))
      | inr g ↦ g
    ]

pub one_best : (t : Division) (b shift : ℕ) (positions : List Pos) (at other : ℕ) → IsBest t b shift positions at →
    IsBest t b shift positions other → at ≡ other
one_best t b shift positions at other best same =
    omega (arith, not_below t b shift positions at other best same, not_below t b shift positions other at same best)

pub one_in_turn : (positions : List Pos) (shift : ℕ) (order : List ℕ) (t new other : Division) → BalancedInTurn positions shift t order new
    → BalancedInTurn positions shift t order other → new ≡ other
one_in_turn positions shift [] t new other is same = is ∙ sym same
one_in_turn positions shift (b ∷ later) t new other (at, best, rest) (to, too, more) =
    one_in_turn positions shift later (with_place t b at) new other rest
    (subst (λ (place : ℕ). BalancedInTurn positions shift (with_place t b place) later other) (one_best t b shift positions to at too best)
    more)

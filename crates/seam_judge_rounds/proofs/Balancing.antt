-- A tree is the balanced one or not.
use Rattle.std.proofs.Common.{◌≡◌, ℕ, Bool, true, false, List, map, Option, None, Some, sym, ◌∙◌, subst, IsTrue, ◌↔◌}
use Rattle.std.specs.Prelude.{MatchBool}
use Rattle.seam_rule_rounds.specs.Prelude.{Pos, Division, IsBalanced, Header, has_balance, tree_of, HomeLine, Standing}
use Rattle.seam_balance.specs.Order.{boundaries_from_root}
use Rattle.seam_balance.proofs.One.{one_in_turn}
use Rattle.seam_judge_rounds.specs.Bounds.{PrintsBounds}

-- the tree that was balanced is the other one exactly where that is balanced too
pub balanced_is : (positions all : List Pos) (shift : ℕ) (t u next other : Division) (r : Bool) → positions ≡ all → t ≡ u →
    IsBalanced positions shift t next → (IsTrue r ↔ (next ≡ other)) → (IsTrue r ↔ IsBalanced all shift u other)
balanced_is positions all shift t u next other r same tree balanced is =
    let here = subst (λ (ps : List Pos). IsBalanced ps shift u next) same
    (subst (λ (x : Division). IsBalanced positions shift x next) tree balanced)
    in (
      (λ so. subst (IsBalanced all shift u) (is.0 so) here),
      (λ too. is.1 (one_in_turn all shift (boundaries_from_root u) u next other here too)),
    )

module _ (h : Header) (s : Standing) (homes : List HomeLine) where
  pub printed : (bounds : Division) (o : Option Division) (r : Bool) → has_balance s.book ≡ true → o ≡ Some bounds →
      (IsTrue r ↔ IsBalanced (map (λ (l : HomeLine). l.state.pos) homes) h.settings.balance_shift (tree_of s.book) bounds) →
      (IsTrue r ↔ PrintsBounds h s homes o)
  printed bounds o r balanced is decides = by (has_balance s.book) balanced
    where
      Here : Bool → Type 0
      Here b =
          MatchBool b
          ((next : Division) × IsBalanced (map (λ (l : HomeLine). l.state.pos) homes) h.settings.balance_shift (tree_of s.book) next
          × (o ≡ Some next)) (o ≡ None)

      by : (b : Bool) → b ≡ true → (IsTrue r ↔ Here b)
      by false never = absurd (cc)
      by true here = (
        (λ t. (bounds, decides.0 t, is)),
        (λ found.
            let same : Some found.0 ≡ Some bounds = sym found.2 ∙ is in
            let one : found.0 ≡ bounds = cc in
            decides.1 (subst (IsBalanced (map (λ (l : HomeLine). l.state.pos) homes) h.settings.balance_shift (tree_of s.book)) one
            found.1)),
      )

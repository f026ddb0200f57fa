-- Whether what a round prints of boundaries is in form.
use Rattle.std.proofs.Common.{◌≡◌, Bool, true, false, Option, Some, None, sym, ◌∙◌, subst, IsTrue, ◌↔◌, MatchBool}
use Rattle.seam_tree.specs.Division.{Division, IsTree}
use Rattle.seam_balance.specs.Balance.{HasSameCuts}
use Rattle.seam_rule_rounds.specs.Prelude.{Book, has_balance, tree_of}
use Rattle.seam_law_texts.specs.Forms.{HasForm, IsNext}

some_is : (t u : Division) → Some t ≡ Some u → t ≡ u
some_is t u e = cc

-- where the boundaries are balanced and there is a tree, its cuts decide
pub cuts_decide : (b : Book) (same : Bool) (t : Division) (bounds : Option Division) → has_balance b ≡ true → bounds ≡ Some t →
    IsTree t → (IsTrue same ↔ HasSameCuts (tree_of b) t) → (IsTrue same ↔ HasForm b bounds)
cuts_decide b same t bounds balanced is tree decides = by (has_balance b) balanced
  where
    by : (y : Bool) → y ≡ true → (IsTrue same ↔ MatchBool y ((u : Division) × (bounds ≡ Some u) × IsNext b u) (bounds ≡ None))
    by true at = (
      (λ holds. (t, is, record { tree = tree; cuts = decides.0 holds })),
      (λ (u, as_u, next). decides.1 (subst (HasSameCuts (tree_of b)) (some_is u t (sym as_u ∙ is)) next.cuts)),
    )
    by false at = absurd (cc)

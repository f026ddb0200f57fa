-- For callers: the trees of a frame.
use Rattle.seam_law_calls.proofs.Prelude.{◌≡◌, ℕ, zero, suc, List, [], ◌∷◌, Some, slice_get, refl, sym, subst, AllByRecursion, Division}
use Rattle.seam_law_calls.proofs.Prelude.{cells_of, IsTree, Frame, HasOneTree, IsTreeOf, trees_of, IsFrame, IsLaterTree}

-- the tree at the start is one of them
pub first_tree : (f : Frame) → IsTreeOf f f.tree
first_tree f = record { number = 0; is = refl }

-- what is true of each entry of a list is true of one
one_of : {A : Type 0} (P : A → Type 0) (xs : List A) (n : ℕ) (x : A) → AllByRecursion P xs → slice_get xs n ≡ Some x → P x
one_of P [] n x all at = cc
one_of P (y ∷ ys) zero x all at = let same : y ≡ x = cc in subst P same all.0
one_of P (y ∷ ys) (suc n) x all at = one_of P ys n x all.1 at

-- with no later trees it is the only one
pub only_tree : (f : Frame) (t : Division) → HasOneTree f → IsTreeOf f t → t ≡ f.tree
only_tree f t none of =
    one_of (λ x. x ≡ f.tree) (trees_of f) of.number t (refl, subst (AllByRecursion (λ x. x ≡ f.tree)) (sym none) tt) of.is

pub of_only : (f : Frame) (P : Division → Type 0) → HasOneTree f → P f.tree → (t : Division) → IsTreeOf f t → P t
of_only f P alone h t of = subst P (sym (only_tree f t alone of)) h

module _ (f : Frame) (frame : IsFrame f) (t : Division) (of : IsTreeOf f t) where
  is_later : IsLaterTree f t
  is_later = one_of (IsLaterTree f) (trees_of f) of.number t ((frame.tree, refl), frame.later) of.is

  pub tree_is : IsTree t
  tree_is = is_later.0

  pub cells_alike : cells_of t ≡ cells_of f.tree
  cells_alike = is_later.1

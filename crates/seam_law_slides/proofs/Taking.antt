-- A cell takes newer boundaries of the round, and so has no older ones than came.
use Rattle.std.proofs.Common.{◌≡◌, ℕ, zero, suc, ◌≤◌, Bool, true, false, ◌&&◌, List, [], ◌∷◌, length, Option, None, Some, refl, sym, ap}
use Rattle.std.proofs.Common.{◌∙◌, subst, arith}
use Rattle.std.specs.Prelude.{nat_lt, nat_le, ◌==◌, slice_get}
use Rattle.std.specs.List.{AllByRecursion}
use Rattle.std.proofs.lemmas.Bool.Decides.{nat_tests}
use Rattle.std.proofs.lemmas.Bool.{eq-eqb}
use Rattle.std.proofs.lemmas.Option.{slice_get_within}
use Rattle.seam_node_steps.specs.Prelude.{Boundaries, CellView, are_newer, cell_count, cells_of, number_in, renewed, renewed_if}
use Rattle.seam_law_calls.specs.Prelude.{Frame, IsFrame, IsTreeOf, here_at, trees_of}
use Rattle.seam_law_calls.proofs.Trees.{tree_is}
use Rattle.seam_law_ghosts.specs.RealPlaces.{IsOfSpace}
use Rattle.seam_law_slides.specs.Prelude.{AreOfRound, DivideTheSpace}

entry_of : {A : Type 0} (P : A → Type 0) (xs : List A) (n : ℕ) (x : A) → AllByRecursion P xs → slice_get xs n ≡ Some x → P x
entry_of P [] n x all at = cc
entry_of P (y ∷ ys) zero x all at = let same : y ≡ x = cc in subst P same all.0
entry_of P (y ∷ ys) (suc n) x all at = entry_of P ys n x all.1 at

lt_true : (a b : ℕ) → nat_lt a b ≡ true → a ≤ b
lt_true a b is = grind (arith, nat_tests, is)

lt_false : (a b : ℕ) → nat_lt a b ≡ false → b ≤ a
lt_false a b is = grind (arith, nat_tests, is)

le_true : (a b : ℕ) → a ≤ b → nat_le a b ≡ true
le_true a b is = grind (arith, nat_tests, is)

module _ (f : Frame) (frame : IsFrame f) (space : DivideTheSpace f) where
  -- no number of the round is greater than the last
  pub at_most_last : (b : Boundaries) → AreOfRound f b → b.number ≤ length f.later
  at_most_last b of = let lt = slice_get_within (trees_of f) b.number b.tree of in omega (arith, lt)

  module _ (k : ℕ) (c : CellView) (here : c.here ≡ here_at f k) (b : Boundaries) (of : AreOfRound f b) where
    tree : IsTreeOf f b.tree
    tree = record { number = b.number; is = of }

    size_is : b.tree.size ≡ c.here.settings.size
    size_is = entry_of (IsOfSpace f.settings) (trees_of f) b.number b.tree space of ∙ sym (ap (λ h. h.settings.size) here)

    fits : (b.tree.size == c.here.settings.size && nat_le (cells_of b.tree) cell_count) ≡ true
    fits =
        ap (λ x. x && nat_le (cells_of b.tree) cell_count) (eq-eqb b.tree.size c.here.settings.size size_is)
        ∙ le_true (cells_of b.tree) cell_count (tree_is f frame b.tree tree).cells_to

    taken_by : (d lt : Bool) → are_newer c b ≡ d → nat_lt c.number b.number ≡ lt → b.number ≤ (renewed_if d c b).number
    taken_by true lt is at = omega arith
    taken_by false true is at =
        let newer : are_newer c b ≡ true = ap (λ x. x && (b.tree.size == c.here.settings.size && nat_le (cells_of b.tree) cell_count)) at
        ∙ fits in
        absurd (let z = sym newer ∙ is in cc)
    taken_by false false is at = lt_false c.number b.number at

    pub taken : b.number ≤ (renewed c (Some b)).number
    taken = taken_by (are_newer c b) (nat_lt c.number b.number) refl refl

  -- the number of what came is at most the cell's
  pub none_later : (k : ℕ) (c : CellView) (o : Option Boundaries) → c.here ≡ here_at f k →
      ((b : Boundaries) → o ≡ Some b → AreOfRound f b) → number_in o ≤ (renewed c o).number
  none_later k c None here of = omega arith
  none_later k c (Some b) here of = taken k c here b (of b refl)

-- boundaries of the round with one number have one tree
pub same_tree : (f : Frame) (a b : Boundaries) → AreOfRound f a → AreOfRound f b → a.number ≡ b.number → a.tree ≡ b.tree
same_tree f a b x y is = let z : Some a.tree ≡ Some b.tree = sym x ∙ (ap (slice_get (trees_of f)) is ∙ y) in cc

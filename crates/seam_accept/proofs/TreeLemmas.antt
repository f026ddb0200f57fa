-- What a `cut` and a `shift` are judged to be.
use Rattle.std.proofs.Common.{◌≡◌, ℕ, List, refl, subst, arith, inl, inr}
use Rattle.seam_value.specs.NumberWords.{SpellsNumber}
use Rattle.seam_value.proofs.NumberWords.{spells_one_number}
use Rattle.seam_geo.specs.Rect.{Area}
use Rattle.seam_tree.specs.Boundary.{across, LeavesPartEmpty, RunsThrough}
use Rattle.seam_tree.specs.Division.{area, HasBoundary, NoneEmpty, SomeEmpty}
use Rattle.seam_tree.specs.Change.{with_cut, with_place, CanCut}
use Rattle.seam_tree.specs.declared.boundary.Axis.{Axis}
use Rattle.seam_tree.specs.declared.boundary.Boundary.{Boundary}
use Rattle.seam_tree.specs.declared.tree.CutError.{CutError}
use Rattle.seam_tree.specs.declared.tree.CutError.TheVariants.{NoCell, OutsideCell, TooManyCells}
use Rattle.seam_tree.specs.declared.tree.ShiftError.{ShiftError}
use Rattle.seam_tree.specs.declared.tree.ShiftError.TheVariants.{NoBoundary, WouldEmpty}
use Rattle.seam_toml.specs.declared.header.Header.{Header}
use Rattle.seam_rule_lines.specs.Language.{Cut, Shift, SpellsBoundary, axis_text}
use Rattle.seam_rule_lines.specs.Book.{Book, tree_of}
use Rattle.seam_rule_lines.specs.Judging.{RefusesCut, RefusesShift, HoldsAgainst, IsFirst}
use Rattle.seam_rule_lines.specs.declared.verdict.Entry.TheVariants.{Divided}
use Rattle.seam_rule_lines.specs.declared.verdict.Cause.TheVariants as cause
use Rattle.seam_rule_lines.proofs.Verdicts.{boundary_is_one}
use Rattle.seam_accept.specs.Judging.{Accepts}
use Rattle.seam_accept.proofs.Causes.{against_cut, against_shift}

-- a word of it is no number, or no axis
pub bad_cut_first : (h : Header) (b : Book) (c a at : List ℕ) → HoldsAgainst h b (Cut c a at) cause.BadNumber →
    IsFirst (HoldsAgainst h b (Cut c a at)) cause.BadNumber
bad_cut_first h b c a at bad =
    record { here = bad; first = against_cut h b c a at _ (λ k. omega arith) (λ error k. omega arith) }

pub bad_shift_first : (h : Header) (b : Book) (n at : List ℕ) → HoldsAgainst h b (Shift n at) cause.BadNumber →
    IsFirst (HoldsAgainst h b (Shift n at)) cause.BadNumber
bad_shift_first h b n at bad =
    record { here = bad; first = against_shift h b n at _ (λ k. omega arith) (λ error k. omega arith) }

module _ (h : Header) (b : Book) (c a at : List ℕ) (cell : ℕ) (axis : Axis) (place : ℕ) (spells : SpellsNumber c cell)
    (named : axis_text axis ≡ a) (placed : SpellsNumber at place) where
  all_named : ¬ (HoldsAgainst h b (Cut c a at) cause.BadNumber)
  all_named (inl none) = none cell spells
  all_named (inr (inl none)) = none axis named
  all_named (inr (inr none)) = none place placed

  bound : SpellsBoundary a at (across axis place)
  bound = record { axis = named; place = placed }

  pub cut_refused_first : (error : CutError) → RefusesCut (tree_of b) cell (across axis place) error →
      IsFirst (HoldsAgainst h b (Cut c a at)) (cause.CutRefused error)
  cut_refused_first error refuses = record {
    here = (cell, across axis place, spells, bound, refuses);
    first = against_cut h b c a at _ (λ k. absurd (all_named k)) (λ other k. omega arith);
  }

  runs_or_empty : (by : Boundary) (r : Area) → RunsThrough by r → LeavesPartEmpty by r → ⊥
  runs_or_empty by r runs (inl low) = let from = runs.from_low in omega (arith, low, from)
  runs_or_empty by r runs (inr high) = let to = runs.to_high in omega (arith, high, to)

  cannot : CanCut (tree_of b) cell (across axis place) → (error : CutError) → ¬ (RefusesCut (tree_of b) cell (across axis place) error)
  cannot can NoCell past = let there = can.there in omega (arith, past, there)
  cannot can OutsideCell (there, empty) = runs_or_empty (across axis place) (area (tree_of b) cell) can.runs empty
  cannot can TooManyCells (there, runs, full) = let room = can.room in omega (arith, full, room)

  pub cut_accepted : CanCut (tree_of b) cell (across axis place) →
      Accepts h b (Cut c a at) (Divided (with_cut (tree_of b) cell (across axis place)))
  cut_accepted can = record {
    none = against_cut h b c a at _ all_named
        (λ error (c', by, cell', bound', refuses).
        cannot can error (subst (λ (x : Boundary). RefusesCut (tree_of b) cell x error)
        (boundary_is_one a at by (across axis place) bound' bound)
        (subst (λ (n : ℕ). RefusesCut (tree_of b) n by error) (spells_one_number c c' cell cell' spells) refuses)));
    adds = (cell, across axis place, spells, bound, refl);
  }

module _ (h : Header) (b : Book) (n at : List ℕ) (k place : ℕ) (spells : SpellsNumber n k) (placed : SpellsNumber at place) where
  both_named : ¬ (HoldsAgainst h b (Shift n at) cause.BadNumber)
  both_named (inl none) = none k spells
  both_named (inr none) = none place placed

  pub shift_refused_first : (error : ShiftError) → RefusesShift (tree_of b) k place error →
      IsFirst (HoldsAgainst h b (Shift n at)) (cause.ShiftRefused error)
  shift_refused_first error refuses = record {
    here = (k, place, spells, placed, refuses);
    first = against_shift h b n at _ (λ bad. absurd (both_named bad)) (λ other refused. omega arith);
  }

  proper_or_empty : NoneEmpty (with_place (tree_of b) k place) → SomeEmpty (with_place (tree_of b) k place) → ⊥
  proper_or_empty none (c, there, inl x) = let proper = none c there in let over = proper.wide in omega (arith, x, over)
  proper_or_empty none (c, there, inr z) = let proper = none c there in let over = proper.deep in omega (arith, z, over)

  stays : HasBoundary (tree_of b) k → NoneEmpty (with_place (tree_of b) k place) → (error : ShiftError) →
      ¬ (RefusesShift (tree_of b) k place error)
  stays has none NoBoundary (inl zero_) = let from = has.from_one in omega (arith, zero_, from)
  stays has none NoBoundary (inr past) = let to = has.to_last in omega (arith, past, to)
  stays has none WouldEmpty (there, empty) = proper_or_empty none empty

  pub shift_accepted : HasBoundary (tree_of b) k → NoneEmpty (with_place (tree_of b) k place) →
      Accepts h b (Shift n at) (Divided (with_place (tree_of b) k place))
  shift_accepted has none = record {
    none = against_shift h b n at _ both_named
        (λ error (l, q, number', place', refuses).
        stays has none error (subst (λ (x : ℕ). RefusesShift (tree_of b) k x error) (spells_one_number at q place place' placed)
        (subst (λ (x : ℕ). RefusesShift (tree_of b) x q error) (spells_one_number n l k number' spells) refuses)));
    adds = (k, place, spells, placed, refl);
  }

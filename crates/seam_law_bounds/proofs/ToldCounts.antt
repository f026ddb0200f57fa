-- How much one look tells, by how many entities there are to look at.
use Rattle.seam_law_bounds.proofs.Prelude.{◌≡◌, ℕ, zero, suc, ◌+◌, ◌≤◌, Bool, true, false, List, [], ◌∷◌, length, filter_map, Some, refl}
use Rattle.seam_law_bounds.proofs.Prelude.{sym, subst, arith, slice_get, copy_in, Shown, Here, RealView, WitnessView, Known, shown_for}
use Rattle.seam_law_bounds.proofs.Prelude.{own_due, looks_of, shown_of, CellView, known_to, World, Cell, LooksAmong, LooksFit}
use Rattle.std.specs.FinMap as table
use Rattle.seam_law_calls.proofs.Below.{mapped_few}

-- a world of one cell has that one alone
only : (d : CellView) (k : ℕ) (c : CellView) → slice_get (Cell d ∷ []) k ≡ Some (Cell c) → d ≡ c
only d zero c at = let is : Cell d ≡ Cell c = cc in cell_is is
  where
    cell_is : Cell d ≡ Cell c → d ≡ c
    cell_is is = cc
only d (suc k) c at = absurd (let z = at in cc)

module _ (h : Here) (r : RealView) (x : WitnessView) (known : List Known) where
  abbrev others : List Shown
  others = filter_map (shown_for known) (looks_of r x known)

  by_due : (b : Bool) → own_due x.told r.version ≡ b → length (shown_of h r x known) ≤ 1 + length others
  by_due true is = rw is (omega arith)
  by_due false is = rw is (omega arith)

  one_more : length (shown_of h r x known) ≤ 1 + length (looks_of r x known)
  one_more =
      let a = by_due (own_due x.told r.version) refl in
      let b = mapped_few (shown_for known) (looks_of r x known) in
      omega (arith, a, b)

module _ (us ws : List ℕ)
    (few : (w : World) → LooksAmong us (λ k. ws) w →
    LooksFit (record { bases = 0; lines = length us; witnesses = λ k. length ws }) w) (w : World) (among : LooksAmong us (λ k. ws) w)
    (k : ℕ) (c : CellView) (node : slice_get w.nodes k ≡ Some (Cell c)) (e : ℕ) where
  -- the cell as if it were the entity's turn to look
  abbrev due : CellView
  due = record c { looks = e ∷ [] }

  abbrev alone : World
  alone = record { nodes = Cell due ∷ []; rows = [] }

  among_alone : LooksAmong us (λ k. ws) alone
  among_alone = record {
    reals = λ j d at q r there.
        among.reals k c node q r (subst (λ (y : CellView). table.get y.reals q ≡ Some r) (sym (only due j d at)) there);
    copies = λ j d at q x there.
        among.copies k c node q x (subst (λ (y : CellView). copy_in (table.get y.ghosts q) ≡ Some x) (sym (only due j d at)) there);
    views = λ j d at q r x there.
        among.views k c node q r x (subst (λ (y : CellView). table.get y.reals q ≡ Some r) (sym (only due j d at)) there);
    witnesses = λ j d at q r x there.
        among.witnesses k c node q r x (subst (λ (y : CellView). table.get y.reals q ≡ Some r) (sym (only due j d at)) there);
  }

  pub tells_few : (r : RealView) (x : WitnessView) → table.get c.reals e ≡ Some r → r.witness ≡ Some x →
      length (shown_of c.here r x (known_to c e)) ≤ 1 + length us
  tells_few r x there has =
      let lines : length (looks_of r x (known_to c e)) ≤ length us =
      (few alone among_alone).lines 0 due refl e [] r x refl there has in
      let more = one_more c.here r x (known_to c e) in
      omega (arith, lines, more)

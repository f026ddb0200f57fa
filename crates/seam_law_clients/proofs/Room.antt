-- In a world that keeps the record of base parts each witness has room to look.
use Rattle.seam_law_clients.proofs.Prelude.{◌≡◌, ℕ, ◌+◌, ◌<◌, true, length, Some, sym, ap, ◌∙◌, arith, inl, inr, slice_get, cases_lt}
use Rattle.seam_law_clients.proofs.Prelude.{nat_tests, copy_in, GhostCopy, limit, is_small, RealView, shown_of, CellView, known_to, World}
use Rattle.seam_law_clients.proofs.Prelude.{Cell, slot_at, Frame, has_of, has_none, real_in, sent_of, most_entities, HasPartsBetweenRounds}
use Rattle.seam_law_clients.proofs.Prelude.{HasSmallNumbers, HaveRoomToLook, told_few}
use Rattle.std.specs.FinMap as table
use Rattle.seam_law_calls.proofs.Below.{known_to_few}

pub small_of : (n : ℕ) → n < limit → is_small n ≡ true
small_of n lt = grind (arith, nat_tests, lt)

module _ (f : Frame) (u : World) (parts : HasPartsBetweenRounds f u) (small : HasSmallNumbers f u) where
  module _ (k : ℕ) (cell : CellView) (node : slice_get u.nodes k ≡ Some (Cell cell)) where
    real_below : (x : ℕ) (r : RealView) → table.get cell.reals x ≡ Some r → x < most_entities
    real_below x r has = elim (cases_lt x most_entities) [
      | inl lt ↦ lt
      | inr le ↦
          let none = (parts.entities x le k).real in
          absurd (let z = sym (ap (λ n. real_in (slot_at (has_of x) has_none n)) (sym node) ∙ none) ∙ has in cc)
    ]

    copy_below : (x : ℕ) (c : GhostCopy) → copy_in (table.get cell.ghosts x) ≡ Some c → x < most_entities
    copy_below x c has = elim (cases_lt x most_entities) [
      | inl lt ↦ lt
      | inr le ↦
          let none = (parts.entities x le k).copy in
          absurd (let z = sym (ap (λ n. copy_in (slot_at (has_of x) has_none n).cell.slot.ghost) (sym node) ∙ none) ∙ has in cc)
    ]

  pub have_room : HaveRoomToLook u
  have_room e k r here x seen cell node =
      let had = parts.parts e k r here in
      let lines = small.clients e k r here had.part had.here in
      let sent = ap sent_of seen in
      let few =
      told_few cell.here r x (known_to cell e) (parts.views e k r here x seen)
      (known_to_few cell (real_below k cell node) (copy_below k cell node) e) in
      small_of (x.sent + length (shown_of cell.here r x (known_to cell e))) (omega (arith, lines, sent, few))

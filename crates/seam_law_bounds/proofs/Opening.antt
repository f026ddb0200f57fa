-- What the laws ask of where a phase begins is true of an opened world.
use Rattle.seam_law_bounds.proofs.Prelude.{◌≡◌, ℕ, ◌≤◌, List, [], Some, sym, ap, ◌∙◌, slice_get, copy_in, Settings, TypeDef, RealView}
use Rattle.seam_law_bounds.proofs.Prelude.{CellView, BaseView, PartView, NodeView, World, Cell, Base, opened, slot_at, Has, has_of}
use Rattle.seam_law_bounds.proofs.Prelude.{has_none, real_in, IsFrame, first_frame, LooksAmong, EachSeenIsHeld, HoldsNothing, opened_is_new}
use Rattle.seam_law_bounds.proofs.Prelude.{opened_has_none}
use Rattle.std.specs.FinMap as table

module _ (defs : List TypeDef) (settings : Settings) (frame : IsFrame (first_frame defs settings)) (bases : 1 ≤ settings.bases) where
  abbrev w : World
  w = opened defs settings

  has_is : (e k : ℕ) (s : NodeView) → slice_get w.nodes k ≡ Some s → has_of e s ≡ has_none
  has_is e k s at = sym (ap (slot_at (has_of e) has_none) at) ∙ opened_is_new defs settings frame bases e k

  no_part : (k : ℕ) (b : BaseView) → slice_get w.nodes k ≡ Some (Base b) → (e : ℕ) (p : PartView) → table.get b.parts e ≡ Some p → ⊥
  no_part k b at e p there = let z = sym (ap (λ (h : Has). h.base.part) (has_is e k (Base b) at)) ∙ there in cc

  no_real : (k : ℕ) (c : CellView) → slice_get w.nodes k ≡ Some (Cell c) → (e : ℕ) (r : RealView) → table.get c.reals e ≡ Some r → ⊥
  no_real k c at e r there = let z = sym (ap real_in (has_is e k (Cell c) at)) ∙ there in cc

  pub opened_nothing : HoldsNothing w
  opened_nothing k b at e p there = absurd (no_part k b at e p there)

  pub opened_among : LooksAmong [] (λ k. []) w
  opened_among = record {
    reals = λ k c at e r there. absurd (no_real k c at e r there);
    copies = λ k c at e x there.
        let gone = ap (λ (h : Has). copy_in h.cell.slot.ghost) (has_is e k (Cell c) at) in
        absurd (let z = sym gone ∙ there in cc);
    views = λ k c at e r x there has. absurd (no_real k c at e r there);
    witnesses = λ k c at e r x there has. absurd (no_real k c at e r there);
  }

  pub opened_sees : EachSeenIsHeld w
  opened_sees e k r at = absurd (let z = sym (opened_has_none defs settings frame bases e k) ∙ at in cc)

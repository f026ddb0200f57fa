-- What is looked up at a node is what the entity's flow has there.
use Rattle.seam_law_book.proofs.Prelude.{◌≡◌, ℕ, Option, None, Some, refl, slice_get, NodeView, Cell, Base, World, slot_at, entity_flow}
use Rattle.seam_law_book.proofs.Prelude.{has_of, has_none, real_in, real_at, copy_at, book_entry, real_here, copy_here, part_here}

real_by : (e : ℕ) (n : Option NodeView) → real_here e n ≡ real_in (slot_at (has_of e) has_none n)
real_by e None = refl
real_by e (Some (Cell c)) = refl
real_by e (Some (Base b)) = refl

copy_by : (e : ℕ) (n : Option NodeView) → copy_here e n ≡ (book_entry (slot_at (has_of e) has_none n)).1
copy_by e None = refl
copy_by e (Some (Cell c)) = refl
copy_by e (Some (Base b)) = refl

part_by : (e : ℕ) (n : Option NodeView) → part_here e n ≡ (slot_at (has_of e) has_none n).base.part
part_by e None = refl
part_by e (Some (Cell c)) = refl
part_by e (Some (Base b)) = refl

pub real_is : (e : ℕ) (w : World) (k : ℕ) → real_here e (slice_get w.nodes k) ≡ real_at e w k
real_is e w k = real_by e (slice_get w.nodes k)

pub copy_is : (e : ℕ) (w : World) (k : ℕ) → copy_here e (slice_get w.nodes k) ≡ copy_at e w k
copy_is e w k = copy_by e (slice_get w.nodes k)

pub part_is : (e : ℕ) (w : World) (k : ℕ) → part_here e (slice_get w.nodes k) ≡ ((entity_flow e w).slot k).base.part
part_is e w k = part_by e (slice_get w.nodes k)

-- For callers: a change of one entity's slot changes that slot alone.
use Rattle.std.proofs.Common.{◌≡◌, ℕ, Bool, true, false, cond, Option, None, Some, refl, ap, ◌∙◌, arith}
use Rattle.std.specs.Ordering.{nat_cmp, eq_by_cmp}
use Rattle.std.specs.Cmp.{nat_cmp_total}
use Rattle.std.specs.FinMap as table
use Rattle.std.proofs.lemmas.Bool.Decides.{nat_tests}
use Rattle.seam_node_steps.specs.Prelude.{Map, set_at, Slot, SlotStep, slot_after, CellView, slot_of, with_slot, after_slot, unlisted_by}
use Rattle.seam_node_steps.specs.Prelude.{stepped}

-- what the map has at a number after it was set at one
pub get-set_at : {X : Type 0} (m : Map X) (e q : ℕ) (o : Option X) → table.get (set_at m e o) q
    ≡ cond (eq_by_cmp nat_cmp q e) o (table.get m q)
get-set_at m e q None = table.get-remove nat_cmp_total m e q
get-set_at m e q (Some x) = table.get-insert nat_cmp_total m e x q

-- to set what is there changes nothing
pub set_at-same : {X : Type 0} (m : Map X) (e : ℕ) → set_at m e (table.get m e) ≡ m
set_at-same m e = table.same_map nat_cmp_total table.nat_cmp-IsAntisymmetric _ _
    (λ q. get-set_at m e q (table.get m e) ∙ at q (eq_by_cmp nat_cmp q e) refl)
  where
    equal : (q : ℕ) → eq_by_cmp nat_cmp q e ≡ true → e ≡ q
    equal q is = grind (arith, nat_tests, is)

    at : (q : ℕ) (b : Bool) → eq_by_cmp nat_cmp q e ≡ b → cond b (table.get m e) (table.get m q) ≡ table.get m q
    at q true is = ap (table.get m) (equal q is)
    at q false is = refl

slot_of_both : (b : Bool) (s t : Slot) →
    record { real = cond b s.real t.real; next = cond b s.next t.next; ghost = cond b s.ghost t.ghost } ≡ cond b s t
slot_of_both true s t = refl
slot_of_both false s t = refl

-- the slot of an entity after another slot was put in
pub slot_with : (c : CellView) (e q : ℕ) (s : Slot) → slot_of (with_slot c e s) q ≡ cond (eq_by_cmp nat_cmp q e) s (slot_of c q)
slot_with c e q s = simp get-set_at (slot_of_both (eq_by_cmp nat_cmp q e) s (slot_of c q))

unlisted_slot : (b : Bool) (c : CellView) (e q : ℕ) → slot_of (unlisted_by b c e) q ≡ slot_of c q
unlisted_slot true c e q = refl
unlisted_slot false c e q = refl

same_slot : (c : CellView) (e q : ℕ) (b : Bool) → eq_by_cmp nat_cmp q e ≡ b → slot_of c q ≡ cond b (slot_of c e) (slot_of c q)
same_slot c e q true is = let same : q ≡ e = grind (arith, nat_tests, is) in ap (slot_of c) same
same_slot c e q false is = refl

after_slot_is : (c : CellView) (e q : ℕ) (o : Option Slot) → slot_of (after_slot c e o) q
    ≡ cond (eq_by_cmp nat_cmp q e) (slot_after o (slot_of c e)) (slot_of c q)
after_slot_is c e q None = same_slot c e q (eq_by_cmp nat_cmp q e) refl
after_slot_is c e q (Some s) = slot_with c e q s

-- the slot of an entity after a step of one entity's slot
pub slot_stepped : (c : CellView) (e q : ℕ) (t : SlotStep) → slot_of (stepped c e t).state q
    ≡ cond (eq_by_cmp nat_cmp q e) (slot_after t.slot (slot_of c e)) (slot_of c q)
slot_stepped c e q t = unlisted_slot t.unlisted (after_slot c e t.slot) e q ∙ after_slot_is c e q t.slot

-- Tests of two things and of numbers, beside what is known of held calls.
use Rattle.seam_law_calls.proofs.Prelude.{◌≡◌, ℕ, ◌<◌, Bool, true, false, not, ◌||◌, ◌⊎◌, refl, inl, inr, nat_lt, arith, nat_tests}
pub use Rattle.seam_entity.proofs.HeldLemmas.{all_two, both, got_passes, held_offered, held_taken, item_passes_too, picked_passes}

pub not_both : (b : Bool) → b ≡ true → not b ≡ true → ⊥
not_both true h k = cc
not_both false h k = cc

pub below_is : (a b : ℕ) → a < b → nat_lt a b ≡ true
below_is a b lt = grind (arith, nat_tests)

pub not_false : (b : Bool) → not b ≡ false → b ≡ true
not_false true h = refl
not_false false h = cc

pub not_true : (b : Bool) → not b ≡ true → b ≡ false
not_true true h = cc
not_true false h = refl

pub denied : (b : Bool) → b ≡ true → not b ≡ false
denied true h = refl
denied false h = cc

pub or_left : (a b : Bool) → a ≡ true → (a || b) ≡ true
or_left true b h = refl
or_left false b h = cc

pub or_right : (a b : Bool) → b ≡ true → (a || b) ≡ true
or_right true b h = refl
or_right false b h = h

pub either : (a b : Bool) → (a || b) ≡ true → (a ≡ true) ⊎ (b ≡ true)
either true b h = inl refl
either false b h = inr h

pub neither : (a b : Bool) → (a || b) ≡ false → (a ≡ false) × (b ≡ false)
neither true b h = cc
neither false b h = (refl, h)

-- What a message does to a book.
use Rattle.std.proofs.Common.{◌≡◌, ◌≢◌, ◌<◌, ◌≤◌, ℕ, Bool, true, false, cond, Some, sym, ap, ◌∙◌, arith, refl, nat_lt, max}
use Rattle.std.specs.Ordering.{nat_cmp, eq_by_cmp}
use Rattle.std.specs.Cmp.{nat_cmp_total}
use Rattle.std.proofs.lemmas.Bool.Decides.{nat_tests}
use Rattle.std.specs.FinMap as map
use Rattle.seam_ghosts.specs.declared.Ghost.{Ghost}
use Rattle.seam_ghosts.specs.Book.{BookView, beat_in, copy_in, beat_of, copy_of, with_ghost, after_message, ghost_after}

pub key_is : (q e : ℕ) → eq_by_cmp nat_cmp q e ≡ true → e ≡ q
key_is q e t = grind (arith, nat_tests)

below_of : (a b : ℕ) → nat_lt a b ≡ true → a < b
below_of a b t = grind (arith, nat_tests)

not_below_of : (a b : ℕ) → nat_lt a b ≡ false → b ≤ a
not_below_of a b t = grind (arith, nat_tests)

eq_self : (e : ℕ) → eq_by_cmp nat_cmp e e ≡ true
eq_self e = grind (arith, nat_tests)

ghost_here : {P : Type 0} (w : BookView P) (e : ℕ) (g : Ghost P) → map.get (with_ghost w e g).ghosts e ≡ Some g
ghost_here w e g = map.get-insert nat_cmp_total w.ghosts e g e ∙ ap (λ b. cond b (Some g) (map.get w.ghosts e)) (eq_self e)

fall_step : {P : Type 0} (w : BookView P) (e : ℕ) (g : Ghost P) (q : ℕ) (t : Bool) → eq_by_cmp nat_cmp q e ≡ t → beat_of w e < g.beat →
    beat_of w q ≤ beat_in (cond t (Some g) (map.get w.ghosts q))
fall_step w e g q true t lt = let s : beat_of w q ≡ beat_of w e = ap (beat_of w) (sym (key_is q e t)) in omega (arith, s, lt)
fall_step w e g q false t lt = omega arith

never_step : {P : Type 0} (w : BookView P) (e : ℕ) (g : Ghost P) (q : ℕ) (b : Bool) → nat_lt (beat_of w e) g.beat ≡ b →
    beat_of w q ≤ beat_of (cond b (with_ghost w e g) w) q
never_step w e g q false t = omega arith
never_step w e g q true t =
    rw (map.get-insert nat_cmp_total w.ghosts e g q) (fall_step w e g q (eq_by_cmp nat_cmp q e) refl (below_of (beat_of w e) g.beat t))

pub beats_never_fall : {P : Type 0} (w : BookView P) (e : ℕ) (g : Ghost P) (q : ℕ) → beat_of w q ≤ beat_of (after_message w e g) q
beats_never_fall w e g q = never_step w e g q (nat_lt (beat_of w e) g.beat) refl

greatest_step : {P : Type 0} (w : BookView P) (e : ℕ) (g : Ghost P) (b : Bool) → nat_lt (beat_of w e) g.beat ≡ b →
    beat_of (cond b (with_ghost w e g) w) e ≡ max (beat_of w e) g.beat
greatest_step w e g false t = let le = not_below_of (beat_of w e) g.beat t in omega (arith, le)
greatest_step w e g true t = let lt = below_of (beat_of w e) g.beat t in ap beat_in (ghost_here w e g) ∙ omega (arith, lt)

pub greatest_beat : {P : Type 0} (w : BookView P) (e : ℕ) (g : Ghost P) → beat_of (after_message w e g) e ≡ max (beat_of w e) g.beat
greatest_beat w e g = greatest_step w e g (nat_lt (beat_of w e) g.beat) refl

newest_step : {P : Type 0} (w : BookView P) (e : ℕ) (g : Ghost P) (b : Bool) →
    copy_of (cond b (with_ghost w e g) w) e ≡ cond b g.copy (copy_of w e)
newest_step w e g false = refl
newest_step w e g true = ap copy_in (ghost_here w e g)

pub newest_copy : {P : Type 0} (w : BookView P) (e : ℕ) (g : Ghost P) →
    copy_of (after_message w e g) e ≡ cond (nat_lt (beat_of w e) g.beat) g.copy (copy_of w e)
newest_copy w e g = newest_step w e g (nat_lt (beat_of w e) g.beat)

other_key : (q e : ℕ) (b : Bool) → eq_by_cmp nat_cmp q e ≡ b → q ≢ e → b ≡ false
other_key q e true t n = absurd (n (sym (key_is q e t)))
other_key q e false t n = refl

others_step : {P : Type 0} (w : BookView P) (e : ℕ) (g : Ghost P) (q : ℕ) (b : Bool) → q ≢ e →
    map.get (cond b (with_ghost w e g) w).ghosts q ≡ map.get w.ghosts q
others_step w e g q false n = refl
others_step w e g q true n =
    map.get-insert nat_cmp_total w.ghosts e g q
    ∙ ap (λ b. cond b (Some g) (map.get w.ghosts q)) (other_key q e (eq_by_cmp nat_cmp q e) refl n)

pub others_stay : {P : Type 0} (w : BookView P) (e : ℕ) (g : Ghost P) (q : ℕ) → q ≢ e →
    map.get (after_message w e g).ghosts q ≡ map.get w.ghosts q
others_stay w e g q n = others_step w e g q (nat_lt (beat_of w e) g.beat) n

entry_step : {P : Type 0} (w : BookView P) (e : ℕ) (g : Ghost P) (b : Bool) →
    map.get (cond b (with_ghost w e g) w).ghosts e ≡ cond b (Some g) (map.get w.ghosts e)
entry_step w e g false = refl
entry_step w e g true = ghost_here w e g

pub entry_after : {P : Type 0} (w : BookView P) (e : ℕ) (g : Ghost P) →
    map.get (after_message w e g).ghosts e ≡ ghost_after (map.get w.ghosts e) g
entry_after w e g = entry_step w e g (nat_lt (beat_of w e) g.beat)

-- a message of a greater beat is heard
lower : (a b : ℕ) → a < b → nat_lt a b ≡ true
lower a b lt = grind (arith, nat_tests)

pub heard : {P : Type 0} (w : BookView P) (e : ℕ) (g : Ghost P) → beat_of w e < g.beat → after_message w e g ≡ with_ghost w e g
heard w e g lt = ap (λ b. cond b (with_ghost w e g) w) (lower (beat_of w e) g.beat lt)

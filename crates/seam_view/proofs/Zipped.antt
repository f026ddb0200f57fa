-- Entities in rising number beside their versions: what is found of one, and one more among them.
use Rattle.std.proofs.Common.{◌≡◌, ◌<◌, ℕ, zero, suc, Bool, true, false, ◌||◌, cond, eqb, List, [], ◌∷◌, length, get_or}
use Rattle.std.proofs.Common.{slice_get}
use Rattle.std.proofs.Common.{slice_set, Option, None, Some, unwrap_or, refl, sym, ap, ◌∙◌, arith}
use Rattle.std.specs.List.{AllWithin, AllByRecursion, IsDistinct, insert, list_any, zip}
use Rattle.std.specs.Map.{lookup}
use Rattle.std.proofs.lemmas.Map.Keys.{IsDistinct-head, IsDistinct-tail}
use Rattle.std.proofs.lemmas.Bool.Decides.{nat_tests}
use Rattle.seam_view.specs.Replica.{placed}
use Rattle.seam_view.proofs.Numbers.{same_again, differs_too, either_way}

-- ---- one that is not there

none_by : (e v k : ℕ) (b : Bool) (ks vs : List ℕ) → (b || list_any (eqb e) ks) ≡ false →
    (list_any (eqb e) ks ≡ false → lookup (eqb e) (zip ks vs) ≡ None) → cond b (Some v) (lookup (eqb e) (zip ks vs)) ≡ None
none_by e v k true ks vs h rest = cc
none_by e v k false ks vs h rest = rest h

pub none_zipped : (e : ℕ) (ks vs : List ℕ) → list_any (eqb e) ks ≡ false → lookup (eqb e) (zip ks vs) ≡ None
none_zipped e [] vs h = refl
none_zipped e (k ∷ ks) [] h = refl
none_zipped e (k ∷ ks) (v ∷ vs) h = none_by e v k (eqb e k) ks vs h (none_zipped e ks vs)

absent_by : (e v k : ℕ) (b : Bool) (ks vs : List ℕ) → cond b (Some v) (lookup (eqb e) (zip ks vs)) ≡ None →
    (lookup (eqb e) (zip ks vs) ≡ None → list_any (eqb e) ks ≡ false) → (b || list_any (eqb e) ks) ≡ false
absent_by e v k true ks vs h rest = cc
absent_by e v k false ks vs h rest = rest h

pub absent_zipped : (e : ℕ) (ks vs : List ℕ) → length vs ≡ length ks → lookup (eqb e) (zip ks vs) ≡ None →
    list_any (eqb e) ks ≡ false
absent_zipped e [] vs n h = refl
absent_zipped e (k ∷ ks) [] n h = absurd (omega (arith, n))
absent_zipped e (k ∷ ks) (v ∷ vs) n h = absent_by e v k (eqb e k) ks vs h (absent_zipped e ks vs (omega (arith, n)))

-- where those before the place are below it, and the others are above it
pub absent_between : (e r : ℕ) (ks : List ℕ) → AllWithin (λ k. k < e) ks 0 r → AllWithin (λ k. e < k) ks r (length ks) →
    list_any (eqb e) ks ≡ false
absent_between e r [] below above = refl
absent_between e zero (k ∷ ks) below above =
    let lt = above 0 0 (omega arith) (omega arith) in
    let not : eqb e k ≡ false = grind (arith, nat_tests) in
    ap (λ b. b || list_any (eqb e) ks) not
    ∙ absent_between e zero ks (λ i d low l. absurd (omega (arith, l))) (λ i d low l. above (suc i) d (omega arith) (omega (arith, l)))
absent_between e (suc r) (k ∷ ks) below above =
    let lt = below 0 0 (omega arith) (omega arith) in
    let not : eqb e k ≡ false = grind (arith, nat_tests) in
    ap (λ b. b || list_any (eqb e) ks) not
    ∙ absent_between e r ks (λ i d low l. below (suc i) d (omega arith) (omega (arith, l)))
    (λ i d low l. above (suc i) d (omega (arith, low)) (omega (arith, l)))

-- ---- one that is there

other_at : (k : ℕ) (ks : List ℕ) (r e : ℕ) → AllByRecursion (λ y. eqb k y ≡ false) ks → slice_get ks r ≡ Some e → eqb e k ≡ false
other_at k [] r e h at = cc
other_at k (x ∷ ks) zero e h at = differs_too k e (ap (λ o. eqb k (unwrap_or o x)) (sym at) ∙ h.0)
other_at k (x ∷ ks) (suc r) e h at = other_at k ks r e h.1 at

pub found_zipped : (ks vs : List ℕ) (r e d : ℕ) → IsDistinct eqb ks → length vs ≡ length ks → slice_get ks r ≡ Some e →
    lookup (eqb e) (zip ks vs) ≡ Some (get_or vs r d)
found_zipped [] vs r e d u n at = cc
found_zipped (k ∷ ks) [] r e d u n at = absurd (omega (arith, n))
found_zipped (k ∷ ks) (v ∷ vs) zero e d u n at =
    let same : k ≡ e = ap (λ o. unwrap_or o k) at in
    ap (λ b. cond b (Some v) (lookup (eqb e) (zip ks vs))) (ap (eqb e) same ∙ same_again e)
found_zipped (k ∷ ks) (v ∷ vs) (suc r) e d u n at =
    ap (λ b. cond b (Some v) (lookup (eqb e) (zip ks vs))) (other_at k ks r e (IsDistinct-head eqb k ks u) at)
    ∙ found_zipped ks vs r e d (IsDistinct-tail eqb k ks u) (omega (arith, n)) at

-- one more version of it
pub placed_zipped : (ks vs : List ℕ) (r e v : ℕ) → IsDistinct eqb ks → length vs ≡ length ks → slice_get ks r ≡ Some e →
    zip ks (slice_set vs r v) ≡ placed e v (zip ks vs)
placed_zipped [] vs r e v u n at = cc
placed_zipped (k ∷ ks) [] r e v u n at = absurd (omega (arith, n))
placed_zipped (k ∷ ks) (x ∷ vs) zero e v u n at =
    let same : k ≡ e = ap (λ o. unwrap_or o k) at in
    ap (λ b. cond b ((k, v) ∷ zip ks vs) ((k, x) ∷ placed e v (zip ks vs))) (sym (ap (eqb e) same ∙ same_again e))
placed_zipped (k ∷ ks) (x ∷ vs) (suc r) e v u n at =
    ap (λ ps. (k, x) ∷ ps) (placed_zipped ks vs r e v (IsDistinct-tail eqb k ks u) (omega (arith, n)) at)
    ∙ ap (λ b. cond b ((k, v) ∷ zip ks vs) ((k, x) ∷ placed e v (zip ks vs)))
    (sym (other_at k ks r e (IsDistinct-head eqb k ks u) at))

-- ---- one more

not_both : (e k q : ℕ) → eqb e k ≡ false → eqb q k ≡ true → eqb e q ≡ false
not_both e k q n t = grind (arith, nat_tests)

one_more_by : (q e v k x : ℕ) (b c : Bool) (o : Option ℕ) → (b ≡ true → c ≡ false) →
    cond b (Some x) (cond c (Some v) o) ≡ cond c (Some v) (cond b (Some x) o)
one_more_by q e v k x true true o h = absurd (let f = h refl in cc)
one_more_by q e v k x true false o h = refl
one_more_by q e v k x false true o h = refl
one_more_by q e v k x false false o h = refl

or_false_first : (b c : Bool) → (b || c) ≡ false → b ≡ false
or_false_first true c h = h
or_false_first false c h = refl

pub or_false_second : (b c : Bool) → (b || c) ≡ false → c ≡ false
or_false_second true c h = cc
or_false_second false c h = h

pub one_more_zipped : (q e v r : ℕ) (ks vs : List ℕ) → length vs ≡ length ks → list_any (eqb e) ks ≡ false →
    lookup (eqb q) (zip (insert ks r e) (insert vs r v)) ≡ cond (eqb e q) (Some v) (lookup (eqb q) (zip ks vs))
one_more_zipped q e v zero [] [] n h = ap (λ b. cond b (Some v) None) (either_way q e)
one_more_zipped q e v (suc r) [] [] n h = ap (λ b. cond b (Some v) None) (either_way q e)
one_more_zipped q e v r [] (x ∷ vs) n h = absurd (omega (arith, n))
one_more_zipped q e v r (k ∷ ks) [] n h = absurd (omega (arith, n))
one_more_zipped q e v zero (k ∷ ks) (x ∷ vs) n h = ap (λ b. cond b (Some v) (lookup (eqb q) (zip (k ∷ ks) (x ∷ vs)))) (either_way q e)
one_more_zipped q e v (suc r) (k ∷ ks) (x ∷ vs) n h =
    let first = or_false_first (eqb e k) (list_any (eqb e) ks) h in
    ap (cond (eqb q k) (Some x))
    (one_more_zipped q e v r ks vs (omega (arith, n)) (or_false_second (eqb e k) (list_any (eqb e) ks) h))
    ∙ one_more_by q e v k x (eqb q k) (eqb e q) (lookup (eqb q) (zip ks vs)) (λ t. not_both e k q first t)

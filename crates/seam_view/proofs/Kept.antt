-- What a look leaves of a view is a view.
use Rattle.std.proofs.Common.{◌≡◌, ℕ, Bool, true, false, cond, eqb, List, [], ◌∷◌, Option, None, Some, refl, sym, ap, ◌∙◌, subst}
use Rattle.std.proofs.Common.{arith}
use Rattle.std.specs.Ordering.{nat_cmp, is_eq}
use Rattle.std.specs.Cmp.{nat_cmp_total}
use Rattle.std.specs.Map.{keys_of}
use Rattle.std.specs.List.{IsDistinct, AllByRecursion}
use Rattle.std.specs.FinMap as versions
use Rattle.std.proofs.lemmas.Map.Keys.{IsDistinct-head, IsDistinct-tail, IsDistinct-cons}
use Rattle.std.proofs.lemmas.Bool.Decides.{nat_tests}
use Rattle.seam_view.specs.declared.Seen.{Seen}
use Rattle.seam_view.specs.declared.Look.{Look}
use Rattle.seam_view.specs.declared.Look.TheVariants.{Leave, Set, Enter}
use Rattle.seam_view.specs.Replica.{Replica, AreShown, IsView, seen_of, placed, without, with_version_shown, after_showing, after_look}
use Rattle.seam_view.specs.Replica.{after_looks}
use Rattle.seam_view.proofs.Numbers.{number_is, same_again, differs_too}

-- ---- the version of an entity

turned : (a b : ℕ) (t : Bool) → eqb a b ≡ t → is_eq (nat_cmp b a) ≡ t
turned a b true e = grind (arith, nat_tests)
turned a b false e = grind (arith, nat_tests)

-- the version last shown of the entity that was shown, and of another one
pub get_by_shown : (m : versions.FinMap nat_cmp ℕ) (e v q : ℕ) (t : Bool) → eqb e q ≡ t →
    versions.get (versions.insert m e v) q ≡ cond t (Some v) (versions.get m q)
get_by_shown m e v q t h = versions.get-insert nat_cmp_total m e v q ∙ ap (λ b. cond b (Some v) (versions.get m q)) (turned e q t h)

-- ---- each entity once

abbrev Absent : ℕ → List (ℕ × ℕ) → Type 0
Absent x es = AllByRecursion (λ y. eqb x y ≡ false) (keys_of es)

absent_placed_by : (x e v : ℕ) (p : ℕ × ℕ) (es : List (ℕ × ℕ)) (b : Bool) → Absent x (p ∷ es) → Absent x (placed e v es) →
    Absent x (cond b ((p.0, v) ∷ es) (p ∷ placed e v es))
absent_placed_by x e v p es true h k = h
absent_placed_by x e v p es false h k = (h.0, k)

absent_placed : (x e v : ℕ) (es : List (ℕ × ℕ)) → eqb x e ≡ false → Absent x es → Absent x (placed e v es)
absent_placed x e v [] n h = (n, tt)
absent_placed x e v (p ∷ es) n h = absent_placed_by x e v p es (eqb e p.0) h (absent_placed x e v es n h.1)

absent_without_by : (x e : ℕ) (p : ℕ × ℕ) (es : List (ℕ × ℕ)) (b : Bool) → Absent x (p ∷ es) → Absent x (without e es) →
    Absent x (cond b es (p ∷ without e es))
absent_without_by x e p es true h k = h.1
absent_without_by x e p es false h k = (h.0, k)

absent_without : (x e : ℕ) (es : List (ℕ × ℕ)) → Absent x es → Absent x (without e es)
absent_without x e [] h = tt
absent_without x e (p ∷ es) h = absent_without_by x e p es (eqb e p.0) h (absent_without x e es h.1)

once_placed_by : (e v : ℕ) (p : ℕ × ℕ) (es : List (ℕ × ℕ)) (b : Bool) → eqb e p.0 ≡ b → IsDistinct eqb (keys_of (p ∷ es)) →
    IsDistinct eqb (keys_of (placed e v es)) →
    IsDistinct eqb (keys_of (cond b ((p.0, v) ∷ es) (p ∷ placed e v es)))
once_placed_by e v p es true h u rest = u
once_placed_by e v p es false h u rest =
    IsDistinct-cons eqb p.0 (keys_of (placed e v es))
    (absent_placed p.0 e v es (differs_too e p.0 h) (IsDistinct-head eqb p.0 (keys_of es) u)) rest

pub once_placed : (e v : ℕ) (es : List (ℕ × ℕ)) → IsDistinct eqb (keys_of es) → IsDistinct eqb (keys_of (placed e v es))
once_placed e v [] u = IsDistinct-cons eqb e [] tt u
once_placed e v (p ∷ es) u = once_placed_by e v p es (eqb e p.0) refl u (once_placed e v es (IsDistinct-tail eqb p.0 (keys_of es) u))

once_without_by : (e : ℕ) (p : ℕ × ℕ) (es : List (ℕ × ℕ)) (b : Bool) → IsDistinct eqb (keys_of (p ∷ es)) →
    IsDistinct eqb (keys_of (without e es)) →
    IsDistinct eqb (keys_of (cond b es (p ∷ without e es)))
once_without_by e p es true u rest = IsDistinct-tail eqb p.0 (keys_of es) u
once_without_by e p es false u rest =
    IsDistinct-cons eqb p.0 (keys_of (without e es)) (absent_without p.0 e es (IsDistinct-head eqb p.0 (keys_of es) u)) rest

once_without : (e : ℕ) (es : List (ℕ × ℕ)) → IsDistinct eqb (keys_of es) → IsDistinct eqb (keys_of (without e es))
once_without e [] u = u
once_without e (p ∷ es) u = once_without_by e p es (eqb e p.0) u (once_without e es (IsDistinct-tail eqb p.0 (keys_of es) u))

-- ---- each at the version last shown

shown_without_by : (m : versions.FinMap nat_cmp ℕ) (e : ℕ) (p : ℕ × ℕ) (es : List (ℕ × ℕ)) (b : Bool) → AreShown m (p ∷ es) →
    AreShown m (without e es) →
    AreShown m (cond b es (p ∷ without e es))
shown_without_by m e p es true h k = h.1
shown_without_by m e p es false h k = (h.0, k)

shown_without : (m : versions.FinMap nat_cmp ℕ) (e : ℕ) (es : List (ℕ × ℕ)) → AreShown m es → AreShown m (without e es)
shown_without m e [] h = tt
shown_without m e (p ∷ es) h = shown_without_by m e p es (eqb e p.0) h (shown_without m e es h.1)

pub others_shown : (m : versions.FinMap nat_cmp ℕ) (e v : ℕ) (es : List (ℕ × ℕ)) → Absent e es → AreShown m es →
    AreShown (versions.insert m e v) es
others_shown m e v [] a h = tt
others_shown m e v (p ∷ es) a h = (get_by_shown m e v p.0 false a.0 ∙ h.0, others_shown m e v es a.1 h.1)

absent_same : (x e : ℕ) (es : List (ℕ × ℕ)) → eqb e x ≡ true → Absent x es → Absent e es
absent_same x e es t a = let same = number_is e x t in subst (λ y. Absent y es) (sym same) a

shown_placed_by : (m : versions.FinMap nat_cmp ℕ) (e v : ℕ) (p : ℕ × ℕ) (es : List (ℕ × ℕ)) (b : Bool) → eqb e p.0 ≡ b →
    IsDistinct eqb (keys_of (p ∷ es)) →
    AreShown m (p ∷ es) → AreShown (versions.insert m e v) (placed e v es) →
    AreShown (versions.insert m e v) (cond b ((p.0, v) ∷ es) (p ∷ placed e v es))
shown_placed_by m e v p es true t u h k =
    (get_by_shown m e v p.0 true t, others_shown m e v es (absent_same p.0 e es t (IsDistinct-head eqb p.0 (keys_of es) u)) h.1)
shown_placed_by m e v p es false t u h k = (get_by_shown m e v p.0 false t ∙ h.0, k)

shown_placed : (m : versions.FinMap nat_cmp ℕ) (e v : ℕ) (es : List (ℕ × ℕ)) → IsDistinct eqb (keys_of es) → AreShown m es →
    AreShown (versions.insert m e v) (placed e v es)
shown_placed m e v [] u h = (get_by_shown m e v e true (same_again e), tt)
shown_placed m e v (p ∷ es) u h =
    shown_placed_by m e v p es (eqb e p.0) refl u h (shown_placed m e v es (IsDistinct-tail eqb p.0 (keys_of es) u) h.1)

-- ---- views

pub view_when_shown : (r : Replica) (e v : ℕ) → IsView r → IsView (with_version_shown r e v)
view_when_shown r e v h = record { once = once_placed e v r.entries h.once; shown = shown_placed r.shown e v r.entries h.once h.shown }

pub view_when_left : (r : Replica) (e : ℕ) → IsView r → IsView (record r { entries = without e r.entries })
view_when_left r e h = record { once = once_without e r.entries h.once; shown = shown_without r.shown e r.entries h.shown }

view_when_known : (r : Replica) (e : ℕ) (o : Option Seen) → IsView r → IsView (after_showing r e o)
view_when_known r e None h = h
view_when_known r e (Some s) h = view_when_shown r e s.version h

view_after_look : (known : List Seen) (r : Replica) (look : Look) → IsView r → IsView (after_look known r look)
view_after_look known r (Leave e) h = view_when_left r e h
view_after_look known r (Set e) h = view_when_known r e (seen_of e known) h
view_after_look known r (Enter e) h = view_when_known r e (seen_of e known) h

pub view_after_looks : (known : List Seen) (r : Replica) (looks : List Look) → IsView r → IsView (after_looks known r looks)
view_after_looks known r [] h = h
view_after_looks known r (look ∷ looks) h = view_after_looks known (after_look known r look) looks (view_after_look known r look h)

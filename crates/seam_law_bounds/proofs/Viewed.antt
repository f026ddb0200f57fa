-- After a look a view has no entity but those that were known.
use Rattle.seam_law_bounds.proofs.Prelude.{◌≡◌, ℕ, Bool, true, false, cond, eqb, ◌||◌, is_some, List, [], ◌∷◌, ◌++◌, map, filter, Option}
use Rattle.seam_law_bounds.proofs.Prelude.{None, Some, refl, sym, ap, ◌∙◌, subst, arith, AllByRecursion, list_any, keys_of, eq-eqb}
use Rattle.seam_law_bounds.proofs.Prelude.{nat_tests, fold-append, Pos, Seen, Look, Replica, IsView, seen_of, placed, without}
use Rattle.seam_law_bounds.proofs.Prelude.{after_showing, after_look, after_looks, leaves, leaving, changed, entering, one_look}
use Rattle.std.specs.List.{IsDistinct}
use Rattle.seam_view.specs.declared.Look.TheVariants as look
use Rattle.seam_view.proofs.Kept.{view_when_left}

module _ (known : List Seen) where
  abbrev pub EachKnown : List (ℕ × ℕ) → Type 0
  EachKnown es = AllByRecursion (λ p. is_some (seen_of p.0 known) ≡ true) es

  -- ---- looks that show something

  placed_known : (e v : ℕ) (ps : List (ℕ × ℕ)) → is_some (seen_of e known) ≡ true → EachKnown ps → EachKnown (placed e v ps)
  placed_known e v [] is h = (is, tt)
  placed_known e v (p ∷ ps) is h = by (eqb e p.0) (placed_known e v ps is h.1)
    where
      by : (b : Bool) → EachKnown (placed e v ps) → EachKnown (cond b ((p.0, v) ∷ ps) (p ∷ placed e v ps))
      by true more = (h.0, h.1)
      by false more = (h.0, more)

  showing_known : (r : Replica) (e : ℕ) (o : Option Seen) → seen_of e known ≡ o → EachKnown r.entries →
      EachKnown (after_showing r e o).entries
  showing_known r e None at h = h
  showing_known r e (Some s) at h = placed_known e s.version r.entries (ap is_some at) h

  abbrev Shows : Look → Type 0
  Shows (look.Leave e) = ⊥
  Shows (look.Set e) = Unit {0}
  Shows (look.Enter e) = Unit {0}

  shown_known : (r : Replica) (ls : List Look) → AllByRecursion Shows ls → EachKnown r.entries → EachKnown (after_looks known r ls).entries
  shown_known r [] all h = h
  shown_known r (look.Leave e ∷ ls) all h = absurd all.0
  shown_known r (look.Set e ∷ ls) all h =
      shown_known (after_showing r e (seen_of e known)) ls all.1 (showing_known r e (seen_of e known) refl h)
  shown_known r (look.Enter e ∷ ls) all h =
      shown_known (after_showing r e (seen_of e known)) ls all.1 (showing_known r e (seen_of e known) refl h)

  sets_show : (es : List (ℕ × ℕ)) → AllByRecursion Shows (map (λ p. look.Set p.0) es)
  sets_show [] = tt
  sets_show (p ∷ ps) = (tt, sets_show ps)

  enters_show : (ss : List Seen) → AllByRecursion Shows (map (λ s. look.Enter s.entity) ss)
  enters_show [] = tt
  enters_show (s ∷ ss) = (tt, enters_show ss)

-- ---- those that leave

module _ (t : ℕ × ℕ → Bool) where
  -- one that is to leave is among these
  abbrev Stays : List ℕ → ℕ × ℕ → Type 0
  Stays gone p = t p ≡ true → list_any (eqb p.0) gone ≡ true

  stays_but : (e : ℕ) (gone : List ℕ) (p : ℕ × ℕ) → eqb p.0 e ≡ false → Stays (e ∷ gone) p → Stays gone p
  stays_but e gone p other h leaves_too = sym (ap (λ b. b || list_any (eqb p.0) gone) other) ∙ h leaves_too

  other_way : (a b : ℕ) → eqb a b ≡ false → eqb b a ≡ false
  other_way a b h = grind (arith, nat_tests, h)

  apart_from : (a b c : ℕ) → eqb a b ≡ true → eqb b c ≡ false → eqb c a ≡ false
  apart_from a b c is h = grind (arith, nat_tests, is, h)

  rest_stay : (e : ℕ) (gone : List ℕ) (p : ℕ × ℕ) (ps : List (ℕ × ℕ)) → eqb e p.0 ≡ true →
      AllByRecursion (λ y. eqb p.0 y ≡ false) (keys_of ps) → AllByRecursion (Stays (e ∷ gone)) ps → AllByRecursion (Stays gone) ps
  rest_stay e gone p [] is apart h = tt
  rest_stay e gone p (q ∷ qs) is apart h =
      (stays_but e gone q (apart_from e p.0 q.0 is apart.0) h.0, rest_stay e gone p qs is apart.1 h.1)

  without_stay : (e : ℕ) (gone : List ℕ) (ps : List (ℕ × ℕ)) → IsDistinct eqb (keys_of ps) → AllByRecursion (Stays (e ∷ gone)) ps →
      AllByRecursion (Stays gone) (without e ps)
  unfolding IsDistinct
  without_stay e gone [] once h = tt
  without_stay e gone (p ∷ ps) once h = by (eqb e p.0) refl (without_stay e gone ps once.1 h.1)
    where
      by : (b : Bool) → eqb e p.0 ≡ b → AllByRecursion (Stays gone) (without e ps) →
          AllByRecursion (Stays gone) (cond b ps (p ∷ without e ps))
      by true is more = rest_stay e gone p ps is once.0 h.1
      by false is more = (stays_but e gone p (other_way e p.0 is) h.0, more)

  all_leave : (known : List Seen) (gone : List (ℕ × ℕ)) (r : Replica) → IsView r → AllByRecursion (Stays (keys_of gone)) r.entries →
      AllByRecursion (Stays []) (after_looks known r (map (λ p. look.Leave p.0) gone)).entries
  all_leave known [] r view h = h
  all_leave known (p ∷ ps) r view h =
      all_leave known ps (record r { entries = without p.0 r.entries }) (view_when_left r p.0 view)
      (without_stay p.0 (keys_of ps) r.entries view.once h)

  member_by : (p : ℕ × ℕ) (es : List (ℕ × ℕ)) (q : ℕ) (b : Bool) → list_any (eqb q) (keys_of (filter t es)) ≡ true →
      list_any (eqb q) (keys_of (cond b (p ∷ filter t es) (filter t es))) ≡ true
  member_by p es q true h = or_right (eqb q p.0) _ h
    where
      or_right : (a b : Bool) → b ≡ true → (a || b) ≡ true
      or_right true b h = refl
      or_right false b h = h
  member_by p es q false h = h

  head_by : (p : ℕ × ℕ) (es : List (ℕ × ℕ)) (b : Bool) → b ≡ true →
      list_any (eqb p.0) (keys_of (cond b (p ∷ filter t es) (filter t es))) ≡ true
  head_by p es true is = ap (λ c. c || list_any (eqb p.0) (keys_of (filter t es))) (eq-eqb p.0 p.0 refl)
  head_by p es false is = cc

  starts : (gone : List ℕ) (es : List (ℕ × ℕ)) →
      ((q : ℕ) → list_any (eqb q) (keys_of (filter t es)) ≡ true → list_any (eqb q) gone ≡ true) → AllByRecursion (Stays gone) es
  starts gone [] h = tt
  starts gone (p ∷ ps) h = ((λ is. h p.0 (head_by p ps (t p) is)), starts gone ps (λ q is. h q (member_by p ps q (t p) is)))

-- ---- the look

module _ (r : Replica) (own : Pos) (known : List Seen) (view : IsView r) where
  abbrev leaves_it : ℕ × ℕ → Bool
  leaves_it p = leaves r own p.1 (seen_of p.0 known)

  known_by : (n : ℕ) (o : Option Seen) → (leaves r own n o ≡ true → false ≡ true) → is_some o ≡ true
  known_by n None h = absurd (let z = h refl in cc)
  known_by n (Some s) h = refl

  stays_known : (es : List (ℕ × ℕ)) → AllByRecursion (Stays leaves_it []) es → EachKnown known es
  stays_known [] h = tt
  stays_known (p ∷ ps) h = (known_by p.1 (seen_of p.0 known) h.0, stays_known ps h.1)

  abbrev left : Replica
  left = after_looks known r (leaving r own known r.entries)

  left_known : EachKnown known left.entries
  left_known =
      stays_known left.entries
      (all_leave leaves_it known (filter leaves_it r.entries) r view
      (starts leaves_it (keys_of (filter leaves_it r.entries)) r.entries (λ q is. is)))

  pub viewed_known : EachKnown known (after_looks known r (one_look r own known)).entries
  viewed_known =
      subst (λ (x : Replica). EachKnown known x.entries)
      (sym (fold-append (after_look known) r (leaving r own known r.entries ++ changed r own known r.entries) (entering r own known)
      ∙ ap (λ x. after_looks known x (entering r own known))
      (fold-append (after_look known) r (leaving r own known r.entries) (changed r own known r.entries))))
      (shown_known known (after_looks known left (changed r own known r.entries)) (entering r own known) (enters_show known _)
      (shown_known known left (changed r own known r.entries) (sets_show known _) left_known))

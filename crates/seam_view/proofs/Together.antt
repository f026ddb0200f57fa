-- Leaves that were taken out of a view in one pass change nothing when they are kept afterwards.
use Rattle.std.proofs.Common.{◌≡◌, ℕ, Bool, true, false, not, ◌&&◌, cond, eqb, List, [], ◌∷◌, ◌++◌, drop, fold, Option, None, Some, refl}
use Rattle.std.proofs.Common.{sym}
use Rattle.std.proofs.Common.{ap, subst, ◌∙◌}
use Rattle.std.specs.Option.{option_or}
use Rattle.std.specs.Map.{keys_of, lookup}
use Rattle.std.specs.List.{IsDistinct, AllByRecursion}
use Rattle.std.proofs.lemmas.Map.Keys.{IsDistinct-head, IsDistinct-tail}
use Rattle.seam_view.specs.declared.Seen.{Seen}
use Rattle.seam_view.specs.declared.Look.{Look}
use Rattle.seam_view.specs.declared.Look.TheVariants.{Leave, Set, Enter}
use Rattle.seam_view.specs.Replica.{Replica, without, after_look}
use Rattle.seam_view.specs.Together.{leaves_next, looks_past, looks_past_all, left_past_all, kept_past_all}
use Rattle.seam_view.proofs.Numbers.{number_is, differs_too, either_way}

abbrev Absent : ℕ → List (ℕ × ℕ) → Type 0
Absent e es = AllByRecursion (λ p. eqb e p.0 ≡ false) es

-- no entity of es is among the earlier ones
abbrev Apart : List (ℕ × ℕ) → List (ℕ × ℕ) → Type 0
Apart earlier es = AllByRecursion (λ p. Absent p.0 earlier) es

absent_of_keys : (e : ℕ) (es : List (ℕ × ℕ)) → AllByRecursion (λ y. eqb e y ≡ false) (keys_of es) → Absent e es
absent_of_keys e [] h = tt
absent_of_keys e (p ∷ es) h = (h.0, absent_of_keys e es h.1)

absent_append : (e : ℕ) (earlier es : List (ℕ × ℕ)) → Absent e earlier → Absent e es → Absent e (earlier ++ es)
absent_append e [] es h k = k
absent_append e (p ∷ earlier) es h k = (h.0, absent_append e earlier es h.1 k)

apart_push : (p : ℕ × ℕ) (earlier es : List (ℕ × ℕ)) → AllByRecursion (λ y. eqb p.0 y ≡ false) (keys_of es) → Apart earlier es →
    Apart (earlier ++ p ∷ []) es
apart_push p earlier [] h k = tt
apart_push p earlier (q ∷ es) h k = (absent_append q.0 earlier (p ∷ []) k.0 (differs_too p.0 q.0 h.0, tt), apart_push p earlier es h.1 k.1)

push_append : (earlier : List (ℕ × ℕ)) (p : ℕ × ℕ) (es : List (ℕ × ℕ)) → (earlier ++ p ∷ []) ++ es ≡ earlier ++ p ∷ es
push_append [] p es = refl
push_append (q ∷ earlier) p es = ap (λ xs. q ∷ xs) (push_append earlier p es)

without_here : (e : ℕ) (earlier : List (ℕ × ℕ)) (p : ℕ × ℕ) (es : List (ℕ × ℕ)) → Absent e earlier → eqb e p.0 ≡ true →
    without e (earlier ++ p ∷ es) ≡ earlier ++ es
without_here e [] p es h t = rw t refl
without_here e (q ∷ earlier) p es h t = rw h.0 (ap (λ xs. q ∷ xs) (without_here e earlier p es h.1 t))

module _ (known : List Seen) (r : Replica) where
  -- what the view is after the looks, where these were its entries
  abbrev seen_with : List Look → List (ℕ × ℕ) → Replica
  seen_with looks es = fold (after_look known) (record r { entries = es }) looks

  abbrev Same : List (ℕ × ℕ) → List (ℕ × ℕ) → List Look → Type 0
  Same earlier es looks = seen_with (looks_past_all looks es) (earlier ++ kept_past_all looks es) ≡ seen_with looks (earlier ++ es)

  -- its turn has come
  left_now : (earlier : List (ℕ × ℕ)) (p : ℕ × ℕ) (es : List (ℕ × ℕ)) (looks : List Look) → leaves_next p.0 looks ≡ true →
      Absent p.0 earlier → ((looks : List Look) → Same earlier es looks) →
      seen_with (looks_past_all (drop 1 looks) es) (earlier ++ kept_past_all (drop 1 looks) es) ≡ seen_with looks (earlier ++ p ∷ es)
  left_now earlier p es [] t f rest = cc
  left_now earlier p es (Set x ∷ looks) t f rest = cc
  left_now earlier p es (Enter x ∷ looks) t f rest = cc
  left_now earlier p es (Leave x ∷ looks) t f rest =
      let same = number_is p.0 x t in
      let taken =
      without_here x earlier p es (subst (λ e. Absent e earlier) same f) (ap (λ e. eqb e p.0) (sym same)
      ∙ (ap (λ e. eqb p.0 e) same ∙ t)) in
      rest looks ∙ ap (seen_with looks) (sym taken)

  turn : (earlier : List (ℕ × ℕ)) (p : ℕ × ℕ) (es : List (ℕ × ℕ)) (looks : List Look) (b : Bool) → leaves_next p.0 looks ≡ b →
      Absent p.0 earlier → ((looks : List Look) → Same earlier es looks) → ((looks : List Look) → Same (earlier ++ p ∷ []) es looks) →
      seen_with (looks_past_all (cond b (drop 1 looks) looks) es)
      (earlier ++ cond (not b) (p ∷ kept_past_all (cond b (drop 1 looks) looks) es) (kept_past_all (cond b (drop 1 looks) looks) es))
      ≡ seen_with looks (earlier ++ p ∷ es)
  turn earlier p es looks true t f rest past = left_now earlier p es looks t f rest
  turn earlier p es looks false t f rest past =
      ap (seen_with (looks_past_all looks es)) (sym (push_append earlier p (kept_past_all looks es)))
      ∙ (past looks ∙ ap (seen_with looks) (push_append earlier p es))

  same_past : (earlier es : List (ℕ × ℕ)) (looks : List Look) → Apart earlier es → IsDistinct eqb (keys_of es) → Same earlier es looks
  same_past earlier [] looks a u = refl
  same_past earlier (p ∷ es) looks a u =
      let once = IsDistinct-head eqb p.0 (keys_of es) u in
      let tail = IsDistinct-tail eqb p.0 (keys_of es) u in
      turn earlier p es looks (leaves_next p.0 looks) refl a.0 (λ more. same_past earlier es more a.1 tail)
      (λ more. same_past (earlier ++ p ∷ []) es more (apart_push p earlier es once a.1) tail)

  none_in_front : (es : List (ℕ × ℕ)) → Apart [] es
  none_in_front [] = tt
  none_in_front (p ∷ es) = (tt, none_in_front es)

  -- the looks past those of the pass bring what it leaves to what all looks bring the view to
  pub same_together : (es : List (ℕ × ℕ)) (looks : List Look) → IsDistinct eqb (keys_of es) →
      fold (after_look known) (record r { entries = kept_past_all looks es }) (looks_past_all looks es)
      ≡ fold (after_look known) (record r { entries = es }) looks
  same_together es looks u = same_past [] es looks (none_in_front es) u

-- ---- the versions of those that the pass takes out

none_of : (q : ℕ) (es : List (ℕ × ℕ)) → Absent q es → lookup (eqb q) es ≡ None
none_of q [] h = refl
none_of q (p ∷ es) h = rw h.0 (none_of q es h.1)

sought_by : (q : ℕ) (b l : Bool) (p : ℕ × ℕ) (looks more : List Look) (es : List (ℕ × ℕ)) (m : ℕ → Option ℕ) → eqb q p.0 ≡ b →
    eqb p.0 q ≡ b → Absent p.0 es →
    option_or (lookup (eqb q) (kept_past_all more es)) (left_past_all more es (λ x. cond (l && eqb p.0 x) (Some p.1) (m x)) q)
    ≡ option_or (lookup (eqb q) es) (cond (l && eqb p.0 q) (Some p.1) (m q)) →
    option_or (lookup (eqb q) (cond (not l) (p ∷ kept_past_all more es) (kept_past_all more es)))
    (left_past_all more es (λ x. cond (l && eqb p.0 x) (Some p.1) (m x)) q)
    ≡ option_or (cond b (Some p.1) (lookup (eqb q) es)) (m q)
sought_by q true true p looks more es m t u h rest =
    rest ∙ λ i. option_or (none_here i) (cond (u i) (Some p.1) (m q))
  where
    none_here : lookup (eqb q) es ≡ None
    none_here = none_of q es (subst (λ x. Absent x es) (sym (number_is q p.0 t)) h)
sought_by q false true p looks more es m t u h rest = rest ∙ ap (λ b. option_or (lookup (eqb q) es) (cond b (Some p.1) (m q))) u
sought_by q true false p looks more es m t u h rest =
    ap (λ b. option_or (cond b (Some p.1) (lookup (eqb q) (kept_past_all more es))) (left_past_all more es m q)) t
sought_by q false false p looks more es m t u h rest =
    ap (λ b. option_or (cond b (Some p.1) (lookup (eqb q) (kept_past_all more es))) (left_past_all more es m q)) t ∙ rest

-- each entity is shown at the version that it was shown at
pub shown_together : (q : ℕ) (looks : List Look) (es : List (ℕ × ℕ)) (m : ℕ → Option ℕ) → IsDistinct eqb (keys_of es) →
    option_or (lookup (eqb q) (kept_past_all looks es)) (left_past_all looks es m q) ≡ option_or (lookup (eqb q) es) (m q)
shown_together q looks [] m u = refl
shown_together q looks (p ∷ es) m u =
    sought_by q (eqb q p.0) (leaves_next p.0 looks) p looks (looks_past p.0 looks) es m refl (either_way p.0 q)
    (absent_of_keys p.0 es (IsDistinct-head eqb p.0 (keys_of es) u))
    (shown_together q (looks_past p.0 looks) es (λ x. cond (leaves_next p.0 looks && eqb p.0 x) (Some p.1) (m x))
    (IsDistinct-tail eqb p.0 (keys_of es) u))

-- ---- one leaves alone

none_taken : (es : List (ℕ × ℕ)) → kept_past_all [] es ≡ es
none_taken [] = refl
none_taken (p ∷ es) = ap (λ xs. p ∷ xs) (none_taken es)

alone_by : (e : ℕ) (p : ℕ × ℕ) (es : List (ℕ × ℕ)) (b : Bool) → kept_past_all (Leave e ∷ []) es ≡ without e es →
    cond (not b) (p ∷ kept_past_all (cond b [] (Leave e ∷ [])) es) (kept_past_all (cond b [] (Leave e ∷ [])) es)
    ≡ cond b es (p ∷ without e es)
alone_by e p es true rest = none_taken es
alone_by e p es false rest = ap (λ xs. p ∷ xs) rest

pub kept_alone : (e : ℕ) (es : List (ℕ × ℕ)) → kept_past_all (Leave e ∷ []) es ≡ without e es
kept_alone e [] = refl
kept_alone e (p ∷ es) =
    alone_by e p es (eqb p.0 e) (kept_alone e es) ∙ ap (λ b. cond b es (p ∷ without e es)) (either_way p.0 e)

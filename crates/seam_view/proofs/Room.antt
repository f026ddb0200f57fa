-- The room of looks, as they are kept one by one, and where some are left out.
use Rattle.std.proofs.Common.{◌≡◌, ◌≤◌, ◌+◌, ℕ, Bool, true, false, cond, not, ◌&&◌, ◌||◌, eqb, List, [], ◌∷◌, ◌++◌, map, length, drop}
use Rattle.std.proofs.Common.{Option, None}
use Rattle.std.proofs.Common.{Some, refl, sym, ap, subst, ◌∙◌, arith}
use Rattle.std.specs.Map.{keys_of}
use Rattle.std.specs.List.{IsDistinct, AllByRecursion, filter, list_any}
use Rattle.std.proofs.lemmas.Map.Keys.{IsDistinct-head, IsDistinct-tail}
use Rattle.std.proofs.lemmas.Bool.{or_parts}
use Rattle.std.proofs.lemmas.List.{length-map}
use Rattle.std.proofs.lemmas.Bool.Decides.{nat_tests}
use Rattle.seam_geo.specs.declared.pos.Pos.{Pos}
use Rattle.seam_view.specs.declared.Seen.{Seen}
use Rattle.seam_view.specs.declared.Look.{Look}
use Rattle.seam_view.specs.declared.Look.TheVariants.{Leave, Set, Enter}
use Rattle.seam_view.specs.Replica.{Replica, ViewValue, HasRoom, SetsAreIn, enters_in, leaves_in, seen_of, placed, without, after_showing}
use Rattle.seam_view.specs.Replica.{after_look}
use Rattle.seam_view.specs.ViewLooks.{leaves, has_changed, enters as enters_view, leaving, entering, one_look}
use Rattle.seam_view.specs.Together.{leaves_next, looks_past, looks_past_all, kept_past_all}
use Rattle.seam_view.proofs.Numbers.{number_is, or_second, same_again}
use Rattle.seam_view.proofs.Noted.{left_or_changed}

-- whether the entity is one of these
abbrev In : List (ℕ × ℕ) → ℕ → Bool
In es q = list_any (λ p. eqb q p.0) es

-- ---- what is set is in view, the more so where more are in view

and_more : (a b c : Bool) → (b ≡ true → c ≡ true) → (a && b) ≡ true → (a && c) ≡ true
and_more true b c w h = w h
and_more false b c w h = cc

pub sets_when_more : (t u : ℕ → Bool) → ((q : ℕ) → t q ≡ true → u q ≡ true) → (looks : List Look) → SetsAreIn t looks → SetsAreIn u looks
sets_when_more t u w [] h = tt
sets_when_more t u w (Leave e ∷ looks) h =
    sets_when_more (λ q. not (eqb e q) && t q) (λ q. not (eqb e q) && u q) (λ q. and_more (not (eqb e q)) (t q) (u q) (w q)) looks h
sets_when_more t u w (Set e ∷ looks) h = (w e h.0, sets_when_more t u w looks h.1)
sets_when_more t u w (Enter e ∷ looks) h = sets_when_more t u w looks h

and_second : (a b : Bool) → (a && b) ≡ true → b ≡ true
and_second true b h = h
and_second false b h = cc

-- ---- some are left out

module _ (t : Look → Bool) where
  enters_by : (b : Bool) (look : Look) (fewer looks : List Look) → enters_in fewer ≤ enters_in looks →
      enters_in (cond b (look ∷ fewer) fewer) ≤ enters_in (look ∷ looks)
  enters_by true (Leave e) fewer looks h = h
  enters_by true (Set e) fewer looks h = h
  enters_by true (Enter e) fewer looks h = omega (arith, h)
  enters_by false (Leave e) fewer looks h = h
  enters_by false (Set e) fewer looks h = h
  enters_by false (Enter e) fewer looks h = omega (arith, h)

  fewer_enters : (looks : List Look) → enters_in (filter t looks) ≤ enters_in looks
  fewer_enters [] = omega arith
  fewer_enters (look ∷ looks) = enters_by (t look) look (filter t looks) looks (fewer_enters looks)

  leaves_by : (b : Bool) (look : Look) (fewer looks : List Look) → leaves_in fewer ≤ leaves_in looks →
      leaves_in (cond b (look ∷ fewer) fewer) ≤ leaves_in (look ∷ looks)
  leaves_by true (Leave e) fewer looks h = omega (arith, h)
  leaves_by true (Set e) fewer looks h = h
  leaves_by true (Enter e) fewer looks h = h
  leaves_by false (Leave e) fewer looks h = omega (arith, h)
  leaves_by false (Set e) fewer looks h = h
  leaves_by false (Enter e) fewer looks h = h

  fewer_leaves : (looks : List Look) → leaves_in (filter t looks) ≤ leaves_in looks
  fewer_leaves [] = omega arith
  fewer_leaves (look ∷ looks) = leaves_by (t look) look (filter t looks) looks (fewer_leaves looks)

  sets_by : (b : Bool) (look : Look) (u : ℕ → Bool) (fewer looks : List Look) →
      ((s : ℕ → Bool) → SetsAreIn s looks → SetsAreIn s fewer) → SetsAreIn u (look ∷ looks) → SetsAreIn u (cond b (look ∷ fewer) fewer)
  sets_by true (Leave e) u fewer looks rest h = rest (λ q. not (eqb e q) && u q) h
  sets_by true (Set e) u fewer looks rest h = (h.0, rest u h.1)
  sets_by true (Enter e) u fewer looks rest h = rest u h
  sets_by false (Leave e) u fewer looks rest h =
      sets_when_more (λ q. not (eqb e q) && u q) u (λ q. and_second (not (eqb e q)) (u q)) fewer (rest (λ q. not (eqb e q) && u q) h)
  sets_by false (Set e) u fewer looks rest h = rest u h.1
  sets_by false (Enter e) u fewer looks rest h = rest u h

  fewer_sets : (looks : List Look) (u : ℕ → Bool) → SetsAreIn u looks → SetsAreIn u (filter t looks)
  fewer_sets [] u h = tt
  fewer_sets (look ∷ looks) u h = sets_by (t look) look u (filter t looks) looks (λ s. fewer_sets looks s) h

  -- where there is room for all looks, there is for those that pass a test
  pub room_for_fewer : (w : ViewValue) (looks : List Look) → HasRoom w looks → HasRoom w (filter t looks)
  room_for_fewer w looks h =
      let enters = fewer_enters looks in
      let leaves = fewer_leaves looks in
      let e = h.enters in
      let l = h.leaves in
      record { enters = omega (arith, enters, e); leaves = omega (arith, leaves, l); sets = fewer_sets looks (In w.core.entries) h.sets }

-- ---- one look after the other

in_without_by : (e q : ℕ) (b : Bool) (p : ℕ × ℕ) (es : List (ℕ × ℕ)) → eqb e p.0 ≡ b →
    ((not (eqb e q) && In es q) ≡ true → In (without e es) q ≡ true) →
    (not (eqb e q) && In (p ∷ es) q) ≡ true → In (cond b es (p ∷ without e es)) q ≡ true
in_without_by e q true p es t rest h =
    elim (eqb e q) as (λ x. eqb e q ≡ x → (not x && (eqb q p.0 || In es q)) ≡ true → In es q ≡ true) [
      | true ↦ λ same out. cc
      | false ↦ λ other is_in. others (eqb q p.0) refl other is_in
    ] refl h
  where
    others : (c : Bool) → eqb q p.0 ≡ c → eqb e q ≡ false → (c || In es q) ≡ true → In es q ≡ true
    others true s other is_in = let here = number_is q p.0 s in
        let there : eqb e q ≡ true = ap (eqb e) here ∙ t in
        cc
    others false s other is_in = is_in
in_without_by e q false p es t rest h = past (eqb q p.0) (eqb e q) rest h
  where
    past : (c x : Bool) → ((not x && In es q) ≡ true → In (without e es) q ≡ true) → (not x && (c || In es q)) ≡ true →
        (c || In (without e es) q) ≡ true
    past true x rest is_in = refl
    past false x rest is_in = rest is_in

in_without : (e q : ℕ) (es : List (ℕ × ℕ)) → (not (eqb e q) && In es q) ≡ true → In (without e es) q ≡ true
in_without e q [] h = and_second (not (eqb e q)) false h
in_without e q (p ∷ es) h = in_without_by e q (eqb e p.0) p es refl (in_without e q es) h

in_placed_by : (e v q : ℕ) (b : Bool) (p : ℕ × ℕ) (es : List (ℕ × ℕ)) → (In es q ≡ true → In (placed e v es) q ≡ true) →
    In (p ∷ es) q ≡ true → In (cond b ((p.0, v) ∷ es) (p ∷ placed e v es)) q ≡ true
in_placed_by e v q true p es rest h = h
in_placed_by e v q false p es rest h = past (eqb q p.0) h
  where
    past : (c : Bool) → (c || In es q) ≡ true → (c || In (placed e v es) q) ≡ true
    past true is_in = refl
    past false is_in = rest is_in

pub in_placed : (e v q : ℕ) (es : List (ℕ × ℕ)) → In es q ≡ true → In (placed e v es) q ≡ true
in_placed e v q [] h = cc
in_placed e v q (p ∷ es) h = in_placed_by e v q (eqb e p.0) p es (in_placed e v q es) h

in_showing : (r : Replica) (e q : ℕ) (o : Option Seen) → In r.entries q ≡ true → In (after_showing r e o).entries q ≡ true
in_showing r e q None h = h
in_showing r e q (Some s) h = in_placed e s.version q r.entries h

sets_past : (known : List Seen) (r : Replica) (look : Look) (looks : List Look) → SetsAreIn (In r.entries) (look ∷ looks) →
    SetsAreIn (In (after_look known r look).entries) looks
sets_past known r (Leave e) looks h =
    sets_when_more (λ q. not (eqb e q) && In r.entries q) (In (without e r.entries)) (λ q. in_without e q r.entries) looks h
sets_past known r (Set e) looks h =
    sets_when_more (In r.entries) (In (after_showing r e (seen_of e known)).entries) (λ q. in_showing r e q (seen_of e known)) looks h.1
sets_past known r (Enter e) looks h =
    sets_when_more (In r.entries) (In (after_showing r e (seen_of e known)).entries) (λ q. in_showing r e q (seen_of e known)) looks h

enters_apart : (look : Look) (looks : List Look) → enters_in (look ∷ looks) ≡ enters_in (look ∷ []) + enters_in looks
enters_apart (Leave e) looks = omega arith
enters_apart (Set e) looks = omega arith
enters_apart (Enter e) looks = omega arith

leaves_apart : (look : Look) (looks : List Look) → leaves_in (look ∷ looks) ≡ leaves_in (look ∷ []) + leaves_in looks
leaves_apart (Leave e) looks = omega arith
leaves_apart (Set e) looks = omega arith
leaves_apart (Enter e) looks = omega arith

-- where there is room for all looks, there is for those past the first, once it is kept
pub room_past : (known : List Seen) (w v : ViewValue) (look : Look) (looks : List Look) → v.core ≡ after_look known w.core look →
    w.enters ≤ v.enters + enters_in (look ∷ []) → w.leaves ≤ v.leaves + leaves_in (look ∷ []) → HasRoom w (look ∷ looks) →
    HasRoom v looks
room_past known w v look looks is enters leaves h =
    let a = enters_apart look looks in
    let b = leaves_apart look looks in
    let e = h.enters in
    let l = h.leaves in
    record {
      enters = omega (arith, a, e, enters);
      leaves = omega (arith, b, l, leaves);
      sets = subst (λ r. SetsAreIn (In r.entries) looks) (sym is) (sets_past known w.core look looks h.sets);
    }

-- ---- the first leaves, taken out together

past_by : (look : Look) (looks : List Look) (e : ℕ) → enters_in (looks_past e (look ∷ looks)) ≡ enters_in (look ∷ looks)
past_by (Leave x) looks e =
    elim (eqb e x) as (λ b. enters_in (cond b looks (Leave x ∷ looks)) ≡ enters_in looks) [
      | true ↦ refl
      | false ↦ refl
    ]
past_by (Set x) looks e = refl
past_by (Enter x) looks e = refl

enters_past : (looks : List Look) (e : ℕ) → enters_in (looks_past e looks) ≡ enters_in looks
enters_past [] e = refl
enters_past (look ∷ looks) e = past_by look looks e

pub enters_past_all : (looks : List Look) (es : List (ℕ × ℕ)) → enters_in (looks_past_all looks es) ≡ enters_in looks
enters_past_all looks [] = refl
enters_past_all looks (p ∷ es) = enters_past_all (looks_past p.0 looks) es ∙ enters_past looks p.0

or_more : (a b c : Bool) → (b ≡ true → c ≡ true) → (a || b) ≡ true → (a || c) ≡ true
or_more true b c w h = refl
or_more false b c w h = w h

or_apart : (a b c : Bool) → (a || (b || c)) ≡ ((a || b) || c)
or_apart true b c = refl
or_apart false b c = refl

module _ (p : ℕ × ℕ) (es : List (ℕ × ℕ)) (a : ℕ → Bool) where
  -- an entity other than the first is among the others
  not_first : (x q : ℕ) → eqb p.0 x ≡ true → (not (eqb x q) && (a q || In (p ∷ es) q)) ≡ true → (a q || In es q) ≡ true
  not_first x q t h =
      or_more (a q) (not (eqb x q) && In (p ∷ es) q) (In es q) (others (eqb x q) (eqb q p.0) refl refl) (apart (a q) (eqb x q) h)
    where
      apart : (u y : Bool) → (not y && (u || In (p ∷ es) q)) ≡ true → (u || (not y && In (p ∷ es) q)) ≡ true
      apart true y h = refl
      apart false y h = h

      others : (y c : Bool) → eqb x q ≡ y → eqb q p.0 ≡ c → (not y && (c || In es q)) ≡ true → In es q ≡ true
      others true c s u h = cc
      others false true s u h =
          let here = number_is q p.0 u in
          let there = number_is p.0 x t in
          let again : eqb x q ≡ true = ap (eqb x) (here ∙ there) ∙ same_again x in
          cc
      others false false s u h = h

  sets_turn : (looks : List Look) (b : Bool) → leaves_next p.0 looks ≡ b →
      ((d : ℕ → Bool) (more : List Look) → SetsAreIn (λ q. d q || In es q) more →
      SetsAreIn (λ q. d q || In (kept_past_all more es) q) (looks_past_all more es)) →
      SetsAreIn (λ q. a q || In (p ∷ es) q) looks →
      SetsAreIn (λ q. a q || In
      (cond (not b) (p ∷ kept_past_all (cond b (drop 1 looks) looks) es) (kept_past_all (cond b (drop 1 looks) looks) es)) q)
      (looks_past_all (cond b (drop 1 looks) looks) es)
  sets_turn [] true t rest h = cc
  sets_turn (Set x ∷ looks) true t rest h = cc
  sets_turn (Enter x ∷ looks) true t rest h = cc
  sets_turn (Leave x ∷ looks) true t rest h =
      rest a looks (sets_when_more (λ q. not (eqb x q) && (a q || In (p ∷ es) q)) (λ q. a q || In es q) (λ q. not_first x q t) looks h)
  sets_turn looks false t rest h =
      sets_when_more (λ q. (a q || eqb q p.0) || In (kept_past_all looks es) q) (λ q. a q || In (p ∷ kept_past_all looks es) q)
      (λ q is_in. or_apart (a q) (eqb q p.0) (In (kept_past_all looks es) q) ∙ is_in) (looks_past_all looks es)
      (rest (λ q. a q || eqb q p.0) looks
      (sets_when_more (λ q. a q || In (p ∷ es) q) (λ q. (a q || eqb q p.0) || In es q)
      (λ q is_in. sym (or_apart (a q) (eqb q p.0) (In es q)) ∙ is_in) looks h))

sets_together : (es : List (ℕ × ℕ)) (a : ℕ → Bool) (looks : List Look) → SetsAreIn (λ q. a q || In es q) looks →
    SetsAreIn (λ q. a q || In (kept_past_all looks es) q) (looks_past_all looks es)
sets_together [] a looks h = h
sets_together (p ∷ es) a looks h = sets_turn p es a looks (leaves_next p.0 looks) refl (sets_together es) h

pub sets_past_all : (es : List (ℕ × ℕ)) (looks : List Look) → SetsAreIn (In es) looks →
    SetsAreIn (In (kept_past_all looks es)) (looks_past_all looks es)
sets_past_all es looks h = sets_together es (λ _. false) looks h

-- ---- the looks of a plan

module _ (r : Replica) (own : Pos) (known : List Seen) where
  -- the looks of what leaves, is set and enters
  abbrev looks_with : List (ℕ × ℕ) → List (ℕ × ℕ) → List Seen → List Look
  looks_with left set ss = map (λ p. Leave p.0) left ++ map (λ p. Set p.0) set ++ map (λ s. Enter s.entity) ss

  many_enter : (left set : List (ℕ × ℕ)) (ss : List Seen) → enters_in (looks_with left set ss) ≡ length ss
  many_enter [] [] [] = refl
  many_enter [] [] (s ∷ ss) = let rest = many_enter [] [] ss in omega (arith, rest)
  many_enter [] (p ∷ set) ss = many_enter [] set ss
  many_enter (p ∷ left) set ss = many_enter left set ss

  many_leave : (left set : List (ℕ × ℕ)) (ss : List Seen) → leaves_in (looks_with left set ss) ≡ length left
  many_leave [] [] [] = refl
  many_leave [] [] (s ∷ ss) = many_leave [] [] ss
  many_leave [] (p ∷ set) ss = many_leave [] set ss
  many_leave (p ∷ left) set ss = let rest = many_leave left set ss in omega (arith, rest)

  -- the entity passes, and does not leave
  abbrev Stays : (ℕ → Bool) → List (ℕ × ℕ) → ℕ × ℕ → Type 0
  Stays t left p = (t p.0 ≡ true) × (In left p.0 ≡ false)

  set_when_in : (t : ℕ → Bool) (set : List (ℕ × ℕ)) (ss : List Seen) → AllByRecursion (λ p. t p.0 ≡ true) set →
      SetsAreIn t (looks_with [] set ss)
  set_when_in t [] [] h = tt
  set_when_in t [] (s ∷ ss) h = set_when_in t [] ss h
  set_when_in t (p ∷ set) ss h = (h.0, set_when_in t set ss h.1)

  past_leave : (t : ℕ → Bool) (p : ℕ × ℕ) (left set : List (ℕ × ℕ)) → AllByRecursion (Stays t (p ∷ left)) set →
      AllByRecursion (Stays (λ q. not (eqb p.0 q) && t q) left) set
  past_leave t p left [] h = tt
  past_leave t p left (x ∷ set) h =
      let out = or_parts (eqb x.0 p.0) (In left x.0) h.0.1 in
      let other : eqb p.0 x.0 ≡ false = (let n : eqb x.0 p.0 ≡ false = out.0 in grind (arith, nat_tests)) in
      (((ap (λ b. not b && t x.0) other ∙ h.0.0), out.1), past_leave t p left set h.1)

  stays_alone : (t : ℕ → Bool) (set : List (ℕ × ℕ)) → AllByRecursion (Stays t []) set → AllByRecursion (λ p. t p.0 ≡ true) set
  stays_alone t [] h = tt
  stays_alone t (p ∷ set) h = (h.0.0, stays_alone t set h.1)

  set_when_staying : (t : ℕ → Bool) (left set : List (ℕ × ℕ)) (ss : List Seen) → AllByRecursion (Stays t left) set →
      SetsAreIn t (looks_with left set ss)
  set_when_staying t [] set ss h = set_when_in t set ss (stays_alone t set h)
  set_when_staying t (p ∷ left) set ss h = set_when_staying (λ q. not (eqb p.0 q) && t q) left set ss (past_leave t p left set h)

  abbrev Left : List (ℕ × ℕ) → List (ℕ × ℕ)
  Left es = filter (λ p. leaves r own p.1 (seen_of p.0 known)) es

  abbrev Changed : List (ℕ × ℕ) → List (ℕ × ℕ)
  Changed es = filter (λ p. has_changed r own p.1 (seen_of p.0 known)) es

  absent_in : (x : ℕ) (es : List (ℕ × ℕ)) → AllByRecursion (λ y. eqb x y ≡ false) (keys_of es) → In es x ≡ false
  absent_in x [] h = refl
  absent_in x (p ∷ es) h = ap (λ b. b || In es x) h.0 ∙ absent_in x es h.1

  absent_filter : (t : ℕ × ℕ → Bool) (x : ℕ) (es : List (ℕ × ℕ)) → In es x ≡ false → In (filter t es) x ≡ false
  absent_filter t x [] h = refl
  absent_filter t x (p ∷ es) h =
      let out = or_parts (eqb x p.0) (In es x) h in
      elim (t p) as (λ b. In (cond b (p ∷ filter t es) (filter t es)) x ≡ false) [
        | true ↦ ap (λ b. b || In (filter t es) x) out.0 ∙ absent_filter t x es out.1
        | false ↦ absent_filter t x es out.1
      ]

  -- with one more entity in view, which is none of these
  with_first : (p : ℕ × ℕ) (b : Bool) (es left set : List (ℕ × ℕ)) → In es p.0 ≡ false → AllByRecursion (Stays (In es) left) set →
      AllByRecursion (Stays (In (p ∷ es)) (cond b (p ∷ left) left)) set
  with_first p b es left [] out h = tt
  with_first p b es left (x ∷ set) out h =
      ((or_second (eqb x.0 p.0) (In es x.0) h.0.0, apart b (eqb x.0 p.0) refl), with_first p b es left set out h.1)
    where
      apart : (b c : Bool) → eqb x.0 p.0 ≡ c → In (cond b (p ∷ left) left) x.0 ≡ false
      apart true true t =
          let same = number_is x.0 p.0 t in
          let here : In es x.0 ≡ false = ap (In es) same ∙ out in
          let there : In es x.0 ≡ true = h.0.0 in
          cc
      apart true false t = ap (λ c. c || In left x.0) t ∙ h.0.1
      apart false c t = h.0.1

  staying_by : (p : ℕ × ℕ) (l c : Bool) (es left set : List (ℕ × ℕ)) → (l ≡ true → c ≡ false) → In es p.0 ≡ false → In left p.0 ≡ false →
      AllByRecursion (Stays (In es) left) set →
      AllByRecursion (Stays (In (p ∷ es)) (cond l (p ∷ left) left)) (cond c (p ∷ set) set)
  staying_by p true true es left set not_both out none h = let n = not_both refl in cc
  staying_by p false true es left set not_both out none h =
      ((ap (λ b. b || In es p.0) (same_again p.0), none), with_first p false es left set out h)
  staying_by p l false es left set not_both out none h = with_first p l es left set out h

  staying : (es : List (ℕ × ℕ)) → IsDistinct eqb (keys_of es) → AllByRecursion (Stays (In es) (Left es)) (Changed es)
  staying [] u = tt
  staying (p ∷ es) u =
      let out = absent_in p.0 es (IsDistinct-head eqb p.0 (keys_of es) u) in
      staying_by p (leaves r own p.1 (seen_of p.0 known)) (has_changed r own p.1 (seen_of p.0 known)) es (Left es) (Changed es)
      (left_or_changed r own known p.1 (seen_of p.0 known)) out (absent_filter (λ p. leaves r own p.1 (seen_of p.0 known)) p.0 es out)
      (staying es (IsDistinct-tail eqb p.0 (keys_of es) u))

  -- the looks of what is known have room where there is as much as enters, and as much as leaves
  pub room_for_one_look : (w : ViewValue) → w.core ≡ r → IsDistinct eqb (keys_of r.entries) →
      length (entering r own known) ≤ w.enters → length (leaving r own known r.entries) ≤ w.leaves →
      HasRoom w (one_look r own known)
  room_for_one_look w is u enters leaves =
      let ss = filter (enters_view r own) known in
      let a = many_enter (Left r.entries) (Changed r.entries) ss in
      let b = many_leave (Left r.entries) (Changed r.entries) ss in
      let c = length-map ss (λ s. Enter s.entity) in
      let d = length-map (Left r.entries) (λ p. Leave p.0) in
      record {
        enters = omega (arith, a, c, enters);
        leaves = omega (arith, b, d, leaves);
        sets =
            subst (λ v. SetsAreIn (In v.entries) (one_look r own known)) (sym is)
            (set_when_staying (In r.entries) (Left r.entries) (Changed r.entries) ss (staying r.entries u));
      }

-- Looks at different entities do not meet: what may be shown for each of them at once may be shown for one after another.
use Rattle.seam_law_clients.proofs.Prelude.{◌≡◌, ℕ, ◌+◌, Bool, true, false, cond, eqb, ◌||◌, List, [], ◌∷◌, ◌++◌, map, Option, None, Some}
use Rattle.seam_law_clients.proofs.Prelude.{refl, sym, ap, ◌∙◌, subst, arith, option_map, AllByRecursion, filter, filter_map, cons_option}
use Rattle.seam_law_clients.proofs.Prelude.{list_any, nat_tests, all_append, Look, placed, without, entity_of, in_view, get_by_shown}
use Rattle.seam_law_clients.proofs.Prelude.{GhostCopy, Shown, Enter, Set, Leave, Known, known_of, shown_for, ClientReplica, after_shown}
use Rattle.seam_law_clients.proofs.Prelude.{IsNear, MayEnter, MaySet, MayShow, MayShowAll}
use Rattle.std.specs.FinMap as table
use Rattle.seam_view.specs.declared.Look.TheVariants as look

no_eq : (a b : ℕ) → (a ≡ b → ⊥) → eqb a b ≡ false
no_eq a b n = elim (eqb a b) as (λ t. eqb a b ≡ t → eqb a b ≡ false) [
  | true ↦ λ h. absurd (n (let s : a ≡ b = grind (arith, nat_tests) in s))
  | false ↦ λ h. h
] refl

eq_yes : (a b : ℕ) → eqb a b ≡ true → a ≡ b
eq_yes a b t = grind (arith, nat_tests)

pub not_eq : (a b : ℕ) → eqb a b ≡ false → a ≡ b → ⊥
not_eq a b t e = grind (arith, nat_tests)

-- ---- who is in view

abbrev viewed : List (ℕ × ℕ) → ℕ → Bool
viewed es k = list_any (λ p. eqb k p.0) es

module _ (k e : ℕ) (n : e ≡ k → ⊥) where
  placed_by : (v : ℕ) (p : ℕ × ℕ) (ps : List (ℕ × ℕ)) (t : Bool) → viewed (placed e v ps) k ≡ viewed ps k →
      viewed (cond t ((p.0, v) ∷ ps) (p ∷ placed e v ps)) k ≡ viewed (p ∷ ps) k
  placed_by v p ps true h = refl
  placed_by v p ps false h = ap (λ b. eqb k p.0 || b) h

  viewed_placed : (v : ℕ) (es : List (ℕ × ℕ)) → viewed (placed e v es) k ≡ viewed es k
  viewed_placed v [] = rw (no_eq k e (λ x. n (sym x))) refl
  viewed_placed v (p ∷ ps) = placed_by v p ps (eqb e p.0) (viewed_placed v ps)

  without_by : (p : ℕ × ℕ) (ps : List (ℕ × ℕ)) (t : Bool) → eqb e p.0 ≡ t → viewed (without e ps) k ≡ viewed ps k →
      viewed (cond t ps (p ∷ without e ps)) k ≡ viewed (p ∷ ps) k
  without_by p ps true t h = rw (no_eq k p.0 (λ x. n (eq_yes e p.0 t ∙ sym x))) refl
  without_by p ps false t h = ap (λ b. eqb k p.0 || b) h

  viewed_without : (es : List (ℕ × ℕ)) → viewed (without e es) k ≡ viewed es k
  viewed_without [] = refl
  viewed_without (p ∷ ps) = without_by p ps (eqb e p.0) refl (viewed_without ps)

-- ---- what a line leaves as it was

-- the two clients show the same own line, by the same distances, and the same of entity k
record SameAt (k : ℕ) (c d : ClientReplica) : Type 0 where
  own : d.own ≡ c.own
  radius : d.others.radius ≡ c.others.radius
  hysteresis : d.others.hysteresis ≡ c.others.hysteresis
  viewed : in_view d.others k ≡ in_view c.others k
  shown : table.get d.others.shown k ≡ table.get c.others.shown k

may_enter : (me : ℕ) (c d : ClientReplica) (e : ℕ) (copy : GhostCopy) → SameAt e c d → MayEnter me c e copy → MayEnter me d e copy
may_enter me c d e copy h m = record {
  another = m.another;
  away = h.viewed ∙ m.away;
  not_older = λ v is. m.not_older v (sym h.shown ∙ is);
  near =
      subst (λ o. IsNear o d.others.radius copy.state.pos) (sym h.own)
      (subst (λ reach. IsNear c.own reach copy.state.pos) (sym h.radius) m.near);
}

may_set : (c d : ClientReplica) (e : ℕ) (copy : GhostCopy) → SameAt e c d → MaySet c e copy → MaySet d e copy
may_set c d e copy h m = record {
  in_view_ = h.viewed ∙ m.in_view_;
  newer = let n = m.newer in (n.0, h.shown ∙ n.1, n.2);
  near =
      subst (λ o. IsNear o (d.others.radius + d.others.hysteresis) copy.state.pos) (sym h.own)
      (subst (λ reach. IsNear c.own reach copy.state.pos)
      (let a = h.radius in let b = h.hysteresis in
      let s : c.others.radius + c.others.hysteresis ≡ d.others.radius + d.others.hysteresis = omega (arith, a, b) in s) m.near);
}

-- the looks are at different entities
abbrev pub AreApart : List Look → Type 0
AreApart [] = Unit {0}
AreApart (l ∷ ls) = AllByRecursion (λ m. eqb (entity_of l) (entity_of m) ≡ false) ls × AreApart ls

module _ (me : ℕ) (known : List Known) where
  -- what the client is shown for the look, if anything, may be shown
  abbrev pub MayLook : ClientReplica → Look → Type 0
  MayLook c l = (x : Shown) → shown_for known l ≡ Some x → MayShow me c x

  abbrev pub after_line : ClientReplica → Option Shown → ClientReplica
  after_line c None = c
  after_line c (Some x) = after_shown c x

  -- a look says nothing of another entity
  abbrev Passes : ℕ → ClientReplica → Option Shown → Type 0
  Passes k c o = SameAt k c (after_line c o)

  shown_other : (k e : ℕ) (c : ClientReplica) (v : ℕ) → (e ≡ k → ⊥) →
      table.get (table.insert c.others.shown e v) k ≡ table.get c.others.shown k
  shown_other k e c v n = get_by_shown c.others.shown e v k false (no_eq e k n)

  set_passes : (k e : ℕ) (c : ClientReplica) (o : Option GhostCopy) → (e ≡ k → ⊥) → Passes k c (option_map (Set e) o)
  set_passes k e c None n = record { own = refl; radius = refl; hysteresis = refl; viewed = refl; shown = refl }
  set_passes k e c (Some d) n = record {
    own = refl;
    radius = refl;
    hysteresis = refl;
    viewed = viewed_placed k e n d.version c.others.entries;
    shown = shown_other k e c d.version n;
  }

  enter_passes : (k e : ℕ) (c : ClientReplica) (o : Option GhostCopy) → (e ≡ k → ⊥) → Passes k c (option_map (Enter e) o)
  enter_passes k e c None n = record { own = refl; radius = refl; hysteresis = refl; viewed = refl; shown = refl }
  enter_passes k e c (Some d) n = record {
    own = refl;
    radius = refl;
    hysteresis = refl;
    viewed = viewed_placed k e n d.version c.others.entries;
    shown = shown_other k e c d.version n;
  }

  passes : (k : ℕ) (c : ClientReplica) (l : Look) → (entity_of l ≡ k → ⊥) → Passes k c (shown_for known l)
  passes k c (look.Leave e) n =
      record { own = refl; radius = refl; hysteresis = refl; viewed = viewed_without k e n c.others.entries; shown = refl }
  passes k c (look.Set e) n = set_passes k e c (known_of e known) n
  passes k c (look.Enter e) n = enter_passes k e c (known_of e known) n

  set_same : (c d : ClientReplica) (e : ℕ) (o : Option GhostCopy) → SameAt e c d →
      ((x : Shown) → option_map (Set e) o ≡ Some x → MayShow me c x) → (x : Shown) → option_map (Set e) o ≡ Some x → MayShow me d x
  set_same c d e None h m x is = cc
  set_same c d e (Some copy) h m x is =
      let same : Set e copy ≡ x = cc in subst (MayShow me d) same (may_set c d e copy h (m (Set e copy) refl))

  enter_same : (c d : ClientReplica) (e : ℕ) (o : Option GhostCopy) → SameAt e c d →
      ((x : Shown) → option_map (Enter e) o ≡ Some x → MayShow me c x) → (x : Shown) → option_map (Enter e) o ≡ Some x → MayShow me d x
  enter_same c d e None h m x is = cc
  enter_same c d e (Some copy) h m x is =
      let same : Enter e copy ≡ x = cc in subst (MayShow me d) same (may_enter me c d e copy h (m (Enter e copy) refl))

  may_same : (c d : ClientReplica) (l : Look) → SameAt (entity_of l) c d → MayLook c l → MayLook d l
  may_same c d (look.Leave e) h m x is =
      let same : Leave e ≡ x = cc in subst (MayShow me d) same (h.viewed ∙ m (Leave e) refl)
  may_same c d (look.Set e) h m x is = set_same c d e (known_of e known) h m x is
  may_same c d (look.Enter e) h m x is = enter_same c d e (known_of e known) h m x is

  -- ---- looks at different entities

  may_rest : (c : ClientReplica) (l : Look) (ls : List Look) → AllByRecursion (λ m. eqb (entity_of l) (entity_of m) ≡ false) ls →
      AllByRecursion (MayLook c) ls → AllByRecursion (MayLook (after_line c (shown_for known l))) ls
  may_rest c l [] n h = tt
  may_rest c l (m ∷ ls) n h = (
    may_same c (after_line c (shown_for known l)) m (passes (entity_of m) c l (not_eq (entity_of l) (entity_of m) n.0)) h.0,
    may_rest c l ls n.1 h.1,
  )

  step_by : (c : ClientReplica) (o : Option Shown) (xs : List Shown) → ((x : Shown) → o ≡ Some x → MayShow me c x) →
      MayShowAll me (after_line c o) xs → MayShowAll me c (cons_option o xs)
  step_by c None xs h rest = rest
  step_by c (Some x) xs h rest = (h x refl, rest)

  pub may_show_looks : (c : ClientReplica) (ls : List Look) → AreApart ls → AllByRecursion (MayLook c) ls →
      MayShowAll me c (filter_map (shown_for known) ls)
  may_show_looks c [] a h = tt
  may_show_looks c (l ∷ ls) a h =
      step_by c (shown_for known l) (filter_map (shown_for known) ls) h.0
      (may_show_looks (after_line c (shown_for known l)) ls a.1 (may_rest c l ls a.0 h.1))

-- ---- which looks are at different entities

pub all_turn : {X : Type 0} (P Q : X → Type 0) → ((x : X) → P x → Q x) → (xs : List X) → AllByRecursion P xs → AllByRecursion Q xs
all_turn P Q g [] h = tt
all_turn P Q g (x ∷ xs) h = (g x h.0, all_turn P Q g xs h.1)

module _ {X : Type 0} (of : X → Look) (test : X → Bool) where
  picked_by : (P : Look → Type 0) (x : X) (xs : List X) (b : Bool) → (b ≡ true → P (of x)) → AllByRecursion P (map of (filter test xs)) →
      AllByRecursion P (map of (cond b (x ∷ filter test xs) (filter test xs)))
  picked_by P x xs true h rest = (h refl, rest)
  picked_by P x xs false h rest = rest

  -- what is true of each that passes the test
  pub picked_all : (P : Look → Type 0) (Q : X → Type 0) → ((x : X) → Q x → test x ≡ true → P (of x)) → (xs : List X) →
      AllByRecursion Q xs → AllByRecursion P (map of (filter test xs))
  picked_all P Q h [] q = tt
  picked_all P Q h (x ∷ xs) q = picked_by P x xs (test x) (h x q.0) (picked_all P Q h xs q.1)

  -- no two of the list are of one entity
  abbrev pub AreApartBy : List X → Type 0
  AreApartBy [] = Unit {0}
  AreApartBy (x ∷ xs) = AllByRecursion (λ y. eqb (entity_of (of x)) (entity_of (of y)) ≡ false) xs × AreApartBy xs

  apart_by : (x : X) (xs : List X) (b : Bool) → AllByRecursion (λ m. eqb (entity_of (of x)) (entity_of m) ≡ false) (map of (filter test xs))
      → AreApart (map of (filter test xs)) → AreApart (map of (cond b (x ∷ filter test xs) (filter test xs)))
  apart_by x xs true others rest = (others, rest)
  apart_by x xs false others rest = rest

  pub picked_apart : (xs : List X) → AreApartBy xs → AreApart (map of (filter test xs))
  picked_apart [] a = tt
  picked_apart (x ∷ xs) a =
      apart_by x xs (test x)
      (picked_all (λ m. eqb (entity_of (of x)) (entity_of m) ≡ false) (λ y. eqb (entity_of (of x)) (entity_of (of y)) ≡ false)
      (λ y n t. n) xs a.0)
      (picked_apart xs a.1)

-- two lists whose entities a test tells apart
pub apart_append : (test : ℕ → Bool) (ls ms : List Look) → AllByRecursion (λ l. test (entity_of l) ≡ true) ls →
    AllByRecursion (λ m. test (entity_of m) ≡ false) ms → AreApart ls → AreApart ms → AreApart (ls ++ ms)
apart_append test [] ms a b c d = d
apart_append test (l ∷ ls) ms a b c d = (
  all_append (λ m. eqb (entity_of l) (entity_of m) ≡ false) ls ms c.0
      (all_turn (λ m. test (entity_of m) ≡ false) (λ m. eqb (entity_of l) (entity_of m) ≡ false)
      (λ m h. no_eq (entity_of l) (entity_of m) (λ e. let g : true ≡ false = sym a.0 ∙ (ap test e ∙ h) in cc)) ms b),
  apart_append test ls ms a.1 b c.1 d,
)

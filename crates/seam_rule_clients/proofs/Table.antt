-- Where a look shows nothing, the client shows the table.
use Rattle.std.proofs.Common.{◌≡◌, ◌≤◌, ◌+◌, ℕ, Bool, true, false, cond, not, ◌&&◌, List, [], ◌∷◌, ◌++◌, map, Option, None, Some}
use Rattle.std.proofs.Common.{refl, sym, ap, ◌∙◌, subst, arith}
use Rattle.std.specs.Prelude.{◌==◌, filter, option_map, nat_le, nat_lt, is_some}
use Rattle.std.specs.List.{filter_map, cons_option, AllByRecursion}
use Rattle.std.proofs.lemmas.Bool.Decides.{nat_tests}
use Rattle.std.proofs.lemmas.Option.{same_Some}
use Rattle.std.proofs.lemmas.List.Elements.{filter_map-append}
use Rattle.seam_geo.specs.declared.pos.Pos.{Pos}
use Rattle.seam_geo.specs.Pos.{distance}
use Rattle.seam_view.specs.declared.Seen.{Seen}
use Rattle.seam_view.specs.declared.Look.{Look}
use Rattle.seam_view.specs.declared.Look.TheVariants as look
use Rattle.seam_view.specs.Replica.{seen_of}
use Rattle.seam_view.specs.ViewLooks.{is_far, has_changed, in_view}
use Rattle.seam_view.specs.Plain.{is_gone, is_new, plain_look}
use Rattle.seam_call.specs.declared.shown.Shown.TheVariants.{Own, Enter, Set}
use Rattle.seam_rule_clients.specs.Clients.{ClientReplica}
use Rattle.seam_rule_clients.proofs.EachOne.{all_of, turned}
use Rattle.seam_rule_clients.specs.Looks.{Row, row_of, seen, shown_for, is_newer, own_shown, look_at, IsShownNow, ShowsTable}

-- ---- lists

first_is_empty : {A : Type 0} (xs ys : List A) → xs ++ ys ≡ [] → xs ≡ []
first_is_empty [] ys is = refl
first_is_empty (x ∷ xs) ys is = cc

second_is_empty : {A : Type 0} (xs ys : List A) → xs ++ ys ≡ [] → ys ≡ []
second_is_empty [] ys is = is
second_is_empty (x ∷ xs) ys is = cc

-- what is made of items that pass a test is nothing only where none passes, where each of them makes something
made_none : {A B : Type 0} (make : A → Option B) (test : A → Bool) (x : A) (rest : List A) (t : Bool) (o : Option B) → test x ≡ t →
    make x ≡ o →
    is_some (make x) ≡ true → filter_map make (cond t (x ∷ rest) rest) ≡ [] → (test x ≡ false) × (filter_map make rest ≡ [])
made_none make test x rest false o at made some none = (at, none)
made_none make test x rest true None at made some none = let no : false ≡ true = sym (ap is_some made) ∙ some in absurd cc
made_none {A} {B} make test x rest true (Some y) at made some none =
    let no : y ∷ filter_map make rest ≡ [] = sym (ap (λ (q : Option B). cons_option q (filter_map make rest)) made) ∙ none in absurd cc

none_passes : {A B : Type 0} (make : A → Option B) (test : A → Bool) (xs : List A) →
    AllByRecursion (λ x. test x ≡ true → is_some (make x) ≡ true) xs → filter_map make (filter test xs) ≡ [] →
    AllByRecursion (λ x. test x ≡ false) xs
none_passes make test [] makes none = tt
none_passes make test (x ∷ xs) makes none =
    let both = by (test x) refl none in
    (both.0, none_passes make test xs makes.1 both.1)
  where
    by : (t : Bool) → test x ≡ t → filter_map make (cond t (x ∷ filter test xs) (filter test xs)) ≡ [] →
        (test x ≡ false) × (filter_map make (filter test xs) ≡ [])
    by false at none = (at, none)
    by true at none = made_none make test x (filter test xs) true (make x) at refl (makes.0 at) none

made_of_map : {A B C : Type 0} (make : B → Option C) (f : A → B) (xs : List A) →
    filter_map make (map f xs) ≡ filter_map (λ x. make (f x)) xs
made_of_map make f [] = refl
made_of_map make f (x ∷ xs) = ap (cons_option (make (f x))) (made_of_map make f xs)

all_mapped : {A B : Type 0} (P : B → Type 0) (f : A → B) (xs : List A) → AllByRecursion P (map f xs) → AllByRecursion (λ x. P (f x)) xs
all_mapped P f [] all = tt
all_mapped P f (x ∷ xs) (one, more) = (one, all_mapped P f xs more)

map_all : {A B : Type 0} (P : B → Type 0) (f : A → B) (xs : List A) → AllByRecursion (λ x. P (f x)) xs → AllByRecursion P (map f xs)
map_all P f [] all = tt
map_all P f (x ∷ xs) (one, more) = (one, map_all P f xs more)

both_of : {A : Type 0} (P Q : A → Type 0) (xs : List A) → AllByRecursion P xs → AllByRecursion Q xs → AllByRecursion (λ x. P x × Q x) xs
both_of P Q [] p q = tt
both_of P Q (x ∷ xs) (p, ps) (q, qs) = ((p, q), both_of P Q xs ps qs)

some_mapped : {A B : Type 0} (f : A → B) (o : Option A) → is_some o ≡ true → is_some (option_map f o) ≡ true
some_mapped f None is = is
some_mapped f (Some x) is = refl

-- ---- a look

found_seen : (rows : List Row) (e : ℕ) (s : Seen) → seen_of e (map seen rows) ≡ Some s →
    (r : Row) × (row_of rows e ≡ Some r) × (seen r ≡ s)
found_seen [] e s is = cc
found_seen (x ∷ xs) e s is = by (x.entity == e) refl (found_seen xs e s) is
  where
    by : (t : Bool) → (x.entity == e) ≡ t → (seen_of e (map seen xs) ≡ Some s → (r : Row) × (row_of xs e ≡ Some r) × (seen r ≡ s)) →
        cond t (Some (seen x)) (seen_of e (map seen xs)) ≡ Some s → (r : Row) × (cond t (Some x) (row_of xs e) ≡ Some r) × (seen r ≡ s)
    by true at again is = (x, refl, same_Some (seen x) s is)
    by false at again is = again is

-- each row of a table is found by its number, or an earlier one
found_own : (rows : List Row) → AllByRecursion (λ f. is_some (row_of rows f.entity) ≡ true) rows
found_own [] = tt
found_own (x ∷ xs) = (
  ap (λ (b : Bool). is_some (cond b (Some x) (row_of xs x.entity))) (itself x.entity),
  turned (λ f. is_some (row_of xs f.entity) ≡ true) (λ f. is_some (row_of (x ∷ xs) f.entity) ≡ true)
      (λ f is. either (x.entity == f.entity) (row_of xs f.entity) is) xs (found_own xs),
)
  where
    itself : (n : ℕ) → (n == n) ≡ true
    itself n = grind (arith, nat_tests)

    either : (b : Bool) (o : Option Row) → is_some o ≡ true → is_some (cond b (Some x) o) ≡ true
    either true o is = refl
    either false o is = is

near_enough : (reach d : ℕ) → nat_lt reach d ≡ false → d ≤ reach
near_enough reach d not = grind (arith, nat_tests, not)

not_newer : (far : Bool) (v w : ℕ) → far ≡ false → (not far && nat_lt v w) ≡ false → w ≤ v
not_newer true v w here same = cc
not_newer false v w here same = grind (arith, nat_tests, same)

is_in : (there : Bool) (d reach : ℕ) → (not there && nat_le d reach) ≡ false → d ≤ reach → there ≡ true
is_in true d reach not_ near = refl
is_in false d reach not_ near = let no : ⊥ = grind (arith, nat_tests, not_, near) in absurd no

module _ (c : ClientReplica) (r : Row) (others : List Row) (none : look_at c r others ≡ []) where
  no_own : own_shown c r ≡ []
  no_own = first_is_empty (own_shown c r) (filter_map (shown_for others) (plain_look c.others r.own.pos (map seen others))) none

  own_is_newest : (b : Bool) → is_newer c.own r.version ≡ b → is_newer c.own r.version ≡ false
  own_is_newest false at = at
  own_is_newest true at = let no = sym (ap (λ (b : Bool). cond b (Own r.version r.own ∷ []) []) at) ∙ no_own in absurd cc

  abbrev gone : ℕ × ℕ → Bool
  gone p = is_gone c.others r.own.pos (seen_of p.0 (map seen others))

  abbrev due : ℕ × ℕ → Bool
  due p = has_changed c.others r.own.pos p.1 (seen_of p.0 (map seen others))

  abbrev leaves : List Look
  leaves = map (λ p. look.Leave p.0) (filter gone c.others.entries)

  abbrev sets : List Look
  sets = map (λ p. look.Set p.0) (filter due c.others.entries)

  abbrev enters : List Look
  enters = map (λ s. look.Enter s.entity) (filter (is_new c.others r.own.pos) (map seen others))

  no_looks : filter_map (shown_for others) (leaves ++ sets) ++ filter_map (shown_for others) enters ≡ []
  no_looks =
      sym (filter_map-append (shown_for others) (leaves ++ sets) enters)
      ∙ second_is_empty (own_shown c r) (filter_map (shown_for others) (plain_look c.others r.own.pos (map seen others))) none

  no_changes : filter_map (shown_for others) leaves ++ filter_map (shown_for others) sets ≡ []
  no_changes =
      sym (filter_map-append (shown_for others) leaves sets)
      ∙ first_is_empty (filter_map (shown_for others) (leaves ++ sets)) (filter_map (shown_for others) enters) no_looks

  none_gone : AllByRecursion (λ p. gone p ≡ false) c.others.entries
  none_gone =
      none_passes (λ p. shown_for others (look.Leave p.0)) gone c.others.entries
      (all_of (λ p. gone p ≡ true → is_some (shown_for others (look.Leave p.0)) ≡ true) (λ p at. refl) c.others.entries)
      (sym (made_of_map (shown_for others) (λ p. look.Leave p.0) (filter gone c.others.entries))
      ∙ first_is_empty (filter_map (shown_for others) leaves) (filter_map (shown_for others) sets) no_changes)

  -- one that is due is an entity of the table
  due_is_there : (p : ℕ × ℕ) (o : Option Seen) → seen_of p.0 (map seen others) ≡ o → has_changed c.others r.own.pos p.1 o ≡ true →
      is_some (shown_for others (look.Set p.0)) ≡ true
  due_is_there p None at is = cc
  due_is_there p (Some s) at is =
      let found = found_seen others p.0 s at in
      some_mapped (λ x. Set p.0 x.other) (row_of others p.0) (ap is_some found.1)

  none_due : AllByRecursion (λ p. due p ≡ false) c.others.entries
  none_due =
      none_passes (λ p. shown_for others (look.Set p.0)) due c.others.entries
      (all_of (λ p. due p ≡ true → is_some (shown_for others (look.Set p.0)) ≡ true)
      (λ p is. due_is_there p (seen_of p.0 (map seen others)) refl is) c.others.entries)
      (sym (made_of_map (shown_for others) (λ p. look.Set p.0) (filter due c.others.entries))
      ∙ second_is_empty (filter_map (shown_for others) leaves) (filter_map (shown_for others) sets) no_changes)

  none_new : AllByRecursion (λ s. is_new c.others r.own.pos s ≡ false) (map seen others)
  none_new =
      none_passes (λ s. shown_for others (look.Enter s.entity)) (is_new c.others r.own.pos) (map seen others)
      (map_all (λ s. is_new c.others r.own.pos s ≡ true → is_some (shown_for others (look.Enter s.entity)) ≡ true) seen others
      (turned (λ f. is_some (row_of others f.entity) ≡ true)
      (λ f. is_new c.others r.own.pos (seen f) ≡ true → is_some (shown_for others (look.Enter f.entity)) ≡ true)
      (λ f there at. some_mapped (λ x. Enter f.entity x.other) (row_of others f.entity) there) others (found_own others)))
      (sym (made_of_map (shown_for others) (λ s. look.Enter s.entity) (filter (is_new c.others r.own.pos) (map seen others)))
      ∙ second_is_empty (filter_map (shown_for others) (leaves ++ sets)) (filter_map (shown_for others) enters) no_looks)

  shown_now : (p : ℕ × ℕ) (o : Option Seen) → seen_of p.0 (map seen others) ≡ o → is_gone c.others r.own.pos o ≡ false →
      has_changed c.others r.own.pos p.1 o ≡ false → IsShownNow c r others p.0 p.1
  shown_now p None at here same = cc
  shown_now p (Some s) at here same =
      let found = found_seen others p.0 s at in
      let place : found.0.other.state.pos ≡ s.pos = ap (λ (x : Seen). x.pos) found.2 in
      let version : found.0.other.version ≡ s.version = ap (λ (x : Seen). x.version) found.2 in
      record {
        row = found.0;
        is = found.1;
        within = subst (λ (q : Pos). distance r.own.pos q ≤ c.others.radius + c.others.hysteresis) (sym place) (near_enough _ _ here);
        newest = subst (λ (v : ℕ). v ≤ p.1) (sym version) (not_newer (is_far c.others r.own.pos s.pos) p.1 s.version here same);
      }

  all_near : (f : Row) → is_new c.others r.own.pos (seen f) ≡ false → distance r.own.pos f.other.state.pos ≤ c.others.radius →
      in_view c.others f.entity ≡ true
  all_near f not near = is_in (in_view c.others f.entity) (distance r.own.pos f.other.state.pos) c.others.radius not near

  pub shows_table : ShowsTable c r others
  shows_table = record {
    own = own_is_newest (is_newer c.own r.version) refl;
    near = turned (λ f. is_new c.others r.own.pos (seen f) ≡ false)
        (λ f. distance r.own.pos f.other.state.pos ≤ c.others.radius → in_view c.others f.entity ≡ true) all_near others
        (all_mapped (λ s. is_new c.others r.own.pos s ≡ false) seen others none_new);
    in_view_ = turned (λ p. (gone p ≡ false) × (due p ≡ false)) (λ p. IsShownNow c r others p.0 p.1)
        (λ p both. shown_now p (seen_of p.0 (map seen others)) refl both.0 both.1) c.others.entries
        (both_of (λ p. gone p ≡ false) (λ p. due p ≡ false) c.others.entries none_gone none_due);
  }

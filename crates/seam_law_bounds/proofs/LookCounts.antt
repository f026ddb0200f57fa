-- A look has at most one line for each entity that there is.
use Rattle.seam_law_bounds.proofs.Prelude.{◌≡◌, ℕ, suc, ◌+◌, ◌≤◌, Bool, true, false, cond, T, ◌&&◌, ◌||◌, eqb, List, [], ◌∷◌, ◌++◌, length}
use Rattle.seam_law_bounds.proofs.Prelude.{map, filter, Option, None, Some, refl, sym, ap, ◌∙◌, subst, arith, not, nat_le, nat_lt, is_none}
use Rattle.seam_law_bounds.proofs.Prelude.{is_some, find, AllByRecursion, list_any, keys_of, nat_cmp, is_lt, Ordering, Less, Equal, Greater}
use Rattle.seam_law_bounds.proofs.Prelude.{nat_cmp_total, is_sorted, below_all, nat_tests, length-map, length-append, all_append, Ghost}
use Rattle.seam_law_bounds.proofs.Prelude.{copy_in, with_copy, copied, Pos, distance, GhostCopy, RealView, WitnessView, Map, number_of}
use Rattle.seam_law_bounds.proofs.Prelude.{Known, seen_as, looks_of, known_real, known_copy, CellView, is_of_another, known_in, known_to}
use Rattle.seam_law_bounds.proofs.Prelude.{has_witness, witnesses, World, is_among, AllAmong, LooksAmong, LooksFit, Seen, Leave}
use Rattle.seam_law_bounds.proofs.Prelude.{Set as LookSet, Enter as LookEnter, one_look, leaving, changed, entering, leaves, has_changed}
use Rattle.seam_law_bounds.proofs.Prelude.{enters, in_view, is_far, not_older, Replica, IsView, seen_of, entries_empty, found}
use Rattle.std.specs.FinMap as table
use Rattle.std.specs.FinMap.Entries.{by_order, put}
use Rattle.seam_law_bounds.proofs.Pigeons.{Distinct, distinct_from, apart, pigeons, NoneAmong, distinct_append}

abbrev pub seen_names : List Seen → List ℕ
seen_names ss = map (λ s. s.entity) ss

-- ---- the lines of a look

among_keys : (q : ℕ) (es : List (ℕ × ℕ)) → is_among (keys_of es) q ≡ list_any (λ p. eqb q p.0) es
among_keys q [] = refl
among_keys q (e ∷ es) = ap (λ b. eqb q e.0 || b) (among_keys q es)

module _ (r : Replica) (own : Pos) (known : List Seen) where
  abbrev gone : List (ℕ × ℕ) → List (ℕ × ℕ)
  gone es = filter (λ p. leaves r own p.1 (seen_of p.0 known)) es

  abbrev new : List (ℕ × ℕ) → List (ℕ × ℕ)
  new es = filter (λ p. has_changed r own p.1 (seen_of p.0 known)) es

  -- an entity in view that leaves has not changed
  viewed_few : (es : List (ℕ × ℕ)) → length (leaving r own known es) + length (changed r own known es) ≤ length es
  viewed_few [] = omega arith
  viewed_few (e ∷ es) =
      by (leaves r own e.1 (seen_of e.0 known)) (has_changed r own e.1 (seen_of e.0 known)) (not_both e.1 (seen_of e.0 known))
      (viewed_few es)
    where
      one_of : (f : Bool) (a b : Bool) → ((f && a) && (not f && b)) ≡ false
      one_of true true b = refl
      one_of true false b = refl
      one_of false a b = refl

      not_both : (v : ℕ) (o : Option Seen) → (leaves r own v o && has_changed r own v o) ≡ false
      not_both v None = refl
      not_both v (Some s) = one_of (is_far r own s.pos) (nat_le v s.version) (nat_lt v s.version)

      by : (b d : Bool) → (b && d) ≡ false → length (leaving r own known es) + length (changed r own known es) ≤ length es →
          length (map (λ p. Leave p.0) (cond b (e ∷ gone es) (gone es))) + length (map (λ p. LookSet p.0) (cond d (e ∷ new es) (new es)))
          ≤ suc (length es)
      by true true n h = cc
      by true false n h = omega (arith, h)
      by false true n h = omega (arith, h)
      by false false n h = omega (arith, h)

  abbrev come : List Seen → List Seen
  come ss = filter (enters r own) ss

  entered : (s : Seen) → enters r own s ≡ true → is_among (keys_of r.entries) s.entity ≡ false
  entered s e = by (in_view r s.entity) refl e
    where
      by : (b : Bool) → in_view r s.entity ≡ b →
          ((not b && nat_le (distance own s.pos) r.radius) && not_older (table.get r.shown s.entity) s.version) ≡ true →
          is_among (keys_of r.entries) s.entity ≡ false
      by true p e = cc
      by false p e = among_keys s.entity r.entries ∙ p

  -- those that enter are not in view
  none_come : (ss : List Seen) → NoneAmong (keys_of r.entries) (seen_names (come ss))
  none_come [] = tt
  none_come (s ∷ ss) = by (enters r own s) refl (none_come ss)
    where
      by : (b : Bool) → enters r own s ≡ b → NoneAmong (keys_of r.entries) (seen_names (come ss)) →
          NoneAmong (keys_of r.entries) (seen_names (cond b (s ∷ come ss) (come ss)))
      by true e rest = (entered s e, rest)
      by false e rest = rest

  among_come : (q : ℕ) (ss : List Seen) → is_among (seen_names ss) q ≡ false → is_among (seen_names (come ss)) q ≡ false
  among_come q [] h = refl
  among_come q (s ∷ ss) h =
      by (enters r own s) (apart q s.entity (seen_names ss) h).0 (among_come q ss (apart q s.entity (seen_names ss) h).1)
    where
      by : (b : Bool) → eqb q s.entity ≡ false → is_among (seen_names (come ss)) q ≡ false →
          is_among (seen_names (cond b (s ∷ come ss) (come ss))) q ≡ false
      by true k rest = ap (λ d. d || is_among (seen_names (come ss)) q) k ∙ rest
      by false k rest = rest

  distinct_come : (ss : List Seen) → Distinct (seen_names ss) → Distinct (seen_names (come ss))
  distinct_come [] h = tt
  distinct_come (s ∷ ss) h = by (enters r own s) (among_come s.entity ss h.0) (distinct_come ss h.1)
    where
      by : (b : Bool) → is_among (seen_names (come ss)) s.entity ≡ false → Distinct (seen_names (come ss)) →
          Distinct (seen_names (cond b (s ∷ come ss) (come ss)))
      by true new rest = (new, rest)
      by false new rest = rest

  all_come : (us : List ℕ) (ss : List Seen) → AllAmong us (seen_names ss) → AllAmong us (seen_names (come ss))
  all_come us [] h = tt
  all_come us (s ∷ ss) h = by (enters r own s) h.0 (all_come us ss h.1)
    where
      by : (b : Bool) → is_among us s.entity ≡ true → AllAmong us (seen_names (come ss)) →
          AllAmong us (seen_names (cond b (s ∷ come ss) (come ss)))
      by true new rest = (new, rest)
      by false new rest = rest

  -- a look has at most as many lines as there are entities, where view and what is known name each at most once
  look_few : (us : List ℕ) → Distinct (keys_of r.entries) → AllAmong us (keys_of r.entries) → Distinct (seen_names known) →
      AllAmong us (seen_names known) → length (one_look r own known) ≤ length us
  look_few us dv av dk ak =
      let both =
      pigeons us (keys_of r.entries ++ seen_names (come known))
      (distinct_append (keys_of r.entries) (seen_names (come known)) dv (distinct_come known dk) (none_come known))
      (all_append (λ e. is_among us e ≡ true) (keys_of r.entries) (seen_names (come known)) av (all_come us known ak)) in
      let one = viewed_few r.entries in
      let two = length-append (keys_of r.entries) (seen_names (come known)) in
      let three = length-map r.entries (λ p. p.0) in
      let four = length-map (come known) (λ s. s.entity) in
      let five : length (entering r own known) ≡ length (come known) = length-map (come known) (λ s. LookEnter s.entity) in
      let six : length (one_look r own known)
      ≡ length (leaving r own known r.entries ++ changed r own known r.entries) + length (entering r own known) =
      length-append (leaving r own known r.entries ++ changed r own known r.entries) (entering r own known) in
      let seven = length-append (leaving r own known r.entries) (changed r own known r.entries) in
      omega (arith, both, one, two, three, four, five, six, seven)

-- ---- what a cell knows

first : (a b : Bool) → T (a && b) → T a
first true b p = tt
first false b p = p

second : (a b : Bool) → T (a && b) → T b
second true b p = p
second false b p = absurd p

less : (o : Ordering) → T (is_lt o) → o ≡ Less
less Less p = refl
less Equal p = absurd p
less Greater p = absurd p

below_apart : (x y : ℕ) → nat_cmp x y ≡ Less → eqb x y ≡ false
below_apart x y l = grind (arith, nat_tests, l)

-- the numbers of the entries of a map, of which a test keeps some, are distinct
module _ {X : Type 0} (t : ℕ × X → Bool) where
  abbrev kept : List (ℕ × X) → List ℕ
  kept es = map (λ p. p.0) (filter t es)

  among_below : (q : ℕ) (es : List (ℕ × X)) → T (below_all nat_cmp q es) → is_among (kept es) q ≡ false
  among_below q [] h = refl
  among_below q (k ∷ ks) h = by (t k) (below_apart q k.0 (less _ (first _ _ h))) (among_below q ks (second _ _ h))
    where
      by : (b : Bool) → eqb q k.0 ≡ false → is_among (kept ks) q ≡ false →
          is_among (map (λ p. p.0) (cond b (k ∷ filter t ks) (filter t ks))) q ≡ false
      by true e rest = ap (λ d. d || is_among (kept ks) q) e ∙ rest
      by false e rest = rest

  distinct_kept : (es : List (ℕ × X)) → T (is_sorted nat_cmp es) → Distinct (kept es)
  distinct_kept [] h = tt
  distinct_kept (k ∷ ks) h = by (t k) (among_below k.0 ks (first _ _ h)) (distinct_kept ks (second _ _ h))
    where
      by : (b : Bool) → is_among (kept ks) k.0 ≡ false → Distinct (kept ks) →
          Distinct (map (λ p. p.0) (cond b (k ∷ filter t ks) (filter t ks)))
      by true e rest = (e, rest)
      by false e rest = rest

  all_kept : (us : List ℕ) (es : List (ℕ × X)) → AllAmong us (map (λ p. p.0) es) → AllAmong us (kept es)
  all_kept us [] h = tt
  all_kept us (k ∷ ks) h = by (t k) h.0 (all_kept us ks h.1)
    where
      by : (b : Bool) → is_among us k.0 ≡ true → AllAmong us (kept ks) →
          AllAmong us (map (λ p. p.0) (cond b (k ∷ filter t ks) (filter t ks)))
      by true e rest = (e, rest)
      by false e rest = rest

all_put : (us : List ℕ) (k : ℕ) (v : GhostCopy) (es : List Known) → is_among us k ≡ true → AllAmong us (map (λ e. e.0) es) →
    AllAmong us (map (λ e. e.0) (put nat_cmp k v es))
all_put us k v [] m h = (m, tt)
all_put us k v (e ∷ es) m h = by (nat_cmp k e.0) (all_put us k v es m h.1)
  where
    by : (r : Ordering) → AllAmong us (map (λ e. e.0) (put nat_cmp k v es)) →
        AllAmong us (map (λ e. e.0) (by_order r ((k, v) ∷ e ∷ es) ((e.0, v) ∷ es) (e ∷ put nat_cmp k v es)))
    by Less rest = (m, h)
    by Equal rest = h
    by Greater rest = (h.0, rest)

all_entries : (us : List ℕ) (l : List Known) → AllAmong us (map (λ e. e.0) l) →
    AllAmong us (map (λ e. e.0) (table.entries (table.from_entries {R = nat_cmp} l)))
all_entries us [] h = subst (λ es. AllAmong us (map (λ e. e.0) es)) (sym entries_empty) tt
all_entries us (e ∷ l) h =
    subst (λ es. AllAmong us (map (λ e. e.0) es)) (sym (table.entries-insert nat_cmp_total (table.from_entries l) e.0 e.1))
    (all_put us e.0 e.1 (table.entries (table.from_entries l)) h.0 (all_entries us l h.1))

names_as_seen : (ks : List Known) → seen_names (map seen_as ks) ≡ map (λ k. k.0) ks
names_as_seen [] = refl
names_as_seen (k ∷ ks) = ap (λ l. k.0 ∷ l) (names_as_seen ks)

-- ---- entries and what is there

module _ {X : Type 0} (t : ℕ × X → Bool) where
  abbrev fails : ℕ × X → Bool
  fails p = not (t p)

  passes_by : (es : List (ℕ × X)) → find fails es ≡ None → AllByRecursion (λ p. t p ≡ true) es
  passes_by [] h = tt
  passes_by (p ∷ ps) h = by (t p) refl h (λ more. passes_by ps more)
    where
      by : (b : Bool) → t p ≡ b → cond (not b) (Some p) (find fails ps) ≡ None →
          (find fails ps ≡ None → AllByRecursion (λ p. t p ≡ true) ps) → AllByRecursion (λ p. t p ≡ true) (p ∷ ps)
      by true is h more = (is, more h)
      by false is h more = cc

  -- what passes wherever it is there passes in each entry
  entries_pass : (m : Map X) → ((k : ℕ) (x : X) → table.get m k ≡ Some x → t (k, x) ≡ true) →
      AllByRecursion (λ p. t p ≡ true) (table.entries m)
  entries_pass m each = passes_by (table.entries m) (never (find fails (table.entries m)) refl)
    where
      never : (o : Option (ℕ × X)) → find fails (table.entries m) ≡ o → o ≡ None
      never None at = refl
      never (Some p) at =
          let two = found fails m p at in
          let good = ap not (each p.0 p.1 two.0) in
          absurd (let z = sym two.1 ∙ good in cc)

module _ (us : List ℕ) (c : CellView) (reals : (e : ℕ) (r : RealView) → table.get c.reals e ≡ Some r → is_among us e ≡ true)
    (copies : (e : ℕ) (x : GhostCopy) → copy_in (table.get c.ghosts e) ≡ Some x → is_among us e ≡ true) where
  abbrev names_copy : ℕ × Ghost GhostCopy → Bool
  names_copy p = is_none p.1.copy || is_among us p.0

  copy_named : (k : ℕ) (g : Ghost GhostCopy) → table.get c.ghosts k ≡ Some g → names_copy (k, g) ≡ true
  copy_named k g at = by g.copy refl
    where
      by : (o : Option GhostCopy) → g.copy ≡ o → (is_none o || is_among us k) ≡ true
      by None is = refl
      by (Some x) is = copies k x (ap copy_in at ∙ is)

  copied_named : (gs : List (ℕ × Ghost GhostCopy)) → AllByRecursion (λ p. names_copy p ≡ true) gs → AllAmong us (map (λ p. p.0) (copied gs))
  copied_named [] h = tt
  copied_named (g ∷ gs) h = by g.1.copy h.0 (copied_named gs h.1)
    where
      by : (o : Option GhostCopy) → (is_none o || is_among us g.0) ≡ true → AllAmong us (map (λ p. p.0) (copied gs)) →
          AllAmong us (map (λ p. p.0) (with_copy g.0 o (copied gs)))
      by None is rest = rest
      by (Some x) is rest = (is, rest)

  named_again : {A : Type 0} (f : ℕ × A → Known) (ps : List (ℕ × A)) → ((p : ℕ × A) → (f p).0 ≡ p.0) →
      AllAmong us (map (λ p. p.0) ps) → AllByRecursion (λ k. is_among us k.0 ≡ true) (map f ps)
  named_again f [] same h = tt
  named_again f (p ∷ ps) same h = (ap (is_among us) (same p) ∙ h.0, named_again f ps same h.1)

  as_names : {A : Type 0} (ps : List (ℕ × A)) → AllByRecursion (λ p. is_among us p.0 ≡ true) ps → AllAmong us (map (λ p. p.0) ps)
  as_names [] h = tt
  as_names (p ∷ ps) h = (h.0, as_names ps h.1)

  pub known_named : AllAmong us (map (λ p. p.0) (known_in c))
  known_named =
      as_names (known_in c)
      (all_append (λ k. is_among us k.0 ≡ true) (map (known_real c.here) (table.entries c.reals)) _
      (named_again (known_real c.here) (table.entries c.reals) (λ p. refl)
      (as_names (table.entries c.reals) (entries_pass (λ p. is_among us p.0) c.reals reals)))
      (named_again (known_copy c.here) (copied (table.entries c.ghosts)) (λ p. refl)
      (copied_named (table.entries c.ghosts) (entries_pass names_copy c.ghosts copy_named))))

as_seen : (us : List ℕ) (ks : List Known) → AllAmong us (map (λ p. p.0) ks) →
    AllByRecursion (λ x. is_among us x.entity ≡ true) (map seen_as ks)
as_seen us [] h = tt
as_seen us (k ∷ ks) h = (h.0, as_seen us ks h.1)

module _ (us : List ℕ) (c : CellView) (known : AllAmong us (map (λ p. p.0) (known_in c))) where
  -- so is what a witness looks at
  pub seen_are_named : (e : ℕ) → AllByRecursion (λ x. is_among us x.entity ≡ true) (map seen_as (known_to c e))
  seen_are_named e =
      as_seen us (known_to c e)
      (all_kept (is_of_another e) us (table.entries (table.from_entries {R = nat_cmp} (known_in c))) (all_entries us (known_in c) known))

  abbrev all_known : List Known
  all_known = table.entries (table.from_entries {R = nat_cmp} (known_in c))

  looks_few : (e : ℕ) (r : RealView) (w : WitnessView) → IsView w.view → AllAmong us (keys_of w.view.entries) →
      length (looks_of r w (known_to c e)) ≤ length us
  looks_few e r w view among =
      let sorted = table.entries_sorted (table.from_entries {R = nat_cmp} (known_in c)) in
      let names = sym (names_as_seen (known_to c e)) in
      look_few w.view r.state.pos (map seen_as (known_to c e)) us (distinct_from (keys_of w.view.entries) view.once) among
      (subst Distinct names (distinct_kept (is_of_another e) all_known sorted))
      (subst (AllAmong us) names (all_kept (is_of_another e) us all_known (all_entries us (known_in c) known)))

-- ---- a cell's witnesses

module _ (ws : List ℕ) (c : CellView)
    (among : (e : ℕ) (r : RealView) (x : WitnessView) → table.get c.reals e ≡ Some r → r.witness ≡ Some x → is_among ws e ≡ true) where
  abbrev stranger : ℕ × RealView → Bool
  stranger p = has_witness p && not (is_among ws p.0)

  not_stranger : (p : ℕ × RealView) → table.get c.reals p.0 ≡ Some p.1 → stranger p ≡ true → ⊥
  not_stranger p at is = by p.1.witness refl is
    where
      by : (o : Option WitnessView) → p.1.witness ≡ o → (is_some o && not (is_among ws p.0)) ≡ true → ⊥
      by None has is = cc
      by (Some x) has is = let yes_among = ap not (among p.0 p.1 x at has) in let z = sym yes_among ∙ is in cc

  no_stranger : (o : Option (ℕ × RealView)) → find stranger (table.entries c.reals) ≡ o → o ≡ None
  no_stranger None at = refl
  no_stranger (Some p) at = let two = found stranger c.reals p at in absurd (not_stranger p two.0 two.1)

  all_witnesses : (es : List (ℕ × RealView)) → find stranger es ≡ None → AllAmong ws (map number_of (filter has_witness es))
  all_witnesses [] h = tt
  all_witnesses (p ∷ ps) h = by (has_witness p) (is_among ws p.0) refl h (all_witnesses ps)
    where
      by : (b d : Bool) → is_among ws p.0 ≡ d → cond (b && not d) (Some p) (find stranger ps) ≡ None →
          (find stranger ps ≡ None → AllAmong ws (map number_of (filter has_witness ps))) →
          AllAmong ws (map number_of (cond b (p ∷ filter has_witness ps) (filter has_witness ps)))
      by true true is h more = (is, more h)
      by true false is h more = cc
      by false d is h more = more h

  witnesses_few : length (witnesses c) ≤ length ws
  witnesses_few =
      pigeons ws (witnesses c) (distinct_kept has_witness (table.entries c.reals) (table.entries_sorted c.reals))
      (all_witnesses (table.entries c.reals) (no_stranger (find stranger (table.entries c.reals)) refl))

-- ---- a world

pub looks_fit : (us : List ℕ) (ws : ℕ → List ℕ) (bases : ℕ) (w : World) → LooksAmong us ws w →
    LooksFit (record { bases = bases; lines = length us; witnesses = λ k. length (ws k) }) w
looks_fit us ws bases w h = record {
  lines = λ k c node e es r x is at has.
      let v = h.views k c node e r x at has in
      looks_few us c (known_named us c (h.reals k c node) (h.copies k c node)) e r x v.0 v.1;
  witnesses = λ k c node. witnesses_few (ws k) c (λ e r x at has. h.witnesses k c node e r x at has);
}

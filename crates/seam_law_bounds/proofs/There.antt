-- A loaded world has to look at what is there: by the records its copies and views name no entities but those that have a real.
use Rattle.seam_law_bounds.proofs.Prelude.{◌≡◌, ℕ, zero, suc, ◌≤◌, ◌⊎◌, Bool, true, false, cond, ◌||◌, List, [], ◌∷◌, ◌++◌, length, Option}
use Rattle.seam_law_bounds.proofs.Prelude.{None, Some, refl, sym, ap, ◌∙◌, subst, arith, inl, inr, eqb, is_some, filter, map, nat_eq}
use Rattle.seam_law_bounds.proofs.Prelude.{option_map, slice_get, AllByRecursion, keys_of, nat_cmp, eq_by_cmp, eq-eqb, nat_tests}
use Rattle.seam_law_bounds.proofs.Prelude.{length-append, length-map, Division, leaf_at, cells_of, link, total, Event, copy_in, Create}
use Rattle.seam_law_bounds.proofs.Prelude.{Order, Batch, GhostCopy, Here, RealView, WitnessView, created, real_begins, holders, Map}
use Rattle.seam_law_bounds.proofs.Prelude.{number_of, CellView, has_witness, witnesses, NodeView, World, node_has_work, Cell, Base, real_if}
use Rattle.seam_law_bounds.proofs.Prelude.{created_at, with_witness, attached, cell_round, base_round, ordered_at, loaded, slot_at}
use Rattle.seam_law_bounds.proofs.Prelude.{letters_of, Frame, has_of, has_none, real_in, real_of, RunsTo, real_at, framed, made}
use Rattle.seam_law_bounds.proofs.Prelude.{node_loaded, MayBeLoaded, AreCopiesBetweenRounds, is_among, AllAmong, LooksAmong, EachSeenIsHeld}
use Rattle.seam_law_bounds.proofs.Prelude.{HoldsNothing, entities, reals_at, all_witnesses, witnesses_at, cell_orders, base_orders}
use Rattle.seam_law_bounds.proofs.Prelude.{tick_orders, events_of_round, quiet_links, get-set_at, none_counts, in_frame, one_after}
use Rattle.seam_law_bounds.proofs.Prelude.{each_keeps, Any, any, loaded_is, get-each_value, slot_is, no_mail, holds_kept, Somewhere}
use Rattle.seam_law_bounds.proofs.Prelude.{Nowhere, search_real, all_weaker}
use Rattle.std.specs.FinMap as table
use Rattle.std.specs.FinMap.Entries.{find as key_find}
use Rattle.std.proofs.lemmas.List.Folds.{list_any-append}
use Rattle.seam_law_ghosts.proofs.Loading.{home_loaded}
use Rattle.seam_law_ghosts.proofs.Rounding.{loaded_copied}
use Rattle.seam_law_rounds.proofs.Attaching.{sees_loaded}
use Rattle.seam_law_bounds.proofs.Among.{always_among}
use Rattle.seam_law_bounds.proofs.LookStarts.{in_cell, round_is_bounded}
use Rattle.seam_law_calls.proofs.Holds.{or_right, or_left}

-- ---- what each real has, each real of a loaded world has

module _ (P : RealView → Type 0) (new : (h : Here) (x : Create) → P (created h x.entity x.ty x.pos))
    (joins : (h : Here) (r : RealView) → P r → P (with_witness h r)) (begins : (r : RealView) → P r → P (real_begins r)) (e : ℕ) where
  abbrev Had : Option RealView → Type 0
  Had o = (r : RealView) → o ≡ Some r → P r

  abbrev HadAt : NodeView → Type 0
  HadAt n = Had (real_in (has_of e n))

  turned : (g : RealView → RealView) → ((r : RealView) → P r → P (g r)) → (o : Option RealView) → Had o → Had (option_map g o)
  turned g keeps None h r at = absurd (let z = at in cc)
  turned g keeps (Some q) h r at = let is : g q ≡ r = cc in subst P is (keeps q (h q refl))

  this_has : (q : RealView) → P q → Had (Some q)
  this_has q h r at = let is : q ≡ r = cc in subst P is h

  set_had : (m : Map RealView) (q : ℕ) (p : Option RealView) (b : Bool) → eq_by_cmp nat_cmp e q ≡ b → (q ≡ e → Had p) →
      Had (table.get m e) → Had (cond b p (table.get m e))
  set_had m q p true is h k = let at : e ≡ q = grind (arith, nat_tests, is) in h (sym at)
  set_had m q p false is h k = k

  created_had : (t : Division) (x : Create) (n : NodeView) → Any x → HadAt n → HadAt (created_at t x n)
  created_had t x (Base b) u h = h
  created_had t x (Cell c) u h = by (eqb (leaf_at t x.pos) c.here.me)
    where
      by : (d : Bool) → HadAt (Cell (real_if d c x))
      by true =
          let one : Option RealView = Some (created c.here x.entity x.ty x.pos) in
          subst Had (sym (get-set_at c.reals x.entity e one))
          (set_had c.reals x.entity one (eq_by_cmp nat_cmp e x.entity) refl
          (λ is. this_has (created c.here x.entity x.ty x.pos) (new c.here x)) h)
      by false = h

  joined_had : (q : ℕ) (n : NodeView) → Any q → HadAt n → HadAt (attached q n)
  joined_had q (Base b) u h = h
  joined_had q (Cell c) u h =
      let one = option_map (with_witness c.here) (table.get c.reals q) in
      subst Had (sym (get-set_at c.reals q e one))
      (set_had c.reals q one (eq_by_cmp nat_cmp e q) refl
      (λ is. turned (with_witness c.here) (joins c.here) (table.get c.reals q) (subst (λ j. Had (table.get c.reals j)) (sym is) h)) h)

  round_had : (t : Division) (n : NodeView) → HadAt n → HadAt (cell_round t n)
  round_had t (Base b) h = h
  round_had t (Cell c) h =
      subst Had (sym (get-each_value real_begins c.reals e)) (turned real_begins begins (table.get c.reals e) h)

  ordered_had : (x : ℕ × Order) (n : NodeView) → Any x → HadAt n → HadAt (ordered_at x n)
  ordered_had x (Cell c) u h = h
  ordered_had x (Base b) u h = h

  begun_had : (cells : ℕ) (n : NodeView) → HadAt n → HadAt (base_round cells n)
  begun_had cells (Cell c) h = h
  begun_had cells (Base b) h = h

  node_had : (b : Batch) (n : NodeView) → HadAt n → HadAt (node_loaded b n)
  node_had b n h =
      each_keeps ordered_at HadAt Any ordered_had b.orders (any b.orders) (cell_round b.tree (made b n))
      (round_had b.tree (made b n)
      (each_keeps attached HadAt Any joined_had b.clients (any b.clients) _
      (each_keeps (created_at b.tree) HadAt Any (created_had b.tree) b.creates (any b.creates) (base_round (cells_of b.tree) n)
      (begun_had (cells_of b.tree) n h))))

  had_by : (b : Batch) (o : Option NodeView) → Had (real_in (slot_at (has_of e) has_none o)) →
      Had (real_in (slot_at (has_of e) has_none (option_map (node_loaded b) o)))
  had_by b None h = h
  had_by b (Some n) h = node_had b n h

  pub had_loaded : (w : World) (b : Batch) (k : ℕ) → Had (real_at e w k) → Had (real_at e (loaded w b) k)
  had_loaded w b k h =
      subst (λ s. Had (real_in s)) (sym (slot_is w b e k)) (had_by b (slice_get w.nodes k) h)

-- ---- the numbers that the nodes of a world have, one after the other

abbrev pub numbers_in : (NodeView → List ℕ) → List NodeView → List ℕ
numbers_in of [] = []
numbers_in of (s ∷ ss) = of s ++ numbers_in of ss

pub numbers_many : (of : NodeView → List ℕ) (n : NodeView → ℕ) → ((s : NodeView) → length (of s) ≡ n s) → (ss : List NodeView) →
    length (numbers_in of ss) ≡ total n ss
numbers_many of n each [] = refl
numbers_many of n each (s ∷ ss) =
    let one = each s in
    let more = numbers_many of n each ss in
    let sum = length-append (of s) (numbers_in of ss) in
    omega (arith, one, more, sum)

number_at : (of : NodeView → List ℕ) (e : ℕ) (ss : List NodeView) (k : ℕ) (s : NodeView) → slice_get ss k ≡ Some s →
    is_among (of s) e ≡ true → is_among (numbers_in of ss) e ≡ true
number_at of e [] k s at is = absurd (let z = at in cc)
number_at of e (x ∷ ss) zero s at is =
    let same : x ≡ s = cc in
    list_any-append (nat_eq e) (of x) (numbers_in of ss)
    ∙ or_left (is_among (of x) e) (is_among (numbers_in of ss) e) (subst (λ y. is_among (of y) e ≡ true) (sym same) is)
number_at of e (x ∷ ss) (suc k) s at is =
    list_any-append (nat_eq e) (of x) (numbers_in of ss)
    ∙ or_right (is_among (of x) e) (is_among (numbers_in of ss) e) (number_at of e ss k s at is)

-- the number of an entry that passes a test
module _ {X : Type 0} (t : ℕ × X → Bool) where
  abbrev passing : List (ℕ × X) → List ℕ
  passing es = map number_of (filter t es)

  pub passing_has : (e : ℕ) (x : X) (es : List (ℕ × X)) → key_find nat_cmp e es ≡ Some x → t (e, x) ≡ true → is_among (passing es) e ≡ true
  passing_has e x [] at is = absurd (let z = at in cc)
  passing_has e x (p ∷ es) at is = by (eq_by_cmp nat_cmp e p.0) (t p) refl refl at (λ there. passing_has e x es there is)
    where
      by : (b d : Bool) → eq_by_cmp nat_cmp e p.0 ≡ b → t p ≡ d → cond b (Some p.1) (key_find nat_cmp e es) ≡ Some x →
          (key_find nat_cmp e es ≡ Some x → is_among (passing es) e ≡ true) →
          is_among (map number_of (cond d (p ∷ filter t es) (filter t es))) e ≡ true
      by true true tie has at more =
          let same : e ≡ p.0 = grind (arith, nat_tests, tie) in
          or_left (eqb e p.0) (is_among (passing es) e) (eq-eqb e p.0 same)
      by true false tie has at more =
          let same : e ≡ p.0 = grind (arith, nat_tests, tie) in
          let one : p.1 ≡ x = cc in
          let there : t (e, x) ≡ t p = ap (λ n. t (n, x)) same ∙ ap (λ y. t (p.0, y)) (sym one) in
          absurd (let z = sym is ∙ (there ∙ has) in cc)
      by false true tie has at more = or_right (eqb e p.0) (is_among (passing es) e) (more at)
      by false false tie has at more = more at

filter_all : {X : Type 0} (xs : List X) → filter (λ x. true) xs ≡ xs
filter_all [] = refl
filter_all (x ∷ xs) = ap (λ ys. x ∷ ys) (filter_all xs)

abbrev pub reals_of : NodeView → List ℕ
reals_of (Cell c) = map number_of (filter (λ p. true) (table.entries c.reals))
reals_of (Base b) = []

pub reals_many : (s : NodeView) → length (reals_of s) ≡ reals_at s
reals_many (Cell c) = length-map (filter (λ p. true) (table.entries c.reals)) number_of ∙ ap length (filter_all (table.entries c.reals))
reals_many (Base b) = refl

abbrev seers_of : NodeView → List ℕ
seers_of (Cell c) = witnesses c
seers_of (Base b) = []

seers_many : (s : NodeView) → length (seers_of s) ≡ witnesses_at s
seers_many (Cell c) = refl
seers_many (Base b) = refl

-- ---- a loaded world, by a list that has the entities of its reals

module _ (f : Frame) (w : World) (b : Batch) (may : MayBeLoaded f w b) (copies : AreCopiesBetweenRounds f w) (us ws : List ℕ)
    (named : (e : ℕ) → Somewhere e (loaded w b) → is_among us e ≡ true) where
  nobody : (e : ℕ) → Nowhere e (loaded w b) → holders (loaded w b) e ≡ 0
  nobody e n =
      none_counts (loaded w b) e
      (record { slots = n; mail = λ x y. ap (letters_of real_of) (no_mail f w b may.begin e x y) })

  copy_named : (k : ℕ) (c : CellView) → slice_get (loaded w b).nodes k ≡ Some (Cell c) → (e : ℕ) (x : GhostCopy) →
      copy_in (table.get c.ghosts e) ≡ Some x → Somewhere e (loaded w b) ⊎ Nowhere e (loaded w b) → is_among us e ≡ true
  copy_named k c node e x there (inl p) = named e p
  copy_named k c node e x there (inr n) =
      let low = ((in_frame f w b may.begin).nodes k (Cell c) node).low in
      let none = (loaded_copied f w b may.begin copies).none e (nobody e n) k low in
      let is = ap (λ o. copy_in (slot_at (has_of e) has_none o).cell.slot.ghost) node ∙ there in
      absurd (let z = sym none ∙ is in cc)

  all_named : (ps : List (ℕ × ℕ)) → AllByRecursion (λ p. holders (loaded w b) p.0 ≡ 1) ps → AllAmong us (keys_of ps)
  all_named [] h = tt
  all_named (p ∷ ps) h = (named p.0 (home_loaded f w b may.begin p.0 h.0), all_named ps h.1)

  pub among_named : EachSeenIsHeld (loaded w b) →
      ((k : ℕ) (c : CellView) → slice_get (loaded w b).nodes k ≡ Some (Cell c) → (e : ℕ) (r : RealView) (x : WitnessView) →
      table.get c.reals e ≡ Some r → r.witness ≡ Some x → is_among ws e ≡ true) → LooksAmong us (λ k. ws) (loaded w b)
  among_named sees witnesses = record {
    reals = λ k c node e r at. named e (k, r, ap (λ o. real_in (slot_at (has_of e) has_none o)) node ∙ at);
    copies = λ k c node e x there. copy_named k c node e x there (search_real e (loaded w b));
    views = λ k c node e r x at has.
        let here = ap (λ o. real_in (slot_at (has_of e) has_none o)) node ∙ at in (
          (sees_loaded f w b may.begin may.parts e k r here x has).view,
          all_named x.view.entries (sees e k r here x has),
        );
    witnesses = witnesses;
  }

-- ---- a loaded world

module _ (f : Frame) (w : World) (b : Batch) (may : MayBeLoaded f w b) (copies : AreCopiesBetweenRounds f w)
    (sees : EachSeenIsHeld w) where
  abbrev start : World
  start = loaded w b

  abbrev pub us : List ℕ
  us = numbers_in reals_of start.nodes

  abbrev pub ws : List ℕ
  ws = numbers_in seers_of start.nodes

  real_named : (k : ℕ) (c : CellView) → slice_get start.nodes k ≡ Some (Cell c) → (e : ℕ) (r : RealView) →
      table.get c.reals e ≡ Some r → is_among us e ≡ true
  real_named k c node e r at =
      number_at reals_of e start.nodes k (Cell c) node
      (passing_has (λ p. true) e r (table.entries c.reals) (sym (table.get-entries c.reals e) ∙ at) refl)

  there_named : (e : ℕ) → Somewhere e start → is_among us e ≡ true
  there_named e p = let cell = in_cell start e p.0 p.1 p.2 in real_named p.0 cell.0 cell.1 e p.1 cell.2

  abbrev SeesThere : RealView → Type 0
  SeesThere r = (x : WitnessView) → r.witness ≡ Some x → AllByRecursion (λ p. holders w p.0 ≡ 1) x.view.entries

  abbrev SeesIn : Option WitnessView → Type 0
  SeesIn None = Unit {0}
  SeesIn (Some x) = AllByRecursion (λ p. holders w p.0 ≡ 1) x.view.entries

  nothing_seen : (h : Here) (r : RealView) → SeesThere (with_witness h r)
  nothing_seen h r y has = subst SeesIn has tt

  sees_start : EachSeenIsHeld start
  sees_start e k r here x has =
      all_weaker (λ p. holders w p.0 ≡ 1) (λ p. holders start p.0 ≡ 1) x.view.entries
      (λ p h. holds_kept f w b may.begin p.0 h)
      (had_loaded SeesThere (λ h x y has. absurd (let z = has in cc)) (λ h r old. nothing_seen h r) (λ r old. old) e w b k
      (λ r at. sees e k r at) r here x has)

  among_loaded : LooksAmong us (λ k. ws) start
  among_loaded =
      among_named f w b may copies us ws there_named sees_start
      (λ k c node e r x at has.
      number_at seers_of e start.nodes k (Cell c) node
      (passing_has has_witness e r (table.entries c.reals) (sym (table.get-entries c.reals e) ∙ at) (ap is_some has)))

  pub round_ends_by_records : HoldsNothing w → (v : World) (es : List Event) → RunsTo start es v →
      length es ≤ events_of_round f.settings.bases (cell_orders b) (base_orders b) (tick_orders b) (entities start) (all_witnesses start)
  round_ends_by_records none v es run =
      let many = numbers_many reals_of reals_at reals_many start.nodes in
      subst
      (λ n. length es ≤ events_of_round f.settings.bases (cell_orders b) (base_orders b) (tick_orders b) (entities start) n)
      (numbers_many seers_of witnesses_at seers_many start.nodes)
      (round_is_bounded f w b may none us ws (omega (arith, many)) among_loaded v es run)

-- ---- and after its calls views name what is there

named_found : {X : Type 0} (e : ℕ) (es : List (ℕ × X)) → is_among (map number_of (filter (λ p. true) es)) e ≡ true →
    (x : X) × (key_find nat_cmp e es ≡ Some x)
named_found e [] h = cc
named_found {X} e (p ∷ es) h = by (eq_by_cmp nat_cmp e p.0) refl h (named_found e es)
  where
    by : (b : Bool) → eq_by_cmp nat_cmp e p.0 ≡ b → (eqb e p.0 || is_among (map number_of (filter (λ p. true) es)) e) ≡ true →
        (is_among (map number_of (filter (λ p. true) es)) e ≡ true → (x : X) × (key_find nat_cmp e es ≡ Some x)) →
        (x : X) × (cond b (Some p.1) (key_find nat_cmp e es) ≡ Some x)
    by true tie h more = (p.1, refl)
    by false tie h more =
        let apart : eqb e p.0 ≡ false = grind (arith, nat_tests, tie) in
        more (sym (ap (λ d. d || is_among (map number_of (filter (λ p. true) es)) e) apart) ∙ h)

real_found : (e : ℕ) (s : NodeView) → is_among (reals_of s) e ≡ true → (r : RealView) × (real_in (has_of e s) ≡ Some r)
real_found e (Base b) h = cc
real_found e (Cell c) h =
    let x = named_found e (table.entries c.reals) h in
    (x.0, table.get-entries c.reals e ∙ x.1)

somewhere_in : (e : ℕ) (ss : List NodeView) → is_among (numbers_in reals_of ss) e ≡ true →
    (k : ℕ) × (r : RealView) × (real_in (slot_at (has_of e) has_none (slice_get ss k)) ≡ Some r)
somewhere_in e [] h = cc
somewhere_in e (s ∷ ss) h = by (is_among (reals_of s) e) refl (somewhere_in e ss)
  where
    both : (is_among (reals_of s) e || is_among (numbers_in reals_of ss) e) ≡ true
    both = sym (list_any-append (nat_eq e) (reals_of s) (numbers_in reals_of ss)) ∙ h

    by : (b : Bool) → is_among (reals_of s) e ≡ b → (is_among (numbers_in reals_of ss) e ≡ true →
        (k : ℕ) × (r : RealView) × (real_in (slot_at (has_of e) has_none (slice_get ss k)) ≡ Some r)) →
        (k : ℕ) × (r : RealView) × (real_in (slot_at (has_of e) has_none (slice_get (s ∷ ss) k)) ≡ Some r)
    by true is more = let x = real_found e s is in (0, x.0, x.1)
    by false is more =
        let x = more (sym (ap (λ d. d || is_among (numbers_in reals_of ss) e) is) ∙ both) in
        (suc x.0, x.1, x.2)

module _ (f : Frame) (w : World) (b : Batch) (may : MayBeLoaded f w b) (copies : AreCopiesBetweenRounds f w)
    (sees : EachSeenIsHeld w) (v : World) (es : List Event) (run : RunsTo (loaded w b) es v) where
  pub among_then : LooksAmong (us f w b may copies sees) (λ k. ws f w b may copies sees) v
  among_then =
      always_among (us f w b may copies sees) (ws f w b may copies sees) (framed f b) (loaded w b) (in_frame f w b may.begin)
      (λ x y. ap (λ q. link q.rows x y) (loaded_is w b)
      ∙ quiet_links node_has_work w may.begin.between.nodes.sound.square may.begin.between.quiet x y)
      (among_loaded f w b may copies sees) v es run

  held_then : (ps : List (ℕ × ℕ)) → AllAmong (us f w b may copies sees) (keys_of ps) → AllByRecursion (λ p. holders v p.0 ≡ 1) ps
  held_then [] h = tt
  held_then (p ∷ ps) h =
      let x = somewhere_in p.0 (loaded w b).nodes h.0 in
      (one_after f w b may.begin p.0 x.0 x.1 x.2 v es run, held_then ps h.1)

  pub sees_then : EachSeenIsHeld v
  sees_then e k r here x has =
      let cell = in_cell v e k r here in
      held_then x.view.entries (among_then.views k cell.0 cell.1 e r x cell.2 has).1

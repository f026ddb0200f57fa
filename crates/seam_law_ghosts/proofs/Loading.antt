-- What a load leaves of copies: all books, and what each real wants of them.
use Rattle.seam_law_ghosts.proofs.Prelude.{◌≡◌, ◌⊎◌, inl, inr, ℕ, Bool, true, false, cond, eqb, Option, None, Some, refl, sym, ap, ◌∙◌}
use Rattle.seam_law_ghosts.proofs.Prelude.{subst, arith, option_map, slice_get, AllByRecursion, nat_cmp, eq_by_cmp, nat_tests}
use Rattle.seam_law_ghosts.proofs.Prelude.{slice_get-map, Division, leaf_at, cells_of, Create, Order, Batch, RealView, created, real_begins}
use Rattle.seam_law_ghosts.proofs.Prelude.{copy_if, Map, NodeView, World, Cell, Base, with_nodes, real_if, created_at, with_witness}
use Rattle.seam_law_ghosts.proofs.Prelude.{attached, cell_round, base_round, ordered_at, loaded, holders, slot_at, letters_of, Frame, Has}
use Rattle.seam_law_ghosts.proofs.Prelude.{has_of, has_none, entity_flow, real_in, real_of, real_at, MayBeMade, IsFitting, framed, made}
use Rattle.seam_law_ghosts.proofs.Prelude.{node_loaded, MayBegin, book_entry, present, wanted, AreSettled, AreCopiesBetweenRounds}
use Rattle.seam_law_ghosts.proofs.Prelude.{get-set_at, each_keeps, Any, any, get-each_value, slot_is, no_mail, Somewhere, Nowhere}
use Rattle.seam_law_ghosts.proofs.Prelude.{search_real, none_counts}
use Rattle.std.specs.FinMap as table
use Rattle.std.specs.FinSet as set
use Rattle.std.specs.Prelude.{◌≤◌, is_some}
use Rattle.seam_node_steps.specs.Prelude.{Ghost, GhostCopy, beat_in, copy_in}
use Rattle.seam_ghosts.proofs.Forgotten.{get_with_copies}
use Rattle.seam_law_rounds.specs.Prelude.{IsNew}
use Rattle.seam_law_ghosts.specs.Entries.{Entry}

-- ---- no copy changes, and no beat rises

-- the copy is the same, and the beat not above
pub record KeepsBook (old new : Entry) : Type 0 where
  pub copy : new.1 ≡ old.1
  pub beat : new.0 ≤ old.0

same_book : (old new : Entry) → new ≡ old → KeepsBook old new
same_book old new is = record { copy = ap (λ p. p.1) is; beat = let same = ap (λ p. p.0) is in omega (arith, same) }

module _ (e : ℕ) where
  abbrev HasBook : NodeView → NodeView → Type 0
  HasBook s t = KeepsBook (book_entry (has_of e s)) (book_entry (has_of e t))

  created_book : (t : Division) (s : NodeView) (x : Create) (n : NodeView) → Any x → HasBook s n → HasBook s (created_at t x n)
  created_book t s x (Cell c) u h = by (eqb (leaf_at t x.pos) c.here.me)
    where
      by : (d : Bool) → HasBook s (Cell (real_if d c x))
      by true = h
      by false = h
  created_book t s x (Base b) u h = h

  joined_book : (s : NodeView) (q : ℕ) (n : NodeView) → Any q → HasBook s n → HasBook s (attached q n)
  joined_book s q (Cell c) u h = h
  joined_book s q (Base b) u h = h

  ordered_book : (s : NodeView) (o : ℕ × Order) (n : NodeView) → Any o → HasBook s n → HasBook s (ordered_at o n)
  ordered_book s o (Cell c) u h = h
  ordered_book s o (Base b) u h = h

  begun_book : (cells : ℕ) (s : NodeView) → HasBook s (base_round cells s)
  begun_book cells (Cell c) = same_book _ _ refl
  begun_book cells (Base b) = same_book _ _ refl

  -- a beat without a copy is forgotten
  kept_by : (s : NodeView) (o : Option (Ghost GhostCopy)) → KeepsBook (book_entry (has_of e s)) (beat_in o, copy_in o) →
      (c : Option GhostCopy) → copy_in o ≡ c → KeepsBook (book_entry (has_of e s)) (
        beat_in (cond (is_some c) o None),
        copy_in (cond
            (is_some c) o None),
      )
  kept_by s o h (Some c) is = h
  kept_by s o h None is = record { copy = sym is ∙ h.copy; beat = omega arith }

  round_book : (t : Division) (s n : NodeView) → HasBook s n → HasBook s (cell_round t n)
  round_book t s (Cell c) h =
      subst (λ o. KeepsBook (book_entry (has_of e s)) (beat_in o, copy_in o)) (sym (get_with_copies c.ghosts e))
      (kept_by s (table.get c.ghosts e) h (copy_in (table.get c.ghosts e)) refl)
  round_book t s (Base b) h = h

  node_book : (b : Batch) (s : NodeView) → HasBook s (node_loaded b s)
  node_book b s =
      each_keeps ordered_at (HasBook s) Any (ordered_book s) b.orders (any b.orders) (cell_round b.tree (made b s))
      (round_book b.tree s (made b s)
      (each_keeps attached (HasBook s) Any (joined_book s) b.clients (any b.clients) _
      (each_keeps (created_at b.tree) (HasBook s) Any (created_book b.tree s) b.creates (any b.creates) (base_round (cells_of b.tree) s)
      (begun_book (cells_of b.tree) s))))

  book_by : (b : Batch) (o : Option NodeView) → KeepsBook (book_entry (slot_at (has_of e) has_none o))
      (book_entry (slot_at (has_of e) has_none (option_map (node_loaded b) o)))
  book_by b None = same_book _ _ refl
  book_by b (Some s) = node_book b s

  pub books_loaded : (w : World) (b : Batch) (k : ℕ) →
      KeepsBook (book_entry ((entity_flow e w).slot k)) (book_entry ((entity_flow e (loaded w b)).slot k))
  books_loaded w b k =
      subst (λ h. KeepsBook (book_entry ((entity_flow e w).slot k)) (book_entry h)) (sym (slot_is w b e k))
      (book_by b (slice_get w.nodes k))

  -- no book changes where each node's cell stays what it is
  pub books_turned : (turn : NodeView → NodeView) → ((s : NodeView) → (has_of e (turn s)).cell ≡ (has_of e s).cell) → (u : World) (k : ℕ) →
      book_entry ((entity_flow e (with_nodes u turn)).slot k) ≡ book_entry ((entity_flow e u).slot k)
  books_turned turn same u k =
      ap (λ o. book_entry (slot_at (has_of e) has_none o)) (slice_get-map turn u.nodes k) ∙ turned_by (slice_get u.nodes k)
    where
      turned_by : (o : Option NodeView) →
          book_entry (slot_at (has_of e) has_none (option_map turn o)) ≡ book_entry (slot_at (has_of e) has_none o)
      turned_by None = refl
      turned_by (Some s) = ap (λ c. book_entry (let h : Has = record { cell = c; base = (has_of e s).base } in h)) (same s)

-- ---- where the real of a loaded world comes from

-- r wants the same of cells as q
pub record WantsAlike (q r : RealView) : Type 0 where
  pub type : r.ty ≡ q.ty
  pub public : r.public ≡ q.public
  pub state : r.state ≡ q.state
  pub haunts : r.haunts ≡ q.haunts
  pub beat : r.beat ≡ q.beat

-- the real r was there as q, or it was made of an entity that is new, and has no haunts
pub data ComesFrom (w : World) (e : ℕ) (o : Option RealView) (r : RealView) : Type 0 where
  was : (q : RealView) → o ≡ Some q → WantsAlike q r → ComesFrom w e o r
  made_new : IsNew w e → r.haunts ≡ set.empty → ComesFrom w e o r

module _ (f : Frame) (w : World) (e : ℕ) (o : Option RealView) where
  abbrev Came : Option RealView → Type 0
  Came p = (r : RealView) → p ≡ Some r → ComesFrom w e o r

  abbrev CameTo : NodeView → Type 0
  CameTo n = Came (real_in (has_of e n))

  more_alike : (r x : RealView) → WantsAlike r x → ComesFrom w e o r → ComesFrom w e o x
  more_alike r x same (was q at is) =
      was q at (record {
        type = same.type ∙ is.type;
        public = same.public ∙ is.public;
        state = same.state ∙ is.state;
        haunts = same.haunts ∙ is.haunts;
        beat = same.beat ∙ is.beat;
      })
  more_alike r x same (made_new new none) = made_new new (same.haunts ∙ none)

  turned : (g : RealView → RealView) → ((r : RealView) → WantsAlike r (g r)) → (p : Option RealView) → Came p → Came (option_map g p)
  turned g same None h r at = absurd (let z = at in cc)
  turned g same (Some q) h r at =
      let is : g q ≡ r = cc in
      more_alike q r (subst (WantsAlike q) is (same q)) (h q refl)

  set_came : (m : Map RealView) (q : ℕ) (p : Option RealView) (b : Bool) → eq_by_cmp nat_cmp e q ≡ b → (q ≡ e → Came p) →
      Came (table.get m e) → Came (cond b p (table.get m e))
  set_came m q p true is h k = let at : e ≡ q = grind (arith, nat_tests, is) in h (sym at)
  set_came m q p false is h k = k

  created_came : (t : Division) (x : Create) (n : NodeView) → MayBeMade f w x → CameTo n → CameTo (created_at t x n)
  created_came t x (Base b) may h = h
  created_came t x (Cell c) may h = by (eqb (leaf_at t x.pos) c.here.me)
    where
      new_real : x.entity ≡ e → Came (Some (created c.here x.entity x.ty x.pos))
      new_real is r at =
          let same : created c.here x.entity x.ty x.pos ≡ r = cc in
          made_new (subst (IsNew w) is may.new) (ap (λ (y : RealView). y.haunts) (sym same))

      by : (d : Bool) → CameTo (Cell (real_if d c x))
      by true =
          let new : Option RealView = Some (created c.here x.entity x.ty x.pos) in
          subst Came (sym (get-set_at c.reals x.entity e new))
          (set_came c.reals x.entity new (eq_by_cmp nat_cmp e x.entity) refl new_real h)
      by false = h

  joined_came : (q : ℕ) (n : NodeView) → Any q → CameTo n → CameTo (attached q n)
  joined_came q (Base b) u h = h
  joined_came q (Cell c) u h =
      let new = option_map (with_witness c.here) (table.get c.reals q) in
      subst Came (sym (get-set_at c.reals q e new)) (set_came c.reals q new (eq_by_cmp nat_cmp e q) refl
      (λ is. turned (with_witness c.here) (λ r. record { type = refl; public = refl; state = refl; haunts = refl; beat = refl })
      (table.get c.reals q) (subst (λ j. Came (table.get c.reals j)) (sym is) h)) h)

  round_came : (t : Division) (n : NodeView) → CameTo n → CameTo (cell_round t n)
  round_came t (Base b) h = h
  round_came t (Cell c) h =
      subst Came (sym (get-each_value real_begins c.reals e))
      (turned real_begins (λ r. record { type = refl; public = refl; state = refl; haunts = refl; beat = refl }) (table.get c.reals e) h)

  ordered_came : (x : ℕ × Order) (n : NodeView) → Any x → CameTo n → CameTo (ordered_at x n)
  ordered_came x (Cell c) u h = h
  ordered_came x (Base b) u h = h

  begun_came : (cells : ℕ) (n : NodeView) → CameTo n → CameTo (base_round cells n)
  begun_came cells (Cell c) h = h
  begun_came cells (Base b) h = h

  node_came : (b : Batch) → AllByRecursion (MayBeMade f w) b.creates → (n : NodeView) → CameTo n → CameTo (node_loaded b n)
  node_came b may n h =
      each_keeps ordered_at CameTo Any ordered_came b.orders (any b.orders) (cell_round b.tree (made b n))
      (round_came b.tree (made b n)
      (each_keeps attached CameTo Any joined_came b.clients (any b.clients) _
      (each_keeps (created_at b.tree) CameTo (MayBeMade f w) (created_came b.tree) b.creates may (base_round (cells_of b.tree) n)
      (begun_came (cells_of b.tree) n h))))

first_from : (w : World) (e : ℕ) (o : Option RealView) (r : RealView) → o ≡ Some r → ComesFrom w e o r
first_from w e o r at = was r at (record { type = refl; public = refl; state = refl; haunts = refl; beat = refl })

came_by : (f : Frame) (w : World) (e : ℕ) (b : Batch) → AllByRecursion (MayBeMade f w) b.creates → (o : Option NodeView) (r : RealView) →
    real_in (slot_at (has_of e) has_none (option_map (node_loaded b) o)) ≡ Some r →
    ComesFrom w e (real_in (slot_at (has_of e) has_none o)) r
came_by f w e b may None r at = absurd (let z = at in cc)
came_by f w e b may (Some s) r at =
    node_came f w e (real_in (has_of e s)) b may s (λ q is. first_from w e (real_in (has_of e s)) q is) r at

-- ---- what it is to have

module _ (f : Frame) (w : World) (b : Batch) (fits : IsFitting f w b) (copies : AreCopiesBetweenRounds f w) (e k : ℕ) (r : RealView)
    (here : real_at e (loaded w b) k ≡ Some r) where
  from : ComesFrom w e (real_at e w k) r
  from = came_by f w e b fits.creates (slice_get w.nodes k) r (ap real_in (sym (slot_is w b e k)) ∙ here)

  settled_from : ComesFrom w e (real_at e w k) r → AreSettled (framed f b) e k r (loaded w b)
  settled_from (was q at same) =
      let old = copies.settled e k q at in
      let wants : (j : ℕ) → wanted f q j ≡ wanted f r j =
      λ j. ap (λ h. copy_if (set.contains h j) (present f q)) (sym same.haunts)
      ∙ ap (copy_if (set.contains r.haunts j)) (shown_same q r same) in
      record {
        away = ap (λ h. set.contains h k) same.haunts ∙ old.away;
        copies = λ j low. (books_loaded e w b j).copy ∙ (old.copies j low ∙ wants j);
        beats = λ j low.
            let now = (books_loaded e w b j).beat in
            let few = old.beats j low in
            let beat = same.beat in
            omega (arith, now, few, beat);
      }
    where
      shown_same : (q r : RealView) → WantsAlike q r → present f q ≡ present f r
      shown_same q r same =
          ap (λ s. present f (record q { state = s })) (sym same.state)
          ∙ (ap (λ n. present f (record q { state = r.state; public = n })) (sym same.public)
          ∙ ap (λ t. present f (record r { ty = t })) (sym same.type))
  settled_from (made_new new none) =
      let no_haunt : (j : ℕ) → set.contains r.haunts j ≡ false =
      λ j. ap (λ h. set.contains h j) none ∙ set.contains-empty nat_cmp j in
      let none_at : (j : ℕ) → book_entry ((entity_flow e w).slot j) ≡ (0, None) = λ j. ap book_entry (new j) in
      record {
        away = no_haunt k;
        copies = λ j low.
            (books_loaded e w b j).copy
            ∙ (ap (λ p. p.1) (none_at j)
            ∙ sym (ap (λ h. copy_if h (present f r)) (no_haunt j)));
        beats = λ j low.
            let now = (books_loaded e w b j).beat in
            let zero = ap (λ p. p.0) (none_at j) in
            omega (arith, now, zero);
      }

  pub copies_loaded : AreSettled (framed f b) e k r (loaded w b)
  copies_loaded = settled_from from

-- ---- where the one holder of a loaded world is

module _ (f : Frame) (w : World) (b : Batch) (begin : MayBegin f w b) where
  home_by : (e : ℕ) → holders (loaded w b) e ≡ 1 → Somewhere e (loaded w b) ⊎ Nowhere e (loaded w b) → Somewhere e (loaded w b)
  home_by e one (inl p) = p
  home_by e one (inr n) =
      let zero = none_counts (loaded w b) e
      (record { slots = n; mail = λ x y. ap (letters_of real_of) (no_mail f w b begin e x y) }) in
      absurd (omega (arith, zero, one))

  pub home_loaded : (e : ℕ) → holders (loaded w b) e ≡ 1 → Somewhere e (loaded w b)
  home_loaded e one = home_by e one (search_real e (loaded w b))

-- Which witness a load gives an entity's real, and which client its base part: those of a batch's clients get new ones.
use Rattle.seam_law_rounds.proofs.Prelude.{◌≡◌, ℕ, Bool, true, false, cond, eqb, ◌||◌, List, [], ◌∷◌, Option, None, Some, refl, sym, ap}
use Rattle.seam_law_rounds.proofs.Prelude.{◌∙◌, subst, inl, inr, option_map, unsigned_tied, cases_eq, eq-eqb, ne_eqb, Division, leaf_at}
use Rattle.seam_law_rounds.proofs.Prelude.{cells_of, Create, Order, Batch, Map, set_at, Here, base_of, RealView, created, real_begins}
use Rattle.seam_law_rounds.proofs.Prelude.{CellView, BaseView, PartView, NodeView, Cell, Base, real_if, part_if, with_route, created_at}
use Rattle.seam_law_rounds.proofs.Prelude.{with_witness, with_proxy, attached, cell_round, base_round, ordered_at, order_if, part_begins}
use Rattle.seam_law_rounds.proofs.Prelude.{new_part, Frame, here_at, IsAt, has_of, real_in, HasNoProxy, each, node_loaded, get-set_at}
use Rattle.std.specs.FinMap as table
use Rattle.seam_law_rounds.proofs.Loading.{each_keeps, Any, any, get-each_value}
use Rattle.seam_law_rounds.proofs.Staying.{other_set}
use Rattle.seam_law_rounds.proofs.Making.{AreOthers}
use Rattle.seam_law_rounds.proofs.PartLoads.{part_at, part_begun, others_created, part_in_round, parts_ordered}

-- a node when the batch's entities were created
abbrev pub peopled : Batch → NodeView → NodeView
peopled b s = each (created_at b.tree) b.creates (base_round (cells_of b.tree) s)

-- whether the entity is among the batch's clients
abbrev pub is_among : ℕ → List ℕ → Bool
is_among e [] = false
is_among e (q ∷ qs) = eqb q e || is_among e qs

abbrev pub joined_if : {X : Type 0} → Bool → (X → X) → Option X → Option X
joined_if b join o = cond b (option_map join o) o

-- a part or a real that joins once more is the same
twice : {X : Type 0} (join : X → X) → ((x : X) → join (join x) ≡ join x) → (a b : Bool) (o : Option X) →
    joined_if b join (joined_if a join o) ≡ joined_if (a || b) join o
twice join same true true None = refl
twice join same true true (Some x) = ap Some (same x)
twice join same true false o = refl
twice join same false b o = refl

module _ (e : ℕ) where
  abbrev pub real_in_node : NodeView → Option RealView
  real_in_node n = real_in (has_of e n)

  -- ---- a map in which one entity joins

  set_joins : {X : Type 0} (join : X → X) (m : Map X) (q : ℕ) →
      table.get (set_at m q (option_map join (table.get m q))) e ≡ joined_if (eqb q e) join (table.get m e)
  set_joins join m q = elim (cases_eq q e) [
    | inl is ↦
        subst (λ j. table.get (set_at m j (option_map join (table.get m j))) e ≡ joined_if (eqb j e) join (table.get m e)) (sym is)
        (get-set_at m e e (option_map join (table.get m e))
        ∙ ap (λ b. cond b (option_map join (table.get m e)) (table.get m e)) (unsigned_tied e e ∙ eq-eqb e e refl)
        ∙ sym (ap (λ b. joined_if b join (table.get m e)) (eq-eqb e e refl)))
    | inr n ↦
        other_set e m q (option_map join (table.get m q)) n ∙ sym (ap (λ b. joined_if b join (table.get m e)) (ne_eqb q e n))
  ]

  -- ---- all of them join

  record JoinedCell (c : CellView) (xs : List ℕ) : Type 0 where
    cell : CellView
    is : each attached xs (Cell c) ≡ Cell cell
    here : cell.here ≡ c.here
    real : table.get cell.reals e ≡ joined_if (is_among e xs) (with_witness c.here) (table.get c.reals e)

  cell_joins : (xs : List ℕ) (c : CellView) → JoinedCell c xs
  cell_joins [] c = record { cell = c; is = refl; here = refl; real = refl }
  cell_joins (q ∷ qs) c =
      let join = with_witness c.here in
      let next : CellView = record c { reals = set_at c.reals q (option_map join (table.get c.reals q)) } in
      let more : JoinedCell next qs = cell_joins qs next in
      record {
        cell = more.cell;
        is = more.is;
        here = more.here;
        real = more.real ∙ (ap (joined_if (is_among e qs) join) (set_joins join c.reals q)
            ∙ twice join (λ r. refl) (eqb q e) (is_among e qs) (table.get c.reals e));
      }

  record JoinedBase (n : BaseView) (xs : List ℕ) : Type 0 where
    base : BaseView
    is : each attached xs (Base n) ≡ Base base
    part : table.get base.parts e ≡ joined_if (is_among e xs) (with_proxy n.here) (table.get n.parts e)

  base_joins : (xs : List ℕ) (n : BaseView) → JoinedBase n xs
  base_joins [] n = record { base = n; is = refl; part = refl }
  base_joins (q ∷ qs) n =
      let join = with_proxy n.here in
      let next : BaseView = record n { parts = set_at n.parts q (option_map join (table.get n.parts q)) } in
      let more : JoinedBase next qs = base_joins qs next in
      record {
        base = more.base;
        is = more.is;
        part = more.part ∙ (ap (joined_if (is_among e qs) join) (set_joins join n.parts q)
            ∙ twice join (λ p. refl) (eqb q e) (is_among e qs) (table.get n.parts e));
      }

  -- ---- and the rest of a load

  -- what the node knows
  abbrev pub here_of : NodeView → Here
  here_of (Cell c) = c.here
  here_of (Base n) = n.here

  cell_ordered : (os : List (ℕ × Order)) (c : CellView) → real_in_node (each ordered_at os (Cell c)) ≡ real_in_node (Cell c)
  cell_ordered [] c = refl
  cell_ordered (o ∷ os) c = cell_ordered os c

  base_ordered : (os : List (ℕ × Order)) (n : BaseView) → real_in_node (each ordered_at os (Base n)) ≡ None
  base_ordered [] n = refl
  base_ordered (o ∷ os) n = base_ordered os (order_if (eqb o.0 n.here.me) n o.1)

  module _ (t : Division) (os : List (ℕ × Order)) (xs : List ℕ) where
    abbrev after : NodeView → NodeView
    after n = each ordered_at os (cell_round t (each attached xs n))

    pub real_after : (n : NodeView) →
        real_in_node (after n) ≡ option_map real_begins (joined_if (is_among e xs) (with_witness (here_of n)) (real_in_node n))
    real_after (Cell c) =
        let j = cell_joins xs c in
        ap (λ n. real_in_node (each ordered_at os (cell_round t n))) j.is
        ∙ (cell_ordered os (record j.cell { tree = t; number = 0; nexts = table.empty; ghosts = _; reals = _; survey = _ })
        ∙ (get-each_value real_begins j.cell.reals e ∙ ap (option_map real_begins) j.real))
    real_after (Base n) =
        let j = base_joins xs n in
        ap (λ n. real_in_node (each ordered_at os (cell_round t n))) j.is
        ∙ (base_ordered os j.base ∙ sym (none_joins (is_among e xs)))
      where
        none_joins : (b : Bool) → option_map real_begins (joined_if b (with_witness n.here) None) ≡ None
        none_joins true = refl
        none_joins false = refl

    pub part_after : (n : NodeView) → part_at e (after n) ≡ joined_if (is_among e xs) (with_proxy (here_of n)) (part_at e n)
    part_after (Cell c) =
        let j = cell_joins xs c in
        parts_ordered e os (cell_round t (each attached xs (Cell c)))
        ∙ (part_in_round e t (each attached xs (Cell c)) ∙ (ap (part_at e) j.is ∙ sym (none_joins (is_among e xs))))
      where
        none_joins : (b : Bool) → joined_if b (with_proxy c.here) None ≡ None
        none_joins true = refl
        none_joins false = refl
    part_after (Base n) =
        let j = base_joins xs n in
        parts_ordered e os (cell_round t (each attached xs (Base n)))
        ∙ (part_in_round e t (each attached xs (Base n)) ∙ (ap (part_at e) j.is ∙ j.part))

  -- ---- other entities are created

  module _ (t : Division) where
    real_by : (x : Create) (c : CellView) (b : Bool) → (x.entity ≡ e → ⊥) → real_in_node (Cell (real_if b c x)) ≡ real_in_node (Cell c)
    real_by x c true other = other_set e c.reals x.entity (Some (created c.here x.entity x.ty x.pos)) other
    real_by x c false other = refl

    created_other : (x : Create) (s : NodeView) → (x.entity ≡ e → ⊥) → real_in_node (created_at t x s) ≡ real_in_node s
    created_other x (Cell c) other = real_by x c (eqb (leaf_at t x.pos) c.here.me) other
    created_other x (Base n) other = refl

    pub reals_created : (xs : List Create) → AreOthers e xs → (s : NodeView) → real_in_node (each (created_at t) xs s) ≡ real_in_node s
    reals_created [] others s = refl
    reals_created (x ∷ xs) others s = reals_created xs others.1 (created_at t x s) ∙ created_other x s others.0

    here_by : (x : Create) (n : BaseView) (b : Bool) → (part_if b n x).here ≡ n.here
    here_by x n true = refl
    here_by x n false = refl

    here_cell : (x : Create) (c : CellView) (b : Bool) → (real_if b c x).here ≡ c.here
    here_cell x c true = refl
    here_cell x c false = refl

    here_created : (x : Create) (s : NodeView) → here_of (created_at t x s) ≡ here_of s
    here_created x (Cell c) = here_cell x c (eqb (leaf_at t x.pos) c.here.me)
    here_created x (Base n) = here_by x (with_route n x.entity (leaf_at t x.pos)) (eqb (base_of n.here x.entity) n.here.me)

    here_each : (xs : List Create) (s : NodeView) → here_of (each (created_at t) xs s) ≡ here_of s
    here_each [] s = refl
    here_each (x ∷ xs) s = here_each xs (created_at t x s) ∙ here_created x s

  here_begun : (n : ℕ) (s : NodeView) → here_of (base_round n s) ≡ here_of s
  here_begun n (Cell c) = refl
  here_begun n (Base b) = refl

  here_in : (f : Frame) (k : ℕ) (s : NodeView) → IsAt f k s → here_of s ≡ here_at f k
  here_in f k (Cell c) at = at.here
  here_in f k (Base n) at = at.here

  -- ---- all of it, by what the node has before clients are attached

  module _ (f : Frame) (b : Batch) (k : ℕ) (s : NodeView) (at : IsAt f k s) where
    knows : here_of (peopled b s) ≡ here_at f k
    knows = here_each b.tree b.creates (base_round (cells_of b.tree) s) ∙ (here_begun (cells_of b.tree) s ∙ here_in f k s at)

    pub real_joined : real_in_node (node_loaded b s)
        ≡ option_map real_begins (joined_if (is_among e b.clients) (with_witness (here_at f k)) (real_in_node (peopled b s)))
    real_joined =
        real_after b.tree b.orders b.clients (peopled b s)
        ∙ ap (λ h. option_map real_begins (joined_if (is_among e b.clients) (with_witness h) (real_in_node (peopled b s)))) knows

    pub part_joined : part_at e (node_loaded b s) ≡ joined_if (is_among e b.clients) (with_proxy (here_at f k)) (part_at e (peopled b s))
    part_joined =
        part_after b.tree b.orders b.clients (peopled b s)
        ∙ ap (λ h. joined_if (is_among e b.clients) (with_proxy h) (part_at e (peopled b s))) knows

  begun_real : (n : ℕ) (s : NodeView) → real_in_node (base_round n s) ≡ real_in_node s
  begun_real n (Cell c) = refl
  begun_real n (Base b) = refl

  -- the real and the part of an entity that the batch does not create are what they were
  pub real_peopled : (b : Batch) (s : NodeView) → AreOthers e b.creates → real_in_node (peopled b s) ≡ real_in_node s
  real_peopled b s others =
      reals_created b.tree b.creates others (base_round (cells_of b.tree) s) ∙ begun_real (cells_of b.tree) s

  pub part_peopled : (b : Batch) (s : NodeView) → AreOthers e b.creates → part_at e (peopled b s) ≡ option_map part_begins (part_at e s)
  part_peopled b s others =
      others_created e b.tree b.creates others (base_round (cells_of b.tree) s) ∙ part_begun e (cells_of b.tree) s

  -- what is true of each real that is made is true of that of an entity that the batch creates
  module _ (P : RealView → Type 0) (makes : (h : Here) (x : Create) → P (created h x.entity x.ty x.pos)) where
    abbrev IsMade : NodeView → Type 0
    IsMade n = (r : RealView) → real_in_node n ≡ Some r → P r

    made_by : (t : Division) (x : Create) (c : CellView) (b : Bool) → IsMade (Cell c) → IsMade (Cell (real_if b c x))
    made_by t x c false h = h
    made_by t x c true h = λ r at. elim (cases_eq x.entity e) [
      | inl is ↦
          let made = created c.here x.entity x.ty x.pos in
          let there : table.get (set_at c.reals x.entity (Some made)) e ≡ Some made =
          get-set_at c.reals x.entity e (Some made)
          ∙ ap (λ b. cond b (Some made) (table.get c.reals e)) (unsigned_tied e x.entity ∙ eq-eqb e x.entity (sym is)) in
          let same : made ≡ r = let z = sym there ∙ at in cc in
          subst P same (makes c.here x)
      | inr n ↦ h r (sym (other_set e c.reals x.entity (Some (created c.here x.entity x.ty x.pos)) n) ∙ at)
    ]

    made_created : (t : Division) (x : Create) (s : NodeView) → Any x → IsMade s → IsMade (created_at t x s)
    made_created t x (Cell c) u h = made_by t x c (eqb (leaf_at t x.pos) c.here.me) h
    made_created t x (Base n) u h = h

    pub made_peopled : (b : Batch) (s : NodeView) → real_in_node s ≡ None → IsMade (peopled b s)
    made_peopled b s none =
        each_keeps (created_at b.tree) IsMade Any (made_created b.tree) b.creates (any b.creates) (base_round (cells_of b.tree) s)
        (λ r at. absurd (let z = sym (begun_real (cells_of b.tree) s ∙ none) ∙ at in cc))

  -- and of each part
  module _ (P : PartView → Type 0) (makes : (h : Here) (ty : ℕ) → P (new_part h ty)) where
    abbrev IsNewPart : NodeView → Type 0
    IsNewPart n = (p : PartView) → part_at e n ≡ Some p → P p

    part_by : (x : Create) (n : BaseView) (b : Bool) → IsNewPart (Base n) → IsNewPart (Base (part_if b n x))
    part_by x n false h = h
    part_by x n true h = λ p at. elim (cases_eq x.entity e) [
      | inl is ↦
          let new = new_part n.here x.ty in
          let there : table.get (set_at n.parts x.entity (Some new)) e ≡ Some new =
          get-set_at n.parts x.entity e (Some new)
          ∙ ap (λ b. cond b (Some new) (table.get n.parts e)) (unsigned_tied e x.entity ∙ eq-eqb e x.entity (sym is)) in
          let same : new ≡ p = let z = sym there ∙ at in cc in
          subst P same (makes n.here x.ty)
      | inr m ↦ h p (sym (other_set e n.parts x.entity (Some (new_part n.here x.ty)) m) ∙ at)
    ]

    part_created : (t : Division) (x : Create) (s : NodeView) → Any x → IsNewPart s → IsNewPart (created_at t x s)
    part_created t x (Cell c) u h = h
    part_created t x (Base n) u h = part_by x (with_route n x.entity (leaf_at t x.pos)) (eqb (base_of n.here x.entity) n.here.me) h

    pub new_peopled : (b : Batch) (s : NodeView) → part_at e s ≡ None → IsNewPart (peopled b s)
    new_peopled b s none =
        each_keeps (created_at b.tree) IsNewPart Any (part_created b.tree) b.creates (any b.creates) (base_round (cells_of b.tree) s)
        (λ p at. absurd (let z = sym (part_begun e (cells_of b.tree) s ∙ ap (option_map part_begins) none) ∙ at in cc))

  -- so they have no witness and no client
  pub unseen_peopled : (b : Batch) (s : NodeView) → real_in_node s ≡ None → (r : RealView) →
      real_in_node (peopled b s) ≡ Some r → r.witness ≡ None
  unseen_peopled b s none = made_peopled (λ r. r.witness ≡ None) (λ h x. refl) b s none

  pub bare_peopled : (b : Batch) (s : NodeView) → part_at e s ≡ None → HasNoProxy (part_at e (peopled b s))
  bare_peopled b s none = new_peopled (λ p. p.proxy ≡ None) (λ h ty. refl) b s none

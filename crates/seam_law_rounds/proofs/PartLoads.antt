-- What a load makes of an entity's base part, node by node.
use Rattle.seam_law_rounds.proofs.Prelude.{◌≡◌, ℕ, ◌<◌, Bool, true, false, cond, eqb, List, [], ◌∷◌, ◌++◌, Option, None, Some, refl, sym}
use Rattle.seam_law_rounds.proofs.Prelude.{ap, ◌∙◌, subst, arith, option_map, AllByRecursion, nat_cmp, eq_by_cmp, unsigned_tied, eq-eqb}
use Rattle.seam_law_rounds.proofs.Prelude.{ne_eqb, nat_tests, Division, leaf_at, cells_of, Create, Order, Batch, Map, Here, cell_count}
use Rattle.seam_law_rounds.proofs.Prelude.{base_of, BaseView, PartView, ProxyView, NodeView, Cell, Base, part_if, with_route, new_part}
use Rattle.seam_law_rounds.proofs.Prelude.{created_at, with_proxy, attached, part_begins, cell_round, base_round, proxy_begins, order_if}
use Rattle.seam_law_rounds.proofs.Prelude.{ordered_at, Frame, here_at, IsAt, has_of, HasNoProxy, home_of, each, node_loaded, get-set_at}
use Rattle.std.specs.FinMap as table
use Rattle.seam_law_rounds.proofs.Loading.{each_keeps, Any, any, get-each_value}
use Rattle.seam_law_rounds.proofs.Staying.{other_set}
use Rattle.seam_law_rounds.proofs.Making.{AreOthers}

-- the part is the same but for its client
abbrev pub SamePart : Option PartView → Option PartView → Type 0
SamePart None p = p ≡ None
SamePart (Some a) p = (x : Option ProxyView) × (p ≡ Some (record a { proxy = x }))

pub same_part : (o : Option PartView) → SamePart o o
same_part None = refl
same_part (Some a) = (a.proxy, refl)

same_joined : (h : Here) (o p : Option PartView) → SamePart o p → SamePart o (option_map (with_proxy h) p)
same_joined h None p k = ap (option_map (with_proxy h)) k
same_joined h (Some a) p k = ((with_proxy h a).proxy, ap (option_map (with_proxy h)) k.1)

module _ (e : ℕ) where
  abbrev pub part_at : NodeView → Option PartView
  part_at n = (has_of e n).base.part

  -- ---- the base nodes begin the round

  pub part_begun : (cells : ℕ) (s : NodeView) → part_at (base_round cells s) ≡ option_map part_begins (part_at s)
  part_begun cells (Cell c) = refl
  part_begun cells (Base n) = get-each_value part_begins n.parts e

  -- ---- another entity is created

  module _ (t : Division) (x : Create) (other : x.entity ≡ e → ⊥) where
    other_by : (n : BaseView) (b : Bool) → part_at (Base (part_if b n x)) ≡ table.get n.parts e
    other_by n true = other_set e n.parts x.entity (Some (new_part n.here x.ty)) other
    other_by n false = refl

    pub created_other : (s : NodeView) → part_at (created_at t x s) ≡ part_at s
    created_other (Cell c) = refl
    created_other (Base n) = other_by (with_route n x.entity (leaf_at t x.pos)) (eqb (base_of n.here x.entity) n.here.me)

  pub others_created : (t : Division) (xs : List Create) → AreOthers e xs → (s : NodeView) → part_at (each (created_at t) xs s) ≡ part_at s
  others_created t [] others s = refl
  others_created t (x ∷ xs) others s = others_created t xs others.1 (created_at t x s) ∙ created_other t x others.0 s

  -- ---- a client is attached

  joined_by : (h : Here) (m : Map PartView) (q : ℕ) (o : Option PartView) (b : Bool) → eq_by_cmp nat_cmp e q ≡ b →
      SamePart o (table.get m e) → SamePart o (cond b (option_map (with_proxy h) (table.get m q)) (table.get m e))
  joined_by h m q o true is k =
      let at : e ≡ q = grind (arith, nat_tests, is) in
      subst (λ j. SamePart o (option_map (with_proxy h) (table.get m j))) at (same_joined h o (table.get m e) k)
  joined_by h m q o false is k = k

  part_joined : (o : Option PartView) (q : ℕ) (s : NodeView) → Any q → SamePart o (part_at s) → SamePart o (part_at (attached q s))
  part_joined o q (Cell c) u k = k
  part_joined o q (Base n) u k =
      subst (SamePart o) (sym (get-set_at n.parts q e (option_map (with_proxy n.here) (table.get n.parts q))))
      (joined_by n.here n.parts q o (eq_by_cmp nat_cmp e q) refl k)

  -- ---- the cells begin the round, and the orders are given

  pub part_in_round : (t : Division) (s : NodeView) → part_at (cell_round t s) ≡ part_at s
  part_in_round t (Cell c) = refl
  part_in_round t (Base n) = refl

  ordered_by : (n : BaseView) (o : Order) (b : Bool) → part_at (Base (order_if b n o)) ≡ part_at (Base n)
  ordered_by n o true = refl
  ordered_by n o false = refl

  part_ordered : (o : ℕ × Order) (s : NodeView) → part_at (ordered_at o s) ≡ part_at s
  part_ordered o (Cell c) = refl
  part_ordered o (Base n) = ordered_by n o.1 (eqb o.0 n.here.me)

  pub parts_ordered : (os : List (ℕ × Order)) (s : NodeView) → part_at (each ordered_at os s) ≡ part_at s
  parts_ordered [] s = refl
  parts_ordered (o ∷ os) s = parts_ordered os (ordered_at o s) ∙ part_ordered o s

  -- ---- after the entities are created

  pub same_after : (b : Batch) (o : Option PartView) (s : NodeView) → SamePart o (part_at s) →
      SamePart o (part_at (each ordered_at b.orders (cell_round b.tree (each attached b.clients s))))
  same_after b o s k =
      let joined = each attached b.clients s in
      subst (SamePart o) (sym (parts_ordered b.orders (cell_round b.tree joined) ∙ part_in_round b.tree joined))
      (each_keeps attached (λ n. SamePart o (part_at n)) Any (part_joined o) b.clients (any b.clients) s k)

  -- ---- all of it, where the entity is not created

  pub part_stays : (b : Batch) → AreOthers e b.creates → (s : NodeView) →
      SamePart (option_map part_begins (part_at s)) (part_at (node_loaded b s))
  part_stays b others s =
      let begun = base_round (cells_of b.tree) s in
      let o = option_map part_begins (part_at s) in
      same_after b o (each (created_at b.tree) b.creates begun)
      (subst (SamePart o) (sym (others_created b.tree b.creates others begun ∙ part_begun (cells_of b.tree) s)) (same_part o))

-- ---- and where it is

module _ (f : Frame) (k : ℕ) (x : Create) (t : Division) where
  abbrev own : ℕ
  own = x.entity

  -- the part that node k gets
  abbrev pub part_made : Option PartView
  part_made = cond (eqb (home_of f own) k) (Some (new_part (here_at f k) x.ty)) None

  -- a base node knows what the frame says
  abbrev IsHere : NodeView → Type 0
  IsHere (Cell c) = k < cell_count
  IsHere (Base n) = n.here ≡ here_at f k

  here_by : (n : BaseView) (y : Create) (b : Bool) → IsHere (Base n) → IsHere (Base (part_if b n y))
  here_by n y true h = h
  here_by n y false h = h

  here_stays : (y : Create) (s : NodeView) → IsHere s → IsHere (created_at t y s)
  here_stays y (Cell c) h = h
  here_stays y (Base n) h = here_by (with_route n y.entity (leaf_at t y.pos)) y (eqb (base_of n.here y.entity) n.here.me) h

  here_begun : (cells : ℕ) (s : NodeView) → IsAt f k s → IsHere (base_round cells s)
  here_begun cells (Cell c) at = at.low
  here_begun cells (Base n) at = at.here

  made_by : (n : BaseView) (b : Bool) → n.here ≡ here_at f k → table.get n.parts own ≡ None →
      part_at own (Base (part_if b n x)) ≡ cond b (Some (new_part (here_at f k) x.ty)) None
  made_by n true here none =
      get-set_at n.parts own own (Some (new_part n.here x.ty))
      ∙ ap (λ c. cond c (Some (new_part n.here x.ty)) (table.get n.parts own)) (unsigned_tied own own ∙ eq-eqb own own refl)
      ∙ ap (λ h. Some (new_part h x.ty)) here
  made_by n false here none = none

  made_own : (s : NodeView) → IsHere s → part_at own s ≡ None → part_at own (created_at t x s) ≡ part_made
  made_own (Cell c) low none =
      sym (ap (λ b. cond b (Some (new_part (here_at f k) x.ty)) None) (ne_eqb (home_of f own) k (λ is. omega (arith, is, low))))
  made_own (Base n) here none =
      made_by (with_route n own (leaf_at t x.pos)) (eqb (base_of n.here own) n.here.me) here none
      ∙ ap (λ h. cond (eqb (base_of h own) h.me) (Some (new_part (here_at f k) x.ty)) None) here

  made_once : (before later : List Create) → AreOthers own before → AreOthers own later → (s : NodeView) → IsHere s →
      part_at own s ≡ None → part_at own (each (created_at t) (before ++ x ∷ later) s) ≡ part_made
  made_once [] later others more s here none =
      others_created own t later more (created_at t x s) ∙ made_own s here none
  made_once (y ∷ before) later others more s here none =
      made_once before later others.1 more (created_at t y s) (here_stays y s here) (created_other own t y others.0 s ∙ none)

pub part_comes : (f : Frame) (k : ℕ) (x : Create) (b : Batch) (before later : List Create) → b.creates ≡ before ++ x ∷ later →
    AreOthers x.entity before → AreOthers x.entity later → (s : NodeView) → IsAt f k s → part_at x.entity s ≡ None →
    SamePart (part_made f k x b.tree) (part_at x.entity (node_loaded b s))
part_comes f k x b before later is others more s at none =
    let begun = base_round (cells_of b.tree) s in
    same_after x.entity b (part_made f k x b.tree) (each (created_at b.tree) b.creates begun)
    (subst (SamePart (part_made f k x b.tree)) (sym (ap (λ l. part_at x.entity (each (created_at b.tree) l begun)) is
    ∙ made_once f k x b.tree before later others more begun (here_begun f k x b.tree (cells_of b.tree) s at)
    (part_begun x.entity (cells_of b.tree) s ∙ ap (option_map part_begins) none))) (same_part (part_made f k x b.tree)))

-- ---- an entity without a client

module _ (e : ℕ) where
  abbrev pub BareAt : NodeView → Type 0
  BareAt n = HasNoProxy (part_at e n)

  no_proxy : (o : Option ProxyView) → o ≡ None → option_map proxy_begins o ≡ None
  no_proxy o is = ap (option_map proxy_begins) is

  bare_begun : (o : Option PartView) → HasNoProxy o → HasNoProxy (option_map part_begins o)
  bare_begun None h p at = absurd (let z = at in cc)
  bare_begun (Some q) h p at =
      let same : part_begins q ≡ p = cc in
      ap (λ (x : PartView). x.proxy) (sym same) ∙ no_proxy q.proxy (h q refl)

  new_bare : (h : Here) (ty : ℕ) → HasNoProxy (Some (new_part h ty))
  new_bare h ty p at = let same : new_part h ty ≡ p = cc in ap (λ (x : PartView). x.proxy) (sym same)

  set_bare : (h : Here) (ty : ℕ) (o : Option PartView) (b : Bool) → HasNoProxy o → HasNoProxy (cond b (Some (new_part h ty)) o)
  set_bare h ty o true k = new_bare h ty
  set_bare h ty o false k = k

  bare_by : (n : BaseView) (x : Create) (b : Bool) → BareAt (Base n) → BareAt (Base (part_if b n x))
  bare_by n x true h =
      subst HasNoProxy (sym (get-set_at n.parts x.entity e (Some (new_part n.here x.ty))))
      (set_bare n.here x.ty (table.get n.parts e) (eq_by_cmp nat_cmp e x.entity) h)
  bare_by n x false h = h

  bare_created : (t : Division) (x : Create) (s : NodeView) → Any x → BareAt s → BareAt (created_at t x s)
  bare_created t x (Cell c) u h = h
  bare_created t x (Base n) u h = bare_by (with_route n x.entity (leaf_at t x.pos)) x (eqb (base_of n.here x.entity) n.here.me) h

  bare_joined : (q : ℕ) (s : NodeView) → (q ≡ e → ⊥) → BareAt s → BareAt (attached q s)
  bare_joined q (Cell c) other h = h
  bare_joined q (Base n) other h =
      subst HasNoProxy (sym (other_set e n.parts q (option_map (with_proxy n.here) (table.get n.parts q)) other)) h

  pub bare_stays : (b : Batch) → AllByRecursion (λ q. q ≡ e → ⊥) b.clients → (s : NodeView) → BareAt s → BareAt (node_loaded b s)
  bare_stays b others s h =
      let begun = base_round (cells_of b.tree) s in
      let made = each (created_at b.tree) b.creates begun in
      let joined = each attached b.clients made in
      subst HasNoProxy (sym (parts_ordered e b.orders (cell_round b.tree joined) ∙ part_in_round e b.tree joined))
      (each_keeps attached BareAt (λ q. q ≡ e → ⊥) bare_joined b.clients others made
      (each_keeps (created_at b.tree) BareAt Any (bare_created b.tree) b.creates (any b.creates) begun
      (subst HasNoProxy (sym (part_begun e (cells_of b.tree) s)) (bare_begun (part_at e s) h))))

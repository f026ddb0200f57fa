-- What the load of a batch makes of a node, one create and one client after the other.
use Rattle.std.proofs.Common.{◌≡◌, ℕ, zero, suc, ◌<◌, ◌≤◌, Bool, true, false, cond, eqb, is_some, List, [], ◌∷◌, length, map, take, get_or}
use Rattle.std.proofs.Common.{Option, None, Some, refl, sym, ap, ◌∙◌, subst, arith}
use Rattle.std.specs.Prelude.{option_map}
use Rattle.std.specs.List.{AllByRecursion, IsDistinct}
use Rattle.std.specs.Ordering.{nat_cmp, eq_by_cmp}
use Rattle.std.specs.Cmp.{nat_cmp_total}
use Rattle.std.specs.FinMap as table
use Rattle.std.proofs.lemmas.Bool.{eq-eqb, eqb-true}
use Rattle.std.proofs.lemmas.List.{map-id}
use Rattle.seam_node_steps.specs.Prelude.{Division, leaf_at, cells_of, Create, base_of, RealView, CellView, BaseView, PartView, ProxyView}
use Rattle.seam_node_steps.specs.Prelude.{is_base_node_of, NodeView, Cell, Base, real_if, part_if, with_route, new_part, created_at}
use Rattle.seam_tree.proofs.Leaves.{leaf_is_cell}
use Rattle.seam_node_steps.specs.Prelude.{attached, base_round, part_begins, proxy_begins}
use Rattle.seam_law_calls.specs.Prelude.{has_of, real_in}
use Rattle.seam_law_rounds.specs.Prelude.{created_entity, each}
use Rattle.seam_base.specs.Nodes.{has_client}
use Rattle.seam_base.specs.Marks.{passes}
use Rattle.seam_law_rounds.proofs.Loading.{each_keeps, Any, any}
use Rattle.seam_law_rounds.proofs.Staying.{Kept, same, stays_as, creates_stay, other_set}
use Rattle.seam_law_rounds.proofs.PartLoads.{part_at, part_begun}
use Rattle.seam_core.specs.Nodes.{here_in}
use Rattle.seam_core.specs.Loads.{IsNumbered}
use Rattle.seam_core.specs.Begun.{HasSpace, IsSpare}

-- ---- lists

pub all_at : {A : Type 0} (P : A → Type 0) (xs : List A) → AllByRecursion P xs → (i : ℕ) (d : A) → i < length xs → P (get_or xs i d)
all_at P [] all i d lt = absurd (omega (arith, lt))
all_at P (x ∷ xs) all zero d lt = all.0
all_at P (x ∷ xs) all (suc i) d lt = all_at P xs all.1 i d (omega (arith, lt))

-- of a list without repeats, what comes before a place is other than what stands there
module _ {A : Type 0} (key : A → ℕ) where
  apart : (x : A) (xs : List A) → AllByRecursion (λ y. eqb (key x) y ≡ false) (map key xs) → (i : ℕ) (d : A) → i < length xs →
      key x ≡ key (get_or xs i d) → ⊥
  apart x [] all i d lt is = absurd (omega (arith, lt))
  apart x (y ∷ ys) all zero d lt is = let no = sym (eq-eqb (key x) (key y) is) ∙ all.0 in cc
  apart x (y ∷ ys) all (suc i) d lt is = apart x ys all.1 i d (omega (arith, lt)) is

  pub distinct_before : (xs : List A) → IsDistinct eqb (map key xs) → (i : ℕ) (d : A) → i < length xs →
      AllByRecursion (λ y. key y ≡ key (get_or xs i d) → ⊥) (take i xs)
  unfolding IsDistinct
  distinct_before [] once i d lt = absurd (omega (arith, lt))
  distinct_before (x ∷ xs) once zero d lt = tt
  distinct_before (x ∷ xs) once (suc i) d lt = (
    apart x xs once.0 i d (omega (arith, lt)),
    distinct_before xs once.1 i d (omega (arith, lt)),
  )

-- ---- what a node knows

-- it knows its number, and its space
record Knows (k size : ℕ) (s : NodeView) : Type 0 where
  number : IsNumbered k s
  space : HasSpace size s

knows_if : (k size : ℕ) (d : Bool) (c : CellView) (x : Create) → Knows k size (Cell c) → Knows k size (Cell (real_if d c x))
knows_if k size true c x h = record { number = h.number; space = h.space }
knows_if k size false c x h = h

numbered_if : (k size : ℕ) (d : Bool) (n : BaseView) (x : Create) → Knows k size (Base n) → Knows k size (Base (part_if d n x))
numbered_if k size true n x h = record { number = h.number; space = tt }
numbered_if k size false n x h = h

knows_made : (k size : ℕ) (t : Division) (x : Create) (s : NodeView) → Any x → Knows k size s → Knows k size (created_at t x s)
knows_made k size t x (Cell c) any h = knows_if k size (eqb (leaf_at t x.pos) c.here.me) c x h
knows_made k size t x (Base n) any h =
    numbered_if k size (eqb (base_of n.here x.entity) n.here.me) (with_route n x.entity (leaf_at t x.pos)) x
    (record { number = h.number; space = tt })

knows_joined : (k size : ℕ) (e : ℕ) (s : NodeView) → Any e → Knows k size s → Knows k size (attached e s)
knows_joined k size e (Cell c) any h = record { number = h.number; space = h.space }
knows_joined k size e (Base n) any h = record { number = h.number; space = tt }

knows_begun : (k size cells : ℕ) (s : NodeView) → Knows k size s → Knows k size (base_round cells s)
knows_begun k size cells (Cell c) h = h
knows_begun k size cells (Base n) h = record { number = h.number; space = tt }

module _ (k size : ℕ) (s : NodeView) (number : IsNumbered k s) (space : HasSpace size s) where
  knows : Knows k size s
  knows = record { number = number; space = space }

  pub number_begun : (cells : ℕ) → IsNumbered k (base_round cells s)
  number_begun cells = (knows_begun k size cells s knows).number

  pub space_begun : (cells : ℕ) → HasSpace size (base_round cells s)
  space_begun cells = (knows_begun k size cells s knows).space

  pub number_made : (t : Division) (xs : List Create) → IsNumbered k (each (created_at t) xs s)
  number_made t xs = (each_keeps (created_at t) (Knows k size) Any (knows_made k size t) xs (any xs) s knows).number

  pub space_made : (t : Division) (xs : List Create) → HasSpace size (each (created_at t) xs s)
  space_made t xs = (each_keeps (created_at t) (Knows k size) Any (knows_made k size t) xs (any xs) s knows).space

  pub space_joined : (es : List ℕ) → HasSpace size (each attached es s)
  space_joined es = (each_keeps attached (Knows k size) Any (knows_joined k size) es (any es) s knows).space

-- the space after all of it
pub space_after : (k size : ℕ) (s : NodeView) → IsNumbered k s → HasSpace size s →
    (cells : ℕ) (t : Division) (xs : List Create) (es : List ℕ) →
    HasSpace size (each attached es (each (created_at t) xs (base_round cells s)))
space_after k size s number space cells t xs es =
    let begun = base_round cells s in
    let number_then = number_begun k size s number space cells in
    let space_then = space_begun k size s number space cells in
    space_joined k size (each (created_at t) xs begun) (number_made k size begun number_then space_then t xs)
    (space_made k size begun number_then space_then t xs) es

-- ---- an entity that is created

-- a cell makes it, where it is the leaf
pub made_cell : (t : Division) (x : Create) (leaf me : ℕ) (c new : CellView) (s : NodeView) → new ≡ real_if (eqb leaf me) c x →
    leaf ≡ leaf_at t x.pos → Cell c ≡ s → IsNumbered me s → Cell new ≡ created_at t x s
made_cell t x leaf me c new s is at same number =
    ap Cell is
    ∙ (ap (λ (a : ℕ). Cell (real_if (eqb a me) c x)) at
    ∙ (ap (λ (m : ℕ). Cell (real_if (eqb (leaf_at t x.pos) m) c x)) (sym (ap (λ n. (here_in n).me) same ∙ number))
    ∙ ap (created_at t x) same))

-- a cell that the tree does not have makes none
spare_if : (t : Division) (x : Create) (me : ℕ) (c : CellView) → IsNumbered me (Cell c) → cells_of t ≤ me → (d : Bool) →
    eqb (leaf_at t x.pos) c.here.me ≡ d → Cell (real_if d c x) ≡ Cell c
spare_if t x me c number spare false is = refl
spare_if t x me c number spare true is =
    let low = leaf_is_cell t x.pos in
    let same : leaf_at t x.pos ≡ c.here.me = eqb-true (leaf_at t x.pos) c.here.me is in
    absurd (omega (arith, low, same, number, spare))

pub spare_stays : (t : Division) (me : ℕ) (s : NodeView) (xs : List Create) → IsNumbered me s → IsSpare (cells_of t) me s →
    each (created_at t) xs s ≡ s
spare_stays t me s [] number spare = refl
spare_stays t me (Cell c) (x ∷ xs) number spare =
    ap (each (created_at t) xs) (spare_if t x me c number spare (eqb (leaf_at t x.pos) c.here.me) refl)
    ∙ spare_stays t me (Cell c) xs number spare
spare_stays t me (Base n) (x ∷ xs) number spare = absurd spare

-- a base node gets a route, and makes the part where it is the entity's
pub made_base : (t : Division) (x : Create) (leaf : ℕ) (n new : BaseView) (s : NodeView) →
    new ≡ part_if (is_base_node_of n.here x.entity) (with_route n x.entity leaf) x → leaf ≡ leaf_at t x.pos → Base n ≡ s →
    Base new ≡ created_at t x s
made_base t x leaf n new s is at same =
    ap Base is
    ∙ (ap (λ (a : ℕ). Base (part_if (is_base_node_of n.here x.entity) (with_route n x.entity a) x)) at ∙ ap (created_at t x) same)

kept_none : (o p : Option RealView) → Kept same o p → o ≡ None → p ≡ None
kept_none None p k is = k
kept_none (Some r) p k is = absurd (let z = is in cc)

-- while those before it are made, there is no real of it
pub new_at : (t : Division) (xs : List Create) (s : NodeView) → AllByRecursion (λ x. real_in (has_of x.entity s) ≡ None) xs →
    IsDistinct eqb (map created_entity xs) → (i : ℕ) (d : Create) → i < length xs →
    real_in (has_of (get_or xs i d).entity (each (created_at t) (take i xs) s)) ≡ None
new_at t xs s new once i d lt =
    let e = (get_or xs i d).entity in
    kept_none (real_in (has_of e s)) (real_in (has_of e (each (created_at t) (take i xs) s)))
    (creates_stay e t (take i xs) (distinct_before created_entity xs once i d lt) (Unit {0}) (has_of e s) s (stays_as (has_of e s))).real
    (all_at (λ x. real_in (has_of x.entity s) ≡ None) xs new i d lt)

-- the reals are those that were there, as base nodes begin the round
real_begun : (e cells : ℕ) (s : NodeView) → real_in (has_of e (base_round cells s)) ≡ real_in (has_of e s)
real_begun e cells (Cell c) = refl
real_begun e cells (Base n) = refl

pub new_begun : (cells : ℕ) (s : NodeView) (xs : List Create) → AllByRecursion (λ x. real_in (has_of x.entity s) ≡ None) xs →
    AllByRecursion (λ x. real_in (has_of x.entity (base_round cells s)) ≡ None) xs
new_begun cells s [] all = tt
new_begun cells s (x ∷ xs) all = (real_begun x.entity cells s ∙ all.0, new_begun cells s xs all.1)

-- ---- an entity that gets a client

-- it has no client at the node
abbrev pub IsUnseen : NodeView → ℕ → Type 0
IsUnseen s e = passes has_client (has_of e s).base.part ≡ false

some_begun : (o : Option ProxyView) → is_some (option_map proxy_begins o) ≡ is_some o
some_begun None = refl
some_begun (Some x) = refl

passes_begun : (o : Option PartView) → passes has_client (option_map part_begins o) ≡ passes has_client o
passes_begun None = refl
passes_begun (Some p) = some_begun p.proxy

unseen_begun : (cells e : ℕ) (s : NodeView) → IsUnseen s e → IsUnseen (base_round cells s) e
unseen_begun cells e s h = ap (passes has_client) (part_begun e cells s) ∙ (passes_begun (part_at e s) ∙ h)

passes_new : (d : Bool) (p : PartView) (o : Option PartView) → p.proxy ≡ None → passes has_client o ≡ false →
    passes has_client (cond d (Some p) o) ≡ false
passes_new true p o new h = ap is_some new
passes_new false p o new h = h

part_new : (e : ℕ) (n : BaseView) (x : Create) (d : Bool) → IsUnseen (Base n) e → IsUnseen (Base (part_if d n x)) e
part_new e n x true h =
    ap (passes has_client) (table.get-insert nat_cmp_total n.parts x.entity (new_part n.here x.ty) e)
    ∙ passes_new (eq_by_cmp nat_cmp e x.entity) (new_part n.here x.ty) (table.get n.parts e) refl h
part_new e n x false h = h

unseen_made : (t : Division) (e : ℕ) (x : Create) (s : NodeView) → Any x → IsUnseen s e → IsUnseen (created_at t x s) e
unseen_made t e x (Cell c) any h = refl
unseen_made t e x (Base n) any h =
    part_new e (with_route n x.entity (leaf_at t x.pos)) x (eqb (base_of n.here x.entity) n.here.me) h

-- none of the entities has one after the creates
pub unseen_peopled : (t : Division) (cells : ℕ) (xs : List Create) (s : NodeView) (es : List ℕ) → AllByRecursion (IsUnseen s) es →
    AllByRecursion (IsUnseen (each (created_at t) xs (base_round cells s))) es
unseen_peopled t cells xs s [] all = tt
unseen_peopled t cells xs s (e ∷ es) all = (
  each_keeps (created_at t) (λ n. IsUnseen n e) Any (unseen_made t e) xs (any xs) (base_round cells s) (unseen_begun cells e s all.0),
  unseen_peopled t cells xs s es all.1,
)

unseen_other : (e q : ℕ) (s : NodeView) → (q ≡ e → ⊥) → IsUnseen s e → IsUnseen (attached q s) e
unseen_other e q (Cell c) other h = refl
unseen_other e q (Base n) other h = ap (passes has_client) (other_set e n.parts q _ other) ∙ h

-- while those before it get theirs, it has none
pub unseen_at : (es : List ℕ) (s : NodeView) → AllByRecursion (IsUnseen s) es → IsDistinct eqb es → (i d : ℕ) → i < length es →
    IsUnseen (each attached (take i es) s) (get_or es i d)
unseen_at es s unseen once i d lt =
    let e = get_or es i d in
    each_keeps attached (λ n. IsUnseen n e) (λ q. q ≡ e → ⊥) (λ q n other h. unseen_other e q n other h) (take i es)
    (distinct_before (λ n. n) es (subst (IsDistinct eqb) (sym (map-id es)) once) i d lt) s (all_at (IsUnseen s) es unseen i d lt)

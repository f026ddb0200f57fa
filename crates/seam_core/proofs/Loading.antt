-- What the loads make of a world, node by node; and that it is a world again.
use Rattle.std.proofs.Common.{◌≡◌, ℕ, zero, suc, ◌+◌, ◌%◌, ◌<◌, ◌≤◌, Bool, true, false, eqb, List, [], ◌∷◌, ◌++◌, length, map, set}
use Rattle.std.proofs.Common.{take, drop, None}
use Rattle.std.proofs.Common.{Some, refl, sym, ap, ◌∙◌, subst, arith, inl, inr}
use Rattle.std.specs.Prelude.{slice_get}
use Rattle.std.proofs.lemmas.Bool.{ne_eqb}
use Rattle.std.proofs.lemmas.List.{length-map, map-id}
use Rattle.std.proofs.lemmas.List.Edits.{map_over_more}
use Rattle.std.proofs.lemmas.Option.{slice_get_cases, slice_get-map, slice_get_within, get_or_from_slice_get}
use Rattle.std.proofs.lemmas.Simd.{map-map}
use Rattle.seam_node_steps.specs.Prelude.{IsTree, with_node, EachNode, Order, Batch, Here, cell_count, base_of, BaseView, NodeView, World}
use Rattle.seam_node_steps.specs.Prelude.{Cell, Base, IsNode, with_nodes, order_if, ordered_at, reap_ordered_at, with_orders, with_reap}
use Rattle.seam_node_steps.specs.Prelude.{reaps_loaded, loaded, look_loaded}
use Rattle.seam_node_steps.specs.Prelude.{TypeDef, Settings, here_of, node_peers}
use Rattle.seam_law_calls.specs.Prelude.{Frame, Knows}
use Rattle.seam_law_rounds.specs.Prelude.{framed, each, node_loaded, first_frame}
use Rattle.seam_call.specs.declared.order.Order.TheVariants as order
use Rattle.seam_node_steps.specs.Loads.{with_order}
use Rattle.seam_law_rounds.proofs.Loading.{nodes_after, loaded_is, node_there, each_keeps, Any, any}
use Rattle.seam_law_rounds.proofs.Framing.{Ordered, Goes, peers_known, begun_known, goes_known, sound_turns, each_turns}
use Rattle.seam_core.specs.Nodes.{here_in}
use Rattle.seam_core.specs.Loads.{MayLoad, IsNumbered, HasBases, HasSize}
use Rattle.seam_core.specs.Begun.{begun, HasSpace, NodeMayBegin}
use Rattle.seam_core.specs.Worlds.{GoesBy, IsWorld}
use Rattle.seam_core.proofs.Worlds.{goes_by}
use Rattle.seam_node_steps.specs.Prelude.{noted, noting}

-- ---- lists

-- two changes that agree on each item
pub maps_agree : {A B : Type 0} (f g : A → B) (xs : List A) → ((k : ℕ) (x : A) → slice_get xs k ≡ Some x → f x ≡ g x) → map f xs ≡ map g xs
maps_agree f g [] same = refl
maps_agree f g (x ∷ xs) same =
    ap (λ y. y ∷ map f xs) (same 0 x refl) ∙ ap (λ ys. g x ∷ ys) (maps_agree f g xs (λ k y at. same (suc k) y at))

-- a change that leaves all items but one
map_at : {A : Type 0} (f : A → A) (xs : List A) (k : ℕ) (x : A) → slice_get xs k ≡ Some x →
    ((j : ℕ) (y : A) → slice_get xs j ≡ Some y → (j ≡ k → ⊥) → f y ≡ y) → map f xs ≡ set xs k (f x)
map_at f [] k x at others = absurd (let z = at in cc)
map_at f (y ∷ ys) zero x at others =
    let same : y ≡ x = cc in
    ap (λ z. f z ∷ map f ys) same
    ∙ ap (λ zs. f x ∷ zs) (maps_agree f (λ z. z) ys (λ j z there. others (suc j) z there (λ is. absurd (omega (arith, is)))) ∙ map-id ys)
map_at f (y ∷ ys) (suc k) x at others =
    ap (λ z. z ∷ map f ys) (others 0 y refl (λ is. absurd (omega (arith, is))))
    ∙ ap (λ zs. y ∷ zs) (map_at f ys k x at (λ j z there apart. others (suc j) z there (λ is. apart (omega (arith, is)))))

-- a change that leaves all items
map_none : {A : Type 0} (f : A → A) (xs : List A) → ((j : ℕ) (y : A) → slice_get xs j ≡ Some y → f y ≡ y) → map f xs ≡ xs
map_none f xs same = maps_agree f (λ z. z) xs same ∙ map-id xs

abbrev nodes_by : World → List NodeView → World
nodes_by w ns = record { nodes = ns; rows = w.rows }

-- ---- one node after the other

-- the first k items changed
abbrev pub first_by : {A : Type 0} → (A → A) → ℕ → List A → List A
first_by f k xs = map f (take k xs) ++ drop k xs

pub next_is : {A : Type 0} (f : A → A) (k : ℕ) (xs : List A) → slice_get (first_by f k xs) k ≡ slice_get xs k
next_is f zero xs = refl
next_is f (suc k) [] = refl
next_is f (suc k) (x ∷ xs) = next_is f k xs

pub next_by : {A : Type 0} (f : A → A) (k : ℕ) (xs ys : List A) (x : A) → ys ≡ first_by f k xs → slice_get ys k ≡ Some x →
    set ys k (f x) ≡ first_by f (k + 1) xs
next_by f k xs ys x is at =
    map_over_more f xs ys k x (slice_get_within xs k x (sym (next_is f k xs) ∙ (ap (λ l. slice_get l k) (sym is) ∙ at))) is
    (sym (get_or_from_slice_get ys k x x at))

-- the first k nodes changed
abbrev pub partly : (NodeView → NodeView) → ℕ → World → World
partly f k w = nodes_by w (first_by f k w.nodes)

-- one node more is changed
pub one_more : (f : NodeView → NodeView) (k : ℕ) (w net new : World) → net ≡ partly f k w → k < length w.nodes →
    ((s : NodeView) → slice_get net.nodes k ≡ Some s → new ≡ with_node net k (f s)) → new ≡ partly f (k + 1) w
one_more f k w net new is lt then = elim (slice_get_cases w.nodes k).1 [
  | inl p ↦
      let nodes = ap (λ v. v.nodes) is in
      let at = ap (λ l. slice_get l k) nodes ∙ (next_is f k w.nodes ∙ p.2) in
      then p.0 at
      ∙ (ap (nodes_by net) (next_by f k w.nodes net.nodes p.0 nodes at) ∙ ap (λ v. nodes_by v (first_by f (k + 1) w.nodes)) is)
  | inr p ↦ let past = p.0 in absurd (omega (arith, past, lt))
]

-- ---- orders

module _ (k : ℕ) (o : Order) where
  order_by : (n : BaseView) (d : Bool) → d ≡ false → order_if d n o ≡ n
  order_by n d is = ap (λ b. order_if b n o) is

  -- a node of another number stays
  stays : (j : ℕ) (s : NodeView) → IsNumbered j s → (j ≡ k → ⊥) → ordered_at (k, o) s ≡ s
  stays j (Cell c) number apart = refl
  stays j (Base n) number apart = ap Base (order_by n (eqb k n.here.me) (ne_eqb k n.here.me (λ is. apart (sym number ∙ sym is))))

  -- one node is given an order
  pub order_given : (w : World) → EachNode IsNumbered w.nodes → (s : NodeView) → slice_get w.nodes k ≡ Some s →
      with_node w k (ordered_at (k, o) s) ≡ with_order w (k, o)
  order_given w numbered s at =
      ap (nodes_by w) (sym (map_at (ordered_at (k, o)) w.nodes k s at (λ j y there apart. stays j y (numbered j y there) apart)))

  -- or none
  pub order_lost : (w : World) → EachNode IsNumbered w.nodes → slice_get w.nodes k ≡ None → with_order w (k, o) ≡ w
  order_lost w numbered none =
      ap (nodes_by w) (map_none (ordered_at (k, o)) w.nodes
      (λ j y there. stays j y (numbered j y there) (λ is. absurd (let z = sym (ap (slice_get w.nodes) is) ∙ there in let y = none in cc))))

-- ---- what nodes know

order_keeps : (d : Bool) (n : BaseView) (o : Order) → (order_if d n o).here ≡ n.here
order_keeps true n o = refl
order_keeps false n o = refl

-- an order and a reap leave it
here_ordered : (o : ℕ × Order) (s : NodeView) → here_in (ordered_at o s) ≡ here_in s
here_ordered o (Cell c) = refl
here_ordered o (Base n) = order_keeps (eqb o.0 n.here.me) n o.1

here_reaped : (e : ℕ) (s : NodeView) → here_in (reap_ordered_at e s) ≡ here_in s
here_reaped e (Cell c) = refl
here_reaped e (Base n) = order_keeps (eqb (base_of n.here e) n.here.me) (noting e n) (order.Reap e)

here_noted : (e : ℕ) (s : NodeView) → here_in (noted e s) ≡ here_in s
here_noted e (Cell c) = refl
here_noted e (Base n) = refl

-- and so what is true of it stays true
module _ (P : ℕ → Here → Type 0) where
  abbrev All : World → Type 0
  All w = EachNode (λ k s. P k (here_in s)) w.nodes

  known_more : (f : NodeView → NodeView) → ((s : NodeView) → here_in (f s) ≡ here_in s) → (w : World) → All w → All (with_nodes w f)
  known_more f same w all k t at =
      let b = node_there (slice_get w.nodes k) f t (sym (slice_get-map f w.nodes k) ∙ at) in
      subst (P k) (sym (same b.0) ∙ ap here_in b.2) (all k b.0 b.1)

  pub known_ordered : (w : World) (os : List (ℕ × Order)) → All w → All (with_orders w os)
  known_ordered w [] all = all
  known_ordered w (o ∷ os) all = known_ordered (with_order w o) os (known_more (ordered_at o) (here_ordered o) w all)

  pub known_noted : (w : World) (e : ℕ) → All w → All (with_nodes w (noted e))
  known_noted w e = known_more (noted e) (here_noted e) w

  pub known_reaped : (w : World) (es : List ℕ) → All w → All (reaps_loaded w es)
  known_reaped w [] all = all
  known_reaped w (e ∷ es) all = known_reaped (with_reap w e) es (known_more (reap_ordered_at e) (here_reaped e) w all)

-- a reap is noted by each base node, and is an order for the entity's
pub reap_is_order : (w : World) (n e : ℕ) → EachNode (λ k s. HasBases n s) w.nodes →
    with_order (with_nodes w (noted e)) (cell_count + (e % n), order.Reap e) ≡ with_reap w e
reap_is_order w n e bases =
    ap (nodes_by w) (map-map (ordered_at (cell_count + (e % n), order.Reap e)) (noted e) w.nodes
    ∙ maps_agree (λ s. ordered_at (cell_count + (e % n), order.Reap e) (noted e s)) (reap_ordered_at e) w.nodes
    (λ k s at. same s (bases k s at)))
  where
    same : (s : NodeView) → HasBases n s → ordered_at (cell_count + (e % n), order.Reap e) (noted e s) ≡ reap_ordered_at e s
    same (Cell c) h = refl
    same (Base b) h = ap (λ m. Base (order_if (eqb (cell_count + (e % m)) b.here.me) (noting e b) (order.Reap e))) (sym h)

-- ---- a batch

-- the orders are given to nodes that began the round
pub loaded_as : (w : World) (b : Batch) → with_orders (with_nodes w (begun b)) b.orders ≡ loaded w b
loaded_as w b =
    nodes_after ordered_at (with_nodes w (begun b)) b.orders
    ∙ (ap (nodes_by w) (map-map (each ordered_at b.orders) (begun b) w.nodes) ∙ sym (loaded_is w b))

pub loaded_by : (w net v : World) (b : Batch) (os : List (ℕ × Order)) → net ≡ with_nodes w (begun b) → os ≡ b.orders →
    v ≡ with_orders net os → v ≡ loaded w b
loaded_by w net v b os begun_is all is =
    is ∙ (ap (with_orders net) all ∙ (ap (λ u. with_orders u b.orders) begun_is ∙ loaded_as w b))

-- what a node knows
pub here_is : (defs : List TypeDef) (settings : Settings) (k : ℕ) (s : NodeView) → Knows defs settings k s →
    here_in s ≡ here_of defs settings k
here_is defs settings k (Cell c) knows = knows.1
here_is defs settings k (Base n) knows = knows.1

-- base nodes have any orders
any_orders : (s : NodeView) → Ordered Any s
any_orders (Cell c) = tt
any_orders (Base n) = any n.orders

module _ (defs : List TypeDef) (settings : Settings) where
  abbrev By : ℕ → NodeView → Type 0
  By = GoesBy defs settings

  abbrev first : Frame
  first = first_frame defs settings

  peers_by : (k : ℕ) (s : NodeView) → By k s → node_peers s ≡ cell_count + settings.bases
  peers_by k s is = peers_known first k s is.0

  -- an order and a reap leave what a node goes by
  module _ (k : ℕ) where
    given_by : (d : Bool) (n : BaseView) (o : Order) → IsNode (Base n) × By k (Base n) →
        IsNode (Base (order_if d n o)) × By k (Base (order_if d n o))
    given_by true n o is =
        (record { bases = is.0.bases; cells = is.0.cells; routes = is.0.routes }, ((is.1.0.0, is.1.0.1), tt))
    given_by false n o is = is

    pub ordered_by : (o : ℕ × Order) (s : NodeView) → IsNode s × By k s → IsNode (ordered_at o s) × By k (ordered_at o s)
    ordered_by o (Cell c) is = is
    ordered_by o (Base n) is = given_by (eqb o.0 n.here.me) n o.1 is

    reaped_by : (e : ℕ) (s : NodeView) → Any e → IsNode s × By k s → IsNode (reap_ordered_at e s) × By k (reap_ordered_at e s)
    reaped_by e (Cell c) any is = is
    reaped_by e (Base n) any is =
        given_by (eqb (base_of n.here e) n.here.me) (noting e n) (order.Reap e)
        (record { bases = is.0.bases; cells = is.0.cells; routes = is.0.routes }, ((is.1.0.0, is.1.0.1), is.1.1))

    pub all_reaped_by : (es : List ℕ) (s : NodeView) → IsNode s × By k s →
        IsNode (each reap_ordered_at es s) × By k (each reap_ordered_at es s)
    all_reaped_by es s is = each_keeps reap_ordered_at (λ t. IsNode t × By k t) Any reaped_by es (any es) s is

  -- a batch in the settings' space, which may tell boundaries
  module _ (b : Batch) (tree : IsTree b.tree) (size : b.tree.size ≡ settings.size) (k : ℕ) where
    goes_by_it : (s : NodeView) → Goes Any first b tree k s → IsNode s × By k s
    goes_by_it (Cell c) goes = (goes.0, goes_by (framed first b) refl size k (Cell c) goes.1)
    goes_by_it (Base n) goes = (goes.is, ((goes.high, goes.here), tt))

    pub begun_by : (s : NodeView) → IsNode s → By k s → IsNode (begun b s) × By k (begun b s)
    begun_by s node is = goes_by_it (begun b s) (begun_known Any first b tree k s node is.0 (any_orders s))

    pub loaded_known : (s : NodeView) → IsNode s → By k s → IsNode (node_loaded b s) × By k (node_loaded b s)
    loaded_known s node is =
        goes_by_it (node_loaded b s) (goes_known Any first b tree k s node is.0 (any_orders s) (any b.orders))

-- a world whose nodes all change by themselves, and go by the same
module _ (w : World) (is : IsWorld w) (turn : NodeView → NodeView)
    (turns : (k : ℕ) (s : NodeView) → IsNode s → GoesBy is.defs is.settings k s →
    IsNode (turn s) × GoesBy is.defs is.settings k (turn s)) where
  pub world_turns : IsWorld (with_nodes w turn)
  world_turns =
      let By = GoesBy is.defs is.settings in
      let peers = peers_by is.defs is.settings in
      record {
        defs = is.defs;
        settings = is.settings;
        sound = sound_turns By By (cell_count + is.settings.bases) peers peers turn turns w is.sound is.nodes;
        nodes = each_turns By By (cell_count + is.settings.bases) peers peers turn turns w is.sound is.nodes;
        many = length-map w.nodes turn ∙ is.many;
      }

module _ (w : World) (is : IsWorld w) where
  pub knows : (k : ℕ) (s : NodeView) → slice_get w.nodes k ≡ Some s → here_in s ≡ here_of is.defs is.settings k
  knows k s at = here_is is.defs is.settings k s (is.nodes k s at).0

  pub are_numbered : EachNode IsNumbered w.nodes
  are_numbered k s at = ap (λ h. h.me) (knows k s at)

  pub have_bases : (n : ℕ) → n ≡ is.settings.bases → EachNode (λ k s. HasBases n s) w.nodes
  have_bases n same k s at = ap (λ h. h.settings.bases) (knows k s at) ∙ sym same

  -- there is a node, and so a base node
  pub first_node : (s : NodeView) × (slice_get w.nodes 0 ≡ Some s)
  first_node =
      let many = is.many in
      elim (slice_get_cases w.nodes 0).1 [
        | inl p ↦ (p.0, p.2)
        | inr p ↦ let past = p.0 in absurd (omega (arith, past, many))
      ]

  size_by : (size k : ℕ) (s : NodeView) → GoesBy is.defs is.settings k s → HasSize size s → HasSpace size s
  size_by size k (Cell c) by same = (by.1.0 ∙ (sym by.1.1 ∙ same), same)
  size_by size k (Base n) by same = tt

  -- so there is a base node
  bases_by : (k : ℕ) (s : NodeView) → IsNode s → Knows is.defs is.settings k s → 1 ≤ is.settings.bases
  bases_by k (Cell c) node at = let same = ap (λ h. h.settings.bases) at.1 in let one = node.bases in omega (arith, same, one)
  bases_by k (Base n) node at = let same = ap (λ h. h.settings.bases) at.1 in let one = node.bases in omega (arith, same, one)

  pub some_bases : 1 ≤ is.settings.bases
  some_bases = let n = first_node in bases_by 0 n.0 (is.sound.states 0 n.0 n.1) (is.nodes 0 n.0 n.1).0

  module _ (b : Batch) (may : MayLoad w b) where
    pub size_is : b.tree.size ≡ is.settings.size
    size_is = let n = first_node in sym (may 0 n.0 n.1).space ∙ ap (λ h. h.settings.size) (knows 0 n.0 n.1)

    -- nodes that began the round know their numbers
    pub numbered_begun : IsTree b.tree → EachNode IsNumbered (with_nodes w (begun b)).nodes
    numbered_begun tree k t at =
        let n = node_there (slice_get w.nodes k) (begun b) t (sym (slice_get-map (begun b) w.nodes k) ∙ at) in
        let by = begun_by is.defs is.settings b tree size_is k n.0 (is.sound.states k n.0 n.1) (is.nodes k n.0 n.1) in
        subst (IsNumbered k) n.2 (ap (λ h. h.me) (here_is is.defs is.settings k (begun b n.0) by.1.0))

    pub may_begin : EachNode (NodeMayBegin b) w.nodes
    may_begin k s at = record {
      numbered = are_numbered k s at;
      space = size_by b.tree.size k s (is.nodes k s at) (may k s at).space;
      can = may k s at;
    }

    abbrev pub world_loaded : IsTree b.tree → IsWorld (loaded w b)
    world_loaded tree =
        subst IsWorld (sym (loaded_is w b)) (world_turns w is (node_loaded b) (loaded_known is.defs is.settings b tree size_is))

  pub world_reaps : (es : List ℕ) → IsWorld (reaps_loaded w es)
  world_reaps es =
      subst IsWorld (sym (nodes_after reap_ordered_at w es))
      (world_turns w is (each reap_ordered_at es) (λ k s node by. all_reaped_by is.defs is.settings k es s (node, by)))

  abbrev pub world_looks : IsWorld (look_loaded w)
  world_looks =
      world_turns w is (ordered_at (cell_count, order.Tick))
      (λ k s node by. ordered_by is.defs is.settings k (cell_count, order.Tick) s (node, by))

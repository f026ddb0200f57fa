-- A loaded world goes by the batch's tree.
use Rattle.seam_law_rounds.proofs.Prelude.{◌≡◌, ℕ, ◌+◌, ◌<◌, Bool, true, false, List, length, Option, None, Some, refl, sym, ap, ◌∙◌, subst}
use Rattle.seam_law_rounds.proofs.Prelude.{arith, option_map, slice_get, slice_index_or, All, nat_cmp, length-map, All-map, slice_get-map}
use Rattle.seam_law_rounds.proofs.Prelude.{slice_get-get_or, leaf_at, cells_of, IsTree, IsSquare, ArePeers, Create, Order, Batch, RealView}
use Rattle.seam_law_rounds.proofs.Prelude.{Here, cell_count, CellView, BaseView, RouteView, NodeView, World, node_peers, Cell, Base}
use Rattle.seam_law_rounds.proofs.Prelude.{created, real_begins, with_nodes, real_if, part_if, with_route, created_at, with_witness}
use Rattle.seam_law_rounds.proofs.Prelude.{attached, cell_round, base_round, order_if, ordered_at, loaded, IsCell, IsBase, IsNode, Frame}
use Rattle.seam_law_rounds.proofs.Prelude.{here_at, IsAt, IsInFrame, IsBetweenRounds, framed, each, made, node_loaded, MayBegin}
use Rattle.seam_law_rounds.proofs.Prelude.{leaf_is_cell, first_tree}
use Rattle.std.specs.FinMap as table
use Rattle.seam_net_runs.specs.Sound.{IsSound}
use Rattle.seam_node_steps.specs.Prelude.{EachNode, TellsNone}
use Rattle.seam_law_calls.specs.Frames.{IsCellAt, Knows}
use Rattle.seam_law_rounds.proofs.Prelude.{◌≤◌, ◌∷◌, [], AllByRecursion, all_append}
use Rattle.seam_law_rounds.proofs.Loading.{each_keeps, Any, any, loaded_is, node_there, set_keeps, get-each_value}
use Rattle.seam_node_steps.proofs.Gone.{left_without}

abbrev IsUnder : ℕ → RealView → Type 0
IsUnder e r = r.entity ≡ e

new_entity : (h : Here) (x : Create) (r : RealView) → Some (created h x.entity x.ty x.pos) ≡ Some r → r.entity ≡ x.entity
new_entity h x r at = let same : created h x.entity x.ty x.pos ≡ r = cc in ap (λ y. y.entity) (sym same)

same_entity : (g : RealView → RealView) → ((r : RealView) → (g r).entity ≡ r.entity) → (e : ℕ) (o : Option RealView) →
    ((r : RealView) → o ≡ Some r → r.entity ≡ e) → (r : RealView) → option_map g o ≡ Some r → r.entity ≡ e
same_entity g same e None h r at = absurd (let z = at in cc)
same_entity g same e (Some x) h r at = let is : g x ≡ r = cc in ap (λ y. y.entity) (sym is) ∙ (same x ∙ h x refl)

pub known_at : (f : Frame) (k : ℕ) (s : NodeView) → IsAt f k s → Knows f.defs f.settings k s
known_at f k (Cell c) at = (at.low, at.here)
known_at f k (Base n) at = (at.high, at.here)

-- T is true of each of a base node's orders
module _ (T : Order → Type 0) where
  abbrev pub Ordered : NodeView → Type 0
  Ordered (Cell c) = Unit {0}
  Ordered (Base n) = AllByRecursion T n.orders

  module _ (f : Frame) (b : Batch) (tree : IsTree b.tree) (k : ℕ) where
    -- while a batch is loaded, base nodes go by the new tree already, and cells by none
    pub record CellWhile (c : CellView) : Type 0 where
      pub is : IsCell c
      pub low : k < cell_count
      pub here : c.here ≡ here_at f k

    pub record BaseWhile (n : BaseView) : Type 0 where
      pub is : IsBase n
      pub high : cell_count ≤ k
      pub here : n.here ≡ here_at f k
      pub cells : n.cells ≡ cells_of b.tree
      pub orders : AllByRecursion T n.orders

    abbrev pub While : NodeView → Type 0
    While (Cell c) = CellWhile c
    While (Base n) = BaseWhile n

    begins : (s : NodeView) → IsNode s → Knows f.defs f.settings k s → Ordered s → While (base_round (cells_of b.tree) s)
    begins (Cell c) is at all = record { is = is; low = at.0; here = at.1 }
    begins (Base n) is at all = record {
      is = record {
        bases = is.bases;
        cells = tree.cells_to;
        routes = λ e r there. is.routes e r (left_without e n.gone n.routes r there);
      };
      high = at.0;
      here = at.1;
      cells = refl;
      orders = all;
    }

    real_more : (d : Bool) (c : CellView) (x : Create) → CellWhile c → CellWhile (real_if d c x)
    real_more true c x h =
        record {
          is = record {
            me_in = h.is.me_in;
            bases = h.is.bases;
            cells = h.is.cells;
            nexts = h.is.nexts;
            keys =
                set_keeps IsUnder c.reals x.entity (Some (created c.here x.entity x.ty x.pos)) h.is.keys
                (λ r at. new_entity c.here x r at);
          };
          low = h.low;
          here = h.here;
        }
    real_more false c x h = h

    part_more : (d : Bool) (n : BaseView) (x : Create) → BaseWhile n → BaseWhile (part_if d n x)
    part_more true n x h = record {
      is = record { bases = h.is.bases; cells = h.is.cells; routes = h.is.routes };
      high = h.high;
      here = h.here;
      cells = h.cells;
      orders = h.orders;
    }
    part_more false n x h = h

    route_more : (n : BaseView) (e cell : ℕ) → cell < cell_count → BaseWhile n → BaseWhile (with_route n e cell)
    route_more n e cell low h = record {
      is = record {
        bases = h.is.bases;
        cells = h.is.cells;
        routes = set_keeps (λ q r. r.cell < cell_count) n.routes e (Some (record { cell = cell; generation = 0 })) h.is.routes
            (λ r at. new r at);
      };
      high = h.high;
      here = h.here;
      cells = h.cells;
      orders = h.orders;
    }
      where
        new : (r : RouteView) → Some (record { cell = cell; generation = 0 }) ≡ Some r → r.cell < cell_count
        new r at =
            let same : record { cell = cell; generation = 0 } ≡ r = cc in
            subst (λ (y : RouteView). y.cell < cell_count) same low

    leaf_low : (x : Create) → leaf_at b.tree x.pos < cell_count
    leaf_low x = let low = leaf_is_cell b.tree x.pos in let most = tree.cells_to in omega (arith, low, most)

    creates : (x : Create) (s : NodeView) → Any x → While s → While (created_at b.tree x s)
    creates x (Cell c) any h = real_more _ c x h
    creates x (Base n) any h = part_more _ (with_route n x.entity (leaf_at b.tree x.pos)) x (route_more n x.entity _ (leaf_low x) h)

    joins : (e : ℕ) (s : NodeView) → Any e → While s → While (attached e s)
    joins e (Cell c) any h = record {
      is = record {
        me_in = h.is.me_in;
        bases = h.is.bases;
        cells = h.is.cells;
        nexts = h.is.nexts;
        keys =
            set_keeps IsUnder c.reals e (option_map (with_witness c.here) (table.get c.reals e)) h.is.keys
            (same_entity (with_witness c.here) (λ r. refl) e (table.get c.reals e) (h.is.keys e));
      };
      low = h.low;
      here = h.here;
    }
    joins e (Base n) any h = record {
      is = record { bases = h.is.bases; cells = h.is.cells; routes = h.is.routes };
      high = h.high;
      here = h.here;
      cells = h.cells;
      orders = h.orders;
    }

    -- a cell goes by the batch's tree, and a base node by its number of cells
    abbrev pub Goes : NodeView → Type 0
    Goes (Cell c) = IsCell c × IsCellAt (framed f b) k c
    Goes (Base n) = BaseWhile n

    rounds : (s : NodeView) → While s → Goes (cell_round b.tree s)
    rounds (Cell c) h = (
      record {
        me_in = h.is.me_in;
        bases = h.is.bases;
        cells = tree.cells_to;
        nexts = λ e n at. absurd (let none = sym (table.get-empty nat_cmp e) ∙ at in cc);
        keys = λ e r at.
            same_entity real_begins (λ r. refl) e (table.get c.reals e) (h.is.keys e) r (sym (get-each_value real_begins c.reals e) ∙ at);
      },
      record { low = h.low; here = h.here; tree = first_tree (framed f b); number = refl },
    )
    rounds (Base n) h = h

    order_more : (d : Bool) (n : BaseView) (o : Order) → T o → BaseWhile n → BaseWhile (order_if d n o)
    order_more true n o one h = record {
      is = record { bases = h.is.bases; cells = h.is.cells; routes = h.is.routes };
      high = h.high;
      here = h.here;
      cells = h.cells;
      orders = all_append T n.orders (o ∷ []) h.orders (one, tt);
    }
    order_more false n o one h = h

    orders : (o : ℕ × Order) (s : NodeView) → T o.1 → Goes s → Goes (ordered_at o s)
    orders o (Cell c) one h = h
    orders o (Base n) one h = order_more _ n o.1 one h

    -- while entities are created
    pub while_known : (xs : List Create) (s : NodeView) → IsNode s → Knows f.defs f.settings k s → Ordered s →
        While (each (created_at b.tree) xs (base_round (cells_of b.tree) s))
    while_known xs s is at all =
        each_keeps (created_at b.tree) While Any creates xs (any xs) (base_round (cells_of b.tree) s) (begins s is at all)

    -- before the orders
    pub begun_known : (s : NodeView) → IsNode s → Knows f.defs f.settings k s → Ordered s → Goes (cell_round b.tree (made b s))
    begun_known s is at all =
        rounds (made b s)
        (each_keeps attached While Any joins b.clients (any b.clients)
        (each (created_at b.tree) b.creates (base_round (cells_of b.tree) s)) (while_known b.creates s is at all))

    pub goes_known : (s : NodeView) → IsNode s → Knows f.defs f.settings k s → Ordered s → AllByRecursion (λ o. T o.1) b.orders → Goes
        (node_loaded b s)
    goes_known s is at all given =
        each_keeps ordered_at Goes (λ o. T o.1) orders b.orders given (cell_round b.tree (made b s)) (begun_known s is at all)

-- ---- where the batch tells no boundaries

ordered_none : (f : Frame) (k : ℕ) (s : NodeView) → IsAt f k s → Ordered TellsNone s
ordered_none f k (Cell c) at = tt
ordered_none f k (Base n) at = at.orders

module _ (f : Frame) (b : Batch) (tree : IsTree b.tree) (k : ℕ) where
  goes_at_it : (s : NodeView) → Goes TellsNone f b tree k s → IsNode s × IsAt (framed f b) k s
  goes_at_it (Cell c) h = h
  goes_at_it (Base n) h = (h.is, record { high = h.high; here = h.here; cells = h.cells; orders = h.orders })

  pub while_created : (xs : List Create) (s : NodeView) → IsNode s → IsAt f k s →
      While TellsNone f b tree k (each (created_at b.tree) xs (base_round (cells_of b.tree) s))
  while_created xs s is at = while_known TellsNone f b tree k xs s is (known_at f k s at) (ordered_none f k s at)

  pub node_begun : (s : NodeView) → IsNode s → IsAt f k s → IsNode (cell_round b.tree (made b s)) × IsAt (framed f b) k
      (cell_round b.tree (made b s))
  node_begun s is at =
      goes_at_it (cell_round b.tree (made b s)) (begun_known TellsNone f b tree k s is (known_at f k s at) (ordered_none f k s at))

  pub node_goes : AllByRecursion (λ o. TellsNone o.1) b.orders → (s : NodeView) → IsNode s → IsAt f k s →
      IsNode (node_loaded b s) × IsAt (framed f b) k (node_loaded b s)
  node_goes none s is at =
      goes_at_it (node_loaded b s) (goes_known TellsNone f b tree k s is (known_at f k s at) (ordered_none f k s at) none)

-- ---- the world

pub peers_known : (f : Frame) (k : ℕ) (s : NodeView) → Knows f.defs f.settings k s → node_peers s ≡ cell_count + f.settings.bases
peers_known f k (Cell c) h = ap (λ x. cell_count + x.settings.bases) h.1
peers_known f k (Base n) h = ap (λ x. cell_count + x.settings.bases) h.1

pub peers_at : (f : Frame) (k : ℕ) (s : NodeView) → IsAt f k s → node_peers s ≡ cell_count + f.settings.bases
peers_at f k s at = peers_known f k s (known_at f k s at)

pub many_loaded : (f : Frame) (w : World) (b : Batch) → IsBetweenRounds f w → length (loaded w b).nodes ≡ cell_count + f.settings.bases
many_loaded f w b r = ap (λ v. length v.nodes) (loaded_is w b) ∙ (length-map w.nodes (node_loaded b) ∙ r.many)

-- a world whose nodes all change by themselves, each of which P is true into one of which Q is; both know how many nodes there are
module _ (P Q : ℕ → NodeView → Type 0) (peers : ℕ) (p_peers : (k : ℕ) (s : NodeView) → P k s → node_peers s ≡ peers)
    (q_peers : (k : ℕ) (s : NodeView) → Q k s → node_peers s ≡ peers) (turn : NodeView → NodeView)
    (turns : (k : ℕ) (s : NodeView) → IsNode s → P k s → IsNode (turn s) × Q k (turn s)) (w : World) (sound : IsSound node_peers IsNode w)
    (each : EachNode P w.nodes) where
  goes_at : (k : ℕ) (t : NodeView) → slice_get (with_nodes w turn).nodes k ≡ Some t → IsNode t × Q k t
  goes_at k t at =
      let n = node_there (slice_get w.nodes k) turn t (sym (slice_get-map turn w.nodes k) ∙ at) in
      subst (λ s. IsNode s × Q k s) n.2 (turns k n.0 (sound.states k n.0 n.1) (each k n.0 n.1))

  many : length (with_nodes w turn).nodes ≡ length w.nodes
  many = length-map w.nodes turn

  square : IsSquare (with_nodes w turn)
  square = record {
    rows = sound.square.rows ∙ sym many;
    links = subst (λ n. All (λ l. length l ≡ n) w.rows) (sym many) sound.square.links;
  }

  peers_of_each : (s : NodeView) (k : ℕ) → slice_get w.nodes k ≡ Some s → node_peers (turn s) ≡ node_peers s
  peers_of_each s k at = q_peers k (turn s) (turns k s (sound.states k s at) (each k s at)).1 ∙ sym (p_peers k s (each k s at))

  are_peers : ArePeers node_peers (with_nodes w turn)
  are_peers =
      All-map (λ s. node_peers s ≡ length (with_nodes w turn).nodes) turn w.nodes
      (λ k d lt. peers_of_each (slice_index_or w.nodes k d) k (slice_get-get_or w.nodes k d lt) ∙ sound.peers k d lt ∙ sym many)

  pub sound_turns : IsSound node_peers IsNode (with_nodes w turn)
  sound_turns = record { square = square; peers = are_peers; states = λ k t at. (goes_at k t at).0 }

  pub each_turns : EachNode Q (with_nodes w turn).nodes
  each_turns k t at = (goes_at k t at).1

module _ (f g : Frame) (bases : g.settings.bases ≡ f.settings.bases) (turn : NodeView → NodeView)
    (turns : (k : ℕ) (s : NodeView) → IsNode s → IsAt f k s → IsNode (turn s) × IsAt g k (turn s)) (w : World) (q : IsInFrame f w) where
  as_many_peers : (k : ℕ) (s : NodeView) → IsAt g k s → node_peers s ≡ cell_count + f.settings.bases
  as_many_peers k s at = peers_at g k s at ∙ ap (λ n. cell_count + n) bases

  pub frame_turns : IsInFrame g (with_nodes w turn)
  frame_turns = record {
    sound =
        sound_turns (IsAt f) (IsAt g) (cell_count + f.settings.bases) (peers_at f) as_many_peers turn turns w q.sound q.nodes;
    nodes =
        each_turns (IsAt f) (IsAt g) (cell_count + f.settings.bases) (peers_at f) as_many_peers turn turns w q.sound q.nodes;
    letters = q.letters;
  }

pub in_frame : (f : Frame) (w : World) (b : Batch) → MayBegin f w b → IsInFrame (framed f b) (loaded w b)
in_frame f w b begin =
    subst (IsInFrame (framed f b)) (sym (loaded_is w b))
    (frame_turns f (framed f b) refl (node_loaded b) (λ k s is at. node_goes f b begin.fits.tree k begin.fits.unmoved s is at) w
    begin.between.nodes)

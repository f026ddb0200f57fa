-- A world as it is opened keeps the record between rounds.
use Rattle.seam_law_rounds.proofs.Prelude.{AllByRecursion}
use Rattle.seam_law_rounds.proofs.Prelude.{◌≡◌, ℕ, zero, suc, ◌+◌, ◌<◌, ◌≤◌, false, ◌||◌, is_some, List, [], ◌++◌, map, find, length}
use Rattle.seam_law_rounds.proofs.Prelude.{replicate, Option, None, Some, refl, sym, ap, ◌∙◌, subst, arith, option_map, slice_get}
use Rattle.seam_law_rounds.proofs.Prelude.{slice_index_or, range_with_len, nat_cmp, append-nil, length-append, length-replicate}
use Rattle.seam_law_rounds.proofs.Prelude.{All-replicate, slice_get-get_or, Settings, TypeDef, IsSquare, ArePeers, Ghost, GhostCopy}
use Rattle.seam_law_rounds.proofs.Prelude.{RealView, number_of, NextPlace, RouteView, PartView, cell_count, cell_numbers, real_is_ready}
use Rattle.seam_law_rounds.proofs.Prelude.{part_is_ready, client_is_ready, NodeView, World, node_peers, node_has_work, IsNode, empty_cell}
use Rattle.seam_law_rounds.proofs.Prelude.{empty_base, opened, Frame, IsAt, Has, no_cell, no_base, has_of, has_none, entity_flow, real_in}
use Rattle.seam_law_rounds.proofs.Prelude.{IsFrame, real_at, IsBetweenRounds, first_frame, entries_empty, first_tree, no_link, slots}
use Rattle.std.specs.FinMap as table
use Rattle.std.proofs.lemmas.List.FromFn.{length-map-range_with_len}
use Rattle.seam_machine.proofs.Quiet.{quiet_from}
use Rattle.seam_node_steps.specs.Prelude.{BringsNone}
use Rattle.seam_law_rounds.specs.Between.{KeepsRoute}

-- what is true of each that is made for a range of numbers, and of what comes after
each_range : {N : Type 0} (P : ℕ → N → Type 0) (make : ℕ → N) (a n : ℕ) (ys : List N) →
    ((j : ℕ) → a ≤ j → j < a + n → P j (make j)) → ((k : ℕ) (s : N) → slice_get ys k ≡ Some s → P (k + (a + n)) s) → (k : ℕ) (s : N) →
    slice_get (map make (range_with_len a n) ++ ys) k ≡ Some s → P (k + a) s
each_range P make a zero ys each rest k s at =
    let same : k + (a + 0) ≡ k + a = omega arith in
    subst (λ j. P j s) same (rest k s at)
each_range P make a (suc n) ys each rest zero s at =
    let same : a ≡ 0 + a = omega arith in
    let is : make a ≡ s = cc in
    subst (λ j. P j s) same (subst (P a) is (each a (omega arith) (omega arith)))
each_range P make a (suc n) ys each rest (suc k) s at =
    let same : k + (a + 1) ≡ suc k + a = omega arith in
    subst (λ j. P j s) same (each_range P make (a + 1) n ys (λ j high low. each j (omega (arith, high)) (omega (arith, low)))
    (λ i x there. let is : i + (a + suc n) ≡ i + (a + 1 + n) = omega arith in subst (λ j. P j x) is (rest i x there)) k s at)

none_there : {X : Type 0} (q : ℕ) (x : X) → table.get (table.empty {K = ℕ} {X = X} {R = nat_cmp}) q ≡ Some x → ⊥
none_there q x at = let none = sym (table.get-empty nat_cmp q) ∙ at in cc

-- what a node has of an entity, by its tables
abbrev slots_with : Option RealView → Option NextPlace → Option (Ghost GhostCopy) → Has
slots_with r n g = record { cell = record { slot = record { real = r; next = n; ghost = g }; survey = 0; looks = 0 }; base = no_base }

abbrev routes_with : Option RouteView → Option PartView → Has
routes_with r p = record { cell = no_cell; base = record { orders = []; route = r; part = p } }

no_slots : (r : Option RealView) (n : Option NextPlace) (g : Option (Ghost GhostCopy)) → r ≡ None → n ≡ None → g ≡ None →
    slots_with r n g ≡ has_none
no_slots r n g a b c =
    ap (λ x. slots_with x n g) a ∙ (ap (λ x. slots_with None x g) b ∙ ap (λ x. slots_with None None x) c)

no_routes : (r : Option RouteView) (p : Option PartView) → r ≡ None → p ≡ None → routes_with r p ≡ has_none
no_routes r p a b = ap (λ x. routes_with x p) a ∙ ap (λ x. routes_with None x) b

module _ (defs : List TypeDef) (settings : Settings) (frame : IsFrame (first_frame defs settings)) (bases : 1 ≤ settings.bases) where
  abbrev f : Frame
  f = first_frame defs settings

  abbrev w : World
  w = opened defs settings

  abbrev many : ℕ
  many = cell_count + settings.bases

  record IsOpen (k : ℕ) (s : NodeView) : Type 0 where
    node : IsNode s
    at : IsAt f k s
    peers : node_peers s ≡ many
    idle : node_has_work s ≡ false
    new : (e : ℕ) → has_of e s ≡ has_none
    kept : (e : ℕ) → KeepsRoute e s

  cell_open : (k : ℕ) → k < cell_count → IsOpen k (empty_cell defs settings k)
  cell_open k low = record {
    node = record {
      me_in = low;
      bases = bases;
      cells = frame.tree.cells_to;
      nexts = λ e n at. absurd (none_there e n at);
      keys = λ e r at. absurd (none_there e r at);
    };
    at = record { low = low; here = refl; tree = first_tree f; number = refl };
    peers = refl;
    idle = ap (λ es. is_some (option_map number_of (find real_is_ready es)) || false) entries_empty;
    new = λ e. no_slots _ _ _ (table.get-empty nat_cmp e) (table.get-empty nat_cmp e) (table.get-empty nat_cmp e);
    kept = λ e. tt;
  }

  base_open : (k : ℕ) → cell_count ≤ k → IsOpen k (empty_base defs settings k)
  base_open k high = record {
    node = record { bases = bases; cells = omega arith; routes = λ e r at. absurd (none_there e r at) };
    at = record { high = high; here = refl; cells = refl; orders = tt };
    peers = refl;
    idle =
        ap (λ es. is_some (find part_is_ready es) || is_some (find client_is_ready es)) entries_empty;
    new = λ e. no_routes _ _ (table.get-empty nat_cmp e) (table.get-empty nat_cmp e);
    kept = λ e. tt;
  }

  each_node : (k : ℕ) (s : NodeView) → slice_get w.nodes k ≡ Some s → IsOpen k s
  each_node k s at =
      let same : k + 0 ≡ k = omega arith in
      subst (λ j. IsOpen j s) same
      (each_range IsOpen (empty_cell defs settings) 0 cell_count (map (empty_base defs settings) (range_with_len cell_count settings.bases))
      (λ j high low. cell_open j low) (λ i x there. bases_open i x there) k s at)
    where
      bases_open : (i : ℕ) (x : NodeView) → slice_get (map (empty_base defs settings) (range_with_len cell_count settings.bases)) i ≡ Some x
          → IsOpen (i + cell_count) x
      bases_open i x there =
          each_range IsOpen (empty_base defs settings) cell_count settings.bases [] (λ j high low. base_open j high)
          (λ k s at. cc) i x (ap (λ l. slice_get l i) (append-nil _) ∙ there)

  many_is : length w.nodes ≡ many
  many_is =
      length-append (map (empty_cell defs settings) cell_numbers) (map (empty_base defs settings)
      (range_with_len cell_count settings.bases))
      ∙ ap (λ n. cell_count + n) (length-map-range_with_len (empty_base defs settings) cell_count settings.bases)

  square : IsSquare w
  square = record {
    rows = length-replicate many (replicate many []) ∙ sym many_is;
    links = All-replicate (λ l. length l ≡ length w.nodes) many (replicate many []) (length-replicate many [] ∙ sym many_is);
  }

  peers : ArePeers node_peers w
  peers k d lt = (each_node k (slice_index_or w.nodes k d) (slice_get-get_or w.nodes k d lt)).peers ∙ sym many_is

  -- each entity is new
  pub opened_is_new : (e k : ℕ) → (entity_flow e w).slot k ≡ has_none
  opened_is_new e k = slots (λ j h. h ≡ has_none) e w (λ j s at. (each_node j s at).new e) (λ j. refl) k

  pub opened_has_none : (e k : ℕ) → real_at e w k ≡ None
  opened_has_none e k = ap real_in (opened_is_new e k)

  pub opened_between : IsBetweenRounds f w
  opened_between = record {
    frame = frame;
    nodes = record {
      sound = record { square = square; peers = peers; states = λ k s at. (each_node k s at).node };
      nodes = λ k s at. (each_node k s at).at;
      letters = λ a k. subst (AllByRecursion BringsNone) (sym (no_link many many a k)) tt;
    };
    many = many_is;
    quiet = quiet_from node_has_work w (no_link many many) (λ k s at. (each_node k s at).idle);
    settled = λ e k r at. absurd (let z = sym (opened_has_none e k) ∙ at in cc);
    kept = λ e k r at j s there. (each_node j s there).kept e;
  }

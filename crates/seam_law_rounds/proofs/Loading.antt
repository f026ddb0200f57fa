-- A load changes each node by itself, and no link.
use Rattle.seam_law_rounds.proofs.Prelude.{◌≡◌, ℕ, Bool, true, false, cond, List, [], ◌∷◌, map, fold, Option, None, Some, refl, sym, ap}
use Rattle.seam_law_rounds.proofs.Prelude.{◌∙◌, subst, arith, option_map, AllByRecursion, nat_cmp, eq_by_cmp, nat_cmp_total, nat_tests}
use Rattle.seam_law_rounds.proofs.Prelude.{map-id, cells_of, Batch, Map, set_at, with_value, each_value, NodeView, World, with_nodes}
use Rattle.seam_law_rounds.proofs.Prelude.{created_at, attached, cell_round, base_round, ordered_at, loaded, each, node_loaded, get-set_at}
use Rattle.std.specs.FinMap as table
use Rattle.std.proofs.lemmas.Simd.{map-map}

module _ {A : Type 0} (g : A → NodeView → NodeView) where
  pub nodes_after : (w : World) (xs : List A) → fold (λ v x. with_nodes v (g x)) w xs ≡ with_nodes w (each g xs)
  nodes_after w [] = ap (λ ns. let v : World = record { nodes = ns; rows = w.rows } in v) (sym (map-id w.nodes))
  nodes_after w (x ∷ xs) =
      nodes_after (with_nodes w (g x)) xs
      ∙ ap (λ ns. let v : World = record { nodes = ns; rows = w.rows } in v) (map-map (each g xs) (g x) w.nodes)

  -- what each change keeps of a node is true after all of them
  pub each_keeps : (P : NodeView → Type 0) (Q : A → Type 0) → ((x : A) (s : NodeView) → Q x → P s → P (g x s)) → (xs : List A) →
      AllByRecursion Q xs → (s : NodeView) → P s → P (each g xs s)
  each_keeps P Q step [] all s h = h
  each_keeps P Q step (x ∷ xs) all s h = each_keeps P Q step xs all.1 (g x s) (step x s all.0 h)

-- no fact of an item is needed
abbrev pub Any : {A : Type 0} → A → Type 0
Any x = Unit {0}

pub any : {A : Type 0} (xs : List A) → AllByRecursion Any xs
any [] = tt
any (x ∷ xs) = (tt, any xs)

abbrev nodes_by : World → List NodeView → World
nodes_by w ns = record { nodes = ns; rows = w.rows }

pub loaded_is : (w : World) (b : Batch) → loaded w b ≡ with_nodes w (node_loaded b)
loaded_is w b =
    let begun : World = with_nodes w (base_round (cells_of b.tree)) in
    let creates : NodeView → NodeView = each (created_at b.tree) b.creates in
    let clients : NodeView → NodeView = each attached b.clients in
    nodes_after ordered_at (with_nodes (fold (λ v x. with_nodes v (attached x))
    (fold (λ v x. with_nodes v (created_at b.tree x)) begun b.creates) b.clients) (cell_round b.tree)) b.orders
    ∙ ap (λ v. with_nodes (with_nodes v (cell_round b.tree)) (each ordered_at b.orders))
    (nodes_after attached (fold (λ v x. with_nodes v (created_at b.tree x)) begun b.creates) b.clients
    ∙ ap (λ v. with_nodes v clients) (nodes_after (created_at b.tree) begun b.creates))
    ∙ ap (nodes_by w) (map-map (each ordered_at b.orders) (cell_round b.tree) (map clients (map creates begun.nodes))
    ∙ map-map (λ s. each ordered_at b.orders (cell_round b.tree s)) clients (map creates begun.nodes)
    ∙ map-map (λ s. each ordered_at b.orders (cell_round b.tree (clients s))) creates begun.nodes
    ∙ map-map (λ s. each ordered_at b.orders (cell_round b.tree (clients (creates s)))) (base_round (cells_of b.tree)) w.nodes)

pub node_there : (o : Option NodeView) (g : NodeView → NodeView) (t : NodeView) → option_map g o ≡ Some t →
    (s : NodeView) × (o ≡ Some s) × (g s ≡ t)
node_there None g t h = absurd (let z = h in cc)
node_there (Some s) g t h = let same : g s ≡ t = cc in (s, refl, same)

-- ---- maps

-- what is true of each value, and of the one that is set, is true after it is set
module _ {X : Type 0} (P : ℕ → X → Type 0) where
  set_by : (q e : ℕ) (o p : Option X) (x : X) (b : Bool) → eq_by_cmp nat_cmp q e ≡ b → (p ≡ Some x → P q x) → (o ≡ Some x → P e x) →
      cond b o p ≡ Some x → P q x
  set_by q e o p x true is h k at = let same : e ≡ q = grind (arith, nat_tests, is) in subst (λ j. P j x) same (k at)
  set_by q e o p x false is h k at = h at

  pub set_keeps : (m : Map X) (e : ℕ) (o : Option X) → ((q : ℕ) (x : X) → table.get m q ≡ Some x → P q x) →
      ((x : X) → o ≡ Some x → P e x) → (q : ℕ) (x : X) → table.get (set_at m e o) q ≡ Some x → P q x
  set_keeps m e o h k q x at =
      set_by q e o (table.get m q) x (eq_by_cmp nat_cmp q e) refl (h q x) (k x) (sym (get-set_at m e q o) ∙ at)

module _ {X Y : Type 0} (f : X → Y) where
  each_by : (b : Bool) (x : X) (o : Option Y) (p : Option X) → o ≡ option_map f p → cond b (Some (f x)) o ≡ option_map f (cond b (Some x) p)
  each_by true x o p h = refl
  each_by false x o p h = h

  find_each : (q : ℕ) (es : List (ℕ × X)) → table.find nat_cmp q (map (with_value f) es) ≡ option_map f (table.find nat_cmp q es)
  find_each q [] = refl
  find_each q (p ∷ ps) =
      each_by (eq_by_cmp nat_cmp q p.0) p.1 (table.find nat_cmp q (map (with_value f) ps)) (table.find nat_cmp q ps) (find_each q ps)

  pub get-each_value : (m : Map X) (q : ℕ) → table.get (each_value f m) q ≡ option_map f (table.get m q)
  get-each_value m q =
      table.get-from_entries nat_cmp_total (map (with_value f) (table.entries m)) q
      ∙ find_each q (table.entries m)
      ∙ ap (option_map f) (sym (table.get-entries m q))

-- Of a batch the creates alone say who holds a real in the loaded world.
use Rattle.seam_law_book.proofs.Prelude.{◌≡◌, ℕ, ◌+◌, Bool, true, false, cond, List, [], ◌∷◌, map, Option, Some, None, refl, sym, ap, ◌∙◌}
use Rattle.seam_law_book.proofs.Prelude.{arith, option_map, nat_cmp, eq_by_cmp, nat_tests, Division, cells_of, total, Order, Batch}
use Rattle.seam_law_book.proofs.Prelude.{RealView, real_begins, one_if_real, held_at, carried, holders, NodeView, World, Cell, Base}
use Rattle.seam_law_book.proofs.Prelude.{created_at, with_witness, attached, cell_round, base_round, ordered_at, loaded, each, node_loaded}
use Rattle.seam_law_book.proofs.Prelude.{get-set_at, each_keeps, Any, any, loaded_is, get-each_value}
use Rattle.std.specs.FinMap as table
use Rattle.seam_net_runs.specs.Weights.{links_weight}

same_one : (g : RealView → RealView) (o : Option RealView) → one_if_real (option_map g o) ≡ one_if_real o
same_one g None = refl
same_one g (Some r) = refl

module _ (e : ℕ) where
  joined_by : (g : RealView → RealView) (q : ℕ) (m : table.FinMap nat_cmp RealView) (c : Bool) → eq_by_cmp nat_cmp e q ≡ c →
      one_if_real (cond c (option_map g (table.get m q)) (table.get m e)) ≡ one_if_real (table.get m e)
  joined_by g q m true is =
      let at : e ≡ q = grind (arith, nat_tests, is) in
      same_one g (table.get m q) ∙ ap (λ j. one_if_real (table.get m j)) (sym at)
  joined_by g q m false is = refl

  held_joined : (q : ℕ) (s : NodeView) → held_at e (attached q s) ≡ held_at e s
  held_joined q (Cell c) =
      ap one_if_real (get-set_at c.reals q e (option_map (with_witness c.here) (table.get c.reals q)))
      ∙ joined_by (with_witness c.here) q c.reals (eq_by_cmp nat_cmp e q) refl
  held_joined q (Base n) = refl

  held_round : (t : Division) (s : NodeView) → held_at e (cell_round t s) ≡ held_at e s
  held_round t (Cell c) = ap one_if_real (get-each_value real_begins c.reals e) ∙ same_one real_begins (table.get c.reals e)
  held_round t (Base n) = refl

  held_ordered : (o : ℕ × Order) (s : NodeView) → held_at e (ordered_at o s) ≡ held_at e s
  held_ordered o (Cell c) = refl
  held_ordered o (Base n) = refl

  -- what the creates make of a node
  abbrev making : Batch → NodeView → NodeView
  making b s = each (created_at b.tree) b.creates (base_round (cells_of b.tree) s)

  held_loaded : (b : Batch) (s : NodeView) → held_at e (node_loaded b s) ≡ held_at e (making b s)
  held_loaded b s =
      let m = making b s in
      let j = each attached b.clients m in
      each_keeps ordered_at (λ n. held_at e n ≡ held_at e (cell_round b.tree j)) Any (λ o n u h. held_ordered o n ∙ h) b.orders
      (any b.orders) (cell_round b.tree j) refl
      ∙ held_round b.tree j
      ∙ each_keeps attached (λ n. held_at e n ≡ held_at e m) Any (λ q n u h. held_joined q n ∙ h) b.clients (any b.clients) m refl

  same_total : (g k : NodeView → NodeView) → ((s : NodeView) → held_at e (g s) ≡ held_at e (k s)) → (ns : List NodeView) →
      total (held_at e) (map g ns) ≡ total (held_at e) (map k ns)
  same_total g k same [] = refl
  same_total g k same (s ∷ ns) = let a = same s in let b = same_total g k same ns in omega (arith, a, b)

  pub same_holders : (w : World) (b c : Batch) → b.tree ≡ c.tree → b.creates ≡ c.creates → holders (loaded w b) e ≡ holders (loaded w c) e
  same_holders w b c tree creates =
      let makes : (s : NodeView) → held_at e (node_loaded b s) ≡ held_at e (node_loaded c s) =
      λ s. held_loaded b s ∙ (λ i. held_at e (each (created_at (tree i)) (creates i) (base_round (cells_of (tree i)) s)))
      ∙ sym (held_loaded c s) in
      let links = links_weight (carried e) w.rows in
      ap (λ v. holders v e) (loaded_is w b)
      ∙ ap (λ n. n + links) (same_total (node_loaded b) (node_loaded c) makes w.nodes)
      ∙ sym (ap (λ v. holders v e) (loaded_is w c))

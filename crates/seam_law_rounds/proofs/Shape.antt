-- Every list of events keeps the number of nodes, and what base nodes forget; and an entity's real is somewhere, or nowhere.
use Rattle.seam_law_rounds.proofs.Prelude.{◌≡◌, ℕ, zero, suc, ◌⊎◌, List, [], ◌∷◌, length, Option, None, Some, refl, sym, ◌∙◌, inl, inr}
use Rattle.seam_law_rounds.proofs.Prelude.{subst, slice_get, Event, Msg, RealView, NodeView, World, node_steps, slot_at, has_of, has_none}
use Rattle.seam_law_rounds.proofs.Prelude.{real_in, RunsTo, real_at, AllByRecursion, RunsKeep, runs_keep}
use Rattle.seam_machine.proofs.Occurring.{length-happens}
use Rattle.seam_net_runs.proofs.Keeping.{each_node}
use Rattle.seam_node_steps.specs.Prelude.{Input, Cell, Base}
use Rattle.seam_node_steps.proofs.ValidBases.{base_frame}
use Rattle.seam_law_rounds.specs.Between.{KeepsRoute, KeepsRoutes}

pub many_leads : (w v : World) (es : List Event) → RunsTo w es v → length v.nodes ≡ length w.nodes
many_leads w v es run =
    runs_keep (λ x. length x.nodes ≡ length w.nodes) (λ x a o same. length-happens node_steps x a o ∙ same) w v es refl run

-- no step makes a base node forget more routes
module _ (e : ℕ) where
  keeps_steps : (s : NodeView) (i : Input Msg) → KeepsRoute e s → KeepsRoute e (node_steps s i).state
  keeps_steps (Cell c) i h = tt
  keeps_steps (Base b) i h = subst (AllByRecursion (λ x. x ≡ e → ⊥)) (sym (base_frame b i).gone) h

  pub keeps_leads : RunsKeep (KeepsRoutes e)
  keeps_leads =
      runs_keep (KeepsRoutes e)
      (λ x a o h. each_node (λ k s. KeepsRoute e s) node_steps x a o h (keeps_steps o.node o.input (h a.node o.node o.is_node)))

-- ---- where the real is

abbrev pub Somewhere : ℕ → World → Type 0
Somewhere e w = (k : ℕ) × (r : RealView) × (real_at e w k ≡ Some r)

abbrev pub Nowhere : ℕ → World → Type 0
Nowhere e w = (k : ℕ) → real_at e w k ≡ None

module _ (e : ℕ) where
  abbrev At : List NodeView → ℕ → Option RealView
  At xs k = real_in (slot_at (has_of e) has_none (slice_get xs k))

  search_by : (x : NodeView) (xs : List NodeView) (o : Option RealView) → real_in (has_of e x) ≡ o →
      ((k : ℕ) × (r : RealView) × (At xs k ≡ Some r)) ⊎ ((k : ℕ) → At xs k ≡ None) →
      ((k : ℕ) × (r : RealView) × (At (x ∷ xs) k ≡ Some r)) ⊎ ((k : ℕ) → At (x ∷ xs) k ≡ None)
  search_by x xs (Some r) at more = inl (0, r, at)
  search_by x xs None at (inl p) = inl (suc p.0, p.1, p.2)
  search_by x xs None at (inr n) = inr none
    where
      none : (k : ℕ) → At (x ∷ xs) k ≡ None
      none zero = at
      none (suc k) = n k

  search_in : (xs : List NodeView) → ((k : ℕ) × (r : RealView) × (At xs k ≡ Some r)) ⊎ ((k : ℕ) → At xs k ≡ None)
  search_in [] = inr (λ k. refl)
  search_in (x ∷ xs) = search_by x xs (real_in (has_of e x)) refl (search_in xs)

  pub search_real : (w : World) → Somewhere e w ⊎ Nowhere e w
  search_real w = search_in w.nodes

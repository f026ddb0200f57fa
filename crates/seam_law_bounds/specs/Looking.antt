-- How much there is to look at.
use Rattle.std.specs.Prelude.{◌≡◌, ℕ, ◌≤◌, Bool, true, nat_eq, List, ◌∷◌, length, Some, slice_get}
use Rattle.std.specs.List.{AllByRecursion, list_any}
use Rattle.std.specs.Map.{keys_of}
use Rattle.std.specs.FinMap as table
use Rattle.seam_node_steps.specs.Prelude.{Event, copy_in, GhostCopy, RealView, WitnessView, holders, looks_of, CellView, known_to}
use Rattle.seam_node_steps.specs.Prelude.{witnesses, BaseView, PartView, proxy_is_ready, may_show, World, Cell, Base}
use Rattle.seam_law_calls.specs.Prelude.{RunsTo, real_at}
use Rattle.seam_view.specs.Replica.{IsView}
use Rattle.seam_law_bounds.specs.Weights.{Sizes}

-- the look that is due next in a cell has no more lines for other entities, and the cell has no more witnesses, than there are
pub record LooksFit (z : Sizes) (w : World) : Type 0 where
  pub lines : (k : ℕ) (c : CellView) → slice_get w.nodes k ≡ Some (Cell c) → (e : ℕ) (es : List ℕ) (r : RealView) (x : WitnessView) →
      c.looks ≡ e ∷ es → table.get c.reals e ≡ Some r → r.witness ≡ Some x → length (looks_of r x (known_to c e)) ≤ z.lines
  pub witnesses : (k : ℕ) (c : CellView) → slice_get w.nodes k ≡ Some (Cell c) → length (witnesses c) ≤ z.witnesses k

-- each client that has a ready update may be shown it: its next line has a number
abbrev pub ClientsKeepRoom : World → Type 0
ClientsKeepRoom w =
    (k : ℕ) (b : BaseView) → slice_get w.nodes k ≡ Some (Base b) → (e : ℕ) (p : PartView) → table.get b.parts e ≡ Some p →
    proxy_is_ready p.proxy ≡ true → may_show p.proxy ≡ true

-- the fact holds over every list of events from w
abbrev pub Always : (World → Type 0) → World → Type 0
Always P w = (v : World) (es : List Event) → RunsTo w es v → P v

-- ---- what a world has to look at

-- each entity that a witness has in view has a holder
abbrev pub EachSeenIsHeld : World → Type 0
EachSeenIsHeld w =
    (e k : ℕ) (r : RealView) → real_at e w k ≡ Some r → (x : WitnessView) → r.witness ≡ Some x →
    AllByRecursion (λ p. holders w p.0 ≡ 1) x.view.entries

abbrev pub is_among : List ℕ → ℕ → Bool
is_among es e = list_any (nat_eq e) es

abbrev pub AllAmong : List ℕ → List ℕ → Type 0
AllAmong us es = AllByRecursion (λ e. is_among us e ≡ true) es

-- Cells have reals and copies of entities of the list alone, views name no others, and none twice, and the witnesses in cell k are among
-- `witnesses k`.
pub record LooksAmong (us : List ℕ) (ws : ℕ → List ℕ) (w : World) : Type 0 where
  pub reals : (k : ℕ) (c : CellView) → slice_get w.nodes k ≡ Some (Cell c) → (e : ℕ) (r : RealView) → table.get c.reals e ≡ Some r →
      is_among us e ≡ true
  pub copies : (k : ℕ) (c : CellView) → slice_get w.nodes k ≡ Some (Cell c) → (e : ℕ) (x : GhostCopy) →
      copy_in (table.get c.ghosts e) ≡ Some x → is_among us e ≡ true
  pub views : (k : ℕ) (c : CellView) → slice_get w.nodes k ≡ Some (Cell c) → (e : ℕ) (r : RealView) (x : WitnessView) →
      table.get c.reals e ≡ Some r → r.witness ≡ Some x → IsView x.view × AllAmong us (keys_of x.view.entries)
  pub witnesses : (k : ℕ) (c : CellView) → slice_get w.nodes k ≡ Some (Cell c) → (e : ℕ) (r : RealView) (x : WitnessView) →
      table.get c.reals e ≡ Some r → r.witness ≡ Some x → is_among (ws k) e ≡ true

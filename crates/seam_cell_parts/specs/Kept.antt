-- What a cell keeps beside what is seen of it.
use Rattle.std.specs.Prelude.{◌≡◌, ℕ, Bool, true, false, is_some, List, map, filter, Option, None, Some}
use Rattle.std.specs.FinMap as table
use Rattle.std.specs.FinSet as set
use Rattle.seam_node_steps.specs.Prelude.{Division, IsInSpace, AreLegal, Here, RealView, all_held, fits_cell_part, node_with, Map}
use Rattle.seam_node_steps.specs.Prelude.{with_entity, number_of, CellView, real_is_ready, has_witness, IsCell}
use Rattle.seam_cell_parts.specs.declared.context.CellContext.{CellContext}
use Rattle.seam_cell_parts.specs.declared.reals.Reals.{Reals}
use Rattle.seam_cell_parts.specs.declared.remotes.Remotes.{Remotes}
use Rattle.seam_cell_parts.specs.declared.lists.Lists.{Lists}

-- ---- marks

-- the numbers of the entries that pass the test, in rising order
abbrev pub marked : {X : Type 0} → (ℕ × X → Bool) → Map X → List ℕ
marked test m = map number_of (filter test (table.entries m))

-- the numbers, with e where the first is true
abbrev pub with_mark : Bool → ℕ → List ℕ → List ℕ
with_mark true e es = with_entity e es
with_mark false e es = es

-- just the reals with a ready call are marked as ready, and just those with a witness as witnesses
pub record AreKept (r : Reals) : Type 0 where
  pub ready : r.ready ≡ marked real_is_ready r.items.items
  pub witnesses : r.witnesses ≡ marked has_witness r.items.items

-- no real of entity e is here; there is room for one, with a witness or without: it is marked so, and as ready
pub record IsOpen (r : Reals) (e : ℕ) (witness : Bool) : Type 0 where
  pub gone : table.get r.items.items e ≡ None
  pub room : set.contains r.items.room e ≡ true
  pub ready : r.ready ≡ with_entity e (marked real_is_ready r.items.items)
  pub witnesses : r.witnesses ≡ with_mark witness e (marked has_witness r.items.items)

-- there is room for what is left of the real of entity e
abbrev pub IsOpenFor : Reals → ℕ → Option RealView → Type 0
IsOpenFor r e None = (witness : Bool) × IsOpen r e witness
IsOpenFor r e (Some q) = IsOpen r e (is_some q.witness)

-- ---- the cell

abbrev pub here_in : CellContext → Here
here_in k = node_with k.defs k.me k.settings

-- the cell of these parts
abbrev pub cell_of : CellContext → Reals → Remotes → Lists → CellView
cell_of k r p l = record {
  here = here_in k;
  tree = k.bounds.tree;
  number = k.bounds.number;
  reals = r.items.items;
  nexts = p.nexts.items;
  ghosts = p.copies.ghosts;
  survey = l.survey;
  looks = l.looks;
}

-- the real is in the space, and so are the places to which calls that it holds move it
pub record IsRealInSpace (h : Here) (t : Division) (r : RealView) : Type 0 where
  pub inside : IsInSpace t r.state.pos
  pub held : all_held (fits_cell_part h r.entity r.ty) r.orders ≡ true

abbrev pub AreRealsInSpace : Here → Division → Map RealView → Type 0
AreRealsInSpace h t m = (e : ℕ) (r : RealView) → table.get m e ≡ Some r → IsRealInSpace h t r

-- it is a cell, its settings are ones that a header may set, and its tree and its reals are in the space of that size
pub record IsKept (c : CellView) : Type 0 where
  pub cell : IsCell c
  pub legal : AreLegal c.here.settings
  pub size : c.tree.size ≡ c.here.settings.size
  pub there : AreRealsInSpace c.here c.tree c.reals

-- the cell is kept, and so are the marks of its reals
pub record AreWhole (k : CellContext) (r : Reals) (p : Remotes) (l : Lists) : Type 0 where
  pub cell : IsKept (cell_of k r p l)
  pub marks : AreKept r

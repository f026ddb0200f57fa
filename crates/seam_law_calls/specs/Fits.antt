-- What fits: an entity's real, its calls, and what each node has of it and each link brings about it.
use Rattle.std.specs.Prelude.{◌≡◌, ℕ, ◌<◌, true, Option, Some}
use Rattle.std.specs.FinSet as set
use Rattle.seam_node_steps.specs.Prelude.{cells_of, IsOfGroup, RealView, Msg, Hand, is_inside, properties, all_held, fits_cell_part}
use Rattle.seam_defs.specs.declared.flags.Group.TheVariants as group
use Rattle.seam_law_calls.specs.Frames.{Frame, here_at}
use Rattle.seam_node_steps.specs.Prelude.{Boundaries}

-- the real is one of entity e and of type ty, has values of the group, is in the space, and each call that it holds fits; it is in cell
-- k or on its way there, and that cell and its haunts are cells of the trees
pub record RealFits (f : Frame) (e ty k : ℕ) (r : RealView) : Type 0 where
  pub entity : r.entity ≡ e
  pub type : r.ty ≡ ty
  pub values : IsOfGroup (properties (here_at f k) r.ty) group.Real r.state.props
  pub inside : is_inside f.settings.size r.state.pos ≡ true
  pub held : all_held (fits_cell_part (here_at f k) r.entity r.ty) r.orders ≡ true
  pub home : k < cells_of f.tree
  pub haunts : (j : ℕ) → set.contains r.haunts j ≡ true → j < cells_of f.tree

-- the real, if there is one, fits
abbrev pub IsFitReal : Frame → ℕ → ℕ → ℕ → Option RealView → Type 0
IsFitReal f e ty k o = (r : RealView) → o ≡ Some r → RealFits f e ty k r

-- the real that a letter to node k carries, if it carries one, fits
abbrev pub IsFitHand : Frame → ℕ → ℕ → ℕ → Msg → Type 0
IsFitHand f e ty k m = (r : RealView) (bs : Option Boundaries) → m ≡ Hand r bs → RealFits f e ty k r

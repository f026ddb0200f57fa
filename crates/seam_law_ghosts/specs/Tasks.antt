-- Tasks of a cell that it can do.
use Rattle.std.specs.Prelude.{◌≡◌, ℕ, true, false, is_some, List, ◌∷◌, Some}
use Rattle.std.specs.FinMap as table
use Rattle.seam_node_steps.specs.Prelude.{RealView, has_ready, stray_survey, stray_ready_call, CellView}

-- The first entity of the survey list is here and may settle, each real with a ready call may execute it, and the first entity of the look
-- list is here and has a witness. (That the witness's updates have numbers is left to the laws of what clients are shown.)
pub record HasNoStrayTask (c : CellView) : Type 0 where
  pub survey : (e : ℕ) (es : List ℕ) → c.survey ≡ e ∷ es → stray_survey (table.get c.reals e) ≡ false
  pub ready : (e : ℕ) (r : RealView) → table.get c.reals e ≡ Some r → has_ready r.orders ≡ true → stray_ready_call (Some r) ≡ false
  pub looks : (e : ℕ) (es : List ℕ) → c.looks ≡ e ∷ es → (r : RealView) × (table.get c.reals e ≡ Some r) × (is_some r.witness ≡ true)

-- A round from its load to where nothing moves.
use Rattle.std.proofs.Common.{◌≡◌, ℕ, ◌<◌, true, List, Some}
use Rattle.std.specs.Prelude.{slice_get}
use Rattle.std.specs.FinMap as table
use Rattle.seam_node_steps.specs.Prelude.{Batch, Cell, CellView, Division, Event, IsQuiet, RealView, World, boundaries_of, cells_of, loaded}
use Rattle.seam_node_steps.specs.Prelude.{may_settle, node_has_work}
use Rattle.seam_law_calls.specs.Prelude.{Frame, RunsTo}
use Rattle.seam_law_ghosts.specs.Prelude.{IsRestful}
use Rattle.seam_law_slides.specs.Prelude.{AreLast, MaySlide, framed_with}
use Rattle.seam_law_slides.proofs.Awaiting.{last_at_end}
use Rattle.seam_law_slides.proofs.Places.{end_rests}
use Rattle.seam_law_slides.proofs.Loads.{awaited_loaded, rest_loaded, round_loaded}

module _ (f : Frame) (w : World) (b : Batch) (later : List Division) (may : MaySlide f w b later) (v : World) (es : List Event)
    (run : RunsTo (loaded w b) es v) (quiet : IsQuiet node_has_work v) (k : ℕ) (c : CellView) (low : k < cells_of b.tree)
    (at : slice_get v.nodes k ≡ Some (Cell c)) where
  pub ends_last : AreLast (framed_with f b later) (boundaries_of c)
  ends_last =
      last_at_end (framed_with f b later) may.frame may.space k low (loaded w b) v es (round_loaded f w b later may)
      (awaited_loaded f w b later may k low) run quiet c at

  pub ends_restful : (e : ℕ) (r : RealView) → table.get c.reals e ≡ Some r → may_settle r ≡ true → IsRestful f.settings c.tree k r
  ends_restful =
      end_rests (framed_with f b later) may.frame may.space (loaded w b) v es (round_loaded f w b later may)
      (rest_loaded f w b later may) (awaited_loaded f w b later may) run quiet k c low at (boundaries_of c) ends_last

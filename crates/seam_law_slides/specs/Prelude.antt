-- What the crates above cite of this one, gathered, so that one import names it.
pub use Rattle.seam_law_slides.specs.Awaited.{AreAwaited, at_node, has_number, on_way, one_if, places_of_bounds, told_by_order}
pub use Rattle.seam_law_slides.specs.Resting.{AreAtRest, AreHandsAtRest, IsCellAtRest, IsHandAtRest, IsNodeAtRest, tree_by}
pub use Rattle.seam_law_slides.specs.Rounds.{AreLast, AreOfRound, BringOfRound, BringsOfRound, DivideTheSpace, GoesByRound, IsBaseOf}
pub use Rattle.seam_law_slides.specs.Rounds.{IsCellOf, IsNodeOf, TellsOfRound}
pub use Rattle.seam_law_slides.specs.Sliding.{MaySlide, TellsTheLast, framed_with}
pub use Rattle.seam_law_slides.specs.SlideExample.{moved_cells, slid, sliding}

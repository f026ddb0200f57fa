-- What the crates above cite of this one and of those below it, gathered, so that one import names it.
pub use Rattle.seam_law_ghosts.specs.Copies.{AreCopiesBetweenRounds, AreSettled, IsForgotten, NewestAreWanted, copy_at, present, wanted}
pub use Rattle.seam_law_ghosts.specs.Entries.{Entry, book_entry, brings}
pub use Rattle.seam_law_ghosts.specs.GhostMoves.{Executes, GhostMoves, IsMissed, IsPlacedAlike, executes, going}
pub use Rattle.seam_law_ghosts.specs.GhostMoves.{left_entry, nothing, staying, told_settling}
pub use Rattle.seam_law_ghosts.specs.RealPlaces.{ArePlaced, AreRestful, BeginsAt, GoesThroughRound, IsDue, IsOnItsWay, IsPlaced, IsRestful}
pub use Rattle.seam_law_ghosts.specs.RealPlaces.{IsRestfulHand, IsRightPlace, HadSameReal}
pub use Rattle.seam_law_ghosts.specs.RealPlaces.{distances_of, first_place, home_of, made_real, path_of, place_of, positions_after, waits}
pub use Rattle.seam_law_ghosts.specs.Tasks.{HasNoStrayTask}
pub use Rattle.seam_law_ghosts.specs.Truths.{IsHushed, IsOfTable, IsTable, IsTrue, IsTrueCopy, shown_at}

-- What the crates above cite of this one and of those below it, gathered, so that one import names it.
pub use Rattle.seam_law_book.specs.Books.{IsAccepted, IsOfLines, MayReplace, accepts, as_begun, balances, empty, ends}
pub use Rattle.seam_law_book.specs.Bringing.{AreNumberedFrom, GetsClient, HasFitRound, IsFitCall, IsInside, IsNewEntity, IsSenderOf}
pub use Rattle.seam_law_book.specs.Bringing.{HasEntity, IsPresent, IsUntouched, StaysInside, calls_from, entity_of, last_number, made_among}
pub use Rattle.seam_law_book.specs.ExecutedRound.{AreInTable, ArePartsInTable, BeginsPart, BeginsReal, IsDoneOn, IsInTable, IsPartInTable}
pub use Rattle.seam_law_book.specs.ExecutedRound.{done_by_part, done_by_real, done_in, with_done}
pub use Rattle.seam_law_book.specs.Going.{GoesWith, HasRoomForCalls, HasRoomForRound, IsHeld, Lives, base_node, frame_of}
pub use Rattle.seam_law_book.specs.LookUps.{copy_here, part_here, real_here}
pub use Rattle.seam_law_book.specs.Playing.{AreOrdersBefore, HasEnded, MayPlay}
pub use Rattle.seam_law_book.specs.Standings.{AreInPlace, base_read, ghost_read, ghosts_read, home_read}

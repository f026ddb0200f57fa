-- What the crates above cite of this one and of those below it, gathered, so that one import names it.
pub use Rattle.seam_law_transcript.specs.Beside.{GoesBetween, HasPlayableRound, may_play}
pub use Rattle.seam_law_transcript.specs.BrokenOff.{HasNextLine, MayBreakOff, as_it_is, one_accepted, one_read}
pub use Rattle.seam_law_transcript.specs.Counts.{HasFewNumbers, MayEnd, most_lines, most_lines_of_look}
pub use Rattle.seam_law_transcript.specs.Course.{GoesOn}
pub use Rattle.seam_law_transcript.specs.OneReal.{HasOneReal}
pub use Rattle.seam_law_transcript.specs.Phases.{EndCalls, EndReaps, Ends, dying}
pub use Rattle.seam_law_transcript.specs.Playing.{ContinuesLines, IsPlayed, clients_ended_in, data_of, standing_of}
pub use Rattle.seam_law_transcript.specs.Radius.{ClientsSeeAll, IsShownPresent, ShowsPresent}
pub use Rattle.seam_law_transcript.specs.Reading.{base_if, bases_read, client_lines, home_if, homes_read, lines_shown, lines_told}
pub use Rattle.seam_law_transcript.specs.Reading.{place_read, round_read, standing_read}
pub use Rattle.seam_law_transcript.specs.Turns.{AreFirstCalls, ExecutesInTurn, HasFirstCalls, KeepsFirstCalls}

-- What the crates above cite of this one and of those below it, gathered, so that one import names it.
pub use Rattle.seam_law_clients.specs.BaseLines.{ShowsItsPart, base_in, base_lines, first_lines, line_where, lines_after, number_of_line}
pub use Rattle.seam_law_clients.specs.BaseLines.{state_after, state_with}
pub use Rattle.seam_law_clients.specs.Replicas.{clients_loaded, clients_shown}
pub use Rattle.seam_law_clients.specs.Crossing.{batch, look_0, look_11, look_steps, steps}
pub use Rattle.seam_law_clients.specs.Fits.{FitsWithin, KnowsTruth, truth_of_look}
pub use Rattle.seam_law_clients.specs.Phases.{HaveRoomToLook, having_looked, looked_by, witness_looked}
pub use Rattle.seam_law_clients.specs.RoundTruths.{WasOther, known_between, true_between}
pub use Rattle.seam_law_clients.specs.Tables.{row_in, row_of_real, rows_at, rows_of}
pub use Rattle.seam_law_clients.specs.Telling.{ComesBetween, IsTrueBetween, TellsRightly}
pub use Rattle.seam_law_clients.specs.Witnesses.{ClientsFit, FitsWitness, own_now, version_in}

-- What the crates above cite of this one and of those below it, gathered, so that one import names it.
pub use Rattle.seam_law_all.specs.CallLaws.{EndsRightly, ObeysLaws}
pub use Rattle.seam_law_all.specs.LookLaws.{AreShownOneLook, ObeysLawsOfLooks, clients_looked, shown_to}
pub use Rattle.seam_law_all.specs.Reaps.{AreGone, ObeysLawsOfReaps}
pub use Rattle.seam_law_all.specs.Records.{KeepsRecords, KeepsRecordsWithin, MayBeGiven, may_begin, may_load}

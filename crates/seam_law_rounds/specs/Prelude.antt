-- What the crates above cite of this one and of those below it, gathered, so that one import names it.
pub use Rattle.seam_law_rounds.specs.Between.{AreNumbered, HasNoWitness, IsBetweenRounds, IsFitOrder, IsFitting, IsForReal, IsNew}
pub use Rattle.seam_law_rounds.specs.Between.{IsSettled, MayBeMade, MayBegin, calls_at, calls_of, cell_call_from, created_entity, framed}
pub use Rattle.seam_law_rounds.specs.Between.{NeverShown, next_from, numbers_of, order_in}
pub use Rattle.seam_law_rounds.specs.OpeningExample.{opening}
pub use Rattle.seam_law_rounds.specs.LastPhases.{AreReapable, HasNoCalls, HasNoCallsToBase, first_frame, reap_comes}
pub use Rattle.seam_law_rounds.specs.Loaded.{each, made, node_loaded}
pub use Rattle.seam_law_rounds.specs.SettledParts.{AreBaseNumbered, AreFor, AreInStep, FitsParts, HasPartsBetweenRounds, HasSettledPart}
pub use Rattle.seam_law_rounds.specs.SettledParts.{HasSmallNumbers, IsFitBaseOrder, IsForPart, IsServed, MayBeLoaded, StaysWithoutClient}
pub use Rattle.seam_law_rounds.specs.SettledParts.{bare, base_calls_at, base_calls_of, lines_of, next_to, served}
pub use Rattle.seam_law_rounds.specs.Routes.{NewestRouteIsRight, as_entry, route_entry, sent_route}

-- What the crates above cite of this one and of those below it, gathered, so that one import names it.
pub use Rattle.seam_law_flow.specs.CallMoves.{Only, Passes, Quiet, Twice, desk_then, offered, offers, once, place_then, rests, sends, taken}
pub use Rattle.seam_law_flow.specs.CallMoves.{takes, twice}
pub use Rattle.seam_law_flow.specs.Deliveries.{Delivery, at_once, more_issued}
pub use Rattle.seam_law_flow.specs.Desks.{AreInTurn, Desk, InTurn, IsLoaded, IsStill, Item, Mail, Parcel, Post, WaitsOnce, bears, desk_of}
pub use Rattle.seam_law_flow.specs.Desks.{held_in, keeps, kept_at, one, packed, parcel_of}
pub use Rattle.seam_law_flow.specs.Flows.{Flow, Goes, IsHead, comes, flow_of, letter_in, letters_of, mail_left, more_letter, slot_at}
pub use Rattle.seam_law_flow.specs.Lives.{IsToward, Lasts, Life}
pub use Rattle.seam_law_flow.specs.Narrow.{narrow, toward}
pub use Rattle.seam_law_flow.specs.Newest.{AllBring, Has, Newest, NotAbove, OfEntry, entry_in, greater_entry}
pub use Rattle.seam_law_flow.specs.Numbered.{number_from, numbered, of_number}
pub use Rattle.seam_law_flow.specs.Sent.{HasOwnTargets, IsSilent, item_of}
pub use Rattle.seam_law_flow.specs.Tokens.{Handles, In, Nobody, On, SendsNone, SendsOne, Sole, SoleIn, SoleOn, TokenPlace, Turned}
pub use Rattle.seam_law_flow.specs.Tokens.{carried_in, lands, leaves, one_if, place_after, relays, still, token_after, turns}

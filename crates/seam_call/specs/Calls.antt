-- Which part of an entity a call is for, and from whom.
use Rattle.std.specs.Prelude.{ℕ, Bool, ◌&&◌, ◌==◌}
use Rattle.seam_defs.specs.declared.flags.Part.{Part}
pub use Rattle.seam_defs.specs.Tests.{same_part}
use Rattle.seam_call.specs.declared.call.Call.{Call}
use Rattle.seam_call.specs.declared.sender.Sender.{Sender}
use Rattle.seam_call.specs.Senders.{same_sender}

-- whether a call is for a part of an entity
abbrev pub is_for : Part → ℕ → Call → Bool
is_for p e c = (c.entity == e) && same_part c.part p

-- whether it is also from a sender
abbrev pub is_from : Part → ℕ → Sender → Call → Bool
is_from p e s c = is_for p e c && same_sender c.sender s

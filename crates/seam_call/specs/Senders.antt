-- Who sends calls.
use Rattle.std.specs.Prelude.{ℕ, ◌+◌, Bool, false, ◌==◌}
use Rattle.seam_defs.specs.declared.limits.TheConstants.{MOST_BASE_NODES}
use Rattle.seam_call.specs.BaseNodes.{IsBaseNode}
use Rattle.seam_call.specs.declared.sender.Sender.{Sender}
use Rattle.seam_call.specs.declared.sender.Sender.TheVariants.{Base, Client}

-- whether two senders are the same
abbrev pub same_sender : Sender → Sender → Bool
same_sender (Base m) (Base n) = m == n
same_sender (Client d) (Client e) = d == e
same_sender (Base m) (Client e) = false
same_sender (Client d) (Base n) = false

-- the place of a sender in the order of senders: base nodes first, then clients, each kind by its number
abbrev pub rank_of : Sender → ℕ
rank_of (Base n) = n
rank_of (Client e) = MOST_BASE_NODES + 1 + e

-- a base node's number is that of a base node
abbrev pub IsSender : Sender → Type 0
IsSender (Base n) = IsBaseNode n
IsSender (Client e) = Unit {0}

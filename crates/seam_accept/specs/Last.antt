-- The numbers of the last calls to a part of an entity.
use Rattle.std.specs.Prelude.{ℕ, ◌-◌, List, [], slice_index, unwrap_or, box_value}
use Rattle.std.specs.declared.boxed.Box.{Box}
use Rattle.std.specs.Map.{lookup}
use Rattle.std.specs.Ordering.{nat_cmp}
use Rattle.std.specs.BTreeMap.{is_at}
use Rattle.seam_call.specs.declared.sender.Sender.{Sender}
use Rattle.seam_call.specs.declared.sender.Sender.TheVariants as sender
use Rattle.seam_accept.specs.declared.last.Kept.{Kept}

-- those of base nodes, in their order, and of clients, by the numbers of their entities
pub record LastView : Type 0 where
  pub nodes : List ℕ
  pub clients : List (ℕ × ℕ)

-- no sender has called
abbrev pub no_calls : LastView
no_calls = record { nodes = []; clients = [] }

-- the numbers that are kept once there was a call
abbrev pub kept_of : Kept → LastView
kept_of k = record { nodes = k.nodes; clients = k.clients.entries }

abbrev pub kept_in : {Z : Type 0} → Box Kept Z → LastView
kept_in b = kept_of (box_value b)

-- the number of a sender's last call, 0 where there was none
abbrev pub number_of : LastView → Sender → ℕ
number_of last (sender.Base n) = slice_index last.nodes (n - 1)
number_of last (sender.Client e) = unwrap_or (lookup (is_at (nat_cmp e)) last.clients) 0

-- Places among the senders whose orders are kept.
use Rattle.std.specs.Prelude.{◌≡◌, ℕ, ◌<◌, ◌≤◌, true, false, List, length, map, slice_index_or}
use Rattle.std.specs.List.{AllWithin}
use Rattle.std.specs.List.Sorted.{IsStrictlySortedBy}
use Rattle.std.specs.Ordering.{nat_cmp}
use Rattle.seam_order.specs.Held.{OrderView}
use Rattle.seam_call.specs.declared.sender.Sender.{Sender}
use Rattle.seam_call.specs.declared.call.Call.{Call}
use Rattle.seam_call.specs.Senders.{rank_of}
use Rattle.seam_entity.specs.ReadyCalls.{is_ready}

abbrev pub Entries : Type 0
Entries = List (Sender × OrderView Call)

-- the senders' places in the order of senders
abbrev pub ranks : Entries → List ℕ
ranks ps = map (λ p. rank_of p.0) ps

-- each sender once, in their order
abbrev pub AreOrdered : Entries → Type 0
AreOrdered ps = IsStrictlySortedBy nat_cmp (ranks ps)

-- the sender of that rank is at this place
pub record IsAt (ps : Entries) (rank i : ℕ) : Type 0 where
  pub inside : i < length ps
  pub rank_there : (d : Sender × OrderView Call) → rank_of (slice_index_or ps i d).0 ≡ rank

-- the sender of that rank has no place, and would have this one
pub record IsGap (ps : Entries) (rank i : ℕ) : Type 0 where
  pub inside : i ≤ length ps
  pub below : AllWithin (λ p. rank_of p.0 < rank) ps 0 i
  pub above : AllWithin (λ p. rank < rank_of p.0) ps i (length ps)

-- none of the first n senders has a ready call
abbrev pub NoneReady : Entries → ℕ → Type 0
NoneReady ps n = AllWithin (λ p. is_ready p.1 ≡ false) ps 0 n

-- the first sender with a ready call is at this place
pub record IsFirstReady (ps : Entries) (i : ℕ) : Type 0 where
  pub inside : i < length ps
  pub before : NoneReady ps i
  pub ready : (d : Sender × OrderView Call) → is_ready (slice_index_or ps i d).1 ≡ true

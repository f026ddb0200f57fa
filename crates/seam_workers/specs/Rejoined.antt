-- The net and the events of nodes that were taken apart.
use Rattle.std.specs.Prelude.{◌≡◌, ℕ, ◌<◌, Bool, true, List, length, map, Some, slice_get}
use Rattle.seam_machine.specs.Views.{Stepped, NetView}
use Rattle.seam_machine.specs.Nets.{link, IsSquare, ArePeers, LeadsTo}
use Rattle.seam_machine.specs.declared.machines.Input.{Input}
use Rattle.seam_machine.specs.declared.machines.Event.{Event}
use Rattle.seam_stamp.specs.declared.Stamped.{Stamped}
use Rattle.seam_stamp.specs.Logs.{AreLogs, IsMerge}
use Rattle.seam_logged.specs.Logs.{LoggedView}
use Rattle.seam_logged.specs.Mesh.{AreFull, ArePaired, IsCell}

-- the net of the nodes and of what was left of their links, and the events of their logs, merged
pub record IsRejoined {N M H : Type 0} (done : List (LoggedView N M H)) (net : NetView N M) (events : List Event) : Type 0 where
  pub nodes : net.nodes ≡ map (λ v. v.node) done
  pub square : IsSquare net
  pub cells : (a b : ℕ) → a < length done → b < length done →
      IsCell (map (λ v. v.ends) done) (map (λ v. v.hand) done) a b (link net.rows a b)
  pub merged : List (Stamped Event)
  pub is_merge : IsMerge (map (λ v. v.log) done) merged
  pub events_are : events ≡ map (λ e. e.item) merged

-- one of the events is of node k
abbrev pub HasEventOf : ℕ → List Event → Type 0
HasEventOf k events = (i : ℕ) × (e : Event) × (slice_get events i ≡ Some e) × (e.node ≡ k)

-- the ends of the nodes are those of the links of a net, and each node has a log
pub record CanRejoin {N M H : Type 0} (done : List (LoggedView N M H)) : Type 0 where
  pub full : AreFull (length (map (λ v. v.ends) done)) (map (λ v. v.ends) done)
  pub paired : ArePaired (map (λ v. v.ends) done)
  pub logs : AreLogs (map (λ v. v.log) done)

-- the events are a run from one net to the other, and each node that had a task is the node of one of them
pub record IsOutcome {N M : Type 0} (has_work : N → Bool) (steps : N → Input M → Stepped N M) (peer_count : N → ℕ) (w : NetView N M)
    (events : List Event) (v : NetView N M) : Type 0 where
  pub run : LeadsTo has_work steps w events v
  pub tasks : (k : ℕ) (s : N) → slice_get w.nodes k ≡ Some s → has_work s ≡ true → HasEventOf k events
  pub peers : ArePeers peer_count v

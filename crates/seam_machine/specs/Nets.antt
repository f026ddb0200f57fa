-- Nets of machines: an event, when it is enabled, what it does, a run of events, and a quiet net.
use Rattle.std.specs.Prelude.{◌≡◌, ℕ, Bool, true, false, List, [], ◌∷◌, ◌++◌, length, Option, None, Some, slice_get, slice_index_or}
use Rattle.std.specs.Prelude.{slice_set, drop}
use Rattle.std.specs.List.{All}
use Rattle.seam_machine.specs.Views.{Stepped, NetView, PartsView}
use Rattle.seam_machine.specs.declared.machines.Input.{Input}
use Rattle.seam_machine.specs.declared.machines.Input.TheVariants.{Task, From}
use Rattle.seam_machine.specs.declared.machines.Event.{Event}

-- the link from a to b
abbrev pub link : {M : Type 0} → List (List (List M)) → ℕ → ℕ → List M
link rows a b = slice_index_or (slice_index_or rows a []) b []

-- one node's links after the items were put at their ends, in order
abbrev pub put_all : {M : Type 0} → List (List M) → List (ℕ × M) → List (List M)
put_all row [] = row
put_all row (p ∷ ps) = put_all (slice_set row p.0 (slice_index_or row p.0 [] ++ p.1 ∷ [])) ps

-- all links after node a sent the items
abbrev pub send_all : {M : Type 0} → List (List (List M)) → ℕ → List (ℕ × M) → List (List (List M))
send_all rows a items = slice_set rows a (put_all (slice_index_or rows a []) items)

-- one node's links after the first item of the link to b was fed
abbrev pub row_less : {M : Type 0} → List (List M) → ℕ → List (List M)
row_less row b = slice_set row b (drop 1 (slice_index_or row b []))

-- all links after the first item of the link from a to b was fed
abbrev pub rows_less : {M : Type 0} → List (List (List M)) → ℕ → ℕ → List (List (List M))
rows_less rows a b = slice_set rows a (row_less (slice_index_or rows a []) b)

-- the first message of a link from a, as an input; none where the link is empty
abbrev pub letter : {M : Type 0} → ℕ → List M → Option (Input M)
letter a [] = None
letter a (m ∷ ms) = Some (From a m)

-- what an event feeds to node k: its task, or the first message of the link from a
abbrev pub input_from : {M : Type 0} → List (List (List M)) → ℕ → Option ℕ → Option (Input M)
input_from rows k None = Some Task
input_from rows k (Some a) = letter a (link rows a k)

-- the links without what the event feeds
abbrev pub rows_after_feeding : {M : Type 0} → List (List (List M)) → ℕ → Option ℕ → List (List (List M))
rows_after_feeding rows k None = rows
rows_after_feeding rows k (Some a) = rows_less rows a k

-- the net after node k, where these links were left, made this step
abbrev pub stepped_net : {N M : Type 0} → List N → List (List (List M)) → ℕ → Stepped N M → NetView N M
stepped_net nodes rows k t = record { nodes = slice_set nodes k t.state; rows = send_all rows k t.sent }

abbrev pub happens_by : {N M : Type 0} → (N → Input M → Stepped N M) → NetView N M → ℕ → Option ℕ → Option N → Option (Input M)
    → NetView N M
happens_by steps w k from (Some s) (Some i) = stepped_net w.nodes (rows_after_feeding w.rows k from) k (steps s i)
happens_by steps w k from (Some s) None = w
happens_by steps w k from None i = w

-- the net after an event: its node's state is what its step gives, the message is gone from its link, and what the step
-- sent is at the ends of the node's links
abbrev pub happens : {N M : Type 0} → (N → Input M → Stepped N M) → NetView N M → Event → NetView N M
happens steps w e = happens_by steps w e.node e.from (slice_get w.nodes e.node) (input_from w.rows e.node e.from)

abbrev pub is_ready : {N M : Type 0} → (N → Bool) → Option N → Option (Input M) → Bool
is_ready has_work (Some s) (Some Task) = has_work s
is_ready has_work (Some s) (Some (From a m)) = true
is_ready has_work (Some s) None = false
is_ready has_work None i = false

-- the node exists, and its task or a message on that link is there
abbrev pub enabled : {N M : Type 0} → (N → Bool) → NetView N M → Event → Bool
enabled has_work w e = is_ready has_work (slice_get w.nodes e.node) (input_from w.rows e.node e.from)

-- no event is enabled
abbrev pub IsQuiet : {N M : Type 0} → (N → Bool) → NetView N M → Type 0
IsQuiet has_work w = (e : Event) → enabled has_work w e ≡ false

-- the net after the events, one after the other
abbrev pub run : {N M : Type 0} → (N → Input M → Stepped N M) → NetView N M → List Event → NetView N M
run steps w [] = w
run steps w (e ∷ es) = run steps (happens steps w e) es

-- each event is enabled at its place
abbrev pub AllEnabled : {N M : Type 0} → (N → Bool) → (N → Input M → Stepped N M) → NetView N M → List Event → Type 0
AllEnabled has_work steps w [] = Unit {0}
AllEnabled has_work steps w (e ∷ es) = (enabled has_work w e ≡ true) × AllEnabled has_work steps (happens steps w e) es

-- the events, each enabled in turn, lead from one net to the other
pub record LeadsTo {N M : Type 0} (has_work : N → Bool) (steps : N → Input M → Stepped N M) (w : NetView N M) (events : List Event)
    (v : NetView N M) : Type 0 where
  pub each : AllEnabled has_work steps w events
  pub is_run : v ≡ run steps w events

-- n nodes have n rows of n links
pub record IsSquare {N M : Type 0} (w : NetView N M) : Type 0 where
  pub rows : length w.rows ≡ length w.nodes
  pub links : All (λ r. length r ≡ length w.nodes) w.rows

-- every node sends to the nodes of this net: their number is each node's number of peers
abbrev pub ArePeers : {N M : Type 0} → (N → ℕ) → NetView N M → Type 0
ArePeers peer_count w = All (λ s. peer_count s ≡ length w.nodes) w.nodes

-- the net with another node in the place of node n
abbrev pub with_node : {N M : Type 0} → NetView N M → ℕ → N → NetView N M
with_node w n s = record { nodes = slice_set w.nodes n s; rows = w.rows }

-- rows one after the other
abbrev pub flat : {X : Type 0} → List (List X) → List X
flat [] = []
flat (r ∷ rs) = r ++ flat rs

-- the nodes and the links of the net: with n nodes, the link from a to b is at place a * n + b
pub record AreParts {N M : Type 0} (p : PartsView N M) (w : NetView N M) : Type 0 where
  pub nodes : p.nodes ≡ w.nodes
  pub links : p.links ≡ flat w.rows
  pub square : IsSquare w

-- What a net keeps of its fields.
use Rattle.std.specs.Prelude.{◌≡◌, ℕ, ◌+◌, ◌/◌, ◌%◌, ◌<◌, ◌≤◌, ◌==◌, nat_lt, Bool, true, false, List, [], ◌∷◌, ◌++◌, length, map, Option}
use Rattle.std.specs.Prelude.{None, Some}
use Rattle.std.specs.Prelude.{slice_get, slice_index_or}
use Rattle.std.specs.Int.{bit_at}
use Rattle.std.specs.List.{All}
use Rattle.seam_machine.specs.Views.{Stepped, NetView}
use Rattle.seam_machine.specs.Sends.{AllBelow}
use Rattle.seam_machine.specs.Nets.{link, letter, input_from, row_less, rows_after_feeding, put_all, send_all, IsSquare}
use Rattle.seam_machine.specs.Totals.{total}
use Rattle.seam_machine.specs.declared.machines.Input.{Input}
use Rattle.seam_machine.specs.declared.machines.Input.TheVariants.{Task, From}

-- the links, and whether none of their messages waits for room
pub record LinksView (M : Type 0) : Type 0 where
  pub rows : List (List (List M))
  pub clear : Bool

-- whether the number is marked: the binary digit for it, of words that have 64 each
abbrev pub is_marked : List ℕ → ℕ → Bool
is_marked words k = bit_at (slice_index_or words (k / 64) 0) (k % 64) == 1

abbrev pub is_empty : {X : Type 0} → List X → Bool
is_empty [] = true
is_empty (x ∷ xs) = false

-- the numbers are marked whose counts are not 0
abbrev pub AreCounted : List ℕ → List ℕ → Type 0
AreCounted words counts = (k : ℕ) → is_marked words k ≡ nat_lt 0 (slice_index_or counts k 0)

-- 1 where a link holds something, else 0
abbrev pub filled : {X : Type 0} → List X → ℕ
filled [] = 0
filled (x ∷ xs) = 1

-- how many links to node b hold something
abbrev pub filled_to : {M : Type 0} → ℕ → List (List (List M)) → ℕ
filled_to b rows = total (λ r. filled (slice_index_or r b [])) rows

-- each count is at most 254 without the link of this row
abbrev pub CountsFit : {M : Type 0} → List ℕ → List (List M) → Type 0
CountsFit busy row = (b : ℕ) → slice_index_or busy b 0 ≤ 254 + filled (slice_index_or row b [])

-- the first of the items went to the ends of their links, and the counts grew as links were filled
pub record Delivers {M : Type 0} (row : List (List M)) (items : List (ℕ × M)) (busy : List ℕ) (row' : List (List M)) (items' : List (ℕ × M))
    (busy' : List ℕ) : Type 0 where
  pub moved : put_all row' items' ≡ put_all row items
  pub wide : length row' ≡ length row
  pub busy_len : length busy' ≡ length busy
  pub targets : AllBelow (length row) items'
  pub counts : (b : ℕ)
      → slice_index_or busy' b 0 + filled (slice_index_or row b []) ≡ slice_index_or busy b 0 + filled (slice_index_or row' b [])
  pub fits : CountsFit busy' row'

-- what a node sent last and no link holds yet: the item that a node is fed before all others, where there is one, and the others
abbrev pub waits : {M : Type 0} → Option ℕ → Input M → List (ℕ × M) → List (ℕ × M)
waits None i others = others
waits (Some to) Task others = others
waits (Some to) (From a m) others = (to, m) ∷ others

-- a node that is fed before all others is fed an item
abbrev pub HasInput : {M : Type 0} → Option ℕ → Input M → Type 0
HasInput None i = Unit {0}
HasInput (Some to) Task = ⊥
HasInput (Some to) (From a m) = Unit {0}

-- an item that node `to` is fed before all others waits alone, and no node up to `to` is marked as one with messages in links
pub record IsFirst {M : Type 0} (a to sender : ℕ) (others : List (ℕ × M)) (words : List ℕ) : Type 0 where
  pub sent_by : a ≡ sender
  pub alone : others ≡ []
  pub unmarked : (b : ℕ) → b ≤ to → is_marked words b ≡ false

-- the same, where there is such an item
abbrev pub IsAhead : {M : Type 0} → Option ℕ → Input M → ℕ → List (ℕ × M) → List ℕ → Type 0
IsAhead None i sender others words = Unit {0}
IsAhead (Some to) Task sender others words = ⊥
IsAhead (Some to) (From a m) sender others words = IsFirst a to sender others words

-- the event feeds that item
abbrev pub IsFed : {M : Type 0} → Option ℕ → Input M → ℕ → Option ℕ → Type 0
IsFed None i node from = ⊥
IsFed (Some to) Task node from = ⊥
IsFed (Some to) (From a m) node from = (node ≡ to) × (from ≡ Some a)

-- at most 255 nodes, a link for each pair, a count of filled links for each node, and what waits goes from a node to nodes
pub record IsLinks {M : Type 0} (rows : List (List (List M))) (busy : List ℕ) (sender : ℕ) (out : List (ℕ × M)) : Type 0 where
  pub few : length rows < 256
  pub square : All (λ r. length r ≡ length rows) rows
  pub busy_len : length busy ≡ length rows
  pub busy_is : (b : ℕ) → b < length rows → slice_index_or busy b 0 ≡ filled_to b rows
  pub targets : AllBelow (length rows) out
  pub sender_in : 0 < length rows → sender < length rows

-- no node below a node's start has a message for it
pub record StartsAt {M : Type 0} (starts : List ℕ) (rows : List (List (List M))) : Type 0 where
  pub len : length starts ≡ length rows
  pub empty : (a b : ℕ) → a < slice_index_or starts b 0 → link rows a b ≡ []

-- no start rose, and where one is above node a, the link of this row, which is a's, is empty
pub record Lowers {M : Type 0} (a : ℕ) (starts starts' : List ℕ) (row' : List (List M)) : Type 0 where
  pub len : length starts' ≡ length starts
  pub less : (b : ℕ) → slice_index_or starts' b 0 ≤ slice_index_or starts b 0
  pub own : (b : ℕ) → a < slice_index_or starts' b 0 → slice_index_or row' b [] ≡ []

-- the first of the items, which all go to node `to`, are at the end of its link
pub record PutsRun {M : Type 0} (to : ℕ) (link : List M) (items : List (ℕ × M)) (link' : List M) (items' : List (ℕ × M)) : Type 0 where
  pub run : List M
  pub items_are : items ≡ map (λ m. (to, m)) run ++ items'
  pub link_is : link' ≡ link ++ run

-- the node was fed the first item of its link, and sent what its step sends
pub record Serves {N M : Type 0} (steps : N → Input M → Stepped N M) (from to : ℕ) (row : List (List M)) (s : N) (out : List (ℕ × M))
    (row' : List (List M)) (s' : N) (out' : List (ℕ × M)) : Type 0 where
  pub input : Input M
  pub is_fed : letter from (slice_index_or row to []) ≡ Some input
  pub row_is : row' ≡ row_less row to
  pub state_is : s' ≡ (steps s input).state
  pub out_is : out' ≡ out ++ (steps s input).sent

-- node k was fed its input, and what its step sent is in its links
pub record Feeds {N M : Type 0} (steps : N → Input M → Stepped N M) (k : ℕ) (from : Option ℕ) (rows : List (List (List M))) (s : N)
    (rows' : List (List (List M))) (s' : N) : Type 0 where
  pub input : Input M
  pub is_fed : input_from rows k from ≡ Some input
  pub state_is : s' ≡ (steps s input).state
  pub rows_is : rows' ≡ send_all (rows_after_feeding rows k from) k (steps s input).sent

-- at most 255 nodes, and a link for each pair of them
pub record IsNet {N M : Type 0} (w : NetView N M) : Type 0 where
  pub few : length w.nodes < 256
  pub square : IsSquare w

-- whether the node is there, and its task
abbrev pub has_task : {N : Type 0} → (N → Bool) → Option N → Bool
has_task has_work None = false
has_task has_work (Some s) = has_work s

-- where all nodes were asked, those are marked whose tasks are there
abbrev pub KnowsTasks : {N : Type 0} → (N → Bool) → List N → Bool → List ℕ → Type 0
KnowsTasks has_work nodes asked words = asked ≡ true → (k : ℕ) → is_marked words k ≡ has_task has_work (slice_get nodes k)

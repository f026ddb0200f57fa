-- Rings of counters: each sends to one other alone, and what is left to do falls with each event.
use Rattle.std.specs.Prelude.{◌≡◌, ℕ, ◌+◌, ◌<◌, nat_lt, List, [], Option, None, Some, if◌then◌else◌}
use Rattle.std.specs.List.{AllByRecursion}
use Rattle.seam_law_flow.specs.Flows.{Flow, flow_of}
use Rattle.seam_law_flow.specs.Tokens.{Handles, holders}
use Rattle.seam_machine.specs.Views.{NetView}
use Rattle.seam_machine.specs.Events.{EachNode, EachLink}
use Rattle.seam_net_runs.specs.Sound.{IsSound}
use Rattle.seam_net_example.specs.Views.{CounterView}
use Rattle.seam_net_example.specs.Counters.{IsCounter}

abbrev pub IsSoundNet : NetView CounterView ℕ → Type 0
IsSoundNet w = IsSound (λ c. c.peers) IsCounter w

-- counter k sends to counter after k, and to no other
pub record IsRing (after : ℕ → ℕ) (w : NetView CounterView ℕ) : Type 0 where
  pub nexts : EachNode (λ k c. c.next ≡ after k) w.nodes
  pub mail : EachLink (λ a b l. (b ≡ after a → ⊥) → l ≡ []) w.rows

-- how many events a counter, and a number on its way, have before them
abbrev pub given_to_do : Option ℕ → ℕ
given_to_do None = 0
given_to_do (Some n) = n + 2

abbrev pub to_do : CounterView → ℕ
to_do c = given_to_do c.given

abbrev pub to_go : ℕ → ℕ → ℕ
to_go k n = n + 1

-- the numbers below ten, as letters of one entity; at a counter it has the counter
abbrev pub small : ℕ → Option ℕ
small n = if nat_lt n 10 then Some n else None

abbrev pub no_counter : CounterView
no_counter = record { next = 0; peers = 0; given = None }

-- a counter keeps to whom it sends, and sends small numbers to it alone
pub record SmallMoves (k : ℕ) (s : CounterView) (i : Option ℕ) (t : CounterView) (out : ℕ → List ℕ) : Type 0 where
  pub same : t.next ≡ s.next
  pub alone : (j : ℕ) → (j ≡ s.next → ⊥) → out j ≡ []
  pub below : (j : ℕ) → AllByRecursion (λ n. n < 10) (out j)

-- the letters are below ten
abbrev pub AllSmall : Flow CounterView ℕ → Type 0
AllSmall w = (x y : ℕ) → AllByRecursion (λ n. n < 10) (w.mail x y)

-- a register that no letter writes: to whom the counter sends
abbrev pub next_entry : CounterView → ℕ × ℕ
next_entry c = (0, c.next)

abbrev pub brings_none : ℕ → Option (ℕ × ℕ)
brings_none n = None

-- a number that is passed on is one less
abbrev pub Lowered : ℕ → ℕ → Type 0
Lowered n m = n ≡ m + 1

-- the number that a counter was given
abbrev pub given : CounterView → Option ℕ
given c = c.given

-- what a net of counters looks like where every number is a letter
abbrev pub numbers : NetView CounterView ℕ → Flow CounterView ℕ
numbers w = flow_of (λ c. c) no_counter Some w

-- how many numbers there are, given or on their way
abbrev pub number_count : NetView CounterView ℕ → ℕ
number_count w = holders (λ c. c) Some given Some w

-- a step that leaves the one number, or passes it on
abbrev pub NumberMoves : ℕ → CounterView → Option ℕ → CounterView → (ℕ → List ℕ) → Type 0
NumberMoves k s i t out = Handles given Some Lowered s i t out

-- a counter without how many there are
abbrev pub alone : CounterView → CounterView
alone c = record c { peers = 0 }

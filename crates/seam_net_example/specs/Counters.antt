-- The steps of a counter, and what they keep.
use Rattle.std.specs.Prelude.{◌≡◌, ℕ, zero, suc, ◌<◌, Bool, List, [], ◌∷◌, Option, None, Some, is_some, refl}
use Rattle.std.proofs.lemmas.List.Elements.{All-nil, All-cons}
use Rattle.seam_machine.specs.Views.{Stepped}
use Rattle.seam_machine.specs.Sends.{AllBelow}
use Rattle.seam_net_runs.specs.Sound.{MachineLaws}
use Rattle.seam_machine.specs.declared.machines.Input.{Input}
use Rattle.seam_machine.specs.declared.machines.Input.TheVariants.{Task, From}
use Rattle.seam_net_example.specs.Views.{CounterView}

-- a counter sends a number that it was given to the next one
abbrev pub task_steps : CounterView → Option ℕ → Stepped CounterView ℕ
task_steps c None = record { state = c; sent = [] }
task_steps c (Some n) = record { state = record c { given = None }; sent = (c.next, n) ∷ [] }

-- a number that came is passed on, lowered by one, or gone
abbrev pub passed : CounterView → ℕ → List (ℕ × ℕ)
passed c zero = []
passed c (suc n) = (c.next, n) ∷ []

abbrev pub counter_steps : CounterView → Input ℕ → Stepped CounterView ℕ
counter_steps c Task = task_steps c c.given
counter_steps c (From a n) = record { state = c; sent = passed c n }

abbrev pub counter_work : CounterView → Bool
counter_work c = is_some c.given

abbrev pub IsCounter : CounterView → Type 0
IsCounter c = c.next < c.peers

one_below : (n to m : ℕ) → to < n → AllBelow n ((to, m) ∷ [])
one_below n to m h = All-cons (λ p. p.0 < n) (to, m) [] h (All-nil (λ p. p.0 < n))

task_below : (c : CounterView) (o : Option ℕ) → IsCounter c → AllBelow c.peers (task_steps c o).sent
task_below c None h = All-nil (λ p. p.0 < c.peers)
task_below c (Some n) h = one_below c.peers c.next n h

passed_below : (c : CounterView) (n : ℕ) → IsCounter c → AllBelow c.peers (passed c n)
passed_below c zero h = All-nil (λ p. p.0 < c.peers)
passed_below c (suc n) h = one_below c.peers c.next n h

sends_below : (c : CounterView) (i : Input ℕ) → IsCounter c → AllBelow c.peers (counter_steps c i).sent
sends_below c Task h = task_below c c.given h
sends_below c (From a n) h = passed_below c n h

task_peers : (c : CounterView) (o : Option ℕ) → (task_steps c o).state.peers ≡ c.peers
task_peers c None = refl
task_peers c (Some n) = refl

task_valid : (c : CounterView) (o : Option ℕ) → IsCounter c → IsCounter (task_steps c o).state
task_valid c None h = h
task_valid c (Some n) h = h

pub counter_targets : (c : CounterView) (i : Input ℕ) → IsCounter c → AllBelow c.peers (counter_steps c i).sent
counter_targets c i h = sends_below c i h

pub counter_peers : (c : CounterView) (i : Input ℕ) → IsCounter c → (counter_steps c i).state.peers ≡ c.peers
counter_peers c Task h = task_peers c c.given
counter_peers c (From a n) h = refl

pub counter_valid : (c : CounterView) (i : Input ℕ) → IsCounter c → IsCounter (counter_steps c i).state
counter_valid c Task h = task_valid c c.given h
counter_valid c (From a n) h = h

-- a counter as a machine
abbrev pub counter_laws : MachineLaws CounterView ℕ
counter_laws =
    record {
      has_work = counter_work;
      peer_count = λ c. c.peers;
      valid = IsCounter;
      steps = counter_steps;
      targets = counter_targets;
      keeps_peers = counter_peers;
      stays_valid = counter_valid;
    }

-- The one number of a net of counters, and counters that do not know how many they are.
use Rattle.std.proofs.Common.{◌≡◌, ℕ, zero, suc, ◌≤◌, true, List, [], ◌∷◌, Option, None, Some, refl, ap, ◌∙◌, arith, inl, inr}
use Rattle.seam_machine.specs.Views.{NetView}
use Rattle.seam_machine.specs.Sends.{items_to}
use Rattle.seam_machine.specs.Nets.{enabled, happens, input_from, LeadsTo}
use Rattle.seam_machine.specs.Events.{Occurs}
use Rattle.seam_machine.specs.declared.machines.Input.{Input}
use Rattle.seam_machine.specs.declared.machines.Input.TheVariants.{Task, From}
use Rattle.seam_machine.specs.declared.machines.Event.{Event}
use Rattle.seam_machine.proofs.Occurring.{occurs}
use Rattle.seam_net_runs.specs.Seen.{seen}
use Rattle.seam_net_runs.proofs.Soundness.{sound_sends}
use Rattle.seam_net_runs.proofs.Seeing.{seen_leads}
use Rattle.seam_law_flow.specs.Flows.{Flow, Goes, letters_of, letter_in}
use Rattle.seam_law_flow.specs.Tokens.{still, leaves, relays, SendsOne, HasOne, place_after, token_after}
use Rattle.seam_law_flow.proofs.Bridge.{event_goes}
use Rattle.seam_law_flow.proofs.SendLists.{sees_one_here, sees_one_there}
use Rattle.seam_law_flow.proofs.TokenLemmas.{sole_goes, one_goes}
use Rattle.seam_law_flow.proofs.TokenCounts.{one_counted, sole_counts}
use Rattle.seam_net_example.specs.Views.{CounterView}
use Rattle.seam_net_example.specs.Counters.{task_steps, passed, counter_steps, counter_work, counter_laws}
use Rattle.seam_net_example.specs.Rings.{IsSoundNet, no_counter, Lowered, given, numbers, number_count, NumberMoves, alone}

one_sent : (to n : ℕ) → SendsOne Some (λ j. letters_of Some (items_to j ((to, n) ∷ []))) to n
one_sent to n = record {
  here = ap (letters_of Some) (sees_one_here Some to n);
  others = λ j ne. ap (letters_of Some) (sees_one_there Some to j n ne);
}

task_moves : (k : ℕ) (c : CounterView) (o : Option ℕ) → c.given ≡ o →
    NumberMoves k c None (task_steps c o).state (λ j. letters_of Some (items_to j (task_steps c o).sent))
task_moves k c None e = still refl refl (λ j. refl)
task_moves k c (Some n) e = leaves n n c.next e refl (inl refl) refl (one_sent c.next n)

passed_moves : (k : ℕ) (c : CounterView) (n : ℕ) → (n ≡ 0 → ⊥) → NumberMoves k c (Some n) c (λ j. letters_of Some (items_to j (passed c n)))
passed_moves k c zero h = absurd (h refl)
passed_moves k c (suc n) h = relays (suc n) n c.next refl refl (inr (omega arith)) (one_sent c.next n)

step_moves : (k : ℕ) (c : CounterView) (i : Input ℕ) → ((a : ℕ) → i ≡ From a 0 → ⊥) →
    NumberMoves k c (letter_in Some i) (counter_steps c i).state (λ j. letters_of Some (items_to j (counter_steps c i).sent))
step_moves k c Task h = task_moves k c c.given refl
step_moves k c (From a n) h = passed_moves k c n (λ e. h a (ap (From a) e))

number_goes : (w : NetView CounterView ℕ) (e : Event) (o : Occurs w e) → IsSoundNet w →
    ((a : ℕ) → input_from w.rows e.node e.from ≡ Some (From a 0) → ⊥) → Goes NumberMoves (numbers w) (numbers (happens counter_steps w e))
number_goes w e o q h =
    event_goes Some (λ c. c) no_counter NumberMoves counter_steps w e o q.square (sound_sends counter_laws w e o q)
    (step_moves e.node o.node o.input (λ a f. h a (o.is_fed ∙ ap Some f)))

pub one_stays : (w : NetView CounterView ℕ) (e : Event) → IsSoundNet w → enabled counter_work w e ≡ true →
    ((a : ℕ) → input_from w.rows e.node e.from ≡ Some (From a 0) → ⊥) → number_count w ≡ 1 → number_count (happens counter_steps w e) ≡ 1
one_stays w e q on h one =
    let o = occurs counter_work w e on in
    let g = number_goes w e o q h in
    let f = one_counted (λ c. c) no_counter Some given Some w refl one in
    sole_counts (λ c. c) no_counter Some given Some (happens counter_steps w e) refl (place_after g.k g.moves f.0) (token_after g.moves f.1)
    (sole_goes given Some Lowered g f.0 f.1 f.2 g.moves)

pub one_falls : (top : ℕ) {w v : Flow CounterView ℕ} → Goes NumberMoves w v → HasOne given Some (λ n. n ≤ top) w →
    HasOne given Some (λ n. n ≤ top) v
one_falls top g h = one_goes given Some Lowered (λ n. n ≤ top) (λ n m low less. omega (arith, low, less)) g h g.moves

task_alone : (c : CounterView) (o : Option ℕ) → alone (task_steps c o).state ≡ (task_steps (alone c) o).state
task_alone c None = refl
task_alone c (Some n) = refl

task_sent : (c : CounterView) (o : Option ℕ) → (task_steps c o).sent ≡ (task_steps (alone c) o).sent
task_sent c None = refl
task_sent c (Some n) = refl

passed_sent : (c : CounterView) (n : ℕ) → passed c n ≡ passed (alone c) n
passed_sent c zero = refl
passed_sent c (suc n) = refl

state_alone : (c : CounterView) (i : Input ℕ) → alone (counter_steps c i).state ≡ (counter_steps (alone c) i).state
state_alone c Task = task_alone c c.given
state_alone c (From a n) = refl

sent_alone : (c : CounterView) (i : Input ℕ) → (counter_steps c i).sent ≡ (counter_steps (alone c) i).sent
sent_alone c Task = task_sent c c.given
sent_alone c (From a n) = passed_sent c n

pub runs_alone : (w v : NetView CounterView ℕ) (es : List Event) → LeadsTo counter_work counter_steps w es v →
    LeadsTo counter_work counter_steps (seen alone w) es (seen alone v)
runs_alone w v es a =
    seen_leads alone counter_work counter_work (λ c. refl) counter_steps counter_steps (record { state = state_alone; sent = sent_alone }) w
    v es a

-- What each event of a net of counters keeps and lowers.
use Rattle.std.proofs.Common.{◌≡◌, ℕ, zero, suc, ◌+◌, ◌<◌, ◌≤◌, Bool, true, false, cond, eqb, ltb, List, [], ◌∷◌, length, Option, None}
use Rattle.std.proofs.Common.{Some, is_some, drop, refl, sym, ap, ◌∙◌, subst, arith}
use Rattle.seam_law_flow.specs.Flows.{Flow, Goes, comes, flow_of, letters_of, more_letter}
use Rattle.seam_law_flow.specs.Newest.{NotAbove, AllBring, entry_in, greater_entry, Newest}
use Rattle.std.proofs.lemmas.Bool.{ne_eqb}
use Rattle.std.proofs.lemmas.Bool.Decides.{nat_tests}
use Rattle.seam_machine.specs.Views.{NetView}
use Rattle.seam_machine.specs.Sends.{AllBelow, items_to}
use Rattle.seam_machine.specs.Nets.{enabled, happens, LeadsTo}
use Rattle.seam_machine.specs.Events.{Occurs}
use Rattle.seam_net_runs.specs.Kept.{StaysTrue}
use Rattle.seam_net_runs.specs.Weights.{weight, input_weight, sent_weight, counted, Lowers}
use Rattle.seam_machine.specs.declared.machines.Input.{Input}
use Rattle.seam_machine.specs.declared.machines.Input.TheVariants.{Task, From}
use Rattle.seam_machine.specs.declared.machines.Event.{Event}
use Rattle.seam_machine.proofs.Occurring.{occurs, occurs_works}
use Rattle.seam_net_runs.proofs.Runs.{leads_end, leads_keeps}
use Rattle.seam_net_runs.proofs.Weighing.{weight_moves}
use Rattle.seam_net_runs.proofs.Keeping.{each_node, each_link}
use Rattle.seam_law_flow.proofs.Bridge.{event_goes}
use Rattle.seam_law_flow.proofs.Following.{letters_kept}
use Rattle.seam_law_flow.proofs.NewestLemmas.{newest_stays}
use Rattle.std.specs.List.{AllByRecursion}
use Rattle.seam_net_runs.proofs.Soundness.{sound_sends, sound_happens}
use Rattle.seam_net_example.specs.Views.{CounterView}
use Rattle.seam_net_example.specs.Counters.{task_steps, passed, counter_steps, counter_work, counter_laws}
use Rattle.seam_net_example.specs.Rings.{IsSoundNet, IsRing, given_to_do, to_do, to_go, small, no_counter, SmallMoves, AllSmall, next_entry}
use Rattle.seam_net_example.specs.Rings.{brings_none}

task_falls : (c : CounterView) (o : Option ℕ) → is_some o ≡ true →
    to_do (task_steps c o).state + sent_weight to_go (task_steps c o).sent + 1 ≡ given_to_do o
task_falls c None h = cc
task_falls c (Some n) h = omega arith

passed_falls : (c : CounterView) (k n : ℕ) → to_do c + sent_weight to_go (passed c n) + 1 ≡ to_do c + to_go k n
passed_falls c k zero = omega arith
passed_falls c k (suc n) = omega arith

step_falls : (k : ℕ) (c : CounterView) (i : Input ℕ) → (i ≡ Task → counter_work c ≡ true) →
    to_do (counter_steps c i).state + sent_weight to_go (counter_steps c i).sent + 1 ≡ to_do c + input_weight to_go k i
step_falls k c Task h = let f = task_falls c c.given (h refl) in omega (arith, f)
step_falls k c (From a n) h = passed_falls c k n

sends_in : (w : NetView CounterView ℕ) (e : Event) (o : Occurs w e) → IsSoundNet w →
    AllBelow (length w.nodes) (counter_steps o.node o.input).sent
sends_in w e o q = sound_sends counter_laws w e o q

stays_sound : (w : NetView CounterView ℕ) (e : Event) (o : Occurs w e) → IsSoundNet w → IsSoundNet (happens counter_steps w e)
stays_sound w e o q = sound_happens counter_laws w e o q

falls : (w : NetView CounterView ℕ) (e : Event) → IsSoundNet w → enabled counter_work w e ≡ true →
    Lowers counter_steps (λ w e. false) (weight to_do to_go) w e
falls w e q h =
    let o = occurs counter_work w e h in
    let moved = weight_moves to_do to_go counter_steps w e o q.square (sends_in w e o q) in
    let less = step_falls e.node o.node o.input (occurs_works counter_work w e h o) in
    omega (arith, moved, less)

counts_none : (w : NetView CounterView ℕ) (es : List Event) → counted counter_steps (λ w e. false) w es ≡ 0
counts_none w [] = refl
counts_none w (e ∷ es) = let h = counts_none (happens counter_steps w e) es in omega (arith, h)

pub ring_ends : (w v : NetView CounterView ℕ) (es : List Event) → IsSoundNet w → LeadsTo counter_work counter_steps w es v →
    length es + weight to_do to_go v ≤ weight to_do to_go w
ring_ends w v es q a =
    let h =
    leads_end counter_work counter_steps (λ w e. false) (weight to_do to_go) IsSoundNet
    (λ x e s on. (stays_sound x e (occurs counter_work x e on) s, falls x e s on)) w v es q a in
    let none = counts_none w es in
    omega (arith, h, none)

task_next : (c : CounterView) (o : Option ℕ) → (task_steps c o).state.next ≡ c.next
task_next c None = refl
task_next c (Some n) = refl

step_next : (c : CounterView) (i : Input ℕ) → (counter_steps c i).state.next ≡ c.next
step_next c Task = task_next c c.given
step_next c (From a n) = refl

module _ (after : ℕ → ℕ) where
  abbrev OnlyNext : ℕ → ℕ → List ℕ → Type 0
  OnlyNext a b l = (b ≡ after a → ⊥) → l ≡ []

  one_stays : (k to n : ℕ) → to ≡ after k → StaysTrue OnlyNext k ((to, n) ∷ [])
  one_stays k to n e = ((λ l h ne. absurd (ne e)), tt)

  task_stays : (k : ℕ) (c : CounterView) (o : Option ℕ) → c.next ≡ after k → StaysTrue OnlyNext k (task_steps c o).sent
  task_stays k c None e = tt
  task_stays k c (Some n) e = one_stays k c.next n e

  passed_stays : (k : ℕ) (c : CounterView) (n : ℕ) → c.next ≡ after k → StaysTrue OnlyNext k (passed c n)
  passed_stays k c zero e = tt
  passed_stays k c (suc n) e = one_stays k c.next n e

  step_stays : (k : ℕ) (c : CounterView) (i : Input ℕ) → c.next ≡ after k → StaysTrue OnlyNext k (counter_steps c i).sent
  step_stays k c Task e = task_stays k c c.given e
  step_stays k c (From a n) e = passed_stays k c n e

  ring_happens : (w : NetView CounterView ℕ) (e : Event) (o : Occurs w e) → IsRing after w → IsRing after (happens counter_steps w e)
  ring_happens w e o r =
      let next = r.nexts e.node o.node o.is_node in
      record {
        nexts = each_node (λ k c. c.next ≡ after k) counter_steps w e o r.nexts (step_next o.node o.input ∙ next);
        mail =
            each_link OnlyNext counter_steps w e o r.mail (λ a f ne. ap (drop 1) (r.mail a e.node ne))
            (step_stays e.node o.node o.input next);
      }

  pub ring_leads : (w v : NetView CounterView ℕ) (es : List Event) → IsRing after w → LeadsTo counter_work counter_steps w es v →
      IsRing after v
  ring_leads w v es r a =
      leads_keeps counter_work counter_steps (IsRing after) (λ x e q h. ring_happens x e (occurs counter_work x e h) q) w v es r a

one_alone : (to n j : ℕ) → (j ≡ to → ⊥) → letters_of small (items_to j ((to, n) ∷ [])) ≡ []
one_alone to n j ne = ap (λ b. letters_of small (cond b (n ∷ []) [])) (ne_eqb to j (λ e. ne (sym e)))

task_alone : (c : CounterView) (o : Option ℕ) (j : ℕ) → (j ≡ c.next → ⊥) → letters_of small (items_to j (task_steps c o).sent) ≡ []
task_alone c None j ne = refl
task_alone c (Some n) j ne = one_alone c.next n j ne

passed_alone : (c : CounterView) (n j : ℕ) → (j ≡ c.next → ⊥) → letters_of small (items_to j (passed c n)) ≡ []
passed_alone c zero j ne = refl
passed_alone c (suc n) j ne = one_alone c.next n j ne

step_alone : (c : CounterView) (i : Input ℕ) (j : ℕ) → (j ≡ c.next → ⊥) → letters_of small (items_to j (counter_steps c i).sent) ≡ []
step_alone c Task j ne = task_alone c c.given j ne
step_alone c (From a n) j ne = passed_alone c n j ne

small_by : (n : ℕ) (b : Bool) → ltb n 10 ≡ b → AllByRecursion (λ n. n < 10) (more_letter (cond b (Some n) None) [])
small_by n true t = ((let h : n < 10 = grind (arith, nat_tests) in h), tt)
small_by n false t = tt

one_small_by : (n : ℕ) (b : Bool) → AllByRecursion (λ n. n < 10) (letters_of small (cond b (n ∷ []) []))
one_small_by n true = small_by n (ltb n 10) refl
one_small_by n false = tt

one_small : (to n j : ℕ) → AllByRecursion (λ n. n < 10) (letters_of small (items_to j ((to, n) ∷ [])))
one_small to n j = one_small_by n (eqb to j)

task_small : (c : CounterView) (o : Option ℕ) (j : ℕ) → AllByRecursion (λ n. n < 10) (letters_of small (items_to j (task_steps c o).sent))
task_small c None j = tt
task_small c (Some n) j = one_small c.next n j

passed_small : (c : CounterView) (n j : ℕ) → AllByRecursion (λ n. n < 10) (letters_of small (items_to j (passed c n)))
passed_small c zero j = tt
passed_small c (suc n) j = one_small c.next n j

step_small : (c : CounterView) (i : Input ℕ) (j : ℕ) → AllByRecursion (λ n. n < 10) (letters_of small (items_to j (counter_steps c i).sent))
step_small c Task j = task_small c c.given j
step_small c (From a n) j = passed_small c n j

pub small_stays : {w v : Flow CounterView ℕ} (g : Goes SmallMoves w v) → AllSmall w → AllSmall v
small_stays g h = letters_kept (λ x y n. n < 10) g h g.moves.below

none_brought : (Q : ℕ × ℕ → Type 0) (ls : List ℕ) → AllBring brings_none Q ls
none_brought Q [] = tt
none_brought Q (l ∷ ls) = (tt, none_brought Q ls)

none_in : (o : Option ℕ) → entry_in brings_none o ≡ None
none_in None = refl
none_in (Some n) = refl

pub next_stays : {w v : Flow CounterView ℕ} (k key c : ℕ) (g : Goes SmallMoves w v) → Newest next_entry brings_none w k key c →
    Newest next_entry brings_none v k key c
next_stays {w} {v} k key c g n =
    newest_stays brings_none next_entry g k key c n (λ e.
    let here : (v.slot k).next ≡ (w.slot k).next = subst (λ j. (v.slot j).next ≡ (w.slot j).next) e g.moves.same in
    ap (λ m. (0, m)) here ∙ sym (ap (greater_entry (next_entry (w.slot k))) (none_in (comes g.input))))
    (none_brought (NotAbove key c) (g.out k))

pub small_goes : (w : NetView CounterView ℕ) (e : Event) → IsSoundNet w → enabled counter_work w e ≡ true →
    Goes SmallMoves (flow_of (λ c. c) no_counter small w) (flow_of (λ c. c) no_counter small (happens counter_steps w e))
small_goes w e q h =
    let o = occurs counter_work w e h in
    event_goes small (λ c. c) no_counter SmallMoves counter_steps w e o q.square (sends_in w e o q)
    (record {
      same = step_next o.node o.input;
      alone = λ j ne. step_alone o.node o.input j ne;
      below = λ j. step_small o.node o.input j;
    })

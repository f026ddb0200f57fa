-- A quiet net: every link is empty and no node has a task.
use Rattle.std.proofs.Common.{◌≡◌, ℕ, zero, suc, ◌<◌, ◌≤◌, Bool, true, false, List, [], ◌∷◌, length, Option, None, Some, refl, sym, ap, ◌∙◌}
use Rattle.std.proofs.Common.{arith, inl, inr}
use Rattle.std.specs.Prelude.{slice_get, map, option_map, IfSome, IfNone}
use Rattle.std.proofs.lemmas.Bool.{cases_lt}
use Rattle.std.proofs.lemmas.Option.{slice_get-map, slice_get_past}
use Rattle.seam_machine.specs.Views.{NetView}
use Rattle.seam_machine.specs.Nets.{link, letter, input_from, is_ready, enabled, IsQuiet, IsSquare}
use Rattle.seam_machine.specs.Events.{EachNode, EachLink}
use Rattle.seam_machine.specs.Inside.{has_task}
use Rattle.seam_machine.specs.declared.machines.Event.{Event}
use Rattle.seam_machine.specs.declared.machines.Input.TheVariants.{Task}
use Rattle.seam_machine.specs.Orders.{IsBefore, IsBeforeBy}
use Rattle.seam_machine.proofs.Puts.{link_is_in}

pub some_at : {X : Type 0} (xs : List X) (k : ℕ) → k < length xs → (x : X) × (slice_get xs k ≡ Some x)
some_at [] k lt = absurd (omega (arith, lt))
some_at (x ∷ xs) zero lt = (x, refl)
some_at (x ∷ xs) (suc k) lt = some_at xs k (omega (arith, lt))

module _ {N M : Type 0} (has_work : N → Bool) (w : NetView N M) where
  empty_by : IsSquare w → IsQuiet has_work w → (a b : ℕ) (ms : List M) → link w.rows a b ≡ ms → ms ≡ []
  empty_by q quiet a b [] h = refl
  empty_by q quiet a b (m ∷ ms) h =
      let within = link_is_in w.rows a b m ms h in
      let wide = q.links a [] within.0 in
      let lt = within.1 in
      let node = some_at w.nodes b (omega (arith, lt, wide)) in
      let e : Event = record { node = b; from = Some a } in
      let yes : enabled has_work w e ≡ true = rw (node.1, h) refl in
      let contrary : true ≡ false = sym yes ∙ quiet e in
      cc

  pub quiet_links : IsSquare w → IsQuiet has_work w → EachLink (λ a b l. l ≡ []) w.rows
  quiet_links q quiet a b = empty_by q quiet a b (link w.rows a b) refl

  pub quiet_tasks : IsQuiet has_work w → EachNode (λ k s. has_work s ≡ false) w.nodes
  quiet_tasks quiet k s h =
      let e : Event = record { node = k; from = None } in
      sym (ap (λ o. is_ready {M = M} has_work o (input_from w.rows k None)) h) ∙ quiet e

  -- an event of a node whose task is not there, and to which no link holds a message
  not_ready : (k : ℕ) (o : Option N) (from : Option ℕ) → slice_get w.nodes k ≡ o → ((a : ℕ) → link w.rows a k ≡ []) →
      ((s : N) → slice_get w.nodes k ≡ Some s → has_work s ≡ false) → is_ready has_work o (input_from w.rows k from) ≡ false
  not_ready k None from h empty idle = refl
  not_ready k (Some s) None h empty idle = idle s h
  not_ready k (Some s) (Some a) h empty idle = ap (λ l. is_ready has_work (Some s) (letter a l)) (empty a)

  pub quiet_from : EachLink (λ a b l. l ≡ []) w.rows → EachNode (λ k s. has_work s ≡ false) w.nodes → IsQuiet has_work w
  quiet_from empty idle e = not_ready e.node (slice_get w.nodes e.node) e.from refl (λ a. empty a e.node) (idle e.node)

  off_by : (o : Option N) → option_map has_work o ≡ Some false → is_ready {M = M} has_work o (Some Task) ≡ false
  off_by None h = refl
  off_by (Some s) h = cc

  -- by the node's mark among those that were asked
  task_off : (k : ℕ) → slice_get (map has_work w.nodes) k ≡ Some false → enabled has_work w (record { node = k; from = None }) ≡ false
  task_off k marked = off_by (slice_get w.nodes k) (sym (slice_get-map has_work w.nodes k) ∙ marked)

  no_letter : (o : Option N) (a : ℕ) (l : List M) → l ≡ [] → is_ready has_work o (letter a l) ≡ false
  no_letter None a l empty = refl
  no_letter (Some s) a [] empty = refl
  no_letter (Some s) a (m ∷ ms) empty = cc

  no_message : (k a : ℕ) → link w.rows a k ≡ [] → enabled has_work w (record { node = k; from = Some a }) ≡ false
  no_message k a empty = no_letter (slice_get w.nodes k) a (link w.rows a k) empty

  no_node : (e : Event) → length w.nodes ≤ e.node → enabled has_work w e ≡ false
  no_node e past = ap (λ o. is_ready has_work o (input_from w.rows e.node e.from)) (slice_get_past w.nodes e.node past)

  -- a net whose nodes have no enabled event
  quiet_below : ((e : Event) → e.node < length w.nodes → enabled has_work w e ≡ false) → IsQuiet has_work w
  quiet_below none e = elim (cases_lt e.node (length w.nodes)) [
    | inl within ↦ none e within
    | inr past ↦ no_node e past
  ]

  -- a net that has no message for any node, and no task
  pub quiet_without : ((k a : ℕ) → k < length w.nodes → link w.rows a k ≡ []) →
      ((k : ℕ) → k < length w.nodes → slice_get (map has_work w.nodes) k ≡ Some false) → IsQuiet has_work w
  quiet_without empty off = quiet_below (λ e lt. by e.node e.from lt)
    where
      by : (k : ℕ) (from : Option ℕ) → k < length w.nodes → enabled has_work w (record { node = k; from = from }) ≡ false
      by k None lt = task_off k (off k lt)
      by k (Some a) lt = no_message k a (empty k a lt)

  -- none comes before a task where no link holds a message, and no lower node has its task
  pub task_first : (k : ℕ) → ((q a : ℕ) → q < length w.nodes → link w.rows a q ≡ []) →
      ((q : ℕ) → q < k → slice_get (map has_work w.nodes) q ≡ Some false) → (d : Event) → IsBefore d (record { node = k; from = None }) →
      enabled has_work w d ≡ false
  task_first k empty off d = by d.node d.from
    where
      by : (q : ℕ) (from : Option ℕ) → IsBeforeBy q from k None → enabled has_work w (record { node = q; from = from }) ≡ false
      by q None before = task_off q (off q before)
      by q (Some b) before = elim (cases_lt q (length w.nodes)) [
        | inl within ↦ no_message q b (empty q b within)
        | inr past ↦ no_node (record { node = q; from = Some b }) past
      ]

  -- a message that waits for a node
  ready_by : (o : Option N) (s : N) (a : ℕ) (l : List M) → o ≡ Some s → 0 < length l → is_ready has_work o (letter a l) ≡ true
  ready_by o s a [] h some = absurd (omega (arith, some))
  ready_by o s a (m ∷ ms) h some = rw h refl

  -- a node to which a link holds a message is fed one
  pub sender_enabled : (k : ℕ) (from : Option ℕ) → k < length w.nodes → IfSome from (λ a. 0 < length (link w.rows a k)) →
      IfNone from ((a : ℕ) → link w.rows a k ≡ []) → (((a : ℕ) → link w.rows a k ≡ []) → ⊥) →
      enabled has_work w (record { node = k; from = from }) ≡ true
  sender_enabled k None lt some none busy = absurd (busy none)
  sender_enabled k (Some a) lt some none busy =
      let s = some_at w.nodes k lt in
      ready_by (slice_get w.nodes k) s.0 a (link w.rows a k) s.1 some

  -- none comes before the first message to the lowest node
  pub sender_first : (k : ℕ) (from : Option ℕ) → ((j a : ℕ) → j < k → link w.rows a j ≡ []) →
      IfSome from (λ a. (c : ℕ) → c < a → link w.rows c k ≡ []) → IfNone from ((a : ℕ) → link w.rows a k ≡ []) →
      (((a : ℕ) → link w.rows a k ≡ []) → ⊥) → (d : Event) → IsBefore d (record { node = k; from = from }) → enabled has_work w d ≡ false
  sender_first k None lower first none busy d before = absurd (busy none)
  sender_first k (Some a) lower first none busy d before = by d.node d.from before
    where
      by : (q : ℕ) (from : Option ℕ) → IsBeforeBy q from k (Some a) → enabled has_work w (record { node = q; from = from }) ≡ false
      by q None before = absurd before
      by q (Some b) (inl lt) = no_message q b (lower q b lt)
      by q (Some b) (inr h) = no_message q b (ap (link w.rows b) h.0 ∙ first b h.1)

  task_by : (o : Option N) → has_task has_work o ≡ true → is_ready {M = M} has_work o (Some Task) ≡ true
  task_by None h = cc
  task_by (Some s) h = h

  -- a node whose task is there is fed it
  pub task_enabled : (k : ℕ) → has_task has_work (slice_get w.nodes k) ≡ true → enabled has_work w (record { node = k; from = None }) ≡ true
  task_enabled k h = task_by (slice_get w.nodes k) h

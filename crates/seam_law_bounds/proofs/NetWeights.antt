-- An enabled event lowers the weight of a world, or passes a call on and keeps it; so a run ends.
use Rattle.seam_law_bounds.proofs.Prelude.{◌≡◌, ℕ, ◌+◌, ◌≤◌, Bool, true, false, List, [], ◌∷◌, ◌++◌, length, Some, refl, ap, ◌∙◌, arith}
use Rattle.seam_law_bounds.proofs.Prelude.{length-append, if◌then◌else◌, input_from, happens, enabled, IsQuiet, Occurs, Event, Input}
use Rattle.seam_law_bounds.proofs.Prelude.{Task, Msg, NodeView, World, node_steps, node_has_work, Cell, Base, IsNode, Frame, IsAt}
use Rattle.seam_law_bounds.proofs.Prelude.{IsInFrame, RunsTo, Sizes, node_weight, letter_weight, world_weight, node_passes, passes_by}
use Rattle.seam_law_bounds.proofs.Prelude.{is_pass, NodeCan, AllCan, all_passes, occurs, occurs_works, sent_weight, input_weight}
use Rattle.seam_law_bounds.proofs.Prelude.{leads_nowhere, leads_extend, sound_sends, weight_moves, node_laws, frame_leads}
use Rattle.std.proofs.Common.{◌-◌}
use Rattle.std.specs.FinMap as table
use Rattle.seam_machine.specs.Totals.{total}
use Rattle.seam_net_runs.specs.Sound.{IsSound}
use Rattle.seam_net_runs.specs.Weights.{row_weight, totals, Lowers}
use Rattle.seam_node_steps.specs.Prelude.{From, Hand, cell_count, node_peers, number_in, renewed, IsPlainInput}
use Rattle.seam_law_bounds.specs.Weights.{left_weight, moving_letter_weight, moving_node_weight, moving_real_weight, moving_weight}
use Rattle.seam_law_bounds.specs.Weights.{real_weight, settling}
use Rattle.seam_law_bounds.proofs.Counts.{none_times}
use Rattle.seam_net_runs.proofs.Runs.{leads_end}
use Rattle.seam_law_bounds.proofs.CellWeights.{IsOfRound, cell_lowers}
use Rattle.seam_law_bounds.proofs.BaseWeights.{base_lowers}
use Rattle.seam_law_calls.proofs.Classify.{fed_plain}

abbrev one_if : Bool → ℕ
one_if b = if b then 1 else 0

-- a round in which boundaries move, of which the last have that number
module _ (z : Sizes) (last : ℕ) where
  abbrev pub NodeLowers : ℕ → NodeView → Input Msg → Type 0
  NodeLowers k s i =
      moving_node_weight z last (node_steps s i).state + sent_weight (moving_letter_weight z last) (node_steps s i).sent + 1
      ≤ moving_node_weight z last s + input_weight (moving_letter_weight z last) k i + one_if (node_passes s i)

  -- what a cell asks of boundaries that come
  abbrev pub AreOfRound : NodeView → Input Msg → Type 0
  AreOfRound (Cell c) i = IsOfRound z last c i
  AreOfRound (Base b) i = b.cells ≤ cell_count

  -- the node knows its number
  abbrev pub KnowsMe : ℕ → NodeView → Type 0
  KnowsMe k (Cell c) = c.here.me ≡ k
  KnowsMe k (Base b) = b.here.me ≡ k

  -- a step lowers the weight, or passes a call on and keeps it
  pub node_lowers : (k : ℕ) (s : NodeView) (i : Input Msg) → KnowsMe k s → AreOfRound s i → NodeCan z s i →
      (i ≡ Task → node_has_work s ≡ true) → NodeLowers k s i
  node_lowers k (Cell c) i me round can w =
      let one = cell_lowers z last c i round can w in
      let same = ap (λ n. input_weight (moving_letter_weight z last) n i) me in
      omega (arith, one, same)
  node_lowers k (Base b) i me round can w =
      let one = base_lowers z last b i can round w in
      let same = ap (λ n. input_weight (moving_letter_weight z last) n i) me in
      omega (arith, one, same)

  pub event_lowers_by : (w : World) (v : Event) (o : Occurs w v) → IsSound node_peers IsNode w → KnowsMe v.node o.node →
      AreOfRound o.node o.input → NodeCan z o.node o.input → enabled node_has_work w v ≡ true →
      Lowers node_steps is_pass (moving_weight z last) w v
  event_lowers_by w v o sound me round can on =
      let moves =
      weight_moves (moving_node_weight z last) (moving_letter_weight z last) node_steps w v o sound.square
      (sound_sends node_laws w v o sound) in
      let low = node_lowers v.node o.node o.input me round can (occurs_works node_has_work w v on o) in
      let pass =
      ap (λ x. one_if (passes_by x (input_from w.rows v.node v.from))) o.is_node ∙ ap (λ x. one_if (passes_by (Some o.node) x)) o.is_fed in
      omega (arith, moves, low, pass)

-- ---- where none move

module _ (z : Sizes) where
  none_left : (n : ℕ) → left_weight z 0 n ≡ 0
  none_left n = none_times (0 - n) (settling z) (omega arith)

  same_total : {X : Type 0} (p q : X → ℕ) → ((x : X) → p x ≡ q x) → (xs : List X) → total p xs ≡ total q xs
  same_total p q same [] = refl
  same_total p q same (x ∷ xs) = let here = same x in let rest = same_total p q same xs in omega (arith, here, rest)

  same_node : (s : NodeView) → moving_node_weight z 0 s ≡ node_weight z s
  same_node (Cell c) =
      let reals = same_total (λ p. moving_real_weight z 0 c.number p.1) (λ p. real_weight z p.1)
      (λ p. let none = none_left c.number in omega (arith, none)) (table.entries c.reals) in
      omega (arith, reals)
  same_node (Base b) = refl

  same_letter : (k : ℕ) (m : Msg) → moving_letter_weight z 0 k m ≡ letter_weight z k m
  same_letter k (Hand r bs) = let none = none_left (number_in bs) in omega (arith, none)
  same_letter k _ = refl

  same_totals : {X : Type 0} (p q : ℕ → X → ℕ) → ((i : ℕ) (x : X) → p i x ≡ q i x) → (i : ℕ) (xs : List X) → totals p i xs ≡ totals q i xs
  same_totals p q same i [] = refl
  same_totals p q same i (x ∷ xs) =
      let here = same i x in
      let rest = same_totals p q same (i + 1) xs in
      omega (arith, here, rest)

  -- where no boundaries move a world weighs the same
  pub same_weight : (w : World) → moving_weight z 0 w ≡ world_weight z w
  same_weight w =
      let nodes = same_total (moving_node_weight z 0) (node_weight z) same_node w.nodes in
      let links =
      same_total (row_weight (moving_letter_weight z 0)) (row_weight (letter_weight z))
      (same_totals (λ k. total (moving_letter_weight z 0 k)) (λ k. total (letter_weight z k))
      (λ k. same_total (moving_letter_weight z 0 k) (letter_weight z k) (same_letter k)) 0) w.rows in
      omega (arith, nodes, links)

  plain_input : (f : Frame) (k : ℕ) (s : NodeView) (i : Input Msg) → IsNode s → IsAt f k s → IsPlainInput i → AreOfRound z 0 s i
  plain_input f k (Cell c) Task is at fed = tt
  plain_input f k (Cell c) (From a m) is at fed =
      let none = ap number_in fed in
      let same = ap (λ o. (renewed c o).number) fed in
      let first = at.number in
      (omega (arith, none), omega (arith, same, first))
  plain_input f k (Base b) i is at fed = is.cells

  plain_me : (f : Frame) (k : ℕ) (s : NodeView) → IsAt f k s → KnowsMe z 0 k s
  plain_me f k (Cell c) at = ap (λ h. h.me) at.here
  plain_me f k (Base b) at = ap (λ h. h.me) at.here

  pub event_lowers : (f : Frame) (w : World) (v : Event) (o : Occurs w v) → IsInFrame f w → NodeCan z o.node o.input →
      enabled node_has_work w v ≡ true → Lowers node_steps is_pass (world_weight z) w v
  event_lowers f w v o q can on =
      let at = q.nodes v.node o.node o.is_node in
      let low =
      event_lowers_by z 0 w v o q.sound (plain_me f v.node o.node at)
      (plain_input f v.node o.node o.input (q.sound.states v.node o.node o.is_node) at (fed_plain f w v o q)) can on in
      let before = same_weight w in
      let after = same_weight (happens node_steps w v) in
      omega (arith, low, before, after)

  -- ---- a run

  module _ (f : Frame) (w : World) (q : IsInFrame f w) (can : AllCan z w) where
    record Reached (v : World) : Type 0 where
      events : List Event
      run : RunsTo w events v

    lowers_more : (v : World) (x : Event) → Reached v → enabled node_has_work v x ≡ true →
        Reached (happens node_steps v x) × Lowers node_steps is_pass (world_weight z) v x
    lowers_more v x r on =
        let o = occurs node_has_work v x on in (
          record {
            events = r.events ++ x ∷ [];
            run = leads_extend node_has_work node_steps w v r.events x r.run on;
          },
          event_lowers f v x o (frame_leads f w v r.events q r.run) (can v r.events r.run x o) on,
        )

    pub run_ends : (v : World) (es : List Event) → RunsTo w es v → length es + world_weight z v ≤ world_weight z w + all_passes w es
    run_ends v es run =
        leads_end node_has_work node_steps is_pass (world_weight z) Reached lowers_more w v es
        (record { events = []; run = leads_nowhere node_has_work node_steps w }) run

-- where no list of enabled events is longer than n, one of n leaves the world quiet
pub longest_is_quiet : (w v : World) (es : List Event) (n : ℕ) → ((u : World) (ds : List Event) → RunsTo w ds u → length ds ≤ n) →
    RunsTo w es v → n ≤ length es → IsQuiet node_has_work v
longest_is_quiet w v es n most run long x = by (enabled node_has_work v x) refl
  where
    by : (b : Bool) → enabled node_has_work v x ≡ b → b ≡ false
    by false on = refl
    by true on =
        let more = most (happens node_steps v x) (es ++ x ∷ []) (leads_extend node_has_work node_steps w v es x run on) in
        let one = length-append es (x ∷ []) in
        absurd (omega (arith, more, one, long))

-- From the logs to the run.
use Rattle.std.proofs.Common.{◌≡◌, ℕ, suc, ◌+◌, ◌<◌, ◌≤◌, ◌⊎◌, Bool, true, false, List, [], ◌∷◌, ◌++◌, length, Some, get_or, map}
use Rattle.std.proofs.Common.{refl, sym, ap, ◌∙◌, subst, arith, leb, inl, inr, append_assoc}
use Rattle.std.specs.Prelude.{slice_get}
use Rattle.std.proofs.lemmas.Bool.{cases_eq}
use Rattle.std.proofs.lemmas.Bool.Decides.{leb_tells}
use Rattle.std.proofs.lemmas.List.{ext_get_or, get_or_past}
use Rattle.seam_machine.specs.Views.{Stepped, NetView}
use Rattle.seam_machine.specs.Nets.{link, run, AllEnabled, IsSquare, LeadsTo}
use Rattle.seam_machine.specs.Sends.{items_to}
use Rattle.seam_machine.specs.declared.machines.Input.{Input}
use Rattle.seam_machine.specs.declared.machines.Event.{Event}
use Rattle.seam_machine.proofs.Occurring.{occurs, square-happens, length-happens}
use Rattle.seam_net_runs.proofs.Runs.{run_keeps}
use Rattle.seam_stamp.specs.declared.Letter.{Letter}
use Rattle.seam_stamp.specs.declared.Stamped.{Stamped}
use Rattle.seam_stamp.specs.Logs.{by_node, IsFrom, RiseFrom, IsMerge}
use Rattle.seam_stamp.proofs.Orders.{by_node_own, by_node_other}
use Rattle.seam_stamp.specs.Acts.{Act, received, state_after, sends, event_by, entries}
use Rattle.seam_stamp.specs.Moves.{Move, own, events, Rises, Fits}
use Rattle.seam_stamp.specs.Joined.{Did, left_of, Joined, IsRebuilt}
use Rattle.seam_stamp.proofs.Moves.{own_here, own_other}
use Rattle.seam_stamp.proofs.Runs.{changed, changed_here, changed_other, moves_are_run}

-- a log that is not empty has a first act
pub record First {M : Type 0} (me : ℕ) (e : Stamped Event) (es : List (Stamped Event)) (ds : List (Act M)) : Type 0 where
  pub act : Act M
  pub rest : List (Act M)
  pub acts_are : ds ≡ act ∷ rest
  pub entry_is : e ≡ record { stamp = act.stamp; node = me; item = event_by me act }
  pub rest_is : es ≡ entries me rest

first : {M : Type 0} (me : ℕ) (e : Stamped Event) (es : List (Stamped Event)) (ds : List (Act M)) → e ∷ es ≡ entries me ds →
    First me e es ds
first me e es [] h = absurd (cc)
first me e es (d ∷ ds) h = record { act = d; rest = ds; acts_are = refl; entry_is = cc; rest_is = cc }

no_entries : {M : Type 0} (me : ℕ) (ds : List (Act M)) → [] ≡ entries me ds → [] ≡ ds
no_entries me [] h = refl
no_entries me (d ∷ ds) h = absurd (cc)

-- the moves that merged logs tell of
pub record MovesOf {M : Type 0} (n t : ℕ) (ds : ℕ → List (Act M)) (es : List (Stamped Event)) : Type 0 where
  pub moves : List (Move M)
  pub own_is : (k : ℕ) → own k moves ≡ ds k
  pub events_are : events moves ≡ map (λ e. e.item) es
  pub rises : Rises n t moves

-- a node that has an entry is one of the n
node_within : {M : Type 0} (n k : ℕ) (ds : ℕ → List (Act M)) (e : Stamped Event) (es : List (Stamped Event)) →
    ((j : ℕ) → n ≤ j → ds j ≡ []) → e ∷ es ≡ entries k (ds k) → k < n
node_within n k ds e es none is = elim (leb_tells n k) [ inl p ↦ absurd (cc (is ∙ ap (entries k) (none k p.1))) | inr p ↦ p.1 ]

from_later : (t s k : ℕ) (e : Stamped Event) → t ≤ s → IsFrom s k e → t ≤ e.stamp
from_later t s k e le (inl less) = omega (arith, le, less)
from_later t s k e le (inr same) = omega (arith, le, same.0)

pub moves_of : {M : Type 0} (n t s k : ℕ) (ds : ℕ → List (Act M)) (es : List (Stamped Event)) →
    ((j : ℕ) → by_node j es ≡ entries j (ds j)) → ((j : ℕ) → n ≤ j → ds j ≡ []) → t ≤ s → RiseFrom s k es → MovesOf n t ds es
moves_of n t s k ds [] whole none le order =
    record { moves = []; own_is = λ j. no_entries j (ds j) (whole j); events_are = refl; rises = tt }
moves_of n t s k ds (e ∷ es) whole none le order =
    let m = e.node in
    let own_log : e ∷ by_node m es ≡ entries m (ds m) = sym (by_node_own m e es refl) ∙ whole m in
    let f = first m e (by_node m es) (ds m) own_log in
    let later : ℕ → List (Act _) = changed ds m f.rest in
    let whole' : (j : ℕ) → by_node j es ≡ entries j (later j) = λ j. elim (cases_eq j m) [
      | inl g ↦ rw (changed_here ds m f.rest j g, g) f.rest_is
      | inr g ↦ rw (changed_other ds m f.rest j g) (sym (by_node_other j e es (λ h. g (sym h))) ∙ whole j)
    ] in
    let within = node_within n m ds e (by_node m es) none own_log in
    let none' : (j : ℕ) → n ≤ j → later j ≡ [] =
    λ j ge. changed_other ds m f.rest j (λ h. absurd (omega (arith, within, ge, h))) ∙ none j ge in
    let r = moves_of n e.stamp e.stamp (e.node + 1) later es whole' none' (omega arith) order.1 in
    let x : Move _ = record { node = m; act = f.act } in
    let stamp : e.stamp ≡ f.act.stamp = ap (λ (s : Stamped Event). s.stamp) f.entry_is in
    record {
      moves = x ∷ r.moves;
      own_is = λ j. elim (cases_eq j m) [
        | inl g ↦ own_here x r.moves j (sym g)
            ∙ (ap (λ l. f.act ∷ l) (r.own_is j ∙ changed_here ds m f.rest j g) ∙ (sym f.acts_are ∙ ap ds (sym g)))
        | inr g ↦ own_other x r.moves j (λ h. g (sym h)) ∙ (r.own_is j ∙ changed_other ds m f.rest j g)
      ];
      events_are = ap (λ i. i ∷ events r.moves) (sym (ap (λ (s : Stamped Event). s.item) f.entry_is)) ∙ ap (λ l. e.item ∷ l) r.events_are;
      rises = (let low = from_later t s k e le order.0 in omega (arith, low, stamp), within, subst (λ u. Rises n u r.moves) stamp r.rises);
    }

nodes_same : {X : Type 0} (xs ys : List X) → length xs ≡ length ys → ((k : ℕ) → k < length xs → slice_get xs k ≡ slice_get ys k) → xs ≡ ys
nodes_same [] [] e h = refl
nodes_same [] (y ∷ ys) e h = absurd (omega arith)
nodes_same (x ∷ xs) [] e h = absurd (omega arith)
nodes_same (x ∷ xs) (y ∷ ys) e h =
    let head : Some x ≡ Some y = h 0 (omega arith) in
    let same : x ≡ y = cc in
    ap (λ l. x ∷ l) (nodes_same xs ys (omega (arith, e)) (λ k lt. h (suc k) (omega (arith, lt)))) ∙ ap (λ z. z ∷ ys) same

-- nets with the same nodes and links are the same
pub same_nets : {N M : Type 0} (w v : NetView N M) → IsSquare w → IsSquare v → length w.nodes ≡ length v.nodes →
    ((k : ℕ) → k < length w.nodes → slice_get w.nodes k ≡ slice_get v.nodes k) →
    ((a b : ℕ) → a < length w.nodes → b < length w.nodes → link w.rows a b ≡ link v.rows a b) → w ≡ v
same_nets w v q r len nodes links =
    let one : w.nodes ≡ v.nodes = nodes_same w.nodes v.nodes len nodes in
    let two : w.rows ≡ v.rows = ext_get_or [] w.rows v.rows (omega (arith, q.rows, r.rows, len)) (λ a la.
    let wide : length (get_or w.rows a []) ≡ length w.nodes = q.links a [] la in
    let wide' : length (get_or v.rows a []) ≡ length v.nodes = r.links a [] (omega (arith, la, q.rows, r.rows, len)) in
    ext_get_or [] (get_or w.rows a []) (get_or v.rows a []) (omega (arith, wide, wide', len))
    (λ b lb. links a b (omega (arith, la, q.rows)) (omega (arith, lb, wide)))) in
    ap (λ ns. record { nodes = ns; rows = w.rows }) one ∙ ap (λ rs. record { nodes = v.nodes; rows = rs }) two

module _ {N M : Type 0} (has_work : N → Bool) (steps : N → Input M → Stepped N M) where
  abbrev Shape : ℕ → NetView N M → Type 0
  Shape n v = IsSquare v × (length v.nodes ≡ n)

  shape_run : (n : ℕ) (w : NetView N M) (es : List Event) → Shape n w → AllEnabled has_work steps w es → Shape n (run steps w es)
  shape_run n w es s a =
      run_keeps has_work steps (Shape n) (λ u e p may. let o = occurs has_work u e may in
      (square-happens steps u e o p.0, length-happens steps u e o ∙ p.1)) w es s a

module _ {N M : Type 0} (has_work : N → Bool) (steps : N → Input M → Stepped N M) (n : ℕ) (w v : NetView N M) (start now : ℕ → N)
    (logs : List (List (Stamped Event))) (hand : ℕ → List (ℕ × Letter M)) (first taken put met : ℕ → ℕ → List (Letter M))
    (merged : List (Stamped Event)) (joined : Joined has_work steps n w start now logs hand first taken put met)
    (merge : IsMerge logs merged) (rebuilt : IsRebuilt n now (left_of hand met) v) where
  abbrev log : ℕ → List (Stamped Event)
  log k = get_or logs k []

  -- what node k did; nothing where there is no such node
  abbrev DidK : ℕ → List (Act M) → Type 0
  DidK k ds = (k < n → Did has_work steps n k (start k) (first k) (log k) (now k) (hand k) (taken k) (put k) ds) × (n ≤ k → ds ≡ [])

  chosen_by : (k : ℕ) → ((leb n k ≡ true) × (n ≤ k)) ⊎ ((leb n k ≡ false) × (k < n)) → (ds : List (Act M)) × DidK k ds
  chosen_by k (inl p) = ([], ((λ lt. absurd (omega (arith, lt, p.1))), (λ ge. refl)))
  chosen_by k (inr p) = let h = joined.did k p.1 in (h.0, ((λ _. h.1), (λ ge. absurd (omega (arith, ge, p.1)))))

  chosen : (k : ℕ) → (ds : List (Act M)) × DidK k ds
  chosen k = chosen_by k (leb_tells n k)

  abbrev acts : ℕ → List (Act M)
  acts k = (chosen k).0

  did : (k : ℕ) → k < n → Did has_work steps n k (start k) (first k) (log k) (now k) (hand k) (taken k) (put k) (acts k)
  did k lt = (chosen k).1.0 lt

  whole : (k : ℕ) → by_node k merged ≡ entries k (acts k)
  whole k = elim (leb_tells n k) [
    | inl p ↦ merge.whole k ∙ (get_or_past logs k [] (let few = joined.few in omega (arith, few, p.1))
        ∙ ap (entries k) (sym ((chosen k).1.1 p.1)))
    | inr p ↦ merge.whole k ∙ (did k p.1).log_is
  ]

  abbrev found : MovesOf n 0 acts merged
  found = moves_of n 0 0 0 acts merged whole (λ k ge. (chosen k).1.1 ge) (omega arith) merge.order

  passed : (a b : ℕ) → a < n → b < n → received a (acts b) ++ left_of hand met a b
      ≡ first a b ++ items_to b (sends steps (start a) (acts a))
  passed a b la lb =
      let got = received a (acts b) in
      sym (append_assoc got (items_to a (hand b)) (met a b))
      ∙ (ap (λ l. l ++ met a b) (sym ((did b lb).taken_is a la)) ∙ (joined.meet a b la lb ∙ (did a la).put_is b lb))

  fits : Fits has_work steps n w start (λ _. 0) first (left_of hand met) found.moves
  fits = record {
    square = joined.square;
    count = joined.count;
    nodes = joined.nodes;
    links = joined.links;
    legal = λ k lt. rw (found.own_is k) (did k lt).legal;
    passed = λ a b la lb. rw (found.own_is a, found.own_is b) (passed a b la lb);
  }

  pub logs_are_run : LeadsTo has_work steps w (map (λ e. e.item) merged) v
  logs_are_run =
      let r = moves_are_run has_work steps n w start (λ _. 0) first (left_of hand met) found.moves 0 fits found.rises in
      let es = events found.moves in
      let u = run steps w es in
      let s = shape_run has_work steps n w es (joined.square, joined.count) r.enabled in
      let same : v ≡ u = same_nets v u rebuilt.square s.0 (rebuilt.count ∙ sym s.1)
      (λ k lt. let l : k < n = omega (arith, lt, rebuilt.count) in
      rebuilt.nodes k l ∙ sym (r.nodes k l ∙ ap Some (ap (state_after steps (start k)) (found.own_is k) ∙ sym (did k l).node_is)))
      (λ a b la lb. let l : a < n = omega (arith, la, rebuilt.count) in let m : b < n = omega (arith, lb, rebuilt.count) in
      rebuilt.links a b l m ∙ sym (r.links a b l m)) in
      record {
        each = subst (λ l. AllEnabled has_work steps w l) found.events_are r.enabled;
        is_run = same ∙ ap (run steps w) found.events_are;
      }

-- What is true of each node and of each link after an event, and each link exactly.
use Rattle.std.proofs.Common.{◌≡◌, ℕ, ◌<◌, List, [], ◌∷◌, ◌++◌, length, Option, None, Some, get_or, set, drop, refl, sym, ap, ◌∙◌, subst}
use Rattle.std.proofs.Common.{arith, inl, inr}
use Rattle.seam_machine.specs.Views.{Stepped, NetView}
use Rattle.seam_machine.specs.Sends.{AllBelow}
use Rattle.seam_machine.specs.Nets.{link, put_all, send_all, row_less, rows_less, letter, input_from, rows_after_feeding, happens, IsSquare}
use Rattle.seam_machine.specs.Events.{Occurs, EachNode, EachLink, link_left, link_added}
use Rattle.seam_net_runs.specs.Kept.{StaysTrue}
use Rattle.seam_machine.specs.declared.machines.Input.{Input}
use Rattle.seam_machine.specs.declared.machines.Event.{Event}
use Rattle.seam_machine.proofs.Occurring.{happens-is, nodes-happens, node_within, length-rows_after_feeding, rows_after_wide}
use Rattle.seam_machine.proofs.Puts.{link-send_all, link-rows_less}
use Rattle.seam_machine.proofs.Writes.{Written, here, other, written, slice_get-set}

each_set : {N : Type 0} (P : ℕ → N → Type 0) (nodes : List N) (k : ℕ) (s : N) → k < length nodes → EachNode P nodes → P k s →
    EachNode P (set nodes k s)
each_set P nodes k s lt each new j t e = elim (slice_get-set nodes k s j lt) [
  | inl h ↦ let same : Some s ≡ Some t = sym h.1 ∙ e in let st : s ≡ t = cc in subst (λ i. P i t) (sym h.0) (subst (P k) st new)
  | inr h ↦ each j t (sym h.1 ∙ e)
]

-- P stays true of each node where it is true of the node that made the step
pub each_node : {N M : Type 0} (P : ℕ → N → Type 0) (steps : N → Input M → Stepped N M) (w : NetView N M) (e : Event) (o : Occurs w e) →
    EachNode P w.nodes → P e.node (steps o.node o.input).state → EachNode P (happens steps w e).nodes
each_node P steps w e o each new =
    rw (nodes-happens steps w e o) (each_set P w.nodes e.node (steps o.node o.input).state (node_within w e o) each new)

taken_left : {M : Type 0} (rows : List (List (List M))) (a k x y : ℕ) (i : Input M) (ms : List M) → link rows a k ≡ ms →
    letter a ms ≡ Some i → link (rows_less rows a k) x y ≡ link_left rows k (Some a) x y
taken_left rows a k x y i [] h e = cc
taken_left rows a k x y i (m ∷ ms) h e = link-rows_less rows a k x y m ms h

-- what an event leaves of each link
pub link-rows_after_feeding : {M : Type 0} (rows : List (List (List M))) (k : ℕ) (from : Option ℕ) (i : Input M) →
    input_from rows k from ≡ Some i → (x y : ℕ) → link (rows_after_feeding rows k from) x y ≡ link_left rows k from x y
link-rows_after_feeding rows k None i e x y = refl
link-rows_after_feeding rows k (Some a) i e x y = taken_left rows a k x y i (link rows a k) refl e

-- each link after an event, exactly: what was left of it, and what the step added
pub link_is_exact : {N M : Type 0} (steps : N → Input M → Stepped N M) (w : NetView N M) (e : Event) (o : Occurs w e) → IsSquare w →
    AllBelow (length w.nodes) (steps o.node o.input).sent → (x y : ℕ) →
    link (happens steps w e).rows x y ≡ link_left w.rows e.node e.from x y ++ link_added e.node (steps o.node o.input).sent x y
link_is_exact steps w e o q b x y =
    let rows = rows_after_feeding w.rows e.node e.from in
    let sent = (steps o.node o.input).sent in
    let lt = node_within w e o in
    let n : length rows ≡ length w.nodes = length-rows_after_feeding w.rows e.node e.from ∙ q.rows in
    let short : e.node < length rows = omega (arith, lt, n) in
    let wide : length (get_or rows e.node []) ≡ length w.nodes =
    rows_after_wide (length w.nodes) w.rows e.node e.from q.links e.node [] short in
    ap (λ v. link v.rows x y) (happens-is steps w e o)
    ∙ (link-send_all rows e.node sent x y (rw wide b) short
    ∙ ap (λ l. l ++ link_added e.node sent x y) (link-rows_after_feeding w.rows e.node e.from o.input o.is_fed x y))

module _ {M : Type 0} (Q : ℕ → ℕ → List M → Type 0) where
  written_row : (a x y : ℕ) (row : List (List M)) (rows : List (List (List M))) (got : List (List M)) → EachLink Q rows →
      ((b : ℕ) → Q a b (get_or row b [])) → Written rows row [] a x got → Q x y (get_or got y [])
  written_row a x y row rows got each new (here e lt g) = rw (e, g) (new y)
  written_row a x y row rows got each new (other n g) = rw g (each x y)

  written_link : (a b y : ℕ) (row : List (List M)) (l got : List M) → ((b : ℕ) → Q a b (get_or row b [])) → Q a b l →
      Written row l [] b y got → Q a y got
  written_link a b y row l got each new (here e lt g) = rw (e, g) new
  written_link a b y row l got each new (other n g) = rw g (each y)

  each_row : (rows : List (List (List M))) (a : ℕ) (row : List (List M)) → EachLink Q rows → ((b : ℕ) → Q a b (get_or row b [])) →
      EachLink Q (set rows a row)
  each_row rows a row each new x y = written_row a x y row rows (get_or (set rows a row) x []) each new (written rows a row [] x)

  each_taken : (rows : List (List (List M))) (a k : ℕ) → EachLink Q rows → Q a k (drop 1 (link rows a k)) → EachLink Q (rows_less rows a k)
  each_taken rows a k each less =
      each_row rows a (row_less (get_or rows a []) k) each
      (λ y. written_link a k y (get_or rows a []) (drop 1 (link rows a k))
      (get_or (set (get_or rows a []) k (drop 1 (link rows a k))) y []) (λ b. each a b) less
      (written (get_or rows a []) k (drop 1 (link rows a k)) [] y))

  each_after_feeding : (rows : List (List (List M))) (k : ℕ) (from : Option ℕ) → EachLink Q rows →
      ((a : ℕ) → from ≡ Some a → Q a k (drop 1 (link rows a k))) → EachLink Q (rows_after_feeding rows k from)
  each_after_feeding rows k None each less = each
  each_after_feeding rows k (Some a) each less = each_taken rows a k each (less a refl)

  put_keeps : (k : ℕ) (row : List (List M)) (ps : List (ℕ × M)) → ((b : ℕ) → Q k b (get_or row b [])) → StaysTrue Q k ps → (b : ℕ) →
      Q k b (get_or (put_all row ps) b [])
  put_keeps k row [] each more b = each b
  put_keeps k row (p ∷ ps) each more b =
      let new = get_or row p.0 [] ++ p.1 ∷ [] in
      put_keeps k (set row p.0 new) ps (λ y. written_link k p.0 y row new (get_or (set row p.0 new) y []) each
      (more.0 (get_or row p.0 []) (each p.0)) (written row p.0 new [] y)) more.1 b

  each_sent : (rows : List (List (List M))) (k : ℕ) (ps : List (ℕ × M)) → EachLink Q rows → StaysTrue Q k ps →
      EachLink Q (send_all rows k ps)
  each_sent rows k ps each more =
      each_row rows k (put_all (get_or rows k []) ps) each (put_keeps k (get_or rows k []) ps (λ b. each k b) more)

  -- Q stays true of each link where it is true of what is left of the one that the event fed from, and stays true as items are put
  pub each_link : {N : Type 0} (steps : N → Input M → Stepped N M) (w : NetView N M) (e : Event) (o : Occurs w e) → EachLink Q w.rows →
      ((a : ℕ) → e.from ≡ Some a → Q a e.node (drop 1 (link w.rows a e.node))) → StaysTrue Q e.node (steps o.node o.input).sent →
      EachLink Q (happens steps w e).rows
  each_link steps w e o each less more =
      rw (happens-is steps w e o) (each_sent (rows_after_feeding w.rows e.node e.from) e.node (steps o.node o.input).sent
      (each_after_feeding w.rows e.node e.from each less) more)

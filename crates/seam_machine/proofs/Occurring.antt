-- What an enabled event is, what it does, and the shape that it keeps.
use Rattle.std.proofs.Common.{◌≡◌, ℕ, ◌<◌, Bool, true, List, [], ◌∷◌, length, Option, None, Some, get_or, set, drop, refl, sym, ap, ◌∙◌}
use Rattle.std.proofs.Common.{subst, arith}
use Rattle.std.specs.Prelude.{slice_get}
use Rattle.std.specs.List.{All}
use Rattle.std.proofs.lemmas.List.{length-set, set-get_or}
use Rattle.std.proofs.lemmas.Option.{slice_get_within, get_or_from_slice_get}
use Rattle.seam_machine.specs.Views.{Stepped, NetView}
use Rattle.seam_machine.specs.Nets.{link, put_all, row_less, letter, input_from, rows_after_feeding, stepped_net, happens, is_ready}
use Rattle.seam_machine.specs.Nets.{enabled, with_node, IsSquare}
use Rattle.seam_machine.specs.Events.{Occurs}
use Rattle.seam_machine.specs.Inside.{Feeds, IsNet}
use Rattle.seam_machine.specs.declared.machines.Input.{Input}
use Rattle.seam_machine.specs.declared.machines.Input.TheVariants.{Task}
use Rattle.seam_machine.specs.declared.machines.Event.{Event}
use Rattle.seam_machine.proofs.Puts.{length-put_all}
use Rattle.seam_machine.proofs.Writes.{All-set_kept, set_here, set_there}

ready_parts : {N M : Type 0} (has_work : N → Bool) (o : Option N) (i : Option (Input M)) → is_ready has_work o i ≡ true →
    (s : N) × (x : Input M) × (o ≡ Some s) × (i ≡ Some x)
ready_parts has_work (Some s) (Some x) h = (s, x, refl, refl)
ready_parts has_work (Some s) None h = cc
ready_parts has_work None i h = cc

-- an enabled event has a node and what it is fed
pub occurs : {N M : Type 0} (has_work : N → Bool) (w : NetView N M) (e : Event) → enabled has_work w e ≡ true → Occurs w e
occurs has_work w e h =
    let p = ready_parts has_work (slice_get w.nodes e.node) (input_from w.rows e.node e.from) h in
    record { node = p.0; input = p.1; is_node = p.2; is_fed = p.3 }

-- an event that feeds a task finds it there
pub occurs_works : {N M : Type 0} (has_work : N → Bool) (w : NetView N M) (e : Event) → enabled has_work w e ≡ true → (o : Occurs w e) →
    o.input ≡ Task → has_work o.node ≡ true
occurs_works has_work w e h o t =
    let ready : is_ready has_work (Some o.node) (Some o.input) ≡ true = rw (o.is_node, o.is_fed) at h in
    let P : Input _ → Type 0 = λ i. is_ready has_work (Some o.node) (Some i) ≡ true in
    subst P t ready

pub happens-is : {N M : Type 0} (steps : N → Input M → Stepped N M) (w : NetView N M) (e : Event) (o : Occurs w e) →
    happens steps w e ≡ stepped_net w.nodes (rows_after_feeding w.rows e.node e.from) e.node (steps o.node o.input)
happens-is steps w e o = rw (o.is_node, o.is_fed)

pub node_within : {N M : Type 0} (w : NetView N M) (e : Event) (o : Occurs w e) → e.node < length w.nodes
node_within w e o = slice_get_within w.nodes e.node o.node o.is_node

-- the rows keep their number and their lengths
pub length-rows_after_feeding : {M : Type 0} (rows : List (List (List M))) (k : ℕ) (from : Option ℕ) →
    length (rows_after_feeding rows k from) ≡ length rows
length-rows_after_feeding rows k None = refl
length-rows_after_feeding rows k (Some a) = length-set rows a (row_less (get_or rows a []) k)

pub rows_after_wide : {M : Type 0} (n : ℕ) (rows : List (List (List M))) (k : ℕ) (from : Option ℕ) → All (λ r. length r ≡ n) rows →
    All (λ r. length r ≡ n) (rows_after_feeding rows k from)
rows_after_wide n rows k None h = h
rows_after_wide n rows k (Some a) h =
    All-set_kept (λ r. length r ≡ n) rows a (row_less (get_or rows a []) k) (λ lt. length-set (get_or rows a []) k (drop 1 (link rows a k))
    ∙ h a [] lt) h

square_stepped : {N M : Type 0} (w : NetView N M) (k : ℕ) (from : Option ℕ) (t : Stepped N M) → IsSquare w →
    IsSquare (stepped_net w.nodes (rows_after_feeding w.rows k from) k t)
square_stepped w k from t q =
    let rows = rows_after_feeding w.rows k from in
    let n = length-set w.nodes k t.state in
    let h = rows_after_wide (length w.nodes) w.rows k from q.links in
    record {
      rows = omega (arith, length-set rows k (put_all (get_or rows k []) t.sent), length-rows_after_feeding w.rows k from, q.rows, n);
      links =
          rw n (All-set_kept (λ r. length r ≡ length w.nodes) rows k (put_all (get_or rows k []) t.sent)
          (λ lt. length-put_all (get_or rows k []) t.sent ∙ h k [] lt) h);
    }

pub square-happens : {N M : Type 0} (steps : N → Input M → Stepped N M) (w : NetView N M) (e : Event) (o : Occurs w e) → IsSquare w →
    IsSquare (happens steps w e)
square-happens steps w e o q = rw (happens-is steps w e o) (square_stepped w e.node e.from (steps o.node o.input) q)

pub nodes-happens : {N M : Type 0} (steps : N → Input M → Stepped N M) (w : NetView N M) (e : Event) (o : Occurs w e) →
    (happens steps w e).nodes ≡ set w.nodes e.node (steps o.node o.input).state
nodes-happens steps w e o = ap (λ v. v.nodes) (happens-is steps w e o)

-- the node of an event has what its step gives, and the others stay
pub node_here : {N M : Type 0} (steps : N → Input M → Stepped N M) (w : NetView N M) (e : Event) (o : Occurs w e) →
    slice_get (happens steps w e).nodes e.node ≡ Some (steps o.node o.input).state
node_here steps w e o =
    ap (λ l. slice_get l e.node) (nodes-happens steps w e o) ∙ set_here w.nodes e.node (steps o.node o.input).state (node_within w e o)

pub node_there : {N M : Type 0} (steps : N → Input M → Stepped N M) (w : NetView N M) (e : Event) (o : Occurs w e) (j : ℕ) →
    (j ≡ e.node → ⊥) → slice_get (happens steps w e).nodes j ≡ slice_get w.nodes j
node_there steps w e o j n =
    ap (λ l. slice_get l j) (nodes-happens steps w e o) ∙ set_there w.nodes e.node (steps o.node o.input).state j (node_within w e o) n

pub length-happens : {N M : Type 0} (steps : N → Input M → Stepped N M) (w : NetView N M) (e : Event) (o : Occurs w e) →
    length (happens steps w e).nodes ≡ length w.nodes
length-happens steps w e o = ap length (nodes-happens steps w e o) ∙ length-set w.nodes e.node (steps o.node o.input).state

-- a node that is ready for its task has it, and one that is ready for a message of a link finds it there
pub works : {N M : Type 0} (has_work : N → Bool) (rows : List (List (List M))) (k : ℕ) (from : Option ℕ) (s : N) →
    is_ready has_work (Some s) (input_from rows k from) ≡ true → from ≡ None → has_work s ≡ true
works has_work rows k None s h f = h
works has_work rows k (Some a) s h f = cc

pub holds : {N M : Type 0} (has_work : N → Bool) (s : N) (a : ℕ) (ms : List M) → is_ready has_work (Some s) (letter a ms) ≡ true →
    0 < length ms
holds has_work s a [] h = cc
holds has_work s a (m ∷ ms) h = omega arith

-- a net whose node was fed its input is the net after the event
pub fed_happens : {N M : Type 0} (steps : N → Input M → Stepped N M) (w : NetView N M) (e : Event) (nodes : List N)
    (rows rows' : List (List (List M))) (s s' : N) → nodes ≡ w.nodes → rows ≡ w.rows → slice_get w.nodes e.node ≡ Some s →
    Feeds steps e.node e.from rows s rows' s' →
    ◌≡◌ {A = NetView N M} (record { nodes = set nodes e.node s'; rows = rows' }) (happens steps w e)
fed_happens steps w e nodes rows rows' s s' same_nodes same_rows n d =
    let fed : input_from w.rows e.node e.from ≡ Some d.input =
    ap (λ r. input_from r e.node e.from) (sym same_rows) ∙ d.is_fed in
    let o : Occurs w e = record { node = s; input = d.input; is_node = n; is_fed = fed } in
    rw (happens-is steps w e o, d.state_is, d.rows_is, same_rows, same_nodes) refl

pub net_fed : {N M : Type 0} (steps : N → Input M → Stepped N M) (w : NetView N M) (e : Event) (nodes : List N)
    (rows rows' : List (List (List M))) (s s' : N) → nodes ≡ w.nodes → rows ≡ w.rows → slice_get w.nodes e.node ≡ Some s →
    Feeds steps e.node e.from rows s rows' s' → IsNet w → IsNet (record { nodes = set nodes e.node s'; rows = rows' })
net_fed steps w e nodes rows rows' s s' same_nodes same_rows n d q =
    let fed : input_from w.rows e.node e.from ≡ Some d.input =
    ap (λ r. input_from r e.node e.from) (sym same_rows) ∙ d.is_fed in
    let o : Occurs w e = record { node = s; input = d.input; is_node = n; is_fed = fed } in
    let few = q.few in
    let len = length-happens steps w e o in
    let there : IsNet (happens steps w e) = record { few = omega (arith, few, len); square = square-happens steps w e o q.square } in
    subst IsNet (sym (fed_happens steps w e nodes rows rows' s s' same_nodes same_rows n d)) there

-- a net whose node is put back as it was
pub with_node_same : {N M : Type 0} (w : NetView N M) (k : ℕ) (s : N) → slice_get w.nodes k ≡ Some s → with_node w k s ≡ w
with_node_same w k s h =
    ap (λ l. record w { nodes = l }) (ap (set w.nodes k) (sym (get_or_from_slice_get w.nodes k s s h)) ∙ set-get_or w.nodes k s)

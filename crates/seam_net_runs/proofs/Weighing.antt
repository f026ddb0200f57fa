-- What an event changes of the weight of a net.
use Rattle.std.proofs.Common.{zero, suc, ◌≡◌, ℕ, ◌+◌, ◌<◌, ◌≤◌, List, [], ◌∷◌, ◌++◌, length, Option, None, Some, get_or, set, drop, refl}
use Rattle.std.proofs.Common.{ap, ◌∙◌, arith}
use Rattle.std.specs.Prelude.{slice_get}
use Rattle.std.specs.List.{All}
use Rattle.std.proofs.lemmas.List.{length-set}
use Rattle.std.proofs.lemmas.List.Elements.{All-head, All-tail}
use Rattle.std.proofs.lemmas.Option.{slice_get_within, get_or_from_slice_get}
use Rattle.seam_machine.specs.Views.{Stepped, NetView}
use Rattle.seam_machine.specs.Sends.{AllBelow}
use Rattle.seam_machine.specs.Nets.{link, put_all, send_all, row_less, rows_less, letter, input_from, rows_after_feeding, stepped_net}
use Rattle.seam_machine.specs.Nets.{happens, IsSquare}
use Rattle.seam_machine.specs.Totals.{total}
use Rattle.seam_net_runs.specs.Weights.{totals, row_weight, links_weight, weight, input_weight, sent_weight}
use Rattle.seam_machine.specs.Events.{Occurs}
use Rattle.seam_machine.specs.declared.machines.Input.{Input}
use Rattle.seam_machine.specs.declared.machines.Input.TheVariants.{Task, From}
use Rattle.seam_machine.specs.declared.machines.Event.{Event}
use Rattle.seam_machine.proofs.Totals.{total-push, total-set, total-drop, get_or-le-total}
use Rattle.seam_machine.proofs.Puts.{link_is_in}
use Rattle.seam_machine.proofs.Occurring.{happens-is, length-rows_after_feeding, rows_after_wide}

totals_set : {X : Type 0} (f : ℕ → X → ℕ) (xs : List X) (i k : ℕ) (y d : X) → k < length xs →
    totals f i (set xs k y) + f (i + k) (get_or xs k d) ≡ totals f i xs + f (i + k) y
totals_set f [] i k y d h = absurd (omega (arith, h))
totals_set f (x ∷ xs) i zero y d h =
    let e : i + 0 ≡ i = omega arith in
    let one = ap (λ j. f j x) e in
    let two = ap (λ j. f j y) e in
    omega (arith, one, two)
totals_set f (x ∷ xs) i (suc k) y d h =
    let e : (i + 1) + k ≡ i + suc k = omega arith in
    let rest = totals_set f xs (i + 1) k y d (omega (arith, h)) in
    let one = ap (λ j. f j (get_or xs k d)) e in
    let two = ap (λ j. f j y) e in
    omega (arith, rest, one, two)

totals_zero : {X : Type 0} (f : ℕ → X → ℕ) (k : ℕ) (x : X) → f (0 + k) x ≡ f k x
totals_zero f k x = ap (λ j. f j x) plain
  where
    plain : 0 + k ≡ k
    plain = omega arith

row_weight_set : {M : Type 0} (g : ℕ → M → ℕ) (row : List (List M)) (k : ℕ) (y : List M) → k < length row →
    row_weight g (set row k y) + total (g k) (get_or row k []) ≡ row_weight g row + total (g k) y
row_weight_set g row k y h =
    let one = totals_set (λ b. total (g b)) row 0 k y [] h in
    let two = totals_zero (λ b. total (g b)) k (get_or row k []) in
    let three = totals_zero (λ b. total (g b)) k y in
    omega (arith, one, two, three)

-- the weight of one node's links that items were put on
row_weight_put_all : {M : Type 0} (g : ℕ → M → ℕ) (row : List (List M)) (ps : List (ℕ × M)) → AllBelow (length row) ps →
    row_weight g (put_all row ps) ≡ row_weight g row + sent_weight g ps
row_weight_put_all g row [] b = omega arith
row_weight_put_all g row (p ∷ ps) b =
    let here = All-head (λ p. p.0 < length row) p ps b in
    let new = get_or row p.0 [] ++ p.1 ∷ [] in
    let e = row_weight_put_all g (set row p.0 new) ps (rw length-set (All-tail (λ p. p.0 < length row) p ps b)) in
    let one = row_weight_set g row p.0 new here in
    let two = total-push (g p.0) (get_or row p.0 []) p.1 in
    omega (arith, e, one, two)

-- the weight of all links after a node sent
pub links_weight-send_all : {M : Type 0} (g : ℕ → M → ℕ) (rows : List (List (List M))) (a : ℕ) (ps : List (ℕ × M)) → a < length rows →
    AllBelow (length (get_or rows a [])) ps → links_weight g (send_all rows a ps) ≡ links_weight g rows + sent_weight g ps
links_weight-send_all g rows a ps h b =
    let one = total-set (row_weight g) rows a (put_all (get_or rows a []) ps) [] h in
    let two = row_weight_put_all g (get_or rows a []) ps b in
    omega (arith, one, two)

-- the weight of all links after a message was fed
pub links_weight-rows_less : {M : Type 0} (g : ℕ → M → ℕ) (rows : List (List (List M))) (a b : ℕ) (m : M) (ms : List M) →
    link rows a b ≡ m ∷ ms → a < length rows → b < length (get_or rows a []) →
    links_weight g (rows_less rows a b) + g b m ≡ links_weight g rows
links_weight-rows_less g rows a b m ms e h k =
    let one = total-set (row_weight g) rows a (row_less (get_or rows a []) b) [] h in
    let two = row_weight_set g (get_or rows a []) b (drop 1 (link rows a b)) k in
    let three = total-drop (g b) m (link rows a b) ms e in
    omega (arith, one, two, three)

module _ {N M : Type 0} (f : N → ℕ) (g : ℕ → M → ℕ) (w : NetView N M) (q : IsSquare w) (k : ℕ) (s : N) (t : Stepped N M)
    (is_node : slice_get w.nodes k ≡ Some s) (sent : AllBelow (length w.nodes) t.sent) where
  stepped_weighs : (rows : List (List (List M))) → length rows ≡ length w.nodes → All (λ r. length r ≡ length w.nodes) rows →
      weight f g (stepped_net w.nodes rows k t) + f s ≡ total f w.nodes + links_weight g rows + f t.state + sent_weight g t.sent
  stepped_weighs rows n l =
      let lt = slice_get_within w.nodes k s is_node in
      let at : get_or w.nodes k s ≡ s = get_or_from_slice_get w.nodes k s s is_node in
      let lr : k < length rows = omega (arith, lt, n) in
      let one = total-set f w.nodes k t.state s lt in
      let two = links_weight-send_all g rows k t.sent lr (rw (l k [] lr) sent) in
      omega (arith, one, two, ap f at)

  from_weighs : (a : ℕ) (i : Input M) (ms : List M) → link w.rows a k ≡ ms → letter a ms ≡ Some i →
      weight f g (stepped_net w.nodes (rows_less w.rows a k) k t) + (f s + input_weight g k i)
      ≡ weight f g w + (f t.state + sent_weight g t.sent)
  from_weighs a i [] e l = cc
  from_weighs a Task (m ∷ ms) e l = cc
  from_weighs a (From b x) (m ∷ ms) e l =
      let same : m ≡ x = cc in
      let lt = link_is_in w.rows a k m ms e in
      let one =
      stepped_weighs (rows_less w.rows a k) (length-rows_after_feeding w.rows k (Some a) ∙ q.rows)
      (rows_after_wide (length w.nodes) w.rows k (Some a) q.links) in
      let two = links_weight-rows_less g w.rows a k m ms e lt.0 lt.1 in
      omega (arith, one, two, ap (g k) same)

  by_weighs : (from : Option ℕ) (i : Input M) → input_from w.rows k from ≡ Some i →
      weight f g (stepped_net w.nodes (rows_after_feeding w.rows k from) k t) + (f s + input_weight g k i)
      ≡ weight f g w + (f t.state + sent_weight g t.sent)
  by_weighs None Task e = let one = stepped_weighs w.rows q.rows q.links in omega (arith, one)
  by_weighs None (From a m) e = cc
  by_weighs (Some a) i e = from_weighs a i (link w.rows a k) refl e

-- the weight of a net changes as that of the node and its input does: so what a step keeps, lowers or raises, the event does
pub weight_moves : {N M : Type 0} (f : N → ℕ) (g : ℕ → M → ℕ) (steps : N → Input M → Stepped N M) (w : NetView N M) (e : Event)
    (o : Occurs w e) → IsSquare w → AllBelow (length w.nodes) (steps o.node o.input).sent →
    weight f g (happens steps w e) + (f o.node + input_weight g e.node o.input)
    ≡ weight f g w + (f (steps o.node o.input).state + sent_weight g (steps o.node o.input).sent)
weight_moves f g steps w e o q sent =
    rw (happens-is steps w e o) (by_weighs f g w q e.node o.node (steps o.node o.input) o.is_node sent e.from o.input o.is_fed)

pub weight_kept : {N M : Type 0} (f : N → ℕ) (g : ℕ → M → ℕ) (steps : N → Input M → Stepped N M) (w : NetView N M) (e : Event)
    (o : Occurs w e) → IsSquare w → AllBelow (length w.nodes) (steps o.node o.input).sent →
    f (steps o.node o.input).state + sent_weight g (steps o.node o.input).sent ≡ f o.node + input_weight g e.node o.input →
    weight f g (happens steps w e) ≡ weight f g w
weight_kept f g steps w e o q sent kept = let h = weight_moves f g steps w e o q sent in omega (arith, h, kept)

totals_bounds : {X : Type 0} (f : ℕ → X → ℕ) (xs : List X) (i k : ℕ) (d : X) → k < length xs → f (i + k) (get_or xs k d) ≤ totals f i xs
totals_bounds f [] i k d h = absurd (omega (arith, h))
totals_bounds f (x ∷ xs) i zero d h =
    let e : i + 0 ≡ i = omega arith in
    let one = ap (λ j. f j x) e in
    omega (arith, one)
totals_bounds f (x ∷ xs) i (suc k) d h =
    let e : (i + 1) + k ≡ i + suc k = omega arith in
    let rest = totals_bounds f xs (i + 1) k d (omega (arith, h)) in
    let one = ap (λ j. f j (get_or xs k d)) e in
    omega (arith, rest, one)

letter_bounds : {M : Type 0} (g : ℕ → M → ℕ) (rows : List (List (List M))) (a k : ℕ) (i : Input M) (ms : List M) → link rows a k ≡ ms →
    letter a ms ≡ Some i → input_weight g k i ≤ links_weight g rows
letter_bounds g rows a k i [] e l = cc
letter_bounds g rows a k Task (m ∷ ms) e l = cc
letter_bounds g rows a k (From b x) (m ∷ ms) e l =
    let same : m ≡ x = cc in
    let lt = link_is_in rows a k m ms e in
    let one = get_or-le-total (row_weight g) rows a [] lt.0 in
    let two = totals_bounds (λ b. total (g b)) (get_or rows a []) 0 k [] lt.1 in
    let at = totals_zero (λ b. total (g b)) k (link rows a k) in
    let three = ap (total (g k)) e in
    omega (arith, one, two, at, three, ap (g k) same)

input_bounds : {N M : Type 0} (g : ℕ → M → ℕ) (w : NetView N M) (k : ℕ) (from : Option ℕ) (i : Input M) →
    input_from w.rows k from ≡ Some i → input_weight g k i ≤ links_weight g w.rows
input_bounds g w k None Task e = omega arith
input_bounds g w k None (From a m) e = cc
input_bounds g w k (Some a) i e = letter_bounds g w.rows a k i (link w.rows a k) refl e

-- a node and its input weigh at most what the net weighs
pub weight_bounds : {N M : Type 0} (f : N → ℕ) (g : ℕ → M → ℕ) (w : NetView N M) (e : Event) (o : Occurs w e) →
    f o.node + input_weight g e.node o.input ≤ weight f g w
weight_bounds f g w e o =
    let one = get_or-le-total f w.nodes e.node o.node (slice_get_within w.nodes e.node o.node o.is_node) in
    let at = get_or_from_slice_get w.nodes e.node o.node o.node o.is_node in
    let two = input_bounds g w e.node e.from o.input o.is_fed in
    omega (arith, one, ap f at, two)

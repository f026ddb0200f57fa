-- The parts of a net, and the net that they are the parts of.
use Rattle.std.proofs.Common.{◌≡◌, ℕ, ◌+◌, ◌*◌, ◌<◌, List, [], length, get_or, sym, ap, ◌∙◌, subst, arith, replicate}
use Rattle.std.specs.List.{All}
use Rattle.std.proofs.lemmas.List.{length-replicate}
use Rattle.std.proofs.lemmas.List.Elements.{All-replicate}
use Rattle.seam_machine.specs.Views.{NetView, PartsView}
use Rattle.seam_machine.specs.Nets.{link, flat, AreParts}
use Rattle.seam_machine.specs.Inside.{IsNet}
use Rattle.seam_machine.proofs.Flats.{length-flat, flat-place, flat-same}

pub same_net : {N M : Type 0} (p : PartsView N M) (w v : NetView N M) → AreParts p w → AreParts p v → w ≡ v
same_net p w v a b =
    let nodes : w.nodes ≡ v.nodes = sym a.nodes ∙ b.nodes in
    let n = ap length nodes in
    let P : ℕ → Type 0 = λ k. All (λ r. length r ≡ k) v.rows in
    let wide = subst P (sym n) b.square.links in
    let rows =
    flat-same (length w.nodes) w.rows v.rows a.square.links wide (omega (arith, n, a.square.rows, b.square.rows)) (sym a.links
    ∙ b.links) in
    ap (λ l. record { nodes = l; rows = w.rows }) nodes ∙ ap (λ l. record { nodes = v.nodes; rows = l }) rows

pub parts_many : {N M : Type 0} (p : PartsView N M) (w : NetView N M) → AreParts p w → length p.links ≡ length p.nodes * length p.nodes
parts_many p w a =
    let n : length w.nodes ≡ length p.nodes = sym (ap length a.nodes) in
    ap length a.links ∙ (length-flat (length w.nodes) w.rows a.square.links
    ∙ (ap (λ k. k * length w.nodes) a.square.rows ∙ ap (λ k. k * k) n))

pub parts_place : {N M : Type 0} (p : PartsView N M) (w : NetView N M) (a b : ℕ) → AreParts p w → a < length p.nodes → b < length p.nodes →
    get_or p.links (a * length p.nodes + b) [] ≡ link w.rows a b
parts_place p w a b q la lb =
    let n = ap length q.nodes in
    ap (λ l. get_or l (a * length p.nodes + b) []) q.links
    ∙ (ap (λ k. get_or (flat w.rows) (a * k + b) []) n
    ∙ flat-place (length w.nodes) w.rows a b [] q.square.links (omega (arith, la, n, q.square.rows)) (omega (arith, lb, n)))

pub net_of_rows : {N M : Type 0} (nodes : List N) (rows rows' : List (List (List M))) (n : ℕ) → n ≡ length nodes → length nodes < 256 →
    length rows ≡ n → All (λ r. length r ≡ n) rows → rows' ≡ rows → IsNet (record { nodes = nodes; rows = rows' })
net_of_rows nodes rows rows' n many few count wide same = record {
  few = few;
  square = rw same (record { rows = count ∙ many; links = subst (λ k. All (λ r. length r ≡ k) rows) many wide });
}

pub net_of_empty : {N M : Type 0} (nodes : List N) (rows : List (List (List M))) (n : ℕ) → n ≡ length nodes → length nodes < 256 →
    rows ≡ replicate n (replicate n []) → IsNet (record { nodes = nodes; rows = rows })
net_of_empty nodes rows n many few same =
    net_of_rows nodes (replicate n (replicate n [])) rows n many few (length-replicate n (replicate n []))
    (All-replicate (λ r. length r ≡ n) n (replicate n []) (length-replicate n [])) same

use Rattle.std.proofs.Common.{rules, ◌≡◌, ◌∙◌, ◌<◌, ◌⊎◌, ℕ, None, [], map, length, drop, get_or, sym, subst, arith, inl, inr}
use Rattle.std.proofs.lemmas.List.{length-map, nil_from_length}
use Rattle.seam_stamp.proofs.Orders.{FirstBelow, read_view, first_read, below_empty, below_kept, below_new, first_of_all}
use Rattle.seam_stamp.proofs.first_head.Goals.{in-Some+then-is_none, then-is_none-via-then-is_none}
use Rattle.seam_stamp.proofs.first_head.Goals.{then-is_none-via-else-is_none+then-entry-least, in-Some+else-is_none+else-entry-least}
use Rattle.seam_stamp.proofs.first_head.Goals.{in_default}
use Rattle.seam_stamp.proofs.first_head.Goals as goal

pub loop-k-preserved : goal.loop-k-preserved
loop-k-preserved g c =
    let heads = map (λ q. q.items) c.args.heads.now.items in
    let k = c.loop-k.k in
    let queue = c.index.result.now.items in
    let at : get_or heads k [] ≡ queue =
    read_view (λ q. q.items) c.args.heads.now.items k c.index.result.now [] (search rules) c.index.ensures in
    elim c.match-front.branch [
      | in-Some+then-is_none w ↦
          let head = w.in-Some.entry.now in
          let less : (c.loop-k.first ≡ None) ⊎ (head.stamp < c.loop-k.least) = elim w.then-is_none.branch [
            | then-is_none-via-then-is_none w' ↦ inl (search rules)
            | then-is_none-via-else-is_none+then-entry-least w' ↦ inr (search rules)
          ] in
          rw (w.first-is, w.least-is) (below_new heads k c.loop-k.first c.loop-k.least head (drop 1 queue) c.loop-k.invariant (at
          ∙ first_read queue head w.in-Some.ensures.item.3.0 w.in-Some.ensures.lookup) less)
      | in-Some+else-is_none+else-entry-least w ↦
          let head = w.in-Some.entry.now in
          rw (w.first-is, w.least-is) (below_kept heads k c.loop-k.first c.loop-k.least head (drop 1 queue) c.loop-k.invariant (at
          ∙ first_read queue head w.in-Some.ensures.item.3.0 w.in-Some.ensures.lookup) (search rules))
      | in_default w ↦ rw (w.first-is, w.least-is)
          (below_empty heads k c.loop-k.first c.loop-k.least c.loop-k.invariant (at
          ∙ nil_from_length queue (omega (arith, w.in_default.ensures.item.3))))
    ]

pub returns-clause-some : goal.returns-clause-some
returns-clause-some g c =
    let heads = map (λ q. q.items) c.args.heads.now.items in
    let all : c.loop-k.k ≡ length heads = sym (length-map c.args.heads.now.items (λ q. q.items) ∙ search rules) in
    first_of_all heads c.loop-k.first c.loop-k.least
    (subst (λ (n : ℕ). FirstBelow heads n c.loop-k.first c.loop-k.least) all c.loop-k.invariant)

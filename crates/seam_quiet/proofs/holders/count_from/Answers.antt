use Rattle.std.proofs.Common.{◌≡◌, ℕ, ◌+◌, ◌<◌, [], length, take, get_or, ap, ◌∙◌, arith}
use Rattle.std.specs.Prelude.{slice_index_or}
use Rattle.seam_node_steps.specs.Prelude.{total, carried}
use Rattle.seam_net_runs.specs.Weights.{totals}
use Rattle.seam_quiet.proofs.Counts.{totals-take, counted_on}
use Rattle.seam_quiet.proofs.holders.count_from.Goals as goal

pub loop-to-preserved : goal.loop-to-preserved
loop-to-preserved c =
    let net = c.args.net.now in
    let row = slice_index_or net.rows c.args.from [] in
    let to = c.loop-to.to in
    let f = λ (b : ℕ). total (carried c.args.e b) in
    let many = c.node_count-to-end.ensures.count in
    let rows = c.node_count-to-end.ensures.square.rows in
    let from : c.args.from < length net.rows = omega (arith, rows, c.requires) in
    let wide = c.node_count-to-end.ensures.square.links c.args.from [] from in
    let lt : to < length row = omega (arith, wide, many) in
    let first : 0 + to ≡ to = omega arith in
    counted_on c.args.so_far (totals f 0 (take to row)) (f to (get_or row to [])) (totals f 0 (take (to + 1) row)) c.loop-to.count
    c.count_on_link-count.result c.loop-to.invariant
    (totals-take f row 0 to [] lt ∙ ap (λ b. totals f 0 (take to row) + f b (get_or row to [])) first) c.count_on_link-count.ensures

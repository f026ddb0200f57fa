use Rattle.std.proofs.Common.{◌≡◌, ◌∙◌, ◌+◌, ◌*◌, ℕ, List, length, drop, map, ap, sym, subst, arith}
use Rattle.seam_machine.proofs.Flats.{one_more_row}
use Rattle.seam_logged.specs.Mesh.{AreLinked}
use Rattle.seam_logged.specs.SomeLinks.{Reached}
use Rattle.seam_logged.proofs.Rows.{drop_more, map_drop, reached_full}
use Rattle.seam_logged.proofs.mesh.linked.Goals as goal

pub loop-from-preserved : goal.loop-from-preserved
loop-from-preserved g c =
    let inv = c.loop-from.invariant in
    let n = c.args.n in
    let from = c.loop-from.from in
    let now = c.loop-from.ends.items in
    let next = c.link_row.new.ends.items in
    let links = c.args.links.items in
    let count : length now ≡ n = inv.reached.count in
    let here = ap (map (λ v. v.items)) inv.rest ∙ map_drop (λ v. v.items) (from * n) links in
    record {
      reached = subst (λ (m : ℕ). Reached m (from + 1) 0 next) count c.in_ok-link_row.ensures.reached;
      rest =
          c.in_ok-link_row.ensures.rest ∙ (ap (λ (m : ℕ). drop m c.loop-from.rest.items) count
          ∙ (ap (drop n) inv.rest ∙ (drop_more (from * n) n links ∙ ap (λ (m : ℕ). drop m links) (sym (one_more_row from n)))));
      linked =
          subst (λ (m : ℕ). (ls : List (List _)) → map (λ v. v.items) c.loop-from.rest.items ≡ drop (from * m) ls → AreLinked m ls now →
          AreLinked m ls next) count c.in_ok-link_row.ensures.linked (map (λ v. v.items) links) here inv.linked;
    }

pub returns-clause-full : goal.returns-clause-full
returns-clause-full g c =
    let n = c.args.n in
    let all : c.loop-from.from ≡ n = omega (arith, c.loop-from-test.false, c.loop-from.auto.from-end) in
    reached_full n c.loop-from.ends.items (subst (λ (a : ℕ). Reached n a 0 c.loop-from.ends.items) all c.loop-from.invariant.reached)

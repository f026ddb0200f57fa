use Rattle.std.proofs.Common.{◌≡◌, ◌∙◌, ◌+◌, ◌*◌, [], ℕ, List, length, drop, map, get_or, ap, sym, subst, arith}
use Rattle.seam_logged.specs.Mesh.{AreLinked}
use Rattle.seam_logged.specs.SomeLinks.{Reached}
use Rattle.seam_logged.proofs.Rows.{drop_more, map_drop, head_of_drop, reached_row}
use Rattle.seam_logged.proofs.mesh.link_row.Goals as goal

pub loop-to-preserved : goal.loop-to-preserved
loop-to-preserved g c =
    let inv = c.loop-to.invariant in
    let n = length c.args.ends.now.items in
    let from = c.args.from in
    let to = c.loop-to.to in
    let now = c.loop-to.ends.items in
    let next = c.add_link.new.ends.items in
    let count : length now ≡ n = inv.reached.count in
    let f : List _ → List (List _) = map (λ v. v.items) in
    record {
      reached = subst (λ (m : ℕ). Reached m from (to + 1) next) count c.in_ok-add_link.ensures.reached;
      rest = c.pop_front.ensures.rest ∙ (ap (drop 1) inv.rest ∙ drop_more to 1 c.args.rest.now.items);
      linked = λ links e are.
          let here =
          ap f (sym c.in-Some.ensures.items ∙ inv.rest)
          ∙ (map_drop (λ v. v.items) to c.args.rest.now.items ∙ (ap (drop to) e ∙ drop_more (from * n) to links)) in
          let letters : get_or links (from * n + to) [] ≡ c.in-Some.letters.items =
          head_of_drop (from * n + to) links c.in-Some.letters.items [] (f c.pop_front.new.self.items) here in
          subst (λ (m : ℕ). get_or links (from * m + to) [] ≡ c.in-Some.letters.items → AreLinked m links now → AreLinked m links next)
          count (c.in_ok-add_link.ensures.linked links) letters (inv.linked links e are);
    }

pub returns-clause-reached : goal.returns-clause-reached
returns-clause-reached g c =
    let n = length c.args.ends.now.items in
    let all : c.loop-to.to ≡ n = omega (arith, c.loop-to-test.false, c.len-to-end.ensures, c.loop-to.auto.to-end) in
    reached_row n c.args.from c.loop-to.ends.items
    (subst (λ (b : ℕ). Reached n c.args.from b c.loop-to.ends.items) all c.loop-to.invariant.reached)

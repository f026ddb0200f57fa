use Rattle.std.proofs.Common.{◌≡◌, ◌∷◌, ◌∙◌, [], ap, sym, map, subst, length, arith, List}
use Rattle.std.specs.List.{All}
use Rattle.std.proofs.lemmas.List.{length-append}
use Rattle.std.proofs.lemmas.List.Elements.{All-push}
use Rattle.seam_machine.proofs.Flats.{flat_more, one_more_row}
use Rattle.seam_machine.proofs.nets.in_rows.Goals as goal

pub loop-i-preserved : goal.loop-i-preserved
loop-i-preserved g c =
    let row = c.in_ok-of_next.field-0 in
    let rows = c.loop-i.rows.items in
    let push = c.in_ok-push.ensures.items in
    let one = one_more_row c.loop-i._i c.args.n in
    let more = c.in_ok-of_next.ensures.left in
    let left = c.loop-i.invariant.left in
    record {
      taken =
          flat_more rows c.push.new.self.items row (map (λ v. v.items) c.loop-i.rest.items) (map (λ v. v.items) c.of_next.new.rest.items)
          (map (λ v. v.items) c.args.links.items) push c.in_ok-of_next.ensures.taken c.loop-i.invariant.taken;
      count = ap length push ∙ (length-append rows (row ∷ []) ∙ omega arith);
      wide =
          (let P : List (List _) → Type 0 = λ l. All (λ r. length r ≡ c.args.n) l in
          subst P (sym push) (All-push (λ r. length r ≡ c.args.n) rows row c.loop-i.invariant.wide c.in_ok-of_next.ensures.wide));
      left = omega (arith, one, more, left);
    }

use Rattle.std.proofs.Common.{rules, ◌≡◌, ◌∙◌, ◌∷◌, drop, ap, sym, inl}
use Rattle.seam_stamp.proofs.Orders.{first_read}
use Rattle.seam_stamp.proofs.merge_first.Goals as goal

pub returns-in_ok-push-clause-first : goal.returns-in_ok-push-clause-first
returns-in_ok-push-clause-first g c =
    let entries = c.args.head.now.items in
    let entry = c.in-Some-pop_front.field-0 in
    let rest = c.pop_front.new.self.items in
    let cut : entries ≡ entry ∷ rest = search rules in
    let seen : entries ≡ c.in-Some.entry.now ∷ drop 1 entries =
    first_read entries c.in-Some.entry.now c.in-Some.ensures.item.3.0 c.in-Some.ensures.lookup in
    let both : c.in-Some.entry.now ∷ drop 1 entries ≡ entry ∷ rest = sym seen ∙ cut in
    let same : c.in-Some.entry.now ≡ entry = cc in
    inl (record {
      entry = entry;
      old_is = cut;
      stamp_is = ap (λ e. e.stamp) (sym same) ∙ c.if-entry-stamp.false;
      merged = c.in_ok-push.ensures.items;
    })

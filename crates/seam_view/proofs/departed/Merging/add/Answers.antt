use Rattle.std.proofs.Common.{◌≡◌, ◌<◌, ◌≤◌, ◌+◌, ◌++◌, ◌∷◌, [], ap, sym, subst, ◌∙◌, eqb, slice_get, length, take, drop}
use Rattle.std.specs.List.{AllWithin, zip}
use Rattle.std.specs.List.Sorted.{IsStrictlySortedBy}
use Rattle.std.specs.Map.{lookup}
use Rattle.std.specs.Ordering.{nat_cmp}
use Rattle.seam_view.proofs.Leaving.{rising_past, slice_past, as_many_made, within_past, none_to_come, rising_when_added, found_when_added}
use Rattle.seam_view.proofs.departed.Merging.add.Goals as goal

pub place_in-requires : goal.place_in-requires
place_in-requires c =
    subst (IsStrictlySortedBy nat_cmp)
    (sym (slice_past c.args.self.now.next c.deref.result.now c.args.all.now.entities.items c.deref.ensures.value))
    (rising_past c.args.self.now.next c.args.all.now.entities.items c.requires.settled.rising)

pub unreachable-requires : goal.unreachable-requires
unreachable-requires c =
    let i = c.args.self.now.next in
    let ys = c.args.all.now.entities.items in
    let r = c.in_default.field-0 in
    none_to_come c.args.self.now.made.entities.items (drop i ys) c.args.e r c.requires.absent
    (ap (λ l. slice_get l r) (sym (slice_past i c.deref.result.now ys c.deref.ensures.value)) ∙ c.in_default.ensures.there)

pub returns-clause-merging : goal.returns-clause-merging
returns-clause-merging c =
    let xs = c.args.self.now.made.entities.items in
    let ws = c.args.self.now.made.versions.items in
    let ys = c.args.all.now.entities.items in
    let vs = c.args.all.now.versions.items in
    let i = c.args.self.now.next in
    let n = c.in-Err.many in
    let e = c.args.e in
    let part = slice_past i c.deref.result.now ys c.deref.ensures.value in
    let within : n ≤ length (drop i ys) = subst (λ l. n ≤ length l) part c.in-Err.ensures.bound in
    let below : AllWithin (λ y. y < e) (drop i ys) 0 n = subst (λ l. AllWithin (λ y. y < e) l 0 n) part c.in-Err.ensures.below in
    let above : AllWithin (λ y. e < y) (drop i ys) n (length (drop i ys)) =
    subst (λ l. AllWithin (λ y. e < y) l n (length l)) part c.in-Err.ensures.above in
    let made : c.push.new.self.items ≡ (xs ++ take n (drop i ys)) ++ e ∷ [] =
    c.in_ok-push.ensures.items ∙ ap (λ l. l ++ e ∷ []) c.in_ok-pass.ensures.entities in
    let with : c.push-2.new.self.items ≡ (ws ++ take n (drop i vs)) ++ c.args.version ∷ [] =
    c.in_ok-push-2.ensures.items ∙ ap (λ l. l ++ c.args.version ∷ []) c.in_ok-pass.ensures.versions in
    let next = c.in_ok-pass.ensures.next in
    let all : c.push.new.self.items ++ drop c.pass.new.self.next ys ≡ ((xs ++ take n (drop i ys)) ++ e ∷ []) ++ drop (i + n) ys =
    (λ j. made j ++ drop (next j) ys) in
    record {
      within = subst (λ m. m ≤ length ys) (sym next) (within_past i n ys c.requires.merging.within within);
      many =
          ap length with ∙ (as_many_made xs ws ys vs i n e c.args.version c.requires.merging.many c.requires.settled.many
          ∙ sym (ap length made));
      rising =
          subst (IsStrictlySortedBy nat_cmp) (sym all)
          (rising_when_added xs ys i n e within below above c.requires.last c.requires.merging.rising);
    }

pub returns-clause-added : goal.returns-clause-added
returns-clause-added c q =
    let xs = c.args.self.now.made.entities.items in
    let ws = c.args.self.now.made.versions.items in
    let ys = c.args.all.now.entities.items in
    let vs = c.args.all.now.versions.items in
    let i = c.args.self.now.next in
    let n = c.in-Err.many in
    let e = c.args.e in
    let made : c.push.new.self.items ≡ (xs ++ take n (drop i ys)) ++ e ∷ [] =
    c.in_ok-push.ensures.items ∙ ap (λ l. l ++ e ∷ []) c.in_ok-pass.ensures.entities in
    let with : c.push-2.new.self.items ≡ (ws ++ take n (drop i vs)) ++ c.args.version ∷ [] =
    c.in_ok-push-2.ensures.items ∙ ap (λ l. l ++ c.args.version ∷ []) c.in_ok-pass.ensures.versions in
    let next = c.in_ok-pass.ensures.next in
    (λ j. lookup (eqb q) (zip (made j ++ drop (next j) ys) (with j ++ drop (next j) vs)))
    ∙ found_when_added xs ws ys vs i n e c.args.version c.requires.merging.many c.requires.settled.many c.requires.absent q

-- Lines that may not come.
use Rattle.std.proofs.Common.{◌≡◌, ◌≤◌, true, false, Some, refl, sym, ◌∙◌, arith}
use Rattle.std.specs.Ordering.{nat_cmp}
use Rattle.std.specs.FinMap as table
use Rattle.std.proofs.lemmas.Option.{none-some, same_Some}
use Rattle.seam_call.specs.declared.shown.Shown.TheVariants.{Enter, Set, Leave}
use Rattle.seam_rule_clients.specs.Lines.{MayShow}
use Rattle.seam_rule_clients.specs.WalkOutExample.{copy_at, once, left}
use Rattle.seam_rule_clients.proofs.Older.{got}

pub same_version : ¬ (MayShow 1 once (Set 2 (copy_at 0 1300)))
same_version may = let newer = may.newer.2 in omega (arith, newer)

pub too_far : ¬ (MayShow 1 once (Enter 3 (copy_at 0 1301)))
too_far may = let near : 301 ≤ 300 = may.near in omega (arith, near)

pub near_enough : MayShow 1 once (Enter 3 (copy_at 0 1300))
near_enough = record {
  another = λ same. absurd (omega (arith, same));
  away = refl;
  not_older = λ v was. absurd (none-some v (sym (table.get-empty nat_cmp 3) ∙ (sym (got table.empty 2 0 3 false refl) ∙ was)));
  near = omega arith;
}

-- the version last shown before it left
shown_1 : table.get left.others.shown 2 ≡ Some 1
shown_1 = got once.others.shown 2 1 2 true refl

pub older : ¬ (MayShow 1 left (Enter 2 (copy_at 0 1300)))
older may = let low = may.not_older 1 shown_1 in omega (arith, low)

pub not_older : MayShow 1 left (Enter 2 (copy_at 1 1300))
not_older = record {
  another = λ same. absurd (omega (arith, same));
  away = refl;
  not_older = λ v was. let same = same_Some 1 v (sym shown_1 ∙ was) in omega (arith, same);
  near = omega arith;
}

pub not_in_view : ¬ (MayShow 1 once (Leave 3))
not_in_view may = let no : false ≡ true = may in cc

pub in_view_already : ¬ (MayShow 1 once (Enter 2 (copy_at 1 1300)))
in_view_already may = let no : true ≡ false = may.away in cc

pub itself : ¬ (MayShow 1 once (Enter 1 (copy_at 0 1000)))
itself may = may.another refl

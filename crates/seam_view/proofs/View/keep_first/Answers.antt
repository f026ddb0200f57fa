use Rattle.std.proofs.Common.{rules, ◌≡◌, ◌+◌, ◌∙◌, ◌∷◌, suc, drop, fold, get_or, ap, sym, subst, arith}
use Rattle.std.proofs.Math.Seq.{drop-cons}
use Rattle.seam_view.specs.declared.Look.{Look}
use Rattle.seam_view.specs.declared.Look.TheVariants.{Leave}
use Rattle.seam_view.specs.Replica.{HasRoom, after_look}
use Rattle.seam_view.proofs.Room.{room_past}
use Rattle.seam_view.proofs.View.keep_first.Goals as goal

pub loop-i-preserved : goal.loop-i-preserved
loop-i-preserved c =
    let looks = c.args.looks.now in
    let j = c.loop-i.i in
    let known = c.args.known.now in
    let was = c.loop-i.self in
    let is = c.keep_look.new.self in
    let kept = c.keep_look.ensures in
    let look : Look = get_or looks j (Leave 0) in
    let more : suc j ≡ j + 1 = omega arith in
    let parted : drop j looks ≡ look ∷ drop (j + 1) looks =
    drop-cons looks j (Leave 0) (search rules) ∙ ap (λ n. look ∷ drop n looks) more in
    record {
      core = ap (λ r. fold (after_look known) r (drop (j + 1) looks)) kept.core
          ∙ (ap (fold (after_look known) was.core) (sym parted) ∙ c.loop-i.invariant.core);
      room = room_past known was is look (drop (j + 1) looks) kept.core kept.enters kept.leaves
          (subst (HasRoom was) parted c.loop-i.invariant.room);
    }

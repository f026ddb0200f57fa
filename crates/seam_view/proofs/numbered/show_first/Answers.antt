use Rattle.std.proofs.Common.{rules, ◌≡◌, ◌+◌, ◌∙◌, ◌∷◌, suc, drop, get_or, ap, subst, arith}
use Rattle.std.proofs.Math.Seq.{drop-cons}
use Rattle.seam_view.specs.declared.Look.{Look}
use Rattle.seam_view.specs.declared.Look.TheVariants.{Leave, Enter}
use Rattle.seam_view.specs.ByNumber.{entries_of}
use Rattle.seam_view.specs.Replica.{enters_in}
use Rattle.seam_view.specs.Run.{AreKept}
use Rattle.seam_view.proofs.Run.{one_more_kept}
use Rattle.seam_view.proofs.numbered.show_first.Goals as goal

pub loop-i-preserved : goal.loop-i-preserved
loop-i-preserved c =
    let looks = c.args.looks.now in
    let known = c.args.known.now in
    let i = c.loop-i.i in
    let was = c.loop-i.invariant in
    let is = c.show_next.new in
    let seen = c.in-Some.seen.now in
    let shown = c.if-not-show_next.ensures in
    let look : Look = get_or looks i (Leave 0) in
    let enter : look ≡ Enter seen.entity = search rules in
    let more : suc i ≡ i + 1 = omega arith in
    let parted : drop i looks ≡ Enter seen.entity ∷ drop (i + 1) looks =
    drop-cons looks i (Leave 0) c.loop-i-test.true ∙ (λ j. enter j ∷ drop (more j) looks) in
    let one = ap enters_in parted in
    let few = was.room.few in
    let slots = was.room.slots in
    let places = was.room.places in
    let len = shown.len in
    let capacity = shown.capacity in
    record {
      by_number = shown.by_number;
      within = shown.within;
      kept =
          one_more_kept known (entries_of c.loop-i.slots.items) (entries_of is.slots.items) seen c.in-Some.ensures.1 shown.shown
          (entries_of c.args.slots.now.items) looks (drop (i + 1) looks)
          (subst (AreKept known (entries_of c.args.slots.now.items) looks (entries_of c.loop-i.slots.items)) parted was.kept);
      room = record {
        few = omega (arith, one, few, len);
        slots = omega (arith, one, slots, len, capacity);
        places = omega (arith, one, places, len, capacity);
      };
    }

use Rattle.std.proofs.Common.{get_or, min, ◌+◌, ◌<◌, [], length, refl, ap, ◌∙◌, sym, arith}
use Rattle.std.proofs.Math.Nat.{min-le_left, min-le_right}
use Rattle.std.proofs.lemmas.List.{length-set}
use Rattle.seam_machine.proofs.Counting.{counts_filled, counts_kept, delivers_more}
use Rattle.seam_machine.proofs.Runs.{run_fills}
use Rattle.seam_machine.proofs.SendLemmas.{target_fits}
use Rattle.seam_machine.proofs.Starts.{lowers_more, lowers_kept}
use Rattle.seam_machine.proofs.links.deliver.Goals as goal
use Rattle.seam_machine.proofs.links.deliver.Goals.{In-Some, In_ok-next}

to_fits : (g : _) (c : In-Some g) → c.in-Some.to < length c.loop-next.row
to_fits g c =
    let t =
    target_fits (length c.args.row.now) c.loop-next.out.items c.in-Some.to (sym c.loop-next.invariant.next ∙ c.in-Some.is)
    c.loop-next.invariant.delivered.targets in
    let wide = c.loop-next.invariant.delivered.wide in
    omega (arith, t, wide)

pub link_len-held-requires : goal.link_len-held-requires
link_len-held-requires g c = to_fits g ((goal.at.link_len-held-requires g c).In-Some)

pub put_run-requires-clause-fits : goal.put_run-requires-clause-fits
put_run-requires-clause-fits g c = to_fits g ((goal.at.put_run-requires-clause-fits g c).In-Some)

holds : (g : _) (c : In_ok-next g) → 0 < length (get_or c.put_run.new.self c.in-Some.to [])
holds g c =
    run_fills c.in-Some.to (get_or c.loop-next.row c.in-Some.to []) (get_or c.put_run.new.self c.in-Some.to []) c.loop-next.out.items
    c.put_run.new.out.items c.in_ok-next.ensures.moved c.in_ok-next.ensures.some

pub loop-next-preserved-then-held-eq0 : goal.loop-next-preserved-then-held-eq0
loop-next-preserved-then-held-eq0 g c =
    let here = to_fits g ((goal.at.loop-next-preserved-then-held-eq0 g c).In-Some) in
    let filled = holds g ((goal.at.loop-next-preserved-then-held-eq0 g c).In_ok-next) in
    let to = c.in-Some.to in
    let i = c.loop-next.invariant in
    let busy = c.loop-next.kept.busy.items in
    let starts = c.loop-next.kept.starts.items in
    let p = c.in_ok-next.ensures in
    let counted : to < length busy = omega (arith, here, c.requires.wide, i.delivered.busy_len, i.delivered.wide) in
    let within : to < length starts = omega (arith, here, i.lowered.len, c.requires.starts, i.delivered.wide) in
    record {
      delivered =
          delivers_more c.args.row.now c.loop-next.row c.put_run.new.self c.args.out.now.items c.loop-next.out.items c.put_run.new.out.items
          c.args.kept.now.busy.items busy c.fill.new.self.busy.items to i.delivered here p.moved p.others
          (ap length c.fill.ensures.busy ∙ length-set busy to (get_or busy to 0 + 1))
          (counts_filled to c.loop-next.row c.put_run.new.self p.others filled busy c.fill.new.self.busy.items counted
          (sym c.link_len-held.ensures ∙ c.if-held-eq0.true) c.fill.ensures.busy);
      lowered =
          lowers_more c.args.sender to (min (get_or starts to 0) c.args.sender) c.args.kept.now.starts.items starts
          c.fill.new.self.starts.items c.loop-next.row c.put_run.new.self (get_or c.put_run.new.self to []) within i.lowered
          p.others c.fill.ensures.starts (min-le_left (get_or starts to 0) c.args.sender) (min-le_right (get_or starts to 0) c.args.sender);
      waiting = c.fill.ensures.waiting;
      next = p.next;
    }

pub loop-next-preserved : goal.loop-next-preserved
loop-next-preserved g c =
    let here = to_fits g ((goal.at.loop-next-preserved g c).In-Some) in
    let filled = holds g ((goal.at.loop-next-preserved g c).In_ok-next) in
    let to = c.in-Some.to in
    let i = c.loop-next.invariant in
    let busy = c.loop-next.kept.busy.items in
    let p = c.in_ok-next.ensures in
    let some : 0 < length (get_or c.loop-next.row to []) = omega (arith, c.link_len-held.ensures, c.if-held-eq0.false) in
    record {
      delivered =
          delivers_more c.args.row.now c.loop-next.row c.put_run.new.self c.args.out.now.items c.loop-next.out.items c.put_run.new.out.items
          c.args.kept.now.busy.items busy busy to i.delivered here p.moved p.others refl
          (counts_kept to c.loop-next.row c.put_run.new.self p.others filled busy some);
      lowered =
          lowers_kept c.args.sender to c.args.kept.now.starts.items c.loop-next.kept.starts.items c.loop-next.row c.put_run.new.self
          (get_or c.put_run.new.self to []) i.lowered p.others some;
      waiting = i.waiting;
      next = p.next;
    }

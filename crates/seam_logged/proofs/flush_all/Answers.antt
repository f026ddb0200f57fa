use Rattle.std.proofs.Common.{rules, sym, ◌≡◌, ◌∙◌, ◌<◌, ap, subst, arith, length}
use Rattle.std.proofs.lemmas.List.{length-set}
use Rattle.std.proofs.lemmas.Option.{slice_get_within}
use Rattle.seam_logged.specs.Logs.{put, out_rings}
use Rattle.seam_logged.proofs.Links.{FlushedBelow, flushed_none, flushed_more, put_same, out_rings_set, none_waits_more, read_set}
use Rattle.seam_logged.proofs.Links.{or_first, or_second}
use Rattle.seam_logged.proofs.flush_all.Goals as goal

pub loop-k-init : goal.loop-k-init
loop-k-init g c =
    let v = c.ends.view_is in (
      ap (λ e. e.ins) v,
      ap (λ e. out_rings e.outs) v,
      ap (λ e. length e.outs) v,
      (λ b. ap (λ e. put e.outs b) v),
      subst (λ os. FlushedBelow 0 os c.ends.inside.outs.items) (ap (λ e. e.outs) v) (flushed_none c.ends.inside.outs.items),
      (λ f b o low is. absurd (omega (arith, low))),
    )

pub loop-k-preserved : goal.loop-k-preserved
loop-k-preserved g c =
    let inv = c.loop-k.invariant in
    let outs = c.loop-k.ends-inside.outs.items in
    let k = c.loop-k.k in
    let many : c.len-k-end.result ≡ length c.ends.inside.outs.items = search rules in
    let same : length c.ends.inside.outs.items ≡ length c.args.ends.now.outs = ap (λ v. length v.outs) c.ends.view_is in
    let lt : k < length outs = omega (arith, c.loop-k-test.true, inv.2, many, same) in
    let x = c.index_mut.result.now in
    let x' = c.flush.new.self in
    let at = c.index_mut.ensures.value in (
      inv.0,
      out_rings_set outs k x x' at c.flush.ensures.ring ∙ inv.1,
      length-set outs k x' ∙ inv.2,
      (λ b. put_same outs k x x' b at c.flush.ensures.put ∙ inv.3 b),
      flushed_more c.args.ends.now.outs outs k x x' lt at c.flush.ensures.flushed inv.4,
      (λ f. none_waits_more outs k x' lt (ap (λ v. v.waiting) (sym (read_set outs k x' c.index.result.now lt (search rules)))
          ∙ c.waits.ensures.none (or_second c.loop-k.spilled c.waits.result f)) (inv.5 (or_first c.loop-k.spilled c.waits.result f))),
    )

pub returns-clause-mark : goal.returns-clause-mark
returns-clause-mark g c = λ f b o is.
    let inv = c.loop-k.invariant in
    let many : c.len-k-end.result ≡ length c.ends.inside.outs.items = search rules in
    let same : length c.ends.inside.outs.items ≡ length c.args.ends.now.outs = ap (λ v. length v.outs) c.ends.view_is in
    let within = slice_get_within c.loop-k.ends-inside.outs.items b o is in
    inv.5 f b o (omega (arith, within, many, same, inv.2, c.loop-k-test.false)) is

pub returns-clause-flushed : goal.returns-clause-flushed
returns-clause-flushed g c = λ b o o' is is'.
    let inv = c.loop-k.invariant in
    let many : c.len-k-end.result ≡ length c.ends.inside.outs.items = search rules in
    let same : length c.ends.inside.outs.items ≡ length c.args.ends.now.outs = ap (λ v. length v.outs) c.ends.view_is in
    let within = slice_get_within c.args.ends.now.outs b o is in
    (inv.4 b o o' is is').0 (omega (arith, within, many, same, c.loop-k-test.false))

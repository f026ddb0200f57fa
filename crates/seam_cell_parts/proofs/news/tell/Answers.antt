use Rattle.std.proofs.Common.{◌≡◌, ◌++◌, ◌-◌, ◌+◌, List, take, length, ap, sym, ◌∙◌, refl, arith, append-nil, append_assoc}
use Rattle.std.proofs.Math.Seq.{take-append_seam}
use Rattle.std.specs.FinSet as set
use Rattle.seam_node_steps.specs.Prelude.{standard, copy_with, node_with, word}
use Rattle.seam_cell_parts.specs.News.{state_of, message_for, listed, news}
use Rattle.seam_cell_parts.proofs.NewsLemmas.{news_more, news_same, news_end, left_later, left_without, left_none}
use Rattle.seam_cell_parts.proofs.news.tell.Goals as goal
use Rattle.seam_cell_parts.proofs.news.tell.Goals.{then-holds+in_ok-tell_cell, else-holds+else-holds-2}

-- what was there before is there still
kept_before : {A : Type 0} (before after more : List A) → after ≡ before ++ more → take (length before) after ≡ before
kept_before before after more is = ap (take (length before)) is ∙ take-append_seam before more

pub loop-k-init : goal.loop-k-init
loop-k-init c = record {
  told = λ me settings. sym (append-nil c.args.out.now.items);
  left = λ k low. (refl, refl);
}

pub returns-then-are_none-clause-ok : goal.returns-then-are_none-clause-ok
returns-then-are_none-clause-ok c me settings =
    let of = c.args.of.now in
    let t = c.args.t.now in
    let k = c.loop-k.k in
    let none = c.are_none.ensures.0 c.if-are_none.true in
    let g = copy_with (node_with of.defs.now me settings) of.ty of.version (state_of of) in
    c.loop-k.invariant.told me settings
    ∙ ap (λ l. c.args.out.now.items ++ l)
    (sym (news_end t g k (16 - k) (left_none c.loop-k.haunts c.loop-k.old t k c.loop-k.invariant.left none.0 none.1))
    ∙ ap (news t g) (let all : k + (16 - k) ≡ 16 = omega (arith, c.loop-k-test.true) in all))

pub returns-then-are_none-clause-kept : goal.returns-then-are_none-clause-kept
returns-then-are_none-clause-kept c = kept_before c.args.out.now.items c.loop-k.out.items _ (c.loop-k.invariant.told 0 standard)

pub returns-in_err-tell_cell-clause-kept : goal.returns-in_err-tell_cell-clause-kept
returns-in_err-tell_cell-clause-kept c =
    kept_before c.args.out.now.items c.tell_cell.new.out.items _ (c.in_err-tell_cell.ensures.err ∙ c.loop-k.invariant.told 0 standard)

pub loop-k-preserved : goal.loop-k-preserved
loop-k-preserved c =
    let of = c.args.of.now in
    let t = c.args.t.now in
    let k = c.loop-k.k in
    let sent = c.args.out.now.items in
    let left = c.loop-k.invariant.left in
    let here = left k (omega arith) in
    elim c.if-holds.branch [
      | then-holds+in_ok-tell_cell w ↦ record {
        told =
            λ me settings.
            let g = copy_with (node_with of.defs.now me settings) of.ty of.version (state_of of) in
            let one = listed (message_for t g k (word t k)) in
            ap (λ o. o.items) w.out-is ∙ w.in_ok-tell_cell.ensures.ok me settings
            ∙ (ap (λ l. l ++ one) (c.loop-k.invariant.told me settings)
            ∙ (append_assoc sent (news t g k) one ∙ ap (λ l. sent ++ l) (sym (news_more t g k))));
        left =
            λ j low.
            let both = left_without c.loop-k.haunts c.loop-k.old t k left j low in (
              ap (λ s. set.contains s j) (w.haunts-is ∙ w.without-haunts.ensures) ∙ both.0,
              ap (λ s. set.contains s j) (w.old-is ∙ w.without-old.ensures) ∙ both.1,
            );
      }
      | else-holds+else-holds-2 w ↦ record {
        told =
            λ me settings.
            let g = copy_with (node_with of.defs.now me settings) of.ty of.version (state_of of) in
            let away = sym here.0 ∙ (sym c.holds.ensures.value ∙ w.if-holds.false) in
            let was = sym here.1 ∙ (sym w.holds-else-holds.ensures.value ∙ w.if-holds-2.false) in
            ap (λ o. o.items) w.out-is
            ∙ (c.loop-k.invariant.told me settings ∙ ap (λ l. sent ++ l) (sym (news_same t g k away was)));
        left =
            λ j low.
            let both = left_later c.loop-k.haunts c.loop-k.old t k left j low in
            (ap (λ s. set.contains s j) w.haunts-is ∙ both.0, ap (λ s. set.contains s j) w.old-is ∙ both.1);
      }
    ]

pub returns-clause-ok : goal.returns-clause-ok
returns-clause-ok c me settings =
    let of = c.args.of.now in
    c.loop-k.invariant.told me settings
    ∙ ap (λ n. c.args.out.now.items ++ news c.args.t.now (copy_with (node_with of.defs.now me settings) of.ty of.version (state_of of)) n)
    (let end : c.loop-k.k ≡ 16 = omega (arith, c.loop-k-test.false, c.loop-k.auto.k-end) in end)

pub returns-clause-kept : goal.returns-clause-kept
returns-clause-kept c = kept_before c.args.out.now.items c.loop-k.out.items _ (c.loop-k.invariant.told 0 standard)

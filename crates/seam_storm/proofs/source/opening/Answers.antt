use Rattle.std.proofs.Common.{◌≡◌, ◌∙◌, ◌++◌, ◌-◌, sym, ap, arith}
use Rattle.std.specs.List.{flat_map, range_with_len}
use Rattle.std.proofs.lemmas.List.{append-nil}
use Rattle.seam_storm.specs.Storm.{cuts, create_line, client_line}
use Rattle.seam_storm.proofs.StormLemmas.{line_more}
use Rattle.seam_storm.proofs.source.opening.Goals as goal

pub loop-e-init : goal.loop-e-init
loop-e-init c = c.in_ok-text.ensures.items

pub loop-e-preserved : goal.loop-e-preserved
loop-e-preserved c =
    line_more create_line cuts c.loop-e.text.items c.push_create.new.text.items c.loop-e.e (omega (arith, c.loop-e.auto.e))
    c.loop-e.invariant c.in_ok-push_create.ensures

pub loop-e-2-init : goal.loop-e-2-init
loop-e-2-init c =
    let last : c.loop-e.e - 1 ≡ 64 = omega (arith, c.loop-e.auto.e-end, c.loop-e-test.false) in
    c.loop-e.invariant ∙ (ap (λ k. cuts ++ flat_map create_line (range_with_len 1 k)) last
    ∙ sym (append-nil (cuts ++ flat_map create_line (range_with_len 1 64))))

pub loop-e-2-preserved : goal.loop-e-2-preserved
loop-e-2-preserved c =
    line_more client_line (cuts ++ flat_map create_line (range_with_len 1 64)) c.loop-e-2.text.items c.push_client.new.text.items
    c.loop-e-2.e (omega (arith, c.loop-e-2.auto.e)) c.loop-e-2.invariant c.in_ok-push_client.ensures

pub returns : goal.returns
returns c =
    let last : c.loop-e-2.e - 1 ≡ 8 = omega (arith, c.loop-e-2.auto.e-end, c.loop-e-2-test.false) in
    c.loop-e-2.invariant ∙ ap (λ k. cuts ++ flat_map create_line (range_with_len 1 64) ++ flat_map client_line (range_with_len 1 k)) last

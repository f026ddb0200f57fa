use Rattle.std.proofs.Common.{◌≡◌, ◌==◌, false, not, ap, ◌∙◌, sym, arith}
use Rattle.std.proofs.lemmas.Bool.Decides.{nat_tests}
use Rattle.seam_base.specs.Parts.{proxy_of}
use Rattle.seam_base.proofs.ReadyUpdates.{other_stays}
use Rattle.seam_base.proofs.updates.stays_as_ready.Goals as goal

pub returns-then-update-next_number : goal.returns-then-update-next_number
returns-then-update-next_number c =
    let apart = c.if-update-next_number.true in
    let other : (c.args.update.now.number == c.next_number.result) ≡ false = grind (arith, nat_tests, apart) in (
      (λ _. other_stays (proxy_of c.args.proxy.now) c.args.update.now c.requires (λ same. apart (same ∙ sym c.next_number.ensures.next))),
      (λ _. ap not other),
    )

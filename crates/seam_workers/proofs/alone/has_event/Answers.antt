use Rattle.std.proofs.Common.{◌∙◌, None, Some, sym, refl}
use Rattle.seam_workers.proofs.alone.has_event.Goals as goal

pub returns-then-enabled : goal.returns-then-enabled
returns-then-enabled g c = λ _. (record { node = c.args.node; from = None }, sym c.enabled.ensures ∙ c.if-enabled.true, refl)

pub returns-then-enabled-2 : goal.returns-then-enabled-2
returns-then-enabled-2 g c =
    λ _. (record { node = c.args.node; from = Some c.loop-from.from }, sym c.enabled-in-loop-from.ensures ∙ c.if-enabled-2.true, refl)

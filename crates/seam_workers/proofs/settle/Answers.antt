use Rattle.std.proofs.Common.{◌∙◌, ◌<◌, ap, sym, arith, refl, Some, length}
use Rattle.std.proofs.lemmas.Option.{slice_get_read}
use Rattle.seam_workers.proofs.Lists.{filled_set, placed_settled}
use Rattle.seam_workers.proofs.settle.Goals as goal

pub unreachable-requires : goal.unreachable-requires
unreachable-requires g c =
    let found = c.args.found.now.items in
    let k = c.number-me.result in
    let within : k < length found = omega (arith, c.number-me.ensures.within, c.requires.many) in
    let read = slice_get_read found (length found) k c.index_mut.result.now refl within c.index_mut.ensures.value in
    let at = c.requires.placed k c.in-Some.other (read ∙ ap Some (sym c.take.ensures.value ∙ c.in-Some.is)) in
    absurd (c.differ.ensures (sym c.number-me.ensures.me ∙ sym at))

pub returns-clause-placed : goal.returns-clause-placed
returns-clause-placed g c =
    placed_settled c.args.found.now.items c.number-me.result c.take.new.self c.args.seat c.requires.placed c.take.ensures.after
    (sym c.number-me.ensures.me)

pub returns-clause-filled : goal.returns-clause-filled
returns-clause-filled g c =
    let found = c.args.found.now.items in
    let within : c.number-me.result < length found = omega (arith, c.number-me.ensures.within, c.requires.many) in
    let read = slice_get_read found (length found) c.number-me.result c.index_mut.result.now refl within c.index_mut.ensures.value in
    filled_set found c.number-me.result c.take.new.self c.args.seat (read ∙ ap Some (sym c.take.ensures.value ∙ c.in-None.is))

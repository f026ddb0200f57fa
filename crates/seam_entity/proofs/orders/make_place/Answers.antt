use Rattle.seam_call.specs.Senders.{rank_of}
use Rattle.seam_entity.specs.Orders.{new_order}
use Rattle.seam_entity.proofs.OrderLemmas.{at_of, gap_of, place_there}
use Rattle.seam_entity.proofs.orders.make_place.Goals as goal

pub returns-in-Ok-clause-room : goal.returns-in-Ok-clause-room
returns-in-Ok-clause-room c =
    let found = at_of _ c.args.entries.now.items _ _ _ c.deref.ensures.value c.rank.ensures.place c.in-Ok.ensures.found in
    place_there c.args.entries.now.items (rank_of c.args.sender.now) c.in-Ok.field-0 (c.args.sender.now, new_order) found

pub insert_sender-requires-clause-gap : goal.insert_sender-requires-clause-gap
insert_sender-requires-clause-gap c =
    gap_of _ c.args.entries.now.items _ _ _ c.deref.ensures.value c.rank.ensures.place c.in-Err.ensures.absent

use borrow.Author.Rules.{rules}
use denote.Param.Send.{IsSend, IsSync, sendable}
use Rattle.std.proofs.Crossing.{crosses}
use Rattle.std.proofs.alloc.Global.TheSendSync as heap
use Rattle.std.proofs.sync.Mutex.TheSendSync as mutex
use Rattle.std.proofs.sync.atomic.AtomicBool.TheSendSync as flag
use Rattle.crossbeam_utils.proofs.cache_padded.CachePadded.TheSendSync as padded
use Rattle.seam_workers.proofs.Duty.TheSendSync as duty
use Rattle.seam_workers.proofs.Crosses.{seat_send}
use Rattle.seam_workers.proofs.fn.visits.scope.Goals as goal

pub spawn_scoped-started-requires-send-F : goal.spawn_scoped-started-requires-send-F
spawn_scoped-started-requires-send-F g c κs within =
    let machine : IsSend g.row.M = search (rules, c.requires) parts 8 in
    let naming : IsSend g.row.J = search (rules, c.requires) parts 8 in
    let message : IsSend g.row.M-Msg = search (rules, c.requires) parts 8 in
    let gate : IsSync g.row.G = search (rules, c.requires) parts 8 in
    let host : IsSync g.row.R = search (rules, c.requires) parts 8 in
    search (
      seat_send,
      heap.the_send,
      heap.the_field_send,
      mutex.the_sync,
      flag.the_sync,
      padded.the_sync,
      padded.the_field_sync,
      duty.the_send,
      duty.the_field_send,
      crosses,
      sendable,
    ) depth 60 fits 20000

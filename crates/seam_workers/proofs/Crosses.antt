-- A seat may move to another thread, where its node and what its letters hold may.
use denote.RattleType.{RattleType}
use denote.Param.Send.{IsSend, sendable}
use Rattle.std.proofs.Crossing.{crosses}
use Rattle.std.proofs.alloc.Global.TheSendSync as heap
use Rattle.seam_link.proofs.Count.TheLaws.TheKnot.{crosses as counts}
use Rattle.seam_link.below.rtrb.proofs.consumer.Consumer.TheSendSync as consumer
use Rattle.seam_link.below.rtrb.proofs.producer.Producer.TheSendSync as producer
use Rattle.seam_link.specs.contracts.Count
use Rattle.seam_link.specs.contracts.LinkIn
use Rattle.seam_link.specs.contracts.LinkOut
use Rattle.seam_stamp.specs.contracts.Letter
use Rattle.seam_stamp.proofs.Letter.TheSendSync as letter
use Rattle.seam_logged.specs.contracts.Ends
use Rattle.seam_logged.specs.contracts.Logged
use Rattle.seam_logged.specs.declared.Naming
use Rattle.seam_machine.specs.declared.machines.Machine
use Rattle.seam_machine.proofs.machines.Event.TheSendSync as event
use Rattle.seam_machine.proofs.sends.Out.TheSendSync as out
use Rattle.seam_stamp.proofs.Stamped.TheSendSync as stamped
use Rattle.std.proofs.marker.PhantomData.TheSendSync as phantom
use Rattle.std.proofs.sync.ledger.Blank.TheSendSync as blank
use Rattle.seam_workers.specs.declared.Claims
use Rattle.seam_workers.specs.contracts.Seat

pub count_send : IsSend Count.the_row
count_send = search (counts, crosses, sendable) depth 30

pub link_in_send : (T : RattleType) → IsSend T → IsSend (LinkIn.the_row T)
link_in_send T s = search (consumer.the_field_send, heap.the_send, count_send, crosses, sendable) depth 40

pub link_out_send : (T : RattleType) → IsSend T → IsSend (LinkOut.the_row T)
link_out_send T s = search (producer.the_field_send, heap.the_send, count_send, crosses, sendable) depth 40

pub letter_send : (T : RattleType) → IsSend T → IsSend (Letter.the_row T)
letter_send T s = search (letter.the_send, sendable) depth 20

pub ends_send : (T : RattleType) → IsSend T → IsSend (Ends.the_row T)
ends_send T s = search (letter_send, link_in_send, link_out_send, crosses, sendable) depth 40

module _ (T T' T'' : RattleType) (g : Machine.Ghosts T.Denot T''.Denot) (g' : Naming.Ghosts T'.Denot T.Denot T''.Denot) where
  pub logged_send : IsSend T → IsSend T' → IsSend T'' → IsSend (Logged.the_row T T' T'' g g')
  logged_send s s' s'' =
      search (
        letter_send,
        ends_send,
        event.the_send,
        event.the_field_send,
        out.the_send,
        stamped.the_send,
        stamped.the_field_send,
        phantom.the_send,
        phantom.the_field_send,
        crosses,
        sendable,
      ) depth 60

  pub seat_send : (g'' : Claims.Ghosts T'.Denot) → IsSend T → IsSend T' → IsSend T'' → IsSend (Seat.the_row T T' T'' g g' g'')
  seat_send g'' s s' s'' = search (logged_send, blank.the_send, crosses, sendable) depth 40

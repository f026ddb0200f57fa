use Rattle.std.proofs.Common.{◌++◌, ap}
use Rattle.seam_machine.specs.Sends.{items_to}
use Rattle.seam_stamp.specs.Acts.{stamped}
use Rattle.seam_logged.specs.Logs.{LoggedView}
use Rattle.seam_logged.proofs.Replay.{replay_put}
use Rattle.seam_logged.proofs.Logged.flush.Goals as goal

pub invariant_of-self : goal.invariant_of-self
invariant_of-self g c =
    let K = g.M.Machine in
    let i = c.self.inside in
    let r = c.self.invariant.0 in
    let v : LoggedView _ _ _ =
    record {
      me = i.me;
      node = i.node;
      stamp = i.stamp;
      log = i.log.items;
      hand = i.hand.items;
      unsent = stamped i.stamp i.out.items;
      ends = i.ends;
    } in
    let e = c.flush_all.ensures in (
      replay_put K.has_work K.steps K.peer_count g.J.Naming.roots v c.flush_all.new.ends v.unsent r e.ins e.rings r.targets
          (λ b. ap (λ l. l ++ items_to b v.unsent) (e.put b)),
      e.mark,
    )

use Rattle.std.proofs.Common.{rules, ◌≡◌, ◌∙◌, [], sym, ap}
use Rattle.std.proofs.lemmas.List.{nil_from_length}
use Rattle.seam_stamp.specs.Acts.{stamped}
use Rattle.seam_logged.specs.Logs.{LoggedView}
use Rattle.seam_logged.proofs.Replay.{stamp_of_none}
use Rattle.seam_logged.proofs.Logged.is_new.Goals as goal

pub returns-clause-stamp : goal.returns-clause-stamp
returns-clause-stamp g c = λ e.
    let K = g.M.Machine in
    let i = c.self.inside in
    let v : LoggedView _ _ _ =
    record {
      me = i.me;
      node = i.node;
      stamp = i.stamp;
      log = i.log.items;
      hand = i.hand.items;
      unsent = stamped i.stamp i.out.items;
      ends = i.ends;
    } in
    let none : i.log.items ≡ [] = nil_from_length i.log.items (search rules) in
    sym (ap (λ (v : LoggedView _ _ _). v.stamp) c.self.view_is)
    ∙ stamp_of_none K.has_work K.steps K.peer_count g.J.Naming.roots v c.self.invariant.0 none

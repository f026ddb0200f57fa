use Rattle.seam_law_clients.proofs.OneLook.{looks_as_table}
use Rattle.seam_law_clients.proofs.looks.a_look_is_one_look_at_the_table.Goals as goal

pub returns : goal.returns
returns c f w between copies placed reach e k r at v client fits cell node =
    looks_as_table f w between copies (c.who_may_be_seen_is_known.ensures f w between placed reach) c.others_see_the_ghost.ensures.by_ghost
    c.looks_are_plain.ensures e k r at v client fits cell node

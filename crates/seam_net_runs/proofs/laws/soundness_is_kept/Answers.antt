use Rattle.seam_net_runs.proofs.Soundness.{sound_leads, sound_sends}
use Rattle.seam_net_runs.proofs.laws.soundness_is_kept.Goals as goal

pub returns-clause-kept : goal.returns-clause-kept
returns-clause-kept g c =
    λ w v es q a. sound_leads (record {
      has_work = g.M.Machine.has_work;
      peer_count = g.M.Machine.peer_count;
      valid = g.M.Machine.valid;
      steps = g.M.Machine.steps;
      targets = g.met.M.Machine.targets;
      keeps_peers = g.met.M.Machine.keeps_peers;
      stays_valid =
          g.met.M.Machine.stays_valid;
    }) w v es q a

pub returns-clause-sends : goal.returns-clause-sends
returns-clause-sends g c =
    λ w e o q. sound_sends (record {
      has_work = g.M.Machine.has_work;
      peer_count = g.M.Machine.peer_count;
      valid = g.M.Machine.valid;
      steps = g.M.Machine.steps;
      targets = g.met.M.Machine.targets;
      keeps_peers = g.met.M.Machine.keeps_peers;
      stays_valid =
          g.met.M.Machine.stays_valid;
    }) w e o q

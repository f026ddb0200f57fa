use Rattle.std.proofs.Common.{◌++◌, sym, subst, ◌∙◌, arith}
use Rattle.std.proofs.lemmas.List.{length-append}
use Rattle.seam_node_steps.specs.Prelude.{IsQuiet, node_steps, node_has_work}
use Rattle.seam_net_runs.proofs.Runs.{leads_join, leads_keeps}
use Rattle.seam_core.specs.Worlds.{IsWorld, Leads}
use Rattle.seam_core.proofs.Worlds.{still_world}
use Rattle.seam_quiet.proofs.round.bring_to_rest.Goals as goal

-- what is left of events that may be so many are no more
pub come_to_rest-requires : goal.come_to_rest-requires
come_to_rest-requires g c = (
  c.in_ok-net.ensures.peers,
  (λ es v leads.
      let begun = subst (λ w. Leads w c.in_ok-net.events.items c.in_ok-net.net) c.apart.ensures.net c.in_ok-net.ensures.run in
      let all = c.requires.1.1.1.1 (c.in_ok-net.events.items ++ es) v
      (leads_join node_has_work node_steps c.args.world c.in_ok-net.net v c.in_ok-net.events.items es begun leads) in
      let many = length-append c.in_ok-net.events.items es in
      omega (arith, all, many)),
)

pub over-requires : goal.over-requires
over-requires g c =
    leads_keeps node_has_work node_steps IsWorld still_world c.in_ok-net.net c.in_ok-net-2.net c.in_ok-net-2.last.items
    (leads_keeps node_has_work node_steps IsWorld still_world c.apart.result c.in_ok-net.net c.in_ok-net.events.items c.apart.ensures.world
    c.in_ok-net.ensures.run) c.in_ok-net-2.ensures.run

pub returns-clause-run : goal.returns-clause-run
returns-clause-run g c =
    let begun = subst (λ w. Leads w c.in_ok-net.events.items c.in_ok-net.net) c.apart.ensures.net c.in_ok-net.ensures.run in
    subst (λ es. Leads c.args.world es c.over.result) (sym (c.of.ensures ∙ c.in_ok-append.ensures.items))
    (subst (Leads c.args.world (c.in_ok-net.events.items ++ c.in_ok-net-2.last.items)) (sym c.over.ensures.world)
    (leads_join node_has_work node_steps c.args.world c.in_ok-net.net c.in_ok-net-2.net c.in_ok-net.events.items
    c.in_ok-net-2.last.items begun c.in_ok-net-2.ensures.run))

pub returns-clause-quiet : goal.returns-clause-quiet
returns-clause-quiet g c = subst (IsQuiet node_has_work) (sym c.over.ensures.world) c.in_ok-net-2.ensures.quiet

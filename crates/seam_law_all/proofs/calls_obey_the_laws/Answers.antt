use Rattle.std.proofs.Common.{ℕ}
use Rattle.seam_node_steps.specs.Prelude.{Batch, World}
use Rattle.seam_law_calls.specs.Prelude.{Frame}
use Rattle.seam_law_rounds.specs.Prelude.{framed, MayBeLoaded}
use Rattle.seam_law_clients.specs.Prelude.{clients_loaded}
use Rattle.seam_law_all.specs.Prelude.{KeepsRecords, MayBeGiven, may_load}
use Rattle.seam_rule_clients.specs.Clients.{ClientReplica}
use Rattle.seam_law_all.proofs.calls_obey_the_laws.Goals as goal

-- the batch may be loaded
may : (f : Frame) (clients : ℕ → ClientReplica) (w : World) → KeepsRecords f clients w → (b : Batch) → MayBeGiven f w b → MayBeLoaded f w b
may f clients w k b g = may_load k g

pub returns-clause-laws : goal.returns-clause-laws
returns-clause-laws c f clients w k b g es v to =
    let m = may f clients w k b g in
    let fit = c.clients_go_from_record_to_record.ensures.load f w b m clients k.shown in
    let frame = c.a_loaded_world_goes_by_its_tree.ensures.frame f w b m.begin in
    let nodes = c.a_loaded_world_goes_by_its_tree.ensures.nodes f w b m.begin in
    record {
      one_real = λ e one. c.an_entity_keeps_one_real.ensures.one f w b m.begin e one v es to;
      no_other = λ e none. c.a_reap_ends_the_one_real.ensures.gone (framed f b) e _ v es frame nodes none to;
      each = λ e home r at.
          let has = c.an_entity_of_a_loaded_world_is_ready.ensures.one f w b m.begin e home r at in
          let one = c.holders_are_at_one_place.ensures.counts _ e has.place has.real has.one in
          record {
            replays = (c.places_are_on_their_way.ensures.loaded f w b m.begin v es to e home r at).one;
            ways = c.an_entity_keeps_one_real.ensures.lead f w b m.begin e one v es to;
            cell_calls = c.calls_of_a_batch_are_executed_once.ensures.once f w b m.begin e home r at v es to;
            base_calls = λ p had. c.base_calls_of_a_batch_are_executed_once.ensures.once f w b m e home r at p had v es to;
            ghosts = c.ghosts_of_a_round_are_true.ensures.true_copies f w b m.begin k.copies v es to e home r at;
            told = c.each_cell_is_told_what_the_real_wants.ensures.round f w b m.begin k.copies v es to e one;
            routes = c.the_newest_route_leads_to_the_real.ensures f w b m.begin v es to e one;
            bases = c.nothing_about_a_loaded_entity_is_stray_at_a_base_node.ensures f w b m e home r at v es to;
            served = c.each_client_is_shown_its_updates_in_order.ensures.round f w b m e home r at v es to;
            shown = c.clients_of_a_round_are_shown_rightly.ensures.shown f w b m k.copies (clients_loaded f b clients) fit v es to e home r
                at;
          };
      cells = record {
        messages = c.no_message_to_a_cell_is_stray.ensures.round f w b m.begin v es to;
        tasks = c.no_task_of_a_cell_is_stray.ensures.round f w b m.begin v es to;
      };
      ways = c.each_call_finds_its_way.ensures.round f w b m.begin v es to;
      base_nodes = c.no_input_of_a_base_node_is_stray_in_any_phase.ensures.round f w b m v es to;
      updates = c.an_update_without_a_client_never_comes.ensures.round f w b m v es to;
    }

pub returns-clause-ends : goal.returns-clause-ends
returns-clause-ends c f clients w k b g es v to quiet e home r at j q there =
    let m = may f clients w k b g in
    record {
      cell_calls = c.calls_of_a_batch_are_executed_once.ensures.executed f w b m.begin e home r at v es to quiet j q there;
      base_calls = c.base_calls_of_a_batch_are_executed_once.ensures.executed f w b m e home r at v es to quiet;
      place = c.places_are_right.ensures.loaded f w b m.begin v es to quiet e home r at j q there;
      copies = c.quiet_means_settled.ensures.copies f w b m.begin k.copies v es to quiet e j q there;
      routes = c.quiet_means_settled.ensures.routes f w b m.begin v es to quiet e j q there;
    }

pub returns-clause-records : goal.returns-clause-records
returns-clause-records c f clients w k b g es v to quiet =
    let m = may f clients w k b g in
    let fit = c.clients_go_from_record_to_record.ensures.load f w b m clients k.shown in
    let parts = c.base_parts_go_from_record_to_record.ensures.calls f w b m v es to quiet in
    record {
      records = record {
        reals = c.a_round_goes_from_record_to_record.ensures.calls f w b m.begin v es to quiet;
        parts = parts.0;
        places = c.a_round_keeps_the_record_of_places.ensures.calls f w b m.begin v es to quiet;
        copies = c.copies_go_from_record_to_record.ensures.calls f w b m.begin k.copies v es to quiet;
        shown = c.clients_go_from_record_to_record.ensures.calls f w b m k.copies (clients_loaded f b clients) fit v es to quiet;
        reach = k.reach;
      };
      small = parts.1;
    }

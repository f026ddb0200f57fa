use Rattle.seam_law_all.proofs.reaps_obey_the_laws.Goals as goal

pub returns-clause-laws : goal.returns-clause-laws
returns-clause-laws c f clients u k es may vs v to =
    let r = k.records in
    record {
      one_real = λ e one others. c.reaps_end_reals.ensures.others f u r.reals es may vs v to e one others;
      no_other = c.reaps_end_reals.ensures.none f u r.reals es may vs v to;
      reals = c.the_last_phases_leave_places.ensures.reaps f u r.reals es may vs v to;
      no_calls = c.no_call_waits_for_the_reaped.ensures f u r.reals es may vs v to;
      no_base_calls = c.nothing_is_stray_at_a_base_node_in_the_last_phases.ensures.reap_calls f u r.reals r.parts k.small es may vs v to;
      copies = c.no_copy_comes_in_the_last_phases.ensures.reaps f u r.reals es may vs v to;
      told = c.no_cell_keeps_a_copy_of_the_reaped.ensures.told f u r.reals r.copies es may vs v to;
      forgotten = c.no_cell_keeps_a_copy_of_the_reaped.ensures.forgotten f u r.reals r.copies es may vs v to;
      parts = c.a_reaped_client_is_shown_no_more.ensures.until f u r.reals r.parts es may vs v to;
      cells = record {
        messages = c.no_message_to_a_cell_is_stray.ensures.reaps f u r.reals es may vs v to;
        tasks = c.no_task_of_a_cell_is_stray.ensures.reaps f u r.reals es may vs v to;
      };
      bases = c.nothing_is_stray_at_a_base_node_in_the_last_phases.ensures.reaps f u r.reals r.parts k.small es may vs v to;
      ways = c.each_call_finds_its_way.ensures.reaps f u r.reals es may vs v to;
      base_nodes = c.no_input_of_a_base_node_is_stray_in_any_phase.ensures.reaps f u r.reals r.parts k.small es may vs v to;
      updates = c.an_update_without_a_client_never_comes.ensures.reaps f u r.reals r.parts es may vs v to;
    }

pub returns-clause-records : goal.returns-clause-records
returns-clause-records c f clients u k es may vs v to quiet =
    let r = k.records in
    let parts = c.base_parts_go_from_record_to_record.ensures.reaps f u r.reals r.parts k.small es may vs v to quiet in
    record {
      records = record {
        reals = c.a_round_goes_from_record_to_record.ensures.reaps f u r.reals es may vs v to quiet;
        parts = parts.0;
        places = c.a_round_keeps_the_record_of_places.ensures.reaps f u r.reals es may vs v to r.places;
        copies = c.copies_go_from_record_to_record.ensures.reaps f u r.reals r.copies es may vs v to quiet;
        shown = c.clients_go_from_record_to_record.ensures.reaps f u r.reals es may vs v to clients r.shown;
        reach = r.reach;
      };
      small = parts.1;
    }

use Rattle.seam_law_all.proofs.looks_obey_the_laws.Goals as goal

pub returns-clause-laws : goal.returns-clause-laws
returns-clause-laws c f clients u k vs v to =
    let r = k.records in
    let room = c.clients_go_from_record_to_record.ensures.room f u r.parts k.small in
    record {
      one_real = c.looks_keep_reals.ensures.counts f u r.reals vs v to;
      no_other = c.looks_keep_reals.ensures.none f u r.reals vs v to;
      reals = c.the_last_phases_leave_places.ensures.looks f u r.reals vs v to;
      no_calls = c.looks_keep_reals.ensures.calls f u r.reals vs v to;
      no_base_calls = c.nothing_is_stray_at_a_base_node_in_the_last_phases.ensures.look_calls f u r.reals r.parts k.small vs v to;
      copies = c.no_copy_comes_in_the_last_phases.ensures.looks f u r.reals vs v to;
      told = c.each_cell_is_told_what_the_real_wants.ensures.looks f u r.reals r.copies vs v to;
      served = c.each_client_is_shown_its_updates_in_order.ensures.looks f u r.reals r.parts k.small vs v to;
      until = c.each_client_is_shown_one_look.ensures.until f u r.reals r.parts k.small r.copies r.places r.reach room clients r.shown vs v
          to;
      cells = record {
        messages = c.no_message_to_a_cell_is_stray.ensures.looks f u r.reals vs v to;
        tasks = c.no_task_of_a_cell_is_stray.ensures.looks f u r.reals vs v to;
      };
      bases = c.nothing_is_stray_at_a_base_node_in_the_last_phases.ensures.looks f u r.reals r.parts k.small vs v to;
      ways = c.each_call_finds_its_way.ensures.looks f u r.reals vs v to;
      base_nodes = c.no_input_of_a_base_node_is_stray_in_any_phase.ensures.looks f u r.reals r.parts k.small vs v to;
      updates = c.an_update_without_a_client_never_comes.ensures.looks f u r.reals r.parts k.small vs v to;
    }

pub returns-clause-shown : goal.returns-clause-shown
returns-clause-shown c f clients u k vs v to quiet =
    let r = k.records in
    let room = c.clients_go_from_record_to_record.ensures.room f u r.parts k.small in
    c.each_client_is_shown_one_look.ensures.all f u r.reals r.parts k.small r.copies r.places r.reach room clients r.shown vs v to quiet

pub returns-clause-records : goal.returns-clause-records
returns-clause-records c f clients u k vs v to quiet =
    let r = k.records in
    let room = c.clients_go_from_record_to_record.ensures.room f u r.parts k.small in
    record {
      reals = c.a_round_goes_from_record_to_record.ensures.looks f u r.reals vs v to quiet;
      parts = c.base_parts_go_from_record_to_record.ensures.looks f u r.reals r.parts k.small vs v to quiet;
      places = c.a_round_keeps_the_record_of_places.ensures.looks f u r.reals vs v to r.places;
      copies = c.copies_go_from_record_to_record.ensures.looks f u r.reals r.copies vs v to quiet;
      shown = c.clients_fit_after_the_looks.ensures f u r.reals r.copies r.places r.reach room clients r.shown vs v to quiet;
      reach = r.reach;
    }

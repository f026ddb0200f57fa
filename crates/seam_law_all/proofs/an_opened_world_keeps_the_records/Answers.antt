use Rattle.seam_law_all.proofs.an_opened_world_keeps_the_records.Goals as goal

pub returns : goal.returns
returns c defs settings frame bases reach clients = record {
  reals = c.a_round_goes_from_record_to_record.ensures.opened defs settings frame bases;
  parts = c.base_parts_go_from_record_to_record.ensures.opened defs settings frame bases;
  places = c.a_round_keeps_the_record_of_places.ensures.opened defs settings frame bases;
  copies = c.copies_go_from_record_to_record.ensures.opened defs settings frame bases;
  shown = c.clients_go_from_record_to_record.ensures.opened defs settings frame bases clients;
  reach = reach;
}

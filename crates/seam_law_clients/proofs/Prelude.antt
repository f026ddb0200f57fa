-- What the proofs of this crate cite of definitions and of the crates below, gathered, so that one import names it.
pub use Rattle.std.proofs.Common.{append_assoc, leb, unwrap_or}
pub use Rattle.std.proofs.lemmas.List.Sums.{fold-append}
pub use Rattle.std.proofs.lemmas.Map.Keys.{IsDistinct-head, IsDistinct-tail}
pub use Rattle.std.specs.FinMap.Entries.{is_some-find, same_entries}
pub use Rattle.std.specs.List.{IsDistinct, filter, filter_map, flat_map}
pub use Rattle.std.specs.Map.{keys_of, lookup}
pub use Rattle.std.specs.Prelude.{drop, max}
pub use Rattle.seam_call.specs.declared.shown.Update.{Update}
pub use Rattle.seam_law_calls.proofs.Absent.{absent_leads}
pub use Rattle.seam_law_calls.proofs.BaseStrays.{none_at_bases}
pub use Rattle.seam_law_calls.proofs.ClientRuns.{client_happens, never_missed, one_of}
pub use Rattle.seam_law_calls.proofs.Looking.{LooksAt, NotTaken, as_often, cell_looks, elsewhere, gone, looks, still, ticked}
pub use Rattle.seam_law_calls.proofs.PartSteps.{part_moves}
pub use Rattle.seam_law_calls.proofs.Prelude.{Equal, Greater, HasNoLooks, HasNoPart, Known, Less, Offered, Ordering, Stepped}
pub use Rattle.seam_law_calls.proofs.Prelude.{after_looking, after_offer, after_ready, after_taking, base_steps, base_task, cell_has_work}
pub use Rattle.seam_law_calls.proofs.Prelude.{cell_steps, cell_task, cons_option, delivery_goes, early, first_is, is_none, is_of_another}
pub use Rattle.seam_law_calls.proofs.Prelude.{is_ready, is_stuck, known_to, late, list_any, look_next, looks_around, looks_of, more_issued}
pub use Rattle.seam_law_calls.proofs.Prelude.{nat_eq, now, offered_update, own_due, proxy_task, ready_next, ready_part, ready_proxy}
pub use Rattle.seam_law_calls.proofs.Prelude.{seen_as, sends_none, shown_for, shows_next, stepped, stray_look_by, stray_update}
pub use Rattle.seam_law_calls.proofs.Prelude.{task_without_orders, tick_in, two_cells, updated, with_deed, with_number, with_part}
pub use Rattle.seam_law_calls.proofs.Prelude.{witnesses}
pub use Rattle.seam_law_calls.proofs.Quieting.{got_fails, none_left, none_some}
pub use Rattle.seam_law_calls.proofs.Telling.{event_fact, told_few}
pub use Rattle.seam_law_calls.proofs.Keeping.{EachKeeps, EventsKeep, FramedKeep, RunsKeep, reached_keep, run_keeps, runs_keep, slots_lead}
pub use Rattle.seam_law_calls.proofs.Unknown.{unknown_leads}
pub use Rattle.seam_law_calls.proofs.WitnessKept.{OfReal, each_happens, none_carried}
pub use Rattle.seam_law_calls.specs.Prelude.{IsUnknown, NoneIsStrayAtBases, executes, home_of, order_in, shown_at, shows}
pub use Rattle.seam_law_clients.specs.Prelude.{ClientsFit, ComesBetween, FitsWithin, FitsWitness, HaveRoomToLook, IsTrueBetween, KnowsTruth}
pub use Rattle.seam_law_clients.specs.Prelude.{ShowsItsPart, TellsRightly, WasOther, base_in, base_lines, batch, clients_loaded}
pub use Rattle.seam_law_clients.specs.Prelude.{clients_shown, first_lines, having_looked, line_where, lines_after, look_0, look_11}
pub use Rattle.seam_law_clients.specs.Prelude.{look_steps, looked_by, number_of_line, own_now, row_in, row_of_real, rows_at, rows_of}
pub use Rattle.seam_law_clients.specs.Prelude.{state_after, state_with, steps, true_between, truth_of_look, version_in, witness_looked}
pub use Rattle.seam_law_clients.specs.RoundTruths.{known_between}
pub use Rattle.seam_law_ghosts.proofs.Ending.{opened_copied, reaps_end_copied}
pub use Rattle.seam_law_ghosts.proofs.Ends.{calls_place, looks_leave, reaps_leave, stays_placed}
pub use Rattle.seam_law_ghosts.proofs.NoStrays.{frame_look, frame_reaps}
pub use Rattle.seam_law_ghosts.proofs.Prelude.{Account, Acts, AllByRecursion, Any, AreCopiesBetweenRounds, AreNumbered, ArePlaced}
pub use Rattle.seam_law_ghosts.proofs.Prelude.{AreReapable, AtBase, AtCell, Base, BaseCall, BaseMoves, Batch, Bool, Call, Cell, CellMoves}
pub use Rattle.seam_law_ghosts.proofs.Prelude.{CellView, Create, Current, Division, Does, EachFrom, Event, Frame, From, GhostCopy}
pub use Rattle.seam_law_ghosts.proofs.Prelude.{GhostDrop, GhostSet, Goes, GoesThroughRound, HadSameReal, Hand, Has, HasOne, Here, In}
pub use Rattle.seam_law_ghosts.proofs.Prelude.{IsBetweenRounds, IsCalm, IsCalmOrder, IsCalmTo, IsFitting, IsForReal, IsInFrame, IsOne}
pub use Rattle.seam_law_ghosts.proofs.Prelude.{IsQuiet, IsSettled, IsSilent, IsSpared, IsTrue, IsTrueCopy, LeadsTo, List, Map, MayBeMade}
pub use Rattle.seam_law_ghosts.proofs.Prelude.{MayBegin, Moves, MovesTo, Msg, NodeView, None, Nowhere, Occurs, On, OneFrom, Option, Order}
pub use Rattle.seam_law_ghosts.proofs.Prelude.{OrderView, Orders, Pos, RealView, Reap, Replays, RouteView, RunsTo, Shown, SlotStep, Some}
pub use Rattle.seam_law_ghosts.proofs.Prelude.{Somewhere, State, Task, Tick, TokenPlace, TypeDef, WitnessView, World, [], account_of}
pub use Rattle.seam_law_ghosts.proofs.Prelude.{after_call, after_calls, all_append, all_lead, all_two, any, ap, append-nil, arith}
pub use Rattle.seam_law_ghosts.proofs.Prelude.{at_a_base, at_a_cell, attached, base_numbers, base_of, base_round, below_is, book_entry}
pub use Rattle.seam_law_ghosts.proofs.Prelude.{builtin, calls, calls_at, calls_end_between, calls_of, calm_leads, calm_of, came, carried_in}
pub use Rattle.seam_law_ghosts.proofs.Prelude.{cases_eq, cases_lt, cell_count, cell_round, cells_of, changes, comes, cond, copy_at, copy_if}
pub use Rattle.seam_law_ghosts.proofs.Prelude.{copy_in, counted_none, created_at, current_to, distance, each, each_keeps, each_node}
pub use Rattle.seam_law_ghosts.proofs.Prelude.{empty_world, enabled, entity_flow, eq-eqb, eq_by_cmp, eqb, event_moves, events_of, false}
pub use Rattle.seam_law_ghosts.proofs.Prelude.{fits_cell_part, found, frame_happens, frame_is, frame_leads, frame_loaded, framed}
pub use Rattle.seam_law_ghosts.proofs.Prelude.{get-set_at, ghost_messages, ghost_of, ghosts_silent, gone_leads, happens, has_any, has_none}
pub use Rattle.seam_law_ghosts.proofs.Prelude.{has_of, has_ready, haunts_at, here_at, holders, idle, in_frame, inl, inr, is_small, is_some}
pub use Rattle.seam_law_ghosts.proofs.Prelude.{items_to, leads_keeps, leaf_at, length, length-append, letter, letter_in, letters_kept}
pub use Rattle.seam_law_ghosts.proofs.Prelude.{letters_of, limit, link, loaded, look_cell, look_framed, look_given, look_loaded, ltb, map}
pub use Rattle.seam_law_ghosts.proofs.Prelude.{mapped_silent, may_rise, mine, more_letter, nat_cmp, nat_le, nat_lt, nat_tests, ne_eqb}
pub use Rattle.seam_law_ghosts.proofs.Prelude.{next_item, no_mail, node_has_work, node_loaded, node_steps, none_counts, none_ready}
pub use Rattle.seam_law_ghosts.proofs.Prelude.{none_there, not, number_from, numbered, occurs, one_happens, one_more_if, opened_has_none}
pub use Rattle.seam_law_ghosts.proofs.Prelude.{option_map, order_or, order_reaps, ordered_at, present, properties, public_after, quiet_home}
pub use Rattle.seam_law_ghosts.proofs.Prelude.{quiet_links, quiet_tasks, range_with_len, readies, ready_order, real_at, real_begins}
pub use Rattle.seam_law_ghosts.proofs.Prelude.{real_in, real_of, reals_stay, reap_ordered_at, reaps_cell, reaps_framed, reaps_given}
pub use Rattle.seam_law_ghosts.proofs.Prelude.{reaps_loaded, refl, row_leads, search_real, sees_none, settled_loaded, shown_of, slice_get}
pub use Rattle.seam_law_ghosts.proofs.Prelude.{slice_get-map, slice_get_cases, slot_after, slot_at, slot_is, slot_of, slots, slots_kept}
pub use Rattle.seam_law_ghosts.proofs.Prelude.{sole_here, spared_happens, spared_loaded, standard, subst, suc, surveys, sym, tick_to, times}
pub use Rattle.seam_law_ghosts.proofs.Prelude.{total, true, type_at, type_of, units, with_nodes, zero, ℕ, ◌&&◌, ◌++◌, ◌+◌, ◌<◌, ◌||◌, ◌∙◌}
pub use Rattle.seam_law_ghosts.proofs.Prelude.{◌∷◌, ◌≡◌, ◌≤◌, ◌⊎◌, sent_kept}
pub use Rattle.seam_law_ghosts.proofs.Present.{present_first, replay_version, true_more}
pub use Rattle.seam_law_rounds.proofs.Attaching.{PartFrom, RealFrom, are_for_loaded, part_if, part_there, real_if, real_there}
pub use Rattle.seam_law_rounds.proofs.BaseCallsEnd.{calls_end_small, calls_end_with_parts}
pub use Rattle.seam_law_rounds.proofs.Calms.{look_acts, look_finds, look_numbers, look_serves, look_settles, reaps_end_small}
pub use Rattle.seam_law_rounds.proofs.Calms.{reaps_end_with_parts, reaps_part, reaps_tell_none, reaps_without_ticks}
pub use Rattle.seam_law_rounds.proofs.Giving.{some_base}
pub use Rattle.seam_law_rounds.proofs.Joining.{bare_peopled, is_among, part_peopled, real_peopled, unseen_peopled}
pub use Rattle.seam_law_rounds.proofs.Looking.{look_ends_between, tick}
pub use Rattle.seam_law_rounds.proofs.Making.{Creation, creation_of, middle, nowhere, once}
pub use Rattle.seam_law_rounds.proofs.PartLoads.{part_at, parts_ordered}
pub use Rattle.seam_law_rounds.proofs.PartsGoing.{executed_then, few_lines, its_part, none_strays, serves_after, told, update_finds_it}
pub use Rattle.seam_law_rounds.proofs.Prelude.{AreBaseNumbered, AreFor, AreInStep, BaseView, CarriesNoEntity, ClientText, Delivery}
pub use Rattle.seam_law_rounds.proofs.Prelude.{EachReal, FindsClient, FitsParts, HasClient, HasNoBaseCalls, HasNoProxy}
pub use Rattle.seam_law_rounds.proofs.Prelude.{HasPartsBetweenRounds, HasRoomFor, HasSettledPart, HasSmallNumbers, HasToldAtMost, Input}
pub use Rattle.seam_law_rounds.proofs.Prelude.{IsAbsent, IsForPart, IsNode, IsServed, MayBeLoaded, NoTicks, NoUpdateComes, NothingIsStray}
pub use Rattle.seam_law_rounds.proofs.Prelude.{PartMoves, PartView, ProxyView, SeesNoGhost, T, all_shown, bare, bare_leads, base_call_in}
pub use Rattle.seam_law_rounds.proofs.Prelude.{base_calls_at, base_calls_of, base_mail, base_text, bears, below_all, calls_ordered}
pub use Rattle.seam_law_rounds.proofs.Prelude.{client_leads, concerning, each_weaker, ends, find, finds_client, from_sender, here}
pub use Rattle.seam_law_rounds.proofs.Prelude.{input_from, is_sorted, item_at, length-map, line_if, lines_in, looks_with, may_show, misses}
pub use Rattle.seam_law_rounds.proofs.Prelude.{most_entities, nat_cmp_total, new_part, new_proxy, no, node_laws, number_of, numbered_from}
pub use Rattle.seam_law_rounds.proofs.Prelude.{of_number, offers, one_leads, opening, order_if, packed, part_begins, part_desk}
pub use Rattle.seam_law_rounds.proofs.Prelude.{proxy_begins, proxy_of, ready_entity, real_is_ready, refuses, rests, seen_leads, sends}
pub use Rattle.seam_law_rounds.proofs.Prelude.{sent_by, sent_of, served, serves, set_at, shown_in, slice_index_or, sound_sends, strays_at}
pub use Rattle.seam_law_rounds.proofs.Prelude.{tells, unordered, unseen_told_none, update_in, updates, updates_at, with_proxy, with_route}
pub use Rattle.seam_law_rounds.proofs.Prelude.{◌^◌}
pub use Rattle.seam_law_rounds.proofs.Starting.{idle_orders}
pub use Rattle.seam_law_rounds.proofs.Ticking.{idle_looks, most_told}
pub use Rattle.seam_law_rounds.proofs.Unknown.{nobody, unknown_in_round, unknown_look, unknown_reaps}
pub use Rattle.seam_net_runs.proofs.Runs.{leads_by_one, leads_extend, leads_join, leads_nowhere}
pub use Rattle.seam_node_steps.proofs.Knowing.{known_at, known_by, known_rises, known_to_is, passing_others, unless_self}
pub use Rattle.seam_node_steps.proofs.Sorted.{each_found, find_append, find_entries, find_filter, find_mapped, first, none_below, or_else}
pub use Rattle.seam_node_steps.proofs.Sorted.{passing, second, sorted_filter, sorted_mapped, tied_same}
pub use Rattle.seam_node_steps.specs.BaseCases.{executed, is_stray, may_execute, with_offer}
pub use Rattle.seam_node_steps.specs.Prelude.{Enter, Leave, Line, Own, Property, Set, case_of, client_of, current, has_witness, is_another}
pub use Rattle.seam_node_steps.specs.Prelude.{known_of, new_witness, newer_route, other_of, other_of_copy, other_of_real, own_of}
pub use Rattle.seam_node_steps.specs.Prelude.{part_called, projected, properties_of, shown_of_known, unless_stray, update, updated_proxy}
pub use Rattle.seam_node_steps.specs.Prelude.{with_line, with_order}
pub use Rattle.seam_rule_clients.proofs.EachOne.{all_of, turned}
pub use Rattle.seam_rule_clients.specs.Clients.{ClientReplica, after_all_shown, after_shown, new_client, with_copy_shown}
pub use Rattle.seam_rule_clients.specs.Lines.{IsNear, MayEnter, MaySet, MayShow, MayShowAll, ShowsRightly, ShowsTruth, Truth}
pub use Rattle.seam_rule_clients.specs.Looks.{Row, is_newer, look_at, look_by, one_look, own_shown, row_of, rows_but, seen}
pub use Rattle.seam_view.proofs.Kept.{get_by_shown, view_after_looks}
pub use Rattle.seam_view.specs.Plain.{AreNotOlder, is_gone, is_new, plain_look}
pub use Rattle.seam_view.specs.Replica.{IsView, Replica, after_look, after_looks, after_showing, entity_of, placed, seen_of, without}
pub use Rattle.seam_view.specs.ViewLooks.{changed, entering, enters, has_changed, in_view, is_far, leaves, leaving, not_older}
pub use Rattle.seam_view.specs.declared.Look.{Look}
pub use Rattle.seam_view.specs.declared.Seen.{Seen}
pub use Rattle.seam_law_calls.proofs.Holds.{neither}

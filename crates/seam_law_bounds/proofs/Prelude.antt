-- What the proofs of this crate cite of definitions and of the crates below, gathered, so that one import names it.
pub use Rattle.std.proofs.Common.{filter}
pub use Rattle.std.proofs.Math.Nat.{mul-le-mul_left}
pub use Rattle.std.specs.Ordering.{is_lt}
pub use Rattle.std.specs.Prelude.{filter_map, if◌then◌else◌}
pub use Rattle.seam_law_bounds.specs.Prelude.{AllAmong, AllCan, Always, AreAmong, AreAtMost, AreRanked, BaseCan, ClientsKeepRoom, Climbs}
pub use Rattle.seam_law_bounds.specs.Prelude.{ComesTo, EachSeenIsHeld, HoldsNothing, LooksAmong, LooksFit, NodeCan, Sizes, all_passes}
pub use Rattle.seam_law_bounds.specs.Prelude.{all_witnesses, base_orders, brings_call, cell_orders, cell_passes, entities, events_of_looks}
pub use Rattle.seam_law_bounds.specs.Prelude.{events_of_round, hand_overs, hands_over, has_hand_from, is_among, is_hand_from}
pub use Rattle.seam_law_bounds.specs.Prelude.{is_handed_over, is_left, is_numbered, is_pass, letter_weight, look_weight, node_passes}
pub use Rattle.seam_law_bounds.specs.Prelude.{node_weight, one_if_cell, one_if_tick, order_weight, part_weight, passes, passes_by}
pub use Rattle.seam_law_bounds.specs.Prelude.{passes_on, proxy_weight, real_weight, reals_at, settle_weight, settling, tick_orders}
pub use Rattle.seam_law_bounds.specs.Prelude.{tick_weight, was_left, witnesses_at, world_weight}
pub use Rattle.seam_law_bounds.specs.Weights.{base_weight, cell_weight}
pub use Rattle.seam_law_calls.proofs.HeldCounts.{early_counts, taken_counts, turn_counts}
pub use Rattle.seam_law_calls.proofs.Keeping.{EachKeeps, EventsKeep, FramedKeep, RunsKeep, reached_keep, run_keeps, runs_keep}
pub use Rattle.seam_law_calls.proofs.NoLooks.{looks_happen, looks_lead}
pub use Rattle.seam_law_calls.proofs.PartSteps.{equal_of, greater_of}
pub use Rattle.seam_law_calls.proofs.Plain.{drops_silent}
pub use Rattle.seam_law_calls.proofs.Prelude.{EachNode, Item, More, NoneIsStray, Rest, Slot, WitnessMoves, after_item, after_slot}
pub use Rattle.seam_law_calls.proofs.Prelude.{base_has_work, base_order, call, call_next_place, calls_ready, cell_hears, cell_post, change}
pub use Rattle.seam_law_calls.proofs.Prelude.{copied, executed_ready, ghost_set, hand_over_comes, is_base_node_of, is_visited, known_copy}
pub use Rattle.seam_law_calls.proofs.Prelude.{known_in, known_real, letters_of-append, look_task, match_ordering, none, on_route}
pub use Rattle.seam_law_calls.proofs.Prelude.{order_of_node, proxy_is_ready, ready_call_task, ready_in, reap, sent_weight, settled_by}
pub use Rattle.seam_law_calls.proofs.Prelude.{slot_stepped, slot_steps, stays, stray_look, stray_order, stray_ready_call, survey_task, tail}
pub use Rattle.seam_law_calls.proofs.Prelude.{unlisted_by, whole, with_copy, with_item, with_reap, ◌==◌, items_fit}
pub use Rattle.seam_law_calls.proofs.WayMoves.{call_in}
pub use Rattle.seam_law_calls.proofs.WitnessKept.{ByWitness, all_weaker}
pub use Rattle.seam_law_calls.proofs.Unknown.{only_ticks, unknown_leads, unknown_happens}
pub use Rattle.seam_law_calls.specs.Prelude.{IsTickOrder, IsTickTo, IsUnknown, called, entity_of}
pub use Rattle.seam_law_clients.proofs.Prelude.{Acts, AllByRecursion, Any, AreCopiesBetweenRounds, AreFor, AreReapable, AtBase, AtCell}
pub use Rattle.seam_law_clients.proofs.Prelude.{Base, BaseCall, BaseMoves, BaseView, Batch, Bool, Call, Cell, CellMoves, CellView}
pub use Rattle.seam_law_clients.proofs.Prelude.{ClientText, Create, Current, Division, Does, EachReal, Equal, Event, Frame, From, GhostCopy}
pub use Rattle.seam_law_clients.proofs.Prelude.{GhostDrop, GhostSet, Goes, GoesThroughRound, Greater, HadSameReal, Hand, Has}
pub use Rattle.seam_law_clients.proofs.Prelude.{HasNoBaseCalls, HasNoLooks, HasOne, HasPartsBetweenRounds, HasSmallNumbers, HasToldAtMost}
pub use Rattle.seam_law_clients.proofs.Prelude.{HaveRoomToLook, Here, In, Input, IsBetweenRounds, IsCalm, IsDistinct, IsDistinct-head}
pub use Rattle.seam_law_clients.proofs.Prelude.{IsDistinct-tail, IsInFrame, IsNode, IsOne, IsQuiet, IsServed, IsSilent, IsSpared, IsView}
pub use Rattle.seam_law_clients.proofs.Prelude.{Known, Less, List, Look, Map, MayBeLoaded, MayBegin, Moves, MovesTo, Msg, NodeView, None}
pub use Rattle.seam_law_clients.proofs.Prelude.{Nowhere, Occurs, On, Option, Order, OrderView, Ordering, PartMoves, PartView, Pos, Property}
pub use Rattle.seam_law_clients.proofs.Prelude.{ProxyView, RealView, Reap, Replica, RouteView, RunsTo, Seen, SeesNoGhost, Shown, SlotStep}
pub use Rattle.seam_law_clients.proofs.Prelude.{Some, Somewhere, State, Stepped, T, Task, Tick, TokenPlace, TypeDef, WitnessView, World, []}
pub use Rattle.seam_law_clients.proofs.Prelude.{after_look, after_looks, after_offer, after_ready, after_showing, after_taking, all_append}
pub use Rattle.seam_law_clients.proofs.Prelude.{all_two, any, ap, arith, at_a_base, at_a_cell, attached, bare, base_call_in, base_numbers}
pub use Rattle.seam_law_clients.proofs.Prelude.{base_of, base_round, base_steps, base_task, base_text, bears, below_all, calls}
pub use Rattle.seam_law_clients.proofs.Prelude.{calls_end_between, calls_end_with_parts, calls_of, calls_ordered, calm_leads, calm_of, came}
pub use Rattle.seam_law_clients.proofs.Prelude.{carried_in, case_of, cases_eq, cell_count, cell_has_work, cell_round, cell_steps, cell_task}
pub use Rattle.seam_law_clients.proofs.Prelude.{cells_of, changed, comes, concerning, cond, cons_option, copy_in, counted_none, created_at}
pub use Rattle.seam_law_clients.proofs.Prelude.{current, current_to, distance, drop, each, each_happens, each_keeps, each_weaker, enabled}
pub use Rattle.seam_law_clients.proofs.Prelude.{entering, enters, entity_flow, eq-eqb, eq_by_cmp, eqb, event_moves, false, find, first_is}
pub use Rattle.seam_law_clients.proofs.Prelude.{fold-append, found, frame_happens, frame_leads, frame_loaded, framed, get-set_at}
pub use Rattle.seam_law_clients.proofs.Prelude.{ghost_messages, ghost_of, ghosts_silent, gone_leads, happens, has_any, has_changed}
pub use Rattle.seam_law_clients.proofs.Prelude.{has_none, has_of, has_ready, has_witness, haunts_at, having_looked, here_at, holders}
pub use Rattle.seam_law_clients.proofs.Prelude.{home_of, in_frame, in_view, inl, input_from, inr, is_another, is_far, is_none}
pub use Rattle.seam_law_clients.proofs.Prelude.{is_of_another, is_some, is_sorted, item_at, items_to, keys_of, known_at, known_to}
pub use Rattle.seam_law_clients.proofs.Prelude.{known_to_is, leads_by_one, leads_extend, leads_join, leads_keeps, leads_nowhere, leaf_at}
pub use Rattle.seam_law_clients.proofs.Prelude.{leaves, leaving, length, length-append, length-map, letter, letter_in, letters_kept}
pub use Rattle.seam_law_clients.proofs.Prelude.{letters_of, line_if, link, list_any, loaded, look_cell, look_ends_between, look_framed}
pub use Rattle.seam_law_clients.proofs.Prelude.{look_loaded, look_next, look_numbers, look_serves, look_settles, looked_by, looks_around}
pub use Rattle.seam_law_clients.proofs.Prelude.{looks_leave, looks_of, looks_with, ltb, map, mapped_silent, may_rise, may_show, mine}
pub use Rattle.seam_law_clients.proofs.Prelude.{more_letter, most_told, nat_cmp, nat_cmp_total, nat_eq, nat_le, nat_lt, nat_tests, ne_eqb}
pub use Rattle.seam_law_clients.proofs.Prelude.{new_part, new_proxy, newer_route, next_item, no_mail, node_has_work, node_laws, node_loaded}
pub use Rattle.seam_law_clients.proofs.Prelude.{node_steps, none_counts, not, not_older, number_from, number_of, numbered, occurs}
pub use Rattle.seam_law_clients.proofs.Prelude.{of_number, offered_update, one_happens, opened_has_none, option_map, order_if, order_or}
pub use Rattle.seam_law_clients.proofs.Prelude.{ordered_at, other_of, own_due, packed, part_begins, part_called, part_moves, placed}
pub use Rattle.seam_law_clients.proofs.Prelude.{projected, properties, properties_of, proxy_begins, proxy_task, quiet_home, quiet_links}
pub use Rattle.seam_law_clients.proofs.Prelude.{quiet_tasks, range_with_len, readies, ready_entity, ready_next, ready_order, ready_part}
pub use Rattle.seam_law_clients.proofs.Prelude.{ready_proxy, real_at, real_begins, real_in, real_is_ready, real_of, reals_stay}
pub use Rattle.seam_law_clients.proofs.Prelude.{reap_ordered_at, reaps_cell, reaps_framed, reaps_loaded, refl, search_real, seen_as}
pub use Rattle.seam_law_clients.proofs.Prelude.{seen_of, sends_none, sent_by, sent_of, served, set_at, settled_loaded, shown_for, shown_of}
pub use Rattle.seam_law_clients.proofs.Prelude.{shows_next, slice_get, slice_get-map, slot_after, slot_at, slot_is, slot_of, slots_kept}
pub use Rattle.seam_law_clients.proofs.Prelude.{sole_here, sound_sends, spared_happens, spared_loaded, stepped, subst, suc, sym}
pub use Rattle.seam_law_clients.proofs.Prelude.{task_without_orders, tick, tick_in, tick_to, times, total, true, update, update_in}
pub use Rattle.seam_law_clients.proofs.Prelude.{updated_proxy, view_after_looks, with_nodes, with_part, with_proxy, with_route, without}
pub use Rattle.seam_law_clients.proofs.Prelude.{witness_looked, witnesses, zero, ℕ, ◌&&◌, ◌++◌, ◌+◌, ◌<◌, ◌||◌, ◌∙◌, ◌∷◌, ◌≡◌, ◌≤◌, ◌⊎◌}
pub use Rattle.seam_law_clients.proofs.Prelude.{sent_kept}
pub use Rattle.seam_law_clients.proofs.Round.{called_between, reaped_between, reaped_copies, reaped_parts, reaped_room, reaped_small}
pub use Rattle.seam_law_clients.proofs.ShownOnce.{cell_at}
pub use Rattle.seam_law_flow.proofs.Following.{own}
pub use Rattle.seam_law_ghosts.proofs.NoStrays.{look_tasks, reaps_tasks, round_tasks}
pub use Rattle.seam_law_ghosts.proofs.Prelude.{Cells, FindsRoom, Flow, Ghost, IsFrame, NextPlace, Settings, Sole, about, are_calls}
pub use Rattle.seam_law_ghosts.proofs.Prelude.{base_keeps, beat_in, both, cell_numbers, copy_of_real, created, drop_at, drop_if, eqb-true}
pub use Rattle.seam_law_ghosts.proofs.Prelude.{first_frame, get-each_value, ghost_message, goes, holds_kept, home_after, its, kept_if, made}
pub use Rattle.seam_law_ghosts.proofs.Prelude.{may_call, may_settle, next_from, node_there, numbered_silent, one_after, one_here}
pub use Rattle.seam_law_ghosts.proofs.Prelude.{one_holder, one_loaded, opened, opened_is_new, order_about, order_concerns, order_is_ready}
pub use Rattle.seam_law_ghosts.proofs.Prelude.{order_of, orders_of, room, routed_loaded, settled_to, sole_came, stray_call, stray_hand}
pub use Rattle.seam_law_ghosts.proofs.Prelude.{stray_reap, stray_survey, told_unless, unlisted_if, weight_or, with_witness, ◌-◌}
pub use Rattle.seam_law_rounds.proofs.Loading.{loaded_is, nodes_after, set_keeps}
pub use Rattle.seam_law_rounds.proofs.Looking.{look_keeps, look_makes_none}
pub use Rattle.seam_law_rounds.proofs.Prelude.{AllEnabled, AreCallsOf, IsAt, IsBaseAt, IsCell, Mail, as_sender, base_burden_leads}
pub use Rattle.seam_law_rounds.proofs.Prelude.{base_call_of, burden_leads, cell_mail, cell_order_from, client_is_ready, each_value}
pub use Rattle.seam_law_rounds.proofs.Prelude.{entries_empty, event_moves_with, held_in, held_of, input_is, input_weight, is_from}
pub use Rattle.seam_law_rounds.proofs.Prelude.{is_tick_order, looks_left, node_moves, numbers_of, part_is_ready, part_may_show, rank_of}
pub use Rattle.seam_law_rounds.proofs.Prelude.{reaped_by_order, run, sent_is, slice_get_within, weight, weight_moves, with_value, ◌*◌}
pub use Rattle.seam_law_rounds.proofs.RoadRuns.{Came, IsRouted, grown, place_then, road, routed_by}
pub use Rattle.seam_law_rounds.proofs.Room.{Surveys, loaded_surveys, no_held, one_if, real_room, rows_none, weighs}
pub use Rattle.seam_law_rounds.proofs.Unknown.{unknown_look}
pub use Rattle.seam_machine.proofs.Occurring.{node_here, occurs_works}
pub use Rattle.seam_machine.proofs.Totals.{total-append, total-push}
pub use Rattle.seam_net_runs.proofs.Keeping.{each_link, each_node}
pub use Rattle.seam_net_runs.proofs.MapSums.{range_bounds, sent_of_chosen, sent_of_range, sent_of_range_bounds, total_of_insert}
pub use Rattle.seam_net_runs.proofs.MapSums.{total_of_remove}
pub use Rattle.seam_net_runs.specs.Sums.{map_total}
pub use Rattle.seam_node_steps.specs.BaseCases.{unless_stray}
pub use Rattle.seam_node_steps.specs.CellCases.{offered}
pub use Rattle.seam_node_steps.specs.Loads.{with_order}
pub use Rattle.seam_node_steps.specs.Prelude.{Update, all_shown, cell_begins, executed, executes_ready, ghost_drop, gone_to, heard}
pub use Rattle.seam_node_steps.specs.Prelude.{is_stray, look_by, may_execute, part_if, real_if, rests, settled, shows, stray_ghost_set}
pub use Rattle.seam_node_steps.specs.Prelude.{surveys, told, with_offer, with_orders}
pub use Rattle.seam_view.specs.ViewLooks.{one_look}
pub use Rattle.seam_view.specs.declared.Look.TheVariants.{Enter, Leave, Set}

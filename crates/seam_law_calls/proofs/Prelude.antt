-- What the proofs of this crate cite of definitions and of the crates below, gathered, so that one import names it.
pub use Rattle.std.proofs.Common.{Bool, List, None, Option, Some, T, [], ap, arith, cond, eqb, false, filter, filter_map, find, inl, inr}
pub use Rattle.std.proofs.Common.{is_none, is_some, length, ltb, map, nat_eq, nat_le, nat_lt, not, refl, replicate, subst, suc, sym, true}
pub use Rattle.std.proofs.Common.{zero, ℕ, ◌&&◌, ◌*◌, ◌++◌, ◌+◌, ◌<◌, ◌==◌, ◌||◌, ◌∙◌, ◌∷◌, ◌≡◌, ◌≤◌, ◌⊎◌}
pub use Rattle.std.proofs.lemmas.Bool.{cases_eq, cases_lt, eq-eqb, eqb-false, eqb-true, ne_eqb}
pub use Rattle.std.proofs.lemmas.Bool.Decides.{nat_tests}
pub use Rattle.std.proofs.lemmas.List.{append-nil, length-append, length-map}
pub use Rattle.std.proofs.lemmas.List.Elements.{All-cons, All-get_or, All-head, All-nil, All-replicate, filter_passes}
pub use Rattle.std.specs.Cmp.{nat_cmp_total, unsigned_tied}
pub use Rattle.std.specs.FinMap.Entries.{below_all, is_sorted}
pub use Rattle.std.specs.List.{All, AllByRecursion, cons_option, list_all, list_any, range_with_len}
pub use Rattle.std.specs.Ordering.{eq_by_cmp, is_lt, match_ordering, nat_cmp}
pub use Rattle.std.specs.Prelude.{option_map, slice_get, slice_index_or}
pub use Rattle.std.specs.declared.cmp.Ordering.{Ordering}
pub use Rattle.std.specs.declared.cmp.Ordering.TheVariants.{Equal, Greater, Less}
pub use Rattle.seam_defs.proofs.TestLemmas.{fit-Decides, of_group-Decides}
pub use Rattle.seam_law_calls.specs.BaseTurns.{asks, has_base_burden, item_from}
pub use Rattle.seam_law_calls.specs.Prelude.{Account, Acts, AllFits, AllLead, AreCallsOf, AtBase, AtCell, BaseCallsInTurn, BaseMoves}
pub use Rattle.seam_law_calls.specs.Prelude.{CarriesNoEntity, CellCallsInTurn, CellMoves, Does, EachReal, FindsClient, FindsPart, FindsTurn}
pub use Rattle.seam_law_calls.specs.Prelude.{Frame, Has, HasBaseCalls, HasClient, HasFewEntities, HasNoBaseCalls, HasNoClient, HasNoLooks}
pub use Rattle.seam_law_calls.specs.Prelude.{HasNoPart, HasNoProxy, HasNoReaps, HasOne, HasOneTree, HasPart, HasRoomFor, HasRoutes}
pub use Rattle.seam_law_calls.specs.Prelude.{HasToldAtMost, IsAbsent, IsAt, IsBaseCallOf, IsBaseNumber, IsBlank, IsCallOf, IsFewView}
pub use Rattle.seam_law_calls.specs.Prelude.{IsFitHand, IsFitReal, IsForNode, IsFrame, IsHomeward, IsInFrame, IsLaterTree, IsOne, IsSpared}
pub use Rattle.seam_law_calls.specs.Prelude.{CallsFindTheirWay, IsTickOrder, IsTickTo, IsUnknown, NoneIsStrayAtBases, OnlyTicks, IsTreeOf}
pub use Rattle.seam_law_calls.specs.Prelude.{LinesHaveRoom, Missed, Moves, MovesTo, NamesVisited, NoReapComes, NoUpdateComes, NoneIsStray}
pub use Rattle.seam_law_calls.specs.Prelude.{NothingIsStray, Offered, OneFrom, PartMoves, RealFits, Replays, RunsTo, SeesFew, WitnessMoves}
pub use Rattle.seam_law_calls.specs.Prelude.{account_of, after_call, after_calls, as_base_sender, as_sender, at_a_base, at_a_cell, at_base}
pub use Rattle.seam_law_calls.specs.Prelude.{at_cell, base_burden, base_call_in, base_call_of, base_mail, base_post, burden, called, calls}
pub use Rattle.seam_law_calls.specs.Prelude.{calls_ordered, cell_mail, cell_order_from, cell_post, client, concerned, concerning, concerns}
pub use Rattle.seam_law_calls.specs.Prelude.{desk_for, early, ends, entity_flow, entity_of, events_of, executes, follow, frame, from_sender}
pub use Rattle.seam_law_calls.specs.Prelude.{has_burden, has_none, has_of, held_in, held_of, here_at, home_of, is_call, is_for_cells}
pub use Rattle.seam_law_calls.specs.Prelude.{is_stuck, is_tick_order, is_visited, kept_if, late, letter_burden, lines_in, looks_after_tick}
pub use Rattle.seam_law_calls.specs.Prelude.{looks_left, mine, mine_base_burden, mine_burden, mine_looks, misses, most_entities, most_shown}
pub use Rattle.seam_law_calls.specs.Prelude.{newer, no_client, node_base_burden, node_burden, node_looks, now, numbered_from, offers}
pub use Rattle.seam_law_calls.specs.Prelude.{one_more_if, order_about, order_burden, order_concerns, order_in, order_looks, orders_of}
pub use Rattle.seam_law_calls.specs.Prelude.{part_burden, part_desk, part_offered, proxy_of, readies, real_at, real_burden, real_desk}
pub use Rattle.seam_law_calls.specs.Prelude.{real_in, real_of, reaped_by, reaped_by_order, reaps, refuses, rests, sends, sent_by, sent_of}
pub use Rattle.seam_law_calls.specs.Prelude.{serves, shown_at, shown_in, shows, strays_at, surveys, tells, tick_in, times, told, trees_of}
pub use Rattle.seam_law_calls.specs.Prelude.{unlisted_if, update_in, updated, updates, updates_at, with_number}
pub use Rattle.seam_law_calls.specs.Ways.{has_hand, is_hand}
pub use Rattle.seam_law_flow.proofs.Bridge.{event_goes, letters_of-append}
pub use Rattle.seam_law_flow.proofs.Delivering.{all_delivered, delivery_goes, offer_early, offer_late, offer_next}
pub use Rattle.seam_law_flow.proofs.Ends.{all_done, due_is, held_is_due, is_met, never_held, never_late, stored_is_due, stored_is_free}
pub use Rattle.seam_law_flow.proofs.Following.{More, Rest, all_append, came, change, items_fit, letters_kept, none, own, sent_kept}
pub use Rattle.seam_law_flow.proofs.Following.{slots_kept, tail, whole}
pub use Rattle.seam_law_flow.proofs.Narrowing.{narrow_goes}
pub use Rattle.seam_law_flow.proofs.Numbers.{item_bounds}
pub use Rattle.seam_law_flow.proofs.SendLists.{one_here, one_there, sees_after_silent, sees_none, sees_one_here, sees_one_there}
pub use Rattle.seam_law_flow.proofs.SendLists.{silent_chosen}
pub use Rattle.seam_law_flow.proofs.Steps.{turn_goes, turns_go}
pub use Rattle.seam_law_flow.proofs.TokenLemmas.{first_is, one_more, sole_came, sole_first, sole_goes, sole_here, token_turns}
pub use Rattle.seam_law_flow.specs.Prelude.{AreInTurn, Delivery, Desk, Flow, Goes, Handles, In, IsSilent, IsStill, IsToward, Item, Life}
pub use Rattle.seam_law_flow.specs.Prelude.{Mail, Nobody, On, Only, Passes, Post, Quiet, SendsNone, Sole, SoleIn, TokenPlace, Twice}
pub use Rattle.seam_law_flow.specs.Prelude.{at_once, carried_in, comes, desk_of, lands, leaves, letter_in, letters_of, more_issued}
pub use Rattle.seam_law_flow.specs.Prelude.{more_letter, number_from, offered, once, one_if, parcel_of, place_after, relays, slot_at, still}
pub use Rattle.seam_law_flow.specs.Prelude.{taken, takes, token_after, turns, twice}
pub use Rattle.seam_machine.proofs.Occurring.{occurs}
pub use Rattle.seam_machine.proofs.Quiet.{quiet_links, quiet_tasks}
pub use Rattle.seam_net_runs.proofs.Runs.{leads_keeps}
pub use Rattle.seam_net_runs.proofs.Soundness.{sound_happens, sound_sends}
pub use Rattle.seam_net_runs.proofs.Weighing.{weight_bounds, weight_moves}
pub use Rattle.seam_net_runs.specs.Sums.{weight_or}
pub use Rattle.seam_net_runs.specs.Weights.{input_weight, sent_weight, weight}
pub use Rattle.seam_node_steps.proofs.Slots.{slot_stepped}
pub use Rattle.seam_node_steps.specs.BaseCases.{executes_ready, may_execute, unless_stray}
pub use Rattle.seam_node_steps.specs.CellCases.{call, case_of, haunts_cell}
pub use Rattle.seam_node_steps.specs.EarlyCall.{base_17, steps, world_0}
pub use Rattle.seam_node_steps.specs.Prelude.{Boundaries, Bounds, at_start, boundaries_of, bounds_in, AllEnabled, AreDefs, ArePeers}
pub use Rattle.seam_node_steps.specs.Prelude.{AreUnderTheirEntities, Base, BaseCall, BaseView, Call, Cell, CellView, Cells, Current, Deed}
pub use Rattle.seam_node_steps.specs.Prelude.{Division, EachNode, Event, From, Ghost, GhostCopy, GhostDrop, GhostSet, Hand, Here, Input}
pub use Rattle.seam_node_steps.specs.Prelude.{IsNode, IsOfGroup, IsProper, IsQuiet, IsRow, IsSquare, IsTree, IsType, Known, Map, Method}
pub use Rattle.seam_node_steps.specs.Prelude.{Move, Msg, NextPlace, NodeView, Occurs, Order, OrderView, Orders, Part, PartView, Pos}
pub use Rattle.seam_node_steps.specs.Prelude.{ProxyView, RealView, Reap, RouteView, Shown, Slot, SlotStep, State, Stepped, Task, Tick}
pub use Rattle.seam_node_steps.specs.Prelude.{TypeDef, Update, WitnessView, World, about, after, after_item, after_looking, after_offer}
pub use Rattle.seam_node_steps.specs.Prelude.{after_ready, after_showing, after_slot, after_taking, all_held, are_of_group, area, at_home}
pub use Rattle.seam_node_steps.specs.Prelude.{base_16, base_has_work, base_numbers, base_of, base_order, base_steps, base_task, base_text}
pub use Rattle.seam_node_steps.specs.Prelude.{beat_after, beat_in, becomes, call_next_place, calls_ready, can_do, carried, cell_count}
pub use Rattle.seam_node_steps.specs.Prelude.{cell_has_work, cell_hears, cell_numbers, cell_steps, cell_task, cells_of, changes}
pub use Rattle.seam_node_steps.specs.Prelude.{client_is_ready, copied, copy_in, copy_of_real, current_to, cut_after, drop_at, drop_if}
pub use Rattle.seam_node_steps.specs.Prelude.{drops, enabled, executed, executed_ready, fit_values, fits_base_part, fits_cell_part}
pub use Rattle.seam_node_steps.specs.Prelude.{fits_deed, ghost_after, ghost_message, ghost_messages, ghost_set, goes, hand_over_comes}
pub use Rattle.seam_node_steps.specs.Prelude.{happens, has_any, has_ready, has_witness, haunts_at, haunts_of, held_at, hit_1, hit_2}
pub use Rattle.seam_node_steps.specs.Prelude.{holders, home_after, idle, is_base_node_of, is_cell_if, is_for, is_inside, is_of_another}
pub use Rattle.seam_node_steps.specs.Prelude.{is_ready, is_small, is_stray, item_at, items_to, known_copy, known_in, known_real, known_to}
pub use Rattle.seam_node_steps.specs.Prelude.{leaf_at, limit, line_if, link, look_by, look_next, look_task, looks_around, looks_of}
pub use Rattle.seam_node_steps.specs.Prelude.{looks_with, made, may_call, may_come, may_offer, may_rise, may_settle, may_show, method_of}
pub use Rattle.seam_node_steps.specs.Prelude.{next_item, node_has_work, node_peers, node_steps, number_of, numbered, offered_update}
pub use Rattle.seam_node_steps.specs.Prelude.{on_route, one, one_if_real, order_if, order_is_ready, order_of, order_of_node, order_or}
pub use Rattle.seam_node_steps.specs.Prelude.{order_passes, own_due, part_is_ready, peers_of, properties, proxy_is_ready, proxy_task}
pub use Rattle.seam_node_steps.specs.Prelude.{rank_of, ready_call_task, ready_entity, ready_in, ready_next, ready_order, ready_part}
pub use Rattle.seam_node_steps.specs.Prelude.{ready_proxy, real_is_ready, reap, reap_ordered_at, reaps_loaded, run, seen_as, sends_none}
pub use Rattle.seam_node_steps.specs.Prelude.{settled, settled_by, settled_to, shown_for, shown_of, shows_next, slot_after, slot_of}
pub use Rattle.seam_node_steps.specs.Prelude.{slot_steps, stays, stepped, stray_base_call, stray_call, stray_current, stray_look}
pub use Rattle.seam_node_steps.specs.Prelude.{stray_look_by, stray_order, stray_proxy_update, stray_ready_call, stray_survey, stray_update}
pub use Rattle.seam_node_steps.specs.Prelude.{survey_task, task_without_orders, the_move, tick_to, told_unless, total, two_cells, type_at}
pub use Rattle.seam_node_steps.specs.Prelude.{type_of, unlisted_by, with_cells, with_copy, with_deed, with_item, with_offer, with_part}
pub use Rattle.seam_node_steps.specs.Prelude.{with_reap, witnesses}
pub use Rattle.seam_table.proofs.Found.{found}
pub use Rattle.seam_tree.proofs.Leaves.{leaf_is_cell}

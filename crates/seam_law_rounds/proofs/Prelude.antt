-- What the proofs of this crate cite of definitions and of the crates below, gathered, so that one import names it.
pub use Rattle.std.proofs.Common.{fold, is_lt, ◌-◌, ◌^◌}
pub use Rattle.std.proofs.Math.Nat.{mod-lt}
pub use Rattle.std.proofs.lemmas.List.{append_assoc, append_cancel_left, length-replicate, map-id}
pub use Rattle.std.proofs.lemmas.List.Elements.{All-map, filter-append}
pub use Rattle.std.proofs.lemmas.Option.{slice_get-get_or, slice_get-map, slice_get_cases, slice_get_within}
pub use Rattle.seam_law_calls.proofs.Absent.{few_leads}
pub use Rattle.seam_law_calls.proofs.AloneRuns.{alone_leads, bare_leads}
pub use Rattle.seam_law_calls.proofs.BaseQuiet.{all_executed, all_shown, none_is_ready}
pub use Rattle.seam_law_calls.proofs.BaseRuns.{unordered, version_room}
pub use Rattle.seam_law_calls.proofs.Classify.{event_moves, event_moves_with, frame_happens, node_laws, node_moves}
pub use Rattle.seam_law_calls.proofs.ClientLeads.{both_leads, client_leads}
pub use Rattle.seam_law_calls.proofs.ClientRuns.{finds_client, part_may_show}
pub use Rattle.seam_law_calls.proofs.Counting.{counted_none, counted_one, none_counts, one_counts}
pub use Rattle.seam_law_calls.proofs.Easing.{burden_leads, input_is, sent_is}
pub use Rattle.seam_law_calls.proofs.ExampleMet.{EachFrom, each_node, frame_is, no_link, none_there, row_leads, slots}
pub use Rattle.seam_law_calls.proofs.Finding.{each_finds}
pub use Rattle.seam_law_calls.proofs.Gone.{gone_leads}
pub use Rattle.seam_law_calls.proofs.Handling.{FindsRoom, not_stray}
pub use Rattle.seam_law_calls.proofs.Leading.{none_follow}
pub use Rattle.seam_law_calls.proofs.NoLooks.{NoTicks}
pub use Rattle.seam_law_calls.proofs.Keeping.{EachKeeps, EventsKeep, FramedKeep, RunsKeep, frame_leads, run_keeps, runs_keep}
pub use Rattle.seam_law_calls.proofs.OneReal.{goes, one_keeps, one_leads, room, spared_happens}
pub use Rattle.seam_law_calls.proofs.Plain.{SeesNoGhost, ghosts_silent, mapped_silent, numbered_silent}
pub use Rattle.seam_law_calls.proofs.Prelude.{Account, Acts, All, All-replicate, AllByRecursion, AllEnabled, AllLead, AreCallsOf, AreDefs}
pub use Rattle.seam_law_calls.proofs.Prelude.{AreInTurn, ArePeers, AtBase, AtCell, Base, BaseCall, BaseMoves, BaseView, Bool, Call}
pub use Rattle.seam_law_calls.proofs.Prelude.{CarriesNoEntity, Cell, CellCallsInTurn, CellMoves, CellView, Current, Delivery, Desk}
pub use Rattle.seam_law_calls.proofs.Prelude.{Division, Does, EachReal, Event, FindsClient, Flow, Frame, From, Ghost, GhostCopy, GhostDrop}
pub use Rattle.seam_law_calls.proofs.Prelude.{GhostSet, Goes, Hand, Handles, Has, HasBaseCalls, HasClient, HasFewEntities, HasNoBaseCalls}
pub use Rattle.seam_law_calls.proofs.Prelude.{HasNoClient, HasNoProxy, HasNoReaps, HasOne, HasPart, HasRoomFor, HasRoutes, HasToldAtMost}
pub use Rattle.seam_law_calls.proofs.Prelude.{Here, In, Input, IsAbsent, IsAt, IsBaseCallOf, IsBlank, IsCallOf, IsFewView, IsFitHand}
pub use Rattle.seam_law_calls.proofs.Prelude.{IsFitReal, IsForNode, IsFrame, IsHomeward, IsInFrame, IsNode, IsOne, IsProper, IsQuiet}
pub use Rattle.seam_law_calls.proofs.Prelude.{IsSilent, IsSpared, IsSquare, IsTree, IsTreeOf, IsType, Life, List, Mail, Map, Moves, MovesTo}
pub use Rattle.seam_law_calls.proofs.Prelude.{Msg, NextPlace, NoUpdateComes, Nobody, NodeView, None, NothingIsStray, Occurs, On, OneFrom}
pub use Rattle.seam_law_calls.proofs.Prelude.{Option, Order, OrderView, Orders, PartMoves, PartView, Post, ProxyView, RealFits, RealView}
pub use Rattle.seam_law_calls.proofs.Prelude.{Reap, Replays, RouteView, RunsTo, SeesFew, SendsNone, Shown, SlotStep, Some, T, Task, Tick}
pub use Rattle.seam_law_calls.proofs.Prelude.{TokenPlace, TypeDef, Update, WitnessView, World, [], account_of, after_call, after_calls}
pub use Rattle.seam_law_calls.proofs.Prelude.{all_append, ap, append-nil, area, arith, as_base_sender, as_sender, at_a_base, at_a_cell}
pub use Rattle.seam_law_calls.proofs.Prelude.{base_burden, base_call_in, base_call_of, base_mail, base_numbers, base_of, base_text}
pub use Rattle.seam_law_calls.proofs.Prelude.{below_all, burden, calls, calls_ordered, came, carried_in, cases_eq, cases_lt, cell_count}
pub use Rattle.seam_law_calls.proofs.Prelude.{cell_mail, cell_numbers, cell_order_from, cells_of, client_is_ready, comes, concerning}
pub use Rattle.seam_law_calls.proofs.Prelude.{concerns, cond, copy_in, current_to, desk_for, desk_of, drop_at, enabled, ends, entity_flow}
pub use Rattle.seam_law_calls.proofs.Prelude.{eq-eqb, eq_by_cmp, eqb, eqb-true, events_of, executes, false, filter_map, find}
pub use Rattle.seam_law_calls.proofs.Prelude.{fits_base_part, fits_cell_part, found, from_sender, ghost_messages, happens, has_any}
pub use Rattle.seam_law_calls.proofs.Prelude.{has_none, has_of, haunts_at, held_in, held_is_due, held_of, here_at, holders, home_of, idle}
pub use Rattle.seam_law_calls.proofs.Prelude.{inl, input_weight, inr, is_small, is_some, is_sorted, is_stray, is_tick_order, item_at}
pub use Rattle.seam_law_calls.proofs.Prelude.{items_to, kept_if, lands, leads_keeps, leaf_at, leaf_is_cell, leaves, length, length-append}
pub use Rattle.seam_law_calls.proofs.Prelude.{length-map, letter_in, letters_kept, sent_kept, items_fit, letters_of, limit, line_if}
pub use Rattle.seam_law_calls.proofs.Prelude.{lines_in, link, list_all, looks_left, looks_with, map, may_execute, may_rise, may_show, mine}
pub use Rattle.seam_law_calls.proofs.Prelude.{mine_base_burden, mine_burden, mine_looks, misses, more_letter, most_entities, most_shown}
pub use Rattle.seam_law_calls.proofs.Prelude.{nat_cmp, nat_cmp_total, nat_lt, nat_tests, ne_eqb, next_item, node_base_burden, node_burden}
pub use Rattle.seam_law_calls.proofs.Prelude.{node_has_work, node_looks, node_peers, node_steps, not, number_from, number_of, numbered}
pub use Rattle.seam_law_calls.proofs.Prelude.{numbered_from, occurs, offers, one_more_if, option_map, order_burden, order_concerns}
pub use Rattle.seam_law_calls.proofs.Prelude.{order_if, order_is_ready, order_looks, order_or, order_passes, orders_of, parcel_of}
pub use Rattle.seam_law_calls.proofs.Prelude.{part_burden, part_desk, part_is_ready, properties, proxy_of, quiet_links, quiet_tasks}
pub use Rattle.seam_law_calls.proofs.Prelude.{range_with_len, rank_of, readies, ready_entity, ready_order, real_at, real_burden, real_desk}
pub use Rattle.seam_law_calls.proofs.Prelude.{real_in, real_is_ready, real_of, reap_ordered_at, reaped_by, reaped_by_order, reaps}
pub use Rattle.seam_law_calls.proofs.Prelude.{reaps_loaded, refl, refuses, replicate, rests, run, sees_after_silent, sees_none}
pub use Rattle.seam_law_calls.proofs.Prelude.{sees_one_here, sees_one_there, sends, sent_by, sent_of, serves, settled_to, shown_at}
pub use Rattle.seam_law_calls.proofs.Prelude.{shown_in, shown_of, shows, slice_get, slice_index_or, slot_after, slot_at, slots_kept}
pub use Rattle.seam_law_calls.proofs.Prelude.{sole_came, sole_goes, sole_here, sound_sends, still, stray_current, strays_at, subst, suc}
pub use Rattle.seam_law_calls.proofs.Prelude.{surveys, sym, tells, tick_to, times, total, true, turns, type_of, unlisted_if, unsigned_tied}
pub use Rattle.seam_law_calls.proofs.Prelude.{update_in, updates, updates_at, weight, weight_bounds, weight_moves, weight_or, zero, ℕ, ◌&&◌}
pub use Rattle.seam_law_calls.proofs.Prelude.{◌*◌, ◌++◌, ◌+◌, ◌<◌, ◌||◌, ◌∙◌, ◌∷◌, ◌≡◌, ◌≤◌, ◌⊎◌}
pub use Rattle.seam_law_calls.proofs.Silent.{tells_none, unseen_told_none}
pub use Rattle.seam_law_calls.proofs.StrayRuns.{alone_without_stray, base_burden_leads, client_without_stray}
pub use Rattle.seam_law_calls.proofs.Trees.{first_tree}
pub use Rattle.seam_law_calls.proofs.Unknown.{unknown_leads}
pub use Rattle.seam_law_calls.proofs.WitnessKept.{IsSeen, all_weaker, each_weaker, seen_leads}
pub use Rattle.seam_law_calls.specs.Prelude.{AreBaseCallsOf, CallsFindTheirWay, IsBaseAt, IsTickOrder, IsTickTo, IsUnknown, OnlyTicks}
pub use Rattle.seam_law_calls.specs.Prelude.{follow, is_call, is_from, is_visited, no_base, no_cell, order_about}
pub use Rattle.seam_law_flow.proofs.Ends.{loaded_in_turn}
pub use Rattle.seam_law_flow.proofs.Numbers.{letters_of-number_from}
pub use Rattle.seam_law_flow.specs.Prelude.{AllBring, Newest, NotAbove, OfEntry, SendsOne, bears, entry_in, greater_entry, of_number}
pub use Rattle.seam_law_flow.specs.Prelude.{packed}
pub use Rattle.seam_law_rounds.specs.Prelude.{AreBaseNumbered, AreFor, AreInStep, AreNumbered, AreReapable, FitsParts, HasNoCalls}
pub use Rattle.seam_law_rounds.specs.Prelude.{HasPartsBetweenRounds, HasSettledPart, HasSmallNumbers, IsBetweenRounds, IsFitBaseOrder}
pub use Rattle.seam_law_rounds.specs.Prelude.{IsFitOrder, IsFitting, IsForPart, IsForReal, IsServed, IsSettled, MayBeLoaded, MayBeMade}
pub use Rattle.seam_law_rounds.specs.Prelude.{MayBegin, NewestRouteIsRight, StaysWithoutClient, as_entry, bare, base_calls_at}
pub use Rattle.seam_law_rounds.specs.Prelude.{base_calls_of, calls_at, calls_of, cell_call_from, created_entity, each, first_frame, framed}
pub use Rattle.seam_law_rounds.specs.Prelude.{lines_of, made, next_from, next_to, node_loaded, numbers_of, opening, order_in, reap_comes}
pub use Rattle.seam_law_rounds.specs.Prelude.{route_entry, sent_route, served}
pub use Rattle.seam_node_steps.proofs.Slots.{get-set_at}
pub use Rattle.seam_node_steps.proofs.Tables.{computing, entries_empty}
pub use Rattle.seam_node_steps.specs.Prelude.{Batch, ClientText, Create, IsBase, IsCell, LeadsTo, Settings, attached, base_line, base_round}
pub use Rattle.seam_node_steps.specs.Prelude.{batch_1, batch_of, both, builtin, cell, cell_round, created, created_at, currents, each_value}
pub use Rattle.seam_node_steps.specs.Prelude.{empty_base, empty_cell, empty_world, enter_2, entered, first_0, first_2, first_look_0}
pub use Rattle.seam_node_steps.specs.Prelude.{first_look_5, first_looks, first_steps, here, input_from, letter, line, loaded, look_loaded}
pub use Rattle.seam_node_steps.specs.Prelude.{move_to, new_part, new_proxy, no, one_cell, opened, ordered_at, own, part_begins, part_if}
pub use Rattle.seam_node_steps.specs.Prelude.{part_of, proxy_begins, public_after, real_begins, real_if, second_0, second_4, second_look_0}
pub use Rattle.seam_node_steps.specs.Prelude.{second_look_4, second_looks, second_steps, set_at, space, standard, watcher, with_nodes}
pub use Rattle.seam_node_steps.specs.Prelude.{has_ready, proxy_is_ready, with_proxy, with_route, with_value, with_witness}

-- What the proofs of this crate cite of definitions and of the crates below, gathered, so that one import names it.
pub use Rattle.seam_haunt.proofs.Settling.{after_settled, ghosts_settled, haunts_without_home, settled_again}
pub use Rattle.seam_haunt.specs.Places.{HasGhost, IsPlaceAfter, settled, settled_all}
pub use Rattle.seam_law_calls.proofs.BaseDeeds.{base_keeps}
pub use Rattle.seam_law_calls.proofs.Handling.{handled, reals_unseen}
pub use Rattle.seam_law_calls.proofs.Holds.{all_two, below_is, both, item_passes_too, not_both, picked_passes}
pub use Rattle.seam_law_calls.proofs.Keeping.{all_lead, units, EachKeeps, RunsKeep, FramedKeep, frame_leads, runs_keep, run_keeps}
pub use Rattle.seam_law_calls.proofs.Keeping.{slots_lead}
pub use Rattle.seam_law_calls.proofs.OneReal.{calm_of, came_hand, hands_all, may_land, one_happens}
pub use Rattle.seam_law_calls.proofs.Prelude.{AllFits, Cells, Deed, FindsTurn, HasOneTree, IsRow, Part, Pos, Sole, State, about, after}
pub use Rattle.seam_law_calls.proofs.Prelude.{beat_after, beat_in, can_do, changes, concerned, copy_of_real, cut_after, drop_if, drops}
pub use Rattle.seam_law_calls.proofs.Prelude.{eqb-false, ghost_after, ghost_message, has_burden, has_ready, home_after, is_for, is_inside}
pub use Rattle.seam_law_calls.proofs.Prelude.{looks_after_tick, ltb, may_call, may_come, may_offer, may_settle, nat_le, of_group-Decides}
pub use Rattle.seam_law_calls.proofs.Prelude.{one_here, one_there, order_about, order_of, place_after, relays, slot_of, stray_call}
pub use Rattle.seam_law_calls.proofs.Prelude.{stray_survey, token_after, token_turns, told_unless, type_at}
pub use Rattle.seam_law_calls.proofs.Replaying.{acts_replays, replays_none, replays_on}
pub use Rattle.seam_law_calls.proofs.Unknown.{unknown_happens, unknown_leads}
pub use Rattle.seam_law_calls.specs.Prelude.{IsTickTo, IsUnknown, has_witness}
pub use Rattle.seam_law_flow.proofs.NewestLemmas.{newest_rests, newest_rises, newest_stays, not_above_rises, taken_comes}
pub use Rattle.seam_law_flow.specs.Prelude.{IsHead, Turned, item_of}
pub use Rattle.seam_law_ghosts.specs.Copies.{IsAway, NewestIsWanted, beat_at}
pub use Rattle.seam_law_ghosts.specs.Prelude.{AreCopiesBetweenRounds, ArePlaced, AreRestful, AreSettled, BeginsAt, Entry, Executes}
pub use Rattle.seam_law_ghosts.specs.Prelude.{GhostMoves, GoesThroughRound, HadSameReal, HasNoStrayTask, IsDue, IsForgotten, IsHushed}
pub use Rattle.seam_law_ghosts.specs.Prelude.{IsMissed, IsOfTable, IsPlaced, IsPlacedAlike, IsRestful, IsRestfulHand, IsRightPlace, IsTable}
pub use Rattle.seam_law_ghosts.specs.Prelude.{IsTrue, IsTrueCopy, NewestAreWanted, book_entry, brings, copy_at, distances_of, executes}
pub use Rattle.seam_law_ghosts.specs.Prelude.{first_place, going, home_of, left_entry, made_real, nothing, path_of, place_of}
pub use Rattle.seam_law_ghosts.specs.Prelude.{positions_after, present, shown_at, staying, told_settling, wanted}
pub use Rattle.seam_law_ghosts.specs.RealPlaces.{IsOnItsWay, called, surveyed, waits}
pub use Rattle.seam_law_rounds.proofs.CallsEnd.{calls_end_between, routed_loaded}
pub use Rattle.seam_law_rounds.proofs.Calm.{IsCalm, IsCalmOrder, IsCalmTo, IsSame, order_reaps}
pub use Rattle.seam_law_rounds.proofs.CalmMoves.{none_ready}
pub use Rattle.seam_law_rounds.proofs.Framing.{in_frame}
pub use Rattle.seam_law_rounds.proofs.Giving.{look_cell, look_framed, look_given, reals_stay, reaps_cell, reaps_framed, reaps_given}
pub use Rattle.seam_law_rounds.proofs.Going.{frame_loaded, its, kept_after, one_after, one_loaded, settled_loaded, spared_loaded}
pub use Rattle.seam_law_rounds.proofs.Loaded.{holds_kept, kept_some, no_items, no_mail, slot_becomes, slot_is}
pub use Rattle.seam_law_rounds.proofs.Loading.{Any, any, each_keeps, get-each_value, node_there}
pub use Rattle.seam_law_rounds.proofs.Opened.{opened_between, opened_has_none, opened_is_new}
pub use Rattle.seam_law_rounds.proofs.Phases.{calm_keeps, calm_leads, leads, low}
pub use Rattle.seam_law_rounds.proofs.Prelude.{Account, Acts, AllBring, AllByRecursion, AreDefs, AreNumbered, AreReapable, AtBase, AtCell}
pub use Rattle.seam_law_rounds.proofs.Prelude.{Base, BaseCall, BaseMoves, Batch, Bool, Call, Cell, CellMoves, CellView, Create, Current}
pub use Rattle.seam_law_rounds.proofs.Prelude.{Division, Does, EachFrom, Event, FindsRoom, Flow, Frame, From, Ghost, GhostCopy, GhostDrop}
pub use Rattle.seam_law_rounds.proofs.Prelude.{GhostSet, Goes, Hand, Handles, Has, HasOne, Here, In, IsBetweenRounds, IsFitHand, IsFitting}
pub use Rattle.seam_law_rounds.proofs.Prelude.{IsForReal, IsFrame, IsInFrame, IsOne, IsProper, IsQuiet, IsSettled, IsSilent, IsSpared}
pub use Rattle.seam_law_rounds.proofs.Prelude.{IsTree, IsTreeOf, LeadsTo, List, Map, MayBeMade, MayBegin, Moves, MovesTo, Msg, Newest}
pub use Rattle.seam_law_rounds.proofs.Prelude.{NewestRouteIsRight, NextPlace, NodeView, None, NotAbove, Occurs, OfEntry, On, OneFrom}
pub use Rattle.seam_law_rounds.proofs.Prelude.{Option, Order, OrderView, Orders, RealFits, RealView, Reap, Replays, RouteView, RunsTo}
pub use Rattle.seam_law_rounds.proofs.Prelude.{SendsNone, SendsOne, Settings, Shown, SlotStep, Some, Task, Tick, TokenPlace, TypeDef}
pub use Rattle.seam_law_rounds.proofs.Prelude.{Update, WitnessView, World, [], account_of, after_call, after_calls, all_append, ap}
pub use Rattle.seam_law_rounds.proofs.Prelude.{append-nil, append_assoc, append_cancel_left, area, arith, at_a_base, at_a_cell, attached}
pub use Rattle.seam_law_rounds.proofs.Prelude.{base_numbers, base_of, base_round, builtin, burden, calls, calls_at, calls_of, came}
pub use Rattle.seam_law_rounds.proofs.Prelude.{carried_in, cases_eq, cases_lt, cell_count, cell_numbers, cell_round, cells_of, comes}
pub use Rattle.seam_law_rounds.proofs.Prelude.{computing, cond, copy_in, counted_none, created, created_at, created_entity, current_to}
pub use Rattle.seam_law_rounds.proofs.Prelude.{drop_at, each, each_node, empty_world, enabled, entity_flow, entry_in, eq-eqb, eq_by_cmp}
pub use Rattle.seam_law_rounds.proofs.Prelude.{eqb, eqb-true, event_moves, events_of, false, first_frame, first_tree, fits_cell_part, found}
pub use Rattle.seam_law_rounds.proofs.Prelude.{frame_happens, frame_is, framed, get-set_at, ghost_messages, ghosts_silent, goes, gone_leads}
pub use Rattle.seam_law_rounds.proofs.Prelude.{greater_entry, happens, has_any, has_none, has_of, haunts_at, here_at, holders, idle, inl}
pub use Rattle.seam_law_rounds.proofs.Prelude.{inr, is_small, is_some, is_stray, items_to, kept_if, lands, leads_keeps, leaf_at}
pub use Rattle.seam_law_rounds.proofs.Prelude.{leaf_is_cell, leaves, length, length-append, letter, letter_in, letters_kept, letters_of}
pub use Rattle.seam_law_rounds.proofs.Prelude.{limit, link, loaded, look_loaded, made, map, mapped_silent, may_rise, mine, mine_burden}
pub use Rattle.seam_law_rounds.proofs.Prelude.{more_letter, nat_cmp, nat_lt, nat_tests, ne_eqb, next_from, next_item, node_burden}
pub use Rattle.seam_law_rounds.proofs.Prelude.{node_has_work, node_loaded, node_steps, none_counts, none_there, not, not_stray, number_from}
pub use Rattle.seam_law_rounds.proofs.Prelude.{numbered, numbered_silent, occurs, one_cell, one_counts, one_keeps, one_more_if, opened}
pub use Rattle.seam_law_rounds.proofs.Prelude.{option_map, order_concerns, order_is_ready, order_or, order_passes, ordered_at, orders_of}
pub use Rattle.seam_law_rounds.proofs.Prelude.{properties, public_after, quiet_links, quiet_tasks, range_with_len, readies, ready_order}
pub use Rattle.seam_law_rounds.proofs.Prelude.{real_at, real_begins, real_burden, real_if, real_in, real_of, reap_ordered_at, reaped_by}
pub use Rattle.seam_law_rounds.proofs.Prelude.{reaps_loaded, refl, room, row_leads, sees_after_silent, sees_none, sees_one_here}
pub use Rattle.seam_law_rounds.proofs.Prelude.{sees_one_there, settled_to, shown_of, slice_get, slice_get-map, slice_get_cases, slot_after}
pub use Rattle.seam_law_rounds.proofs.Prelude.{slot_at, slots, slots_kept, sole_came, sole_goes, sole_here, spared_happens, standard, still}
pub use Rattle.seam_law_rounds.proofs.Prelude.{subst, suc, surveys, sym, tick_to, times, total, true, turns, type_of, unlisted_if}
pub use Rattle.seam_law_rounds.proofs.Prelude.{unsigned_tied, weight_bounds, weight_or, with_nodes, with_witness, zero, ℕ, ◌&&◌, ◌++◌, ◌+◌}
pub use Rattle.seam_law_rounds.proofs.Prelude.{◌-◌, ◌<◌, ◌||◌, ◌∙◌, ◌∷◌, ◌≡◌, ◌≤◌, ◌⊎◌, sent_kept, items_fit}
pub use Rattle.seam_law_rounds.proofs.Publics.{public_low}
pub use Rattle.seam_law_rounds.proofs.Ready.{one_at_home, one_holder, quiet_home}
pub use Rattle.seam_law_rounds.proofs.Shape.{Nowhere, Somewhere, search_real}
pub use Rattle.seam_law_rounds.proofs.Turns.{are_calls}
pub use Rattle.seam_law_rounds.proofs.Unknown.{nobody, unknown_loaded, unknown_look, unknown_reaps}
pub use Rattle.seam_node_steps.specs.Prelude.{Area, Distances, GhostsReach, IsInSpace, Number, Place, Text, Value, batch, copy_if, distance}
pub use Rattle.seam_node_steps.specs.Prelude.{distance_to, distance_to_cell, fits_copy, ghost_of, home_at, last_of, may_execute, move_1}
pub use Rattle.seam_node_steps.specs.Prelude.{move_2, part_of_deed, same_shown, same_state, same_value, same_values, shows, stray_hand}
pub use Rattle.seam_node_steps.specs.Prelude.{stray_reap, three_cells, told}

-- What the proofs of this crate cite of definitions and of the crates below, gathered, so that one import names it.
pub use Rattle.std.proofs.Common.{append-nil, length-append, ◌%◌}
pub use Rattle.std.proofs.lemmas.List.Elements.{filter_map-append}
pub use Rattle.std.proofs.lemmas.Option.{none-some}
pub use Rattle.std.specs.Option.{option_or}
pub use Rattle.std.specs.Prelude.{Contains, IsSome, IsTrue, filter}
pub use Rattle.seam_accept.proofs.Books.{any_with, calls_with_entry, created_with, same_part_is, tree_with}
pub use Rattle.seam_accept.specs.Batches.{batch_of, destroyed, joined, node_of, ordered, passes_to}
pub use Rattle.seam_law_all.specs.Prelude.{AreGone, EndsRightly, KeepsRecords, KeepsRecordsWithin, MayBeGiven, ObeysLaws, ObeysLawsOfLooks}
pub use Rattle.seam_law_all.specs.Prelude.{ObeysLawsOfReaps, clients_looked, may_begin, may_load, shown_to}
pub use Rattle.seam_law_book.specs.LookUps.{copy_here, part_here}
pub use Rattle.seam_law_book.specs.Prelude.{AreInPlace, AreInTable, AreNumberedFrom, ArePartsInTable, BeginsPart, BeginsReal, GetsClient}
pub use Rattle.seam_law_book.specs.Prelude.{GoesWith, HasEntity, HasFitRound, HasRoomForCalls, HasRoomForRound, IsAccepted, IsDoneOn}
pub use Rattle.seam_law_book.specs.Prelude.{IsFitCall, IsHeld, IsInTable, IsInside, IsNewEntity, IsOfLines, IsPartInTable, IsPresent}
pub use Rattle.seam_law_book.specs.Prelude.{IsSenderOf, IsUntouched, Lives, StaysInside, accepts, as_begun, balances, base_node, calls_from}
pub use Rattle.seam_law_book.specs.Prelude.{done_by_part, done_by_real, done_in, empty, ends, entity_of, frame_of, ghost_read, ghosts_read}
pub use Rattle.seam_law_book.specs.Prelude.{last_number, made_among, real_here, with_done}
pub use Rattle.seam_law_calls.proofs.Prelude.{Slot, carried, fit-Decides, fit_values, fits_deed, held_at, method_of, one_if_real, ◌==◌}
pub use Rattle.seam_law_calls.proofs.Keeping.{EachKeeps, FramedKeep, runs_keep}
pub use Rattle.seam_law_calls.proofs.Reaped.{part_stays_gone}
pub use Rattle.seam_law_clients.proofs.OneLook.{row_nowhere, row_there}
pub use Rattle.seam_law_clients.proofs.Prelude.{Account, AllByRecursion, Any, AreBaseNumbered, AreFor, AreNumbered, AtBase, AtCell, Base}
pub use Rattle.seam_law_clients.proofs.Prelude.{BaseMoves, BaseView, Batch, Bool, Call, Cell, CellMoves, CellView, ClientReplica, Create}
pub use Rattle.seam_law_clients.proofs.Prelude.{Creation, Current, Division, Event, Frame, GhostCopy, GhostDrop, GhostSet, GoesThroughRound}
pub use Rattle.seam_law_clients.proofs.Prelude.{HadSameReal, Hand, Has, HasPartsBetweenRounds, HasSettledPart, Here, In, IsBetweenRounds}
pub use Rattle.seam_law_clients.proofs.Prelude.{IsDistinct, IsFitting, IsForPart, IsForReal, IsInFrame, IsOne, IsQuiet, IsSpared, IsView}
pub use Rattle.seam_law_clients.proofs.Prelude.{Less, List, Map, MayBeLoaded, MayBeMade, Moves, Msg, NodeView, None, Nowhere, Offered, On}
pub use Rattle.seam_law_clients.proofs.Prelude.{OneFrom, Option, Order, PartMoves, PartView, Pos, ProxyView, RealView, Row, RunsTo}
pub use Rattle.seam_law_clients.proofs.Prelude.{ShowsItsPart, Some, Somewhere, State, T, Tick, TokenPlace, TypeDef, WitnessView, World, []}
pub use Rattle.seam_law_clients.proofs.Prelude.{account_of, after_call, after_calls, after_taking, all_append, all_lead, any, ap}
pub use Rattle.seam_law_clients.proofs.Prelude.{append_assoc, arith, at_a_base, at_a_cell, attached, bare_leads, bare_peopled}
pub use Rattle.seam_law_clients.proofs.Prelude.{base_calls_of, base_of, base_round, below_all, book_entry, cases_eq, cases_lt, cell_count}
pub use Rattle.seam_law_clients.proofs.Prelude.{cell_round, cells_of, changes, clients_loaded, clients_shown, comes, cond, cons_option}
pub use Rattle.seam_law_clients.proofs.Prelude.{copy_at, copy_if, counted_none, created_at, creation_of, each, each_keeps, early, enabled}
pub use Rattle.seam_law_clients.proofs.Prelude.{entity_flow, eq-eqb, eq_by_cmp, eqb, event_moves, executed, executes, false, filter_map}
pub use Rattle.seam_law_clients.proofs.Prelude.{find, find_entries, flat_map, fold-append, frame_happens, framed, from_sender, get-set_at}
pub use Rattle.seam_law_clients.proofs.Prelude.{ghost_of, happens, has_any, has_none, has_of, here_at, holders, home_of, in_frame, inl, inr}
pub use Rattle.seam_law_clients.proofs.Prelude.{is_among, is_some, is_sorted, items_to, late, leads_keeps, leaf_at, length, letters_of}
pub use Rattle.seam_law_clients.proofs.Prelude.{limit, lines_in, list_any, loaded, look_by, look_framed, look_given, look_loaded}
pub use Rattle.seam_law_clients.proofs.Prelude.{looks_leave, map, may_rise, middle, mine, misses, more_letter, most_entities, nat_cmp}
pub use Rattle.seam_law_clients.proofs.Prelude.{nat_cmp_total, nat_lt, nat_tests, ne_eqb, neither, new_part, no_mail, node_has_work}
pub use Rattle.seam_law_clients.proofs.Prelude.{node_loaded, node_steps, none_counts, none_left, not, now, nowhere, number_from}
pub use Rattle.seam_law_clients.proofs.Prelude.{numbered_from, occurs, offers, once, one_look, option_map, order_if, order_or, ordered_at}
pub use Rattle.seam_law_clients.proofs.Prelude.{other_of, own_of, part_at, part_begins, part_desk, part_moves, part_peopled, parts_ordered}
pub use Rattle.seam_law_clients.proofs.Prelude.{present, proxy_begins, proxy_of, public_after, quiet_home, quiet_links, quiet_tasks}
pub use Rattle.seam_law_clients.proofs.Prelude.{range_with_len, ready_entity, real_at, real_begins, real_in, real_of, reap_ordered_at}
pub use Rattle.seam_law_clients.proofs.Prelude.{reaps_framed, reaps_leave, reaps_loaded, reaps_part, refl, refuses, rests, row_in}
pub use Rattle.seam_law_clients.proofs.Prelude.{row_of_real, rows_at, rows_but, same_entries, search_real, sends, serves, set_at}
pub use Rattle.seam_law_clients.proofs.Prelude.{settled_loaded, shown_in, shows, slice_get, slice_get-map, slot_at, slot_is, slot_of, slots}
pub use Rattle.seam_law_clients.proofs.Prelude.{slots_kept, sole_here, spared_happens, spared_loaded, state_after, state_with, subst, suc}
pub use Rattle.seam_law_clients.proofs.Prelude.{sym, tick_to, tied_same, times, total, true, type_of, unordered, updates, with_nodes}
pub use Rattle.seam_law_clients.proofs.Prelude.{with_offer, with_order, with_proxy, with_route, zero, ℕ, ◌&&◌, ◌++◌, ◌+◌, ◌<◌, ◌^◌, ◌||◌}
pub use Rattle.seam_law_clients.proofs.Prelude.{◌∙◌, ◌∷◌, ◌≡◌, ◌≤◌, ◌⊎◌}
pub use Rattle.seam_law_clients.proofs.Rows.{found_in, row_found}
pub use Rattle.seam_law_ghosts.proofs.Prelude.{AreSettled, Area, BeginsAt, Deed, IsFrame, IsPlaceAfter, IsRightPlace, IsTree, Number, Part}
pub use Rattle.seam_law_ghosts.proofs.Prelude.{Place, RealFits, Text, Value, after, area, both, can_do, created, created_entity, eqb-true}
pub use Rattle.seam_law_ghosts.proofs.Prelude.{first_frame, first_place, get-each_value, holds_kept, is_for, is_inside, kept_if, made_real}
pub use Rattle.seam_law_ghosts.proofs.Prelude.{next_from, one_holder, opened_is_new, order_about, order_concerns, orders_of, part_of_deed}
pub use Rattle.seam_law_ghosts.proofs.Prelude.{path_of, place_of, positions_after, same_shown, same_state, same_value, same_values}
pub use Rattle.seam_law_ghosts.proofs.Prelude.{with_witness, ◌-◌}
pub use Rattle.seam_law_rounds.proofs.Loaded.{holds_made, real_loaded, real_was}
pub use Rattle.seam_law_rounds.proofs.Loading.{loaded_is, nodes_after}
pub use Rattle.seam_law_rounds.proofs.Making.{AreOthers, node_after, node_made, until}
pub use Rattle.seam_law_rounds.proofs.PartLoads.{SamePart, part_comes, part_stays}
pub use Rattle.seam_law_rounds.proofs.Prelude.{Desk, IsFitBaseOrder, IsFitOrder, IsSquare, as_base_sender, as_sender, base_call_of}
pub use Rattle.seam_law_rounds.proofs.Prelude.{cell_call_from, cell_order_from, counted_one, desk_for, desk_of, filter-append, fold, map-id}
pub use Rattle.seam_law_rounds.proofs.Prelude.{mod-lt, next_to, no_base, no_cell, numbers_of, parcel_of, rank_of, real_desk}
pub use Rattle.seam_law_rounds.proofs.Prelude.{reaped_by_order}
pub use Rattle.seam_law_rounds.proofs.Ready.{Home}
pub use Rattle.seam_law_rounds.proofs.Staying.{Kept, other_set}
pub use Rattle.seam_law_rounds.specs.Prelude.{HasNoWitness, IsNew, order_in}
pub use Rattle.seam_node_steps.specs.Prelude.{AreLegal, FitsDeed, IsSender, IsWhole, MOST_BASE_NODES, MOST_CELLS, Sender, Update, is_from}
pub use Rattle.seam_node_steps.specs.Prelude.{part_if, real_if, same_part, same_sender, stays_inside}
pub use Rattle.seam_rule_lines.proofs.BookEntries.{creates_with_entry, differ, live_is_created}
pub use Rattle.seam_rule_rounds.proofs.Public.{public_more}
pub use Rattle.seam_rule_rounds.specs.Prelude.{Adds, Book, Cause, Content, Entry, GhostLine, HasPlace, Header, Holds, HoldsAgainst, IsFull}
pub use Rattle.seam_rule_rounds.specs.Prelude.{Line, Lists, Long, Orders, Spells, Standing, accepted, called, calls_of, created_as}
pub use Rattle.seam_rule_rounds.specs.Prelude.{creates_of, destroys, distances, entries, first_state, flat, ghost_cells, ghost_lines}
pub use Rattle.seam_rule_rounds.specs.Prelude.{has_changed_at, has_client, is_shown, joins, live_as, makes, of_sender, one_cell}
pub use Rattle.seam_rule_rounds.specs.Prelude.{place_before, position_at, positions_past, properties, public_at, row_after, rows_of}
pub use Rattle.seam_rule_rounds.specs.Prelude.{tree_of, was_dead, with_entry, with_round_ended}

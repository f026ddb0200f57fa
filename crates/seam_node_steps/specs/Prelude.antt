-- What the crates above cite of this one and of those below it, gathered, so that one import names it.
pub use Rattle.seam_geo.specs.Pos.{distance}
pub use Rattle.seam_geo.specs.Rect.{Area, IsProper, distance_to}
pub use Rattle.seam_geo.specs.declared.pos.Pos.{Pos}
pub use Rattle.seam_value.specs.NumberWords.{IsWhole}
pub use Rattle.seam_value.specs.declared.values.Value.{Value}
pub use Rattle.seam_value.specs.declared.values.Value.TheVariants.{Number, Text}
pub use Rattle.seam_defs.specs.Builtin.{builtin}
pub use Rattle.seam_defs.specs.Deeds.{FitsDeed, IsOfGroup, after, client_of, ghost_of, other_of, own_of, part_of_deed, projected}
pub use Rattle.seam_defs.specs.Deeds.{properties_of, with_later}
pub use Rattle.seam_defs.specs.Groups.{in_group}
pub use Rattle.seam_defs.specs.Settings.{AreLegal, GhostsReach, standard}
pub use Rattle.seam_defs.specs.Tests.{are_of_group, changes, fit_values, fits_deed, same_shown, same_state, same_value, same_values}
pub use Rattle.seam_defs.specs.Types.{AreDefs, IsType, method_of, type_of}
pub use Rattle.seam_defs.specs.declared.flags.Part.{Part}
pub use Rattle.seam_defs.specs.declared.limits.TheConstants.{MOST_BASE_NODES}
pub use Rattle.seam_defs.specs.declared.settings.Settings.{Settings}
pub use Rattle.seam_defs.specs.declared.states.Deed.{Deed}
pub use Rattle.seam_defs.specs.declared.states.Deed.TheVariants.{Method, Move}
pub use Rattle.seam_defs.specs.declared.states.State.{State}
pub use Rattle.seam_defs.specs.declared.types.Property.{Property}
pub use Rattle.seam_defs.specs.declared.types.TypeDef.{TypeDef}
pub use Rattle.seam_tree.specs.Cells.{Cells}
pub use Rattle.seam_tree.specs.Division.{Division, IsInSpace, IsTree, area, cells_of, cut_after, leaf_at}
pub use Rattle.seam_tree.specs.declared.area_table.TheConstants.{MOST_CELLS}
pub use Rattle.seam_call.specs.Boundaries.{at_start, brought, number_in, unless_first}
pub use Rattle.seam_call.specs.Calls.{is_for, is_from, same_part}
pub use Rattle.seam_call.specs.Senders.{IsSender, rank_of, same_sender}
pub use Rattle.seam_call.specs.declared.call.Call.{Call}
pub use Rattle.seam_call.specs.declared.create.Create.{Create}
pub use Rattle.seam_call.specs.declared.order.Batch.{Batch}
pub use Rattle.seam_call.specs.declared.order.Boundaries.{Boundaries}
pub use Rattle.seam_call.specs.declared.order.Order.{Order}
pub use Rattle.seam_call.specs.declared.sender.Sender.{Sender}
pub use Rattle.seam_call.specs.declared.shown.ClientText.{ClientText}
pub use Rattle.seam_call.specs.declared.shown.GhostCopy.{GhostCopy}
pub use Rattle.seam_call.specs.declared.shown.Line.{Line}
pub use Rattle.seam_call.specs.declared.shown.Shown.{Shown}
pub use Rattle.seam_call.specs.declared.shown.Shown.TheVariants.{Enter, Leave, Own, Set}
pub use Rattle.seam_haunt.specs.Haunts.{distance_to_cell, haunts_of}
pub use Rattle.seam_haunt.specs.Places.{Distances, IsPlaceAfter, Place, home_at, last_of, settled_all}
pub use Rattle.seam_haunt.specs.Telling.{word}
pub use Rattle.seam_haunt.specs.declared.telling.Telling.{Telling}
pub use Rattle.seam_haunt.specs.declared.telling.Told.TheVariants.{Nothing}
pub use Rattle.seam_machine.specs.Events.{EachNode, Occurs}
pub use Rattle.seam_machine.specs.Inside.{is_empty}
pub use Rattle.seam_machine.specs.Nets.{AllEnabled, ArePeers, IsQuiet, IsSquare, LeadsTo, enabled, happens, input_from, letter, link, run}
pub use Rattle.seam_machine.specs.Nets.{with_node}
pub use Rattle.seam_machine.specs.Sends.{AllBelow, items_to}
pub use Rattle.seam_machine.specs.Totals.{total}
pub use Rattle.seam_machine.specs.Views.{OutView, Stepped}
pub use Rattle.seam_machine.specs.declared.machines.Event.{Event}
pub use Rattle.seam_machine.specs.declared.machines.Input.{Input}
pub use Rattle.seam_machine.specs.declared.machines.Input.TheVariants.{From, Task}
pub use Rattle.seam_order.specs.Held.{OrderView, item_at, with_item}
pub use Rattle.seam_order.specs.Offers.{after_item, after_offer, after_taking, next_item}
pub use Rattle.seam_ghosts.specs.Book.{BookView, after_message, beat_in, beat_of, copied, copy_in, ghost_after, with_copies, with_copy}
pub use Rattle.seam_ghosts.specs.Book.{with_ghost}
pub use Rattle.seam_ghosts.specs.declared.Ghost.{Ghost}
pub use Rattle.seam_entity.specs.ReadyCalls.{all_held, has_ready, is_ready, may_offer, order_is_ready, order_passes, ready_call}
pub use Rattle.seam_entity.specs.ReadyCalls.{ready_order}
pub use Rattle.seam_entity.specs.Executing.{copy_of_real, copy_with, created, executed, executed_ready, fits_cell_part, fits_copy}
pub use Rattle.seam_entity.specs.Executing.{fits_real, may_call, may_execute, may_settle, public_after, real_begins, settled_to, shows}
pub use Rattle.seam_entity.specs.Executing.{with_offer}
pub use Rattle.seam_entity.specs.Fitting.{can_do, is_inside, stays_inside}
pub use Rattle.seam_entity.specs.Here.{Here, base_numbers, base_of, cell_count, cell_numbers, peers_of, properties, type_at}
pub use Rattle.seam_entity.specs.Numbers.{is_small, limit, may_rise}
pub use Rattle.seam_entity.specs.Orders.{Orders, new_order, order_of, order_or}
pub use Rattle.seam_entity.specs.Preparing.{HasReady, node_with}
pub use Rattle.seam_entity.specs.Reals.{RealView, WitnessView}
pub use Rattle.seam_entity.specs.WitnessLooks.{new_witness, told_after}
pub use Rattle.seam_entity.specs.Witnesses.{witness_of}
pub use Rattle.seam_entity.specs.declared.message.Msg.{Msg}
pub use Rattle.seam_entity.specs.declared.message.Msg.TheVariants.{BaseCall, Bounds, Current, GhostDrop, GhostSet, Hand, Reap, Tick, Update}
pub use Rattle.seam_node_steps.specs.BaseCases.{after_ready, after_showing, base_has_work, base_order, base_steps, base_task, bounds_to}
pub use Rattle.seam_node_steps.specs.BaseCases.{case_of}
pub use Rattle.seam_node_steps.specs.BaseCases.{client_is_ready, current, fits_base_part, is_base_node_of, may_show, newer_route, offered}
pub use Rattle.seam_node_steps.specs.BaseCases.{offered_update, on_route, order_of_node, part_called, part_is_ready, proxy_is_ready}
pub use Rattle.seam_node_steps.specs.BaseCases.{proxy_task, ready_part, ready_proxy, sends_none, shows_next, stray_base_call, stray_current}
pub use Rattle.seam_node_steps.specs.BaseCases.{stray_order, stray_proxy_update, stray_update, task_without_orders, tick_to, update}
pub use Rattle.seam_node_steps.specs.BaseCases.{updated_proxy, with_deed, with_order}
pub use Rattle.seam_node_steps.specs.Bases.{BaseView, PartView, ProxyView, RouteView, base_text, line_if, shown_to_client, with_line}
pub use Rattle.seam_node_steps.specs.Bases.{with_part}
pub use Rattle.seam_node_steps.specs.CellCases.{about, bounds_in, call_next_place, current_to, currents, drop_at, drop_if, drops}
pub use Rattle.seam_node_steps.specs.CellCases.{executes_ready}
pub use Rattle.seam_node_steps.specs.CellCases.{ghost_drop, ghost_set, hand_over_comes, is_cell_if, is_stray, may_come, ready_call_task}
pub use Rattle.seam_node_steps.specs.CellCases.{ready_in, reap, slot_steps, stray_call, stray_ghost_set, stray_hand, stray_ready_call}
pub use Rattle.seam_node_steps.specs.CellCases.{stray_reap, stray_survey, survey_task}
pub use Rattle.seam_node_steps.specs.CellLooks.{Known, after_looking, all_shown, known_of, look_by, look_task, looks_of, looks_with}
pub use Rattle.seam_node_steps.specs.CellLooks.{numbered, other_of_copy, other_of_real, own_due, seen_as, shown_for, shown_of}
pub use Rattle.seam_node_steps.specs.CellLooks.{shown_of_known, stray_look, stray_look_by}
pub use Rattle.seam_node_steps.specs.Cells.{CellView, after_slot, are_newer, boundaries_of, calls_ready, cell_has_work, cell_hears}
pub use Rattle.seam_node_steps.specs.Cells.{cell_rests, cell_steps, cell_task, comes_late, listed_if, renewed, renewed_if, ticked}
pub use Rattle.seam_node_steps.specs.Cells.{has_witness, is_another, is_of_another, known_copy, known_in, known_real, known_to, look_next}
pub use Rattle.seam_node_steps.specs.Cells.{looks_around, ready_entity, ready_next, real_is_ready, slot_of, stepped, surveys, tick}
pub use Rattle.seam_node_steps.specs.Cells.{unlisted_by, with_slot, without, witnesses}
pub use Rattle.seam_node_steps.specs.EarlyCall.{at_home, base_16, hit_1, hit_2, hit_twice, made, steps, the_move, two_cells, with_cells}
pub use Rattle.seam_node_steps.specs.EarlyCall.{world_0, world_12}
pub use Rattle.seam_node_steps.specs.Holders.{carried, held_at, holders, one_if_real}
pub use Rattle.seam_node_steps.specs.Knowing.{known_at, known_by, or_else, unless_self}
pub use Rattle.seam_node_steps.specs.LateGhost.{batch, move_1, move_2, three_cells}
pub use Rattle.seam_node_steps.specs.Loads.{attached, base_round, cell_begins, cell_round, created_at, empty_base, empty_cell, here_of}
pub use Rattle.seam_node_steps.specs.Loads.{loaded, look_loaded, new_part, new_proxy, one_cell, opened, order_if, ordered_at, part_begins}
pub use Rattle.seam_node_steps.specs.Loads.{noted, noting, part_if, proxy_begins, real_if, reap_ordered_at, reaps_loaded, routes_without}
pub use Rattle.seam_node_steps.specs.Loads.{with_nodes, with_orders}
pub use Rattle.seam_node_steps.specs.Loads.{with_proxy, with_reap, with_route, with_witness}
pub use Rattle.seam_node_steps.specs.Maps.{Map, each_value, has_any, number_of, set_at, with_entity, with_value}
pub use Rattle.seam_node_steps.specs.Nodes.{NodeView, World, node_has_work, node_peers, node_steps}
pub use Rattle.seam_node_steps.specs.Nodes.NodeView.{Base, Cell}
pub use Rattle.seam_node_steps.specs.OneStep.{has_first, of_first, promote, proxy, ranked}
pub use Rattle.seam_node_steps.specs.Plain.{BringsNone, IsPlain, IsPlainInput, TellsNone, bounds_ordered}
pub use Rattle.seam_node_steps.specs.Rows.{IsRow, Way, at, avatar_at, call, cell, copy_at, copy_in_cell, done_in_cell, empty_world, ghost}
pub use Rattle.seam_node_steps.specs.Rows.{here, hit, idle, lines_of_client, mail, next_place, no, one, order, orders, real, task, world}
pub use Rattle.seam_node_steps.specs.Settle.{beat_after, copy_if, ghost_message, ghost_messages, goes, gone_to, haunts_at, home_after}
pub use Rattle.seam_node_steps.specs.Settle.{settled, settled_by, stays, told, told_unless}
pub use Rattle.seam_node_steps.specs.Slots.{NextPlace, Slot, SlotStep, becomes, heard, rests, slot_after, unless_stray}
pub use Rattle.seam_node_steps.specs.Valid.{AreUnderTheirEntities, IsBase, IsCell, IsNode, NextsAreCells, RoutesAreCells}
pub use Rattle.seam_node_steps.specs.ViewRounds.{base_line, batch_1, batch_of, blind, both, enter_2, entered, first_0, first_2}
pub use Rattle.seam_node_steps.specs.ViewRounds.{first_look_0, first_look_5, first_looks, first_steps, line, made_at, move_to, other_at}
pub use Rattle.seam_node_steps.specs.ViewRounds.{own, part_of, second_0, second_4, second_look_0, second_look_4, second_looks, second_steps}
pub use Rattle.seam_node_steps.specs.ViewRounds.{space, still, watcher, witness}

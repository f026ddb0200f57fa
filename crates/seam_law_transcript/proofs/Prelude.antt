-- What the proofs of this crate cite of definitions and of the crates below, gathered, so that one import names it.
pub use Rattle.std.proofs.lemmas.Bool.{false≢true, true≢false}
pub use Rattle.std.proofs.lemmas.List.{map-append, take-append-le}
pub use Rattle.std.proofs.lemmas.List.Elements.{All-append, recursion_from_All}
pub use Rattle.std.proofs.lemmas.Map.Keys.{IsStrictlyIncreasing-from_sorted, sorted_from_strictly_increasing}
pub use Rattle.std.specs.Prelude.{IsFalse, MatchBool, take}
pub use Rattle.seam_judge_expected.proofs.ListedLemmas.{filter_has, in_filter, lists_live, lists_living}
pub use Rattle.seam_law_book.proofs.Accounts.{Agrees, agrees_after, done_after, done_deed, flat_before, one_more, public_before}
pub use Rattle.seam_law_book.proofs.Adding.{all_turn}
pub use Rattle.seam_law_book.proofs.Ended.{client_of, live_ended}
pub use Rattle.seam_law_book.proofs.Executed.{executes_first, one_in}
pub use Rattle.seam_law_book.proofs.Found.{part_is, real_is}
pub use Rattle.seam_law_book.proofs.Further.{has_witness, its_witness}
pub use Rattle.seam_law_book.proofs.Parts.{among_joined, both_seen, looks_execute_none, looks_leave_part, looks_show_part}
pub use Rattle.seam_law_book.proofs.Prelude.{Account, Adds, AllByRecursion, Any, AreFor, AreInPlace, Base, Batch, BeginsPart, BeginsReal}
pub use Rattle.seam_law_book.proofs.Prelude.{Book, Bool, Call, Cause, Cell, ClientReplica, Contains, Content, Create, Creation, Desk}
pub use Rattle.seam_law_book.proofs.Prelude.{Division, Entry, Event, Frame, GetsClient, GhostCopy, HadSameReal, Hand, HasFitRound, HasPlace}
pub use Rattle.seam_law_book.proofs.Prelude.{HasRoomForCalls, HasSettledPart, Header, Here, Holds, HoldsAgainst, In, IsAccepted}
pub use Rattle.seam_law_book.proofs.Prelude.{IsBetweenRounds, IsDoneOn, IsFitCall, IsFrame, IsFull, IsNewEntity, IsOfLines, IsPresent}
pub use Rattle.seam_law_book.proofs.Prelude.{IsQuiet, IsSpared, IsTrue, IsUntouched, IsView, KeepsRecordsWithin, Less, List, Lists, Long}
pub use Rattle.seam_law_book.proofs.Prelude.{MayBeLoaded, MayBeMade, Msg, NodeView, None, Nowhere, On, Option, Order, Orders, Part}
pub use Rattle.seam_law_book.proofs.Prelude.{PartView, ProxyView, RealView, Row, RunsTo, Sender, ShowsItsPart, Some, Somewhere, Spells}
pub use Rattle.seam_law_book.proofs.Prelude.{Standing, State, TokenPlace, TypeDef, Value, WitnessView, World, [], accepted, accepts}
pub use Rattle.seam_law_book.proofs.Prelude.{account_of, after, after_calls, any, ap, append-nil, append_assoc, arith, as_base_sender}
pub use Rattle.seam_law_book.proofs.Prelude.{as_begun, as_sender, attached, balances, bare_peopled, base_calls_of, base_node, base_round}
pub use Rattle.seam_law_book.proofs.Prelude.{batch_of, both, called, calls_from, calls_of, cases_eq, cases_lt, cell_count, cell_round}
pub use Rattle.seam_law_book.proofs.Prelude.{cells_of, changes, clients_loaded, clients_shown, cond, cons_option, created_as, created_at}
pub use Rattle.seam_law_book.proofs.Prelude.{created_with, creates_of, creation_of, desk_for, desk_of, destroyed, destroys, differ}
pub use Rattle.seam_law_book.proofs.Prelude.{done_by_part, done_by_real, done_in, each, each_keeps, empty, ends, entity_flow, entity_of}
pub use Rattle.seam_law_book.proofs.Prelude.{entries, eq-eqb, eqb, eqb-true, false, filter, filter-append, filter_map, filter_map-append}
pub use Rattle.seam_law_book.proofs.Prelude.{find, first_frame, first_state, flat, flat_map, fold, fold-append, frame_of, framed}
pub use Rattle.seam_law_book.proofs.Prelude.{from_sender, ghost_lines, ghost_of, ghosts_read, has_any, has_changed_at, has_none, has_of}
pub use Rattle.seam_law_book.proofs.Prelude.{here_at, holders, home_of, in_frame, inl, inr, is_among, is_for, is_from, is_shown, is_some}
pub use Rattle.seam_law_book.proofs.Prelude.{items_to, joined, joins, kept_if, leaf_at, length, length-append, letters_of, lines_in}
pub use Rattle.seam_law_book.proofs.Prelude.{list_any, live_as, live_is_created, loaded, look_by, look_loaded, looks_leave, made_among, map}
pub use Rattle.seam_law_book.proofs.Prelude.{may_begin, may_load, middle, mine, more_letter, nat_cmp, nat_cmp_total, nat_lt, nat_tests}
pub use Rattle.seam_law_book.proofs.Prelude.{next_from, next_to, no_mail, node_has_work, node_loaded, none-some, not, nowhere, numbers_of}
pub use Rattle.seam_law_book.proofs.Prelude.{of_sender, once, one_holder, one_look, opened_is_new, option_map, option_or, order_concerns}
pub use Rattle.seam_law_book.proofs.Prelude.{ordered, ordered_at, orders_of, other_of, own_of, parcel_of, part_at, part_begins, part_desk}
pub use Rattle.seam_law_book.proofs.Prelude.{part_peopled, passes_to, place_of, properties, proxy_begins, proxy_of, public_at, quiet_home}
pub use Rattle.seam_law_book.proofs.Prelude.{quiet_tasks, range_with_len, real_at, real_desk, real_here, real_if, real_in, real_of}
pub use Rattle.seam_law_book.proofs.Prelude.{reaps_leave, reaps_loaded, refl, row_after, row_found, row_nowhere, rows_but, rows_of}
pub use Rattle.seam_law_book.proofs.Prelude.{same_sender, same_shown, same_values, search_real, settled_loaded, shown_in, shown_to}
pub use Rattle.seam_law_book.proofs.Prelude.{slice_get, slot_at, slot_is, sole_here, spared_loaded, subst, suc, sym, tree_of, true, type_of}
pub use Rattle.seam_law_book.proofs.Prelude.{was_dead, with_done, with_entry, with_round_ended, zero, ℕ, ◌&&◌, ◌++◌, ◌+◌, ◌-◌, ◌<◌, ◌==◌}
pub use Rattle.seam_law_book.proofs.Prelude.{◌||◌, ◌∙◌, ◌∷◌, ◌≡◌, ◌≤◌, ◌⊎◌}
pub use Rattle.seam_law_book.proofs.Present.{alive, any_begun, any_split, created_begun, created_split, live_is_present, undestroyed}
pub use Rattle.seam_law_book.proofs.Present.{undestroyed_apart, unjoined}
pub use Rattle.seam_law_book.proofs.Untouched.{IsFromSender, known_is_sender, one_cell_tree}
pub use Rattle.seam_law_bounds.proofs.Prelude.{AreAmong, AreAtMost, AreReapable, ClientText, Flow, HasNoLooks, HasOne, HasToldAtMost}
pub use Rattle.seam_law_bounds.proofs.Prelude.{IsServed, Item, Look, Mail, Property, Settings, Shown, Sole, bare, base_text, calm_leads}
pub use Rattle.seam_law_bounds.proofs.Prelude.{cell_at, cell_mail, drop, if◌then◌else◌, is_tick_order, length-map, letters_of-append}
pub use Rattle.seam_law_bounds.proofs.Prelude.{line_if, link, made, mul-le-mul_left, nat_eq, new_proxy, opened, projected, properties_of}
pub use Rattle.seam_law_bounds.proofs.Prelude.{sent_by, sent_of, served, tick_in, ◌*◌}
pub use Rattle.seam_law_calls.proofs.Below.{mapped_few}
pub use Rattle.seam_law_calls.proofs.Prelude.{All-cons, All-nil}
pub use Rattle.seam_law_clients.proofs.Loading.{among_is}
pub use Rattle.seam_law_clients.proofs.Prelude.{AreInStep, ClientsFit, FitsWithin, FitsWitness, HasClient, HasRoomFor, IsCalmTo, IsTrueCopy}
pub use Rattle.seam_law_clients.proofs.Prelude.{MayShowAll, Own, PartFrom, ShowsRightly, ShowsTruth, Truth, after_all_shown, after_shown}
pub use Rattle.seam_law_clients.proofs.Prelude.{are_for_loaded, base_in, base_lines, few_lines, first_lines, idle_looks, is_newer, its_part}
pub use Rattle.seam_law_clients.proofs.Prelude.{line_where, lines_after, new_client, number_of_line, one_leads, other_of_copy, own_shown}
pub use Rattle.seam_law_clients.proofs.Prelude.{part_there, row_of, shown_at, slice_index_or, true_between, with_copy_shown}
pub use Rattle.seam_law_ghosts.proofs.Prelude.{unsigned_tied}
pub use Rattle.seam_law_rounds.proofs.Prelude.{All, AreInTurn}
pub use Rattle.seam_law_rounds.proofs.Turns.{node_none, node_orders}
pub use Rattle.seam_law_transcript.specs.Prelude.{EndCalls, GoesOn, HasNextLine, IsPlayed, KeepsFirstCalls, as_it_is, base_if, bases_read}
pub use Rattle.seam_law_transcript.specs.Prelude.{client_lines, clients_ended_in, data_of, dying, home_if, homes_read, lines_shown}
pub use Rattle.seam_law_transcript.specs.Prelude.{lines_told, may_play, most_lines_of_look, one_accepted, one_read, place_read, standing_of}
pub use Rattle.seam_law_transcript.specs.Truly.{ShowsTruly, WasOther, WasOwn}
pub use Rattle.seam_node_steps.specs.Prelude.{Enter, Leave, Line, Set}
pub use Rattle.seam_rule_lines.proofs.InOrderLemmas.{found_entity}
pub use Rattle.seam_rule_lines.proofs.Lists.{contains_cases, contains_first, contains_later}
pub use Rattle.seam_rule_lines.specs.Book.{has_balance, with_tree}
pub use Rattle.seam_rule_rounds.specs.Prelude.{ClientLine, IsOther, IsOwn, IsRound, MOST_ENTITIES, RoundData, after_header, after_lines}
pub use Rattle.seam_rule_rounds.specs.Prelude.{base_line, base_shown, base_texts, base_versions, changes_past, created, home_line}
pub use Rattle.seam_rule_rounds.specs.Prelude.{in_first_cell, is_base, is_new_client, is_tick, lines_to, other_at, replica_of, shown_by}
pub use Rattle.seam_rule_rounds.specs.Prelude.{shown_by_lines, shown_for, texts_to, told_in, truth_of, with_line}
pub use Rattle.seam_law_calls.proofs.Holds.{neither}

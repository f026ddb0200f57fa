-- What the crates above cite of this one and of those below it, gathered, so that one import names it.
pub use Rattle.seam_geo.specs.declared.pos.Pos.{Pos}
pub use Rattle.seam_value.specs.Values.{decimal_of, text_of}
pub use Rattle.seam_value.specs.declared.values.Value.{Value}
pub use Rattle.seam_value.specs.declared.values.Value.TheVariants.{Number}
pub use Rattle.seam_defs.specs.Builtin.{builtin}
pub use Rattle.seam_defs.specs.Deeds.{after, client_of, own_of, value_at, values_text}
pub use Rattle.seam_defs.specs.Settings.{AreInRange}
pub use Rattle.seam_defs.specs.Tests.{same_shown, same_state, same_values}
pub use Rattle.seam_defs.specs.Types.{type_of}
pub use Rattle.seam_defs.specs.declared.flags.Part.{Part}
pub use Rattle.seam_defs.specs.declared.states.State.{State}
pub use Rattle.seam_defs.specs.declared.types.TypeDef.{TypeDef}
pub use Rattle.seam_tree.specs.Boundary.{place_along}
pub use Rattle.seam_tree.specs.Cells.{Cells}
pub use Rattle.seam_tree.specs.Division.{Division, cells_of, cut_after, cut_number, leaf_after, leaf_at}
pub use Rattle.seam_tree.specs.Inverse.{contains_insert_nat}
pub use Rattle.seam_tree.specs.declared.area_table.TheConstants.{MOST_CELLS}
pub use Rattle.seam_tree.specs.declared.cut.Cut.{Cut}
pub use Rattle.seam_tree.specs.declared.tree.CutError.TheVariants.{TooManyCells}
pub use Rattle.seam_tree.specs.declared.tree.ShiftError.TheVariants.{WouldEmpty}
pub use Rattle.seam_call.specs.Calls.{is_for, is_from, same_part}
pub use Rattle.seam_call.specs.Senders.{same_sender}
pub use Rattle.seam_call.specs.declared.call.Call.{Call}
pub use Rattle.seam_call.specs.declared.create.Create.{Create}
pub use Rattle.seam_call.specs.declared.sender.Sender.{Sender}
pub use Rattle.seam_call.specs.declared.sender.Sender.TheVariants.{Base, Client}
pub use Rattle.seam_call.specs.declared.shown.ClientText.{ClientText}
pub use Rattle.seam_call.specs.declared.shown.GhostCopy.{GhostCopy}
pub use Rattle.seam_call.specs.declared.shown.Shown.{Shown}
pub use Rattle.seam_call.specs.declared.shown.Shown.TheVariants.{Enter, Leave, Own, Set}
pub use Rattle.seam_haunt.specs.Places.{Distances, IsPlaceAfter, Place, settled, settled_all}
pub use Rattle.seam_io.specs.Causes.{Rose}
pub use Rattle.seam_io.specs.Lines.{Content, Line, Long, lines_of, whole_lines_of}
pub use Rattle.seam_io.specs.Reading.{IsExact, Reader, Reading, budget}
pub use Rattle.seam_io.specs.States.{SinkState, SourceState}
pub use Rattle.seam_toml.specs.declared.header.Header.{Header}
pub use Rattle.seam_rule_lines.specs.Book.{Book, accepted, called, calls_of, created, created_as, creates_of, destroys, empty_book, entries}
pub use Rattle.seam_rule_lines.specs.Book.{has_balance, has_client, has_tick, is_balance, is_new_client, is_shown, is_tick, joins, live_as}
pub use Rattle.seam_rule_lines.specs.Book.{makes, one_cell, open_lines, tree_of, was_dead, with_entry, with_round_ended, with_tree}
pub use Rattle.seam_rule_lines.specs.FlatTable.{first_state, flat}
pub use Rattle.seam_rule_lines.specs.Header.{AreHeaderLines, AwaitHeader, BeginWithHeader, RefusesHeader, separator}
pub use Rattle.seam_rule_lines.specs.Judging.{Adds, Holds, HoldsAgainst, Judges, MayCall, Spells}
pub use Rattle.seam_rule_lines.specs.Language.{Word, axis_text, sender_text}
pub use Rattle.seam_rule_lines.specs.Orders.{IsFull, Orders, of_sender}
pub use Rattle.seam_rule_lines.specs.Round.{BaseLine, DoneLine, ExtendsOrders, HomeLine, Lists, done_lines}
pub use Rattle.seam_rule_lines.specs.Run.{Run}
pub use Rattle.seam_rule_lines.specs.Senders.{AcceptedAreFrom, CallIsFrom}
pub use Rattle.seam_rule_lines.specs.LineTexts.{base_text, done_text, field, home_text, number_text, refusal}
pub use Rattle.seam_rule_lines.specs.declared.limits.TheConstants.{MOST_ENTITIES, MOST_LINES}
pub use Rattle.seam_rule_lines.specs.declared.verdict.Cause.{Cause}
pub use Rattle.seam_rule_lines.specs.declared.verdict.Cause.TheVariants.{CutRefused, ShiftRefused}
pub use Rattle.seam_rule_lines.specs.declared.verdict.Entry.{Entry}
pub use Rattle.seam_rule_lines.specs.declared.verdict.Verdict.{Verdict}
pub use Rattle.seam_rule_clients.specs.Clients.{ClientReplica, after_all_shown, after_lines, after_shown, new_client, shown_by}
pub use Rattle.seam_rule_clients.specs.Clients.{shown_by_lines}
pub use Rattle.seam_rule_clients.specs.Lines.{IsNear, MayEnter, MaySet, MayShow, MayShowAll, ShowsRightly, ShowsTruth, Truth}
pub use Rattle.seam_rule_clients.specs.Looks.{Row, is_newer, look_at, look_by, one_look, own_shown, row_of, rows_but, seen, shown_for}
pub use Rattle.seam_watch.specs.Watching.{Told, after_all}
pub use Rattle.seam_watch.specs.declared.journal.Journal.{Journal}
pub use Rattle.seam_balance.specs.Balance.{HasSameCuts, IsBalanced}
pub use Rattle.seam_storm.specs.Storm.{call_line, client_line, create_line, cuts, draw, drawn_line, entity, is_move, kind, lines_text}
pub use Rattle.seam_storm.specs.Storm.{method_of, move_line, next_seed, raster, seed_after, sender, sync_after, text_of_storm}
pub use Rattle.seam_rule_rounds.specs.ClientLines.{HasLooked, HasShown, IsOther, IsOwn, IsShownAt, ShowsClient, base_shown, base_texts}
pub use Rattle.seam_rule_rounds.specs.ClientLines.{base_versions, is_base, shows_base, texts_to, truth_of}
pub use Rattle.seam_rule_rounds.specs.FlatTable.{changes_past, has_changed_at, other_at, position_at, positions_past, properties, public_at}
pub use Rattle.seam_rule_rounds.specs.FlatTable.{row_after, rows_of, version_of}
pub use Rattle.seam_rule_rounds.specs.Lines.{ClientLine, GhostLine, RoundData, lines_to, told_in}
pub use Rattle.seam_rule_rounds.specs.Round.{HasBounds, IsRound, base_line, ghost_lines, home_line, with_bounds}
pub use Rattle.seam_rule_rounds.specs.RoundPlaces.{HasPlace, distances, ghost_cells, place_before}
pub use Rattle.seam_rule_rounds.specs.Standing.{Standing, after_header, in_first_cell, replica_of, with_book, with_line}
pub use Rattle.seam_rule_rounds.specs.Summary.{AsksForNeither, all_sums, hp_of, summary_text, sums_of, totals_of, totals_text}
pub use Rattle.seam_rule_rounds.specs.RoundTexts.{bound_text, bounds_text, client_text, ghost_text, journal_text, round_text, state_text}
pub use Rattle.seam_rule_rounds.specs.RoundTexts.{traced_text}
pub use Rattle.seam_rule_rounds.specs.Transcript.{Ended, EndsInput, EndsRound, Follows, Piece, PrintAll, PrintLines, Refusal, Step}
pub use Rattle.seam_rule_rounds.specs.Transcript.{journals_of, played_text}
pub use Rattle.seam_rule_rounds.specs.TwoChests.{avatar_2, begun, copy_of_second, ended, halves, header, mark, numbers, own_avatar, pay}
pub use Rattle.seam_rule_rounds.specs.TwoChests.{promote, round, second, settled_at, text_of_round, to_avatar, with_ghost}
pub use Rattle.seam_rule_rounds.specs.declared.totals.Sums.{Sums}
pub use Rattle.seam_rule_rounds.specs.declared.totals.Totals.{Totals}

-- What the crates above cite of this one and of those below it, gathered, so that one import names it.
pub use Rattle.seam_law_calls.specs.BaseMoves.{BaseMoves, is_stuck, newer, part_offered, strays_at, updated}
pub use Rattle.seam_law_calls.specs.BaseTurns.{AreBaseCallsOf, BaseCallsInTurn, FindsPart, HasBaseCalls, HasNoClient, HasPart, IsBaseCallOf}
pub use Rattle.seam_law_calls.specs.BaseTurns.{IsHomeward, as_base_sender, base_burden, base_mail, base_post, home_of, mine_base_burden}
pub use Rattle.seam_law_calls.specs.BaseTurns.{node_base_burden, part_burden, part_desk}
pub use Rattle.seam_law_calls.specs.Burdens.{burden, has_burden, held_in, held_of, letter_burden, mine_burden, node_burden, order_burden}
pub use Rattle.seam_law_calls.specs.Burdens.{real_burden}
pub use Rattle.seam_law_calls.specs.CellMoves.{Acts, CellMoves, Does, calls, has_witness, looks_after_tick, readies, surveys, unlisted_if}
pub use Rattle.seam_law_calls.specs.CellTurns.{AreCallsOf, CellCallsInTurn, FindsTurn, IsCallOf, as_sender, cell_mail, cell_order_from}
pub use Rattle.seam_law_calls.specs.CellTurns.{cell_post, desk_for, from_sender, is_from, numbered_from, real_desk}
pub use Rattle.seam_law_calls.specs.ClientUpdates.{EachReal, FindsClient, HasClient, HasNoLooks, HasRoomFor, HasToldAtMost, is_tick_order}
pub use Rattle.seam_law_calls.specs.ClientUpdates.{lines_in, order_in, proxy_of, shown_at, shown_in, tells, tick_in, updates_at}
pub use Rattle.seam_law_calls.specs.ClientUpdates.{with_number}
pub use Rattle.seam_law_calls.specs.Fits.{IsFitHand, IsFitReal, RealFits}
pub use Rattle.seam_law_calls.specs.Frames.{Frame, HasOneTree, IsAt, IsBaseAt, IsInFrame, IsTreeOf, Knows, here_at, trees_of}
pub use Rattle.seam_law_calls.specs.HandOverExample.{events_of, frame}
pub use Rattle.seam_law_calls.specs.Moves.{Moves, MovesTo, at_a_base, at_a_cell}
pub use Rattle.seam_law_calls.specs.Ones.{AllFits, HasNoReaps, HasOne, IsFrame, IsLaterTree, IsOne, IsSpared, NoReapComes, OneFrom, real_at}
pub use Rattle.seam_law_calls.specs.Ones.{real_in, real_of, reaped_by, reaped_by_order, reaps}
pub use Rattle.seam_law_calls.specs.PartMoves.{HasNoProxy, Missed, Offered, PartMoves, base_call_in, base_call_of, called, calls_ordered}
pub use Rattle.seam_law_calls.specs.PartMoves.{early, ends, executes, late, misses, now, offers, refuses, rests, sends, serves, shows, told}
pub use Rattle.seam_law_calls.specs.PartMoves.{update_in, updates}
pub use Rattle.seam_law_calls.specs.Reaps.{HasNoBaseCalls, HasNoPart}
pub use Rattle.seam_law_calls.specs.Replays.{Account, Replays, account_of, after_call, after_calls}
pub use Rattle.seam_law_calls.specs.Runs.{RunsTo}
pub use Rattle.seam_law_calls.specs.Sights.{AtBase, AtCell, Has, at_base, at_cell, concerned, concerning, concerns, entity_flow, entity_of}
pub use Rattle.seam_law_calls.specs.Sights.{has_none, has_of, kept_if, mine, no_base, no_cell, one_more_if, order_about, order_concerns}
pub use Rattle.seam_law_calls.specs.Sights.{orders_of, times}
pub use Rattle.seam_law_calls.specs.Strays.{HasRoutes, IsBaseNumber, IsForNode, LinesHaveRoom, NoneIsStray, NoneIsStrayAtBases}
pub use Rattle.seam_law_calls.specs.Strays.{NothingIsStray, client, is_for_cells, no_client}
pub use Rattle.seam_law_calls.specs.Telling.{CarriesNoEntity, HasFewEntities, IsAbsent, IsBlank, IsFewView, NoUpdateComes, SeesFew}
pub use Rattle.seam_law_calls.specs.Telling.{looks_left, mine_looks, most_entities, most_shown, node_looks, order_looks}
pub use Rattle.seam_law_calls.specs.Unknown.{IsTickOrder, IsTickTo, IsUnknown, OnlyTicks}
pub use Rattle.seam_law_calls.specs.Ways.{AllLead, CallsFindTheirWay, NamesVisited, follow, has_hand, is_call, is_hand, is_visited}
pub use Rattle.seam_law_calls.specs.WitnessMoves.{WitnessMoves, sent_by, sent_of}

-- A round of a standing's open lines, played from one world to another.
use Rattle.std.specs.Prelude.{◌≡◌, ℕ, ◌+◌, false, List, map, filter, length, Option, None, Some}
use Rattle.std.specs.List.{All, flat_map, list_any, range_with_len}
use Rattle.seam_node_steps.specs.Prelude.{Pos, Division, Create, Line, PartView, ProxyView, World}
use Rattle.seam_rule_rounds.specs.Prelude.{Header, Book, created_as, live_as, destroys, tree_of, Lists, ExtendsOrders, ClientReplica}
use Rattle.seam_rule_rounds.specs.Prelude.{RoundData, is_base, base_shown, base_versions, Standing, replica_of, HasPlace, home_line}
use Rattle.seam_rule_rounds.specs.Prelude.{base_line, ghost_lines}
use Rattle.seam_law_calls.specs.Prelude.{entity_flow}
use Rattle.seam_law_rounds.specs.Prelude.{framed}
use Rattle.seam_law_ghosts.specs.Prelude.{GoesThroughRound}
use Rattle.seam_law_clients.specs.Prelude.{clients_loaded, clients_shown}
use Rattle.seam_law_book.specs.Prelude.{frame_of, base_node, HasEnded}
use Rattle.seam_defs.specs.declared.flags.Part.TheVariants as part
use Rattle.seam_accept.specs.Batches.{batch_of}
use Rattle.seam_law_transcript.specs.Beside.{HasPlayableRound}
use Rattle.seam_law_transcript.specs.Reading.{round_read, standing_read}

-- The round of the standing's open lines was played from the world w, whose nodes had the tree `tree`, to v; and its entities are listed.
pub record IsPlayed (h : Header) (s : Standing) (tree : Division) (w v : World) : Type 0 where
  pub beside : HasPlayableRound h s tree w
  pub round : GoesThroughRound w (batch_of h s.book) v
  pub ended : HasEnded h s.book w v round
  pub made : List Create
  pub made_listed : Lists (created_as s.book) made
  pub live : List Create
  pub live_listed : Lists (live_as s.book) live

-- what it prints
abbrev pub data_of : (h : Header) (s : Standing) (tree : Division) (w v : World) → IsPlayed h s tree w v → Option Division → RoundData
data_of h s tree w v p bounds = round_read h s p.made p.live p.round.called v bounds

-- the standing that it leaves, with the book of the next round
abbrev pub standing_of : (h : Header) (s : Standing) (tree : Division) (w v : World) → IsPlayed h s tree w v → Option Division → Book →
    Standing
standing_of h s tree w v p bounds next = standing_read h s p.round.called v (data_of h s tree w v p bounds) next

-- what each entity's client shows where the round has ended: what it showed before, or nothing where it is new, and then its proxy's lines
abbrev pub clients_ended_in : (h : Header) (s : Standing) (tree : Division) (w v : World) → IsPlayed h s tree w v → ℕ → ClientReplica
clients_ended_in h s tree w v p =
    let b = batch_of h s.book in
    clients_shown (framed (frame_of h tree) b) (clients_loaded (frame_of h tree) b (replica_of h s)) v

-- where the entities are that live at its end
abbrev pub positions_of : (h : Header) (s : Standing) (tree : Division) (w v : World) → IsPlayed h s tree w v → List Pos
positions_of h s tree w v p = map (λ l. l.state.pos) (data_of h s tree w v p None).homes

-- The points of a legal round that speak of no client: each part executed what was accepted for it, and the live entities are held where,
-- and as, the rules ask.
pub record IsLegalButClients (h : Header) (s : Standing) (r : RoundData) (t : Standing) (live : List Create) : Type 0 where
  pub did : ExtendsOrders s.book part.Cell (s.orders part.Cell) (t.orders part.Cell) r.did
  pub dob : ExtendsOrders s.book part.Base (s.orders part.Base) (t.orders part.Base) r.dob
  pub places : All (HasPlace h s t) live
  pub homes : r.homes ≡ map (home_line h t) live
  pub bases : r.bases ≡ map (base_line h t) live
  pub ghosts : r.ghosts ≡ flat_map (ghost_lines h (tree_of s.book) t) live

-- The lines go on with the numbers of the entity's client, and show the entity's base part at its versions, in rising order. Where the
-- entity lives on, in the world v, its client's last line has the next number after them.
pub record ContinuesLines (h : Header) (s t : Standing) (c : Create) (v : World) (lines : List Line) : Type 0 where
  pub numbers : map (λ l. l.number) lines ≡ range_with_len (length (s.told c.entity) + 1) (length lines)
  pub bases : filter is_base (map (λ l. l.text) lines) ≡ map (base_shown h t c) (base_versions h s t c)
  pub last : list_any (destroys c.entity) s.book.current ≡ false → (p : PartView) (x : ProxyView) →
      ((entity_flow c.entity v).slot (base_node h c.entity)).base.part ≡ Some p → p.proxy ≡ Some x →
      x.last ≡ length (s.told c.entity) + length lines

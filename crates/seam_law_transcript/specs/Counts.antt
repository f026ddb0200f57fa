-- What the count of the lines that were read bounds.
use Rattle.std.specs.Prelude.{ℕ, ◌+◌, ◌*◌, ◌^◌, ◌<◌, ◌≤◌, length}
use Rattle.seam_node_steps.specs.Prelude.{World}
use Rattle.seam_rule_rounds.specs.Prelude.{entries, open_lines, MOST_ENTITIES, MOST_LINES, Standing}
use Rattle.seam_law_calls.specs.Prelude.{sent_by}
use Rattle.seam_law_rounds.specs.Prelude.{numbers_of}
use Rattle.seam_law_bounds.specs.Prelude.{AreAtMost}

-- Each entry of the book took a line; and so did each round that ended, and each entry of the open one.
pub record IsCounted (s : Standing) : Type 0 where
  pub entries_ : length (entries s.book) ≤ s.lines
  pub rounds : s.rounds + open_lines s.book ≤ s.lines

-- the most that a witness tells in one look: its own state, and a line for each entity
abbrev pub most_lines_of_look : ℕ
most_lines_of_look = 1 + MOST_ENTITIES

-- The numbers of a world that only rise are bounded by how many entries the rounds before had, and how many rounds ended.
pub record HasFewNumbers (s : Standing) (w : World) : Type 0 where
  pub reals : AreAtMost numbers_of (3 * length s.book.past + 2 * s.rounds) w
  pub told : AreAtMost sent_by (most_lines_of_look * (16 * length s.book.past + s.rounds)) w

-- an input has at most so many lines
abbrev pub most_lines : ℕ
most_lines = 2 ^ 40

-- The open round may end.
pub record MayEnd (s : Standing) : Type 0 where
  -- it took a line: that of an entry, or one that ends it
  pub counted : s.rounds < s.lines
  -- it has no more lines than a round may have
  pub lines : open_lines s.book ≤ MOST_LINES
  -- and no more were read than an input has
  pub all : s.lines ≤ most_lines

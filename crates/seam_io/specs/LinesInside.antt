-- A reader of lines by its fields, which the type's view and invariant name.
use Rattle.std.specs.Prelude.{◌≡◌, ◌≤◌, ◌<◌, ◌+◌, true, slice_index, slice_range, vec_len}
use Rattle.seam_io.specs.Lines.{HasNoFeed}
use Rattle.seam_io.specs.Reading.{Reader}
use Rattle.seam_io.specs.declared.lines.Lines.TheInside.{Inside}
use Rattle.seam_io.specs.declared.lines.TheConstants.{LONGEST_LINE, CHUNK}

abbrev pub reader : Inside → Reader
reader a = record {
  held = slice_range a.buffer.items a.start a.end;
  passing = a.passing;
  ended = a.ended;
  taken = a.taken;
  limit = a.limit;
  line = slice_range a.buffer.items a.line_start a.line_end;
}

pub record IsReader (a : Inside) : Type 0 where
  pub size : vec_len a.buffer ≡ LONGEST_LINE + CHUNK
  pub start : a.start ≤ a.feed
  pub feed : a.feed ≤ a.end
  pub end : a.end ≤ LONGEST_LINE + CHUNK
  pub line_start : a.line_start ≤ a.line_end
  pub line_end : a.line_end ≤ LONGEST_LINE + CHUNK
  pub line_len : a.line_end ≤ a.line_start + LONGEST_LINE
  pub before : HasNoFeed (slice_range a.buffer.items a.start a.feed)
  pub found : a.feed < a.end → slice_index a.buffer.items a.feed ≡ 10
  pub within : a.taken ≤ a.limit
  pub ended : a.ended ≡ true → a.taken < a.limit

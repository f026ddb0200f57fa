-- A source over memory: bytes to give, and where it cuts and fails.
use Rattle.std.specs.Prelude.{ℕ, min, max, List, length, slice_get, unwrap_or}
use Rattle.std.specs.Option.{option_map}

-- The bytes that are left, how many bytes each read gives at most, the numbers of the reads that fail, how many
-- reads there were, and how often one failed or found the end.
pub record Supply : Type 0 where
  pub left : List ℕ
  pub cuts : List ℕ
  pub fails : List ℕ
  pub reads : ℕ
  pub faults : ℕ
  pub ends : ℕ

-- at most how many bytes a read gives into so much room, after so many reads: a cut of 0 counts as 1, and without a cut
-- the room is the bound
abbrev pub cut_of : List ℕ → ℕ → ℕ → ℕ
cut_of cuts reads room = unwrap_or (option_map (λ cut. max cut 1) (slice_get cuts reads)) room

-- how many bytes the next read gives into so much room, where it does not fail
abbrev pub share : Supply → ℕ → ℕ
share s room = min (min (cut_of s.cuts s.reads room) room) (length s.left)

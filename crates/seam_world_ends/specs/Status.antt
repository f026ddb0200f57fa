-- The exit status of each end of a run.
use Rattle.std.specs.Prelude.{ℕ, ◌≤◌, Option, None, Some}
use Rattle.seam_rule_lines.specs.Header.{no_end}
use Rattle.seam_toml.specs.declared.header.HeaderError.{HeaderError}
use Rattle.seam_toml.specs.Header.{number_of}
use Rattle.seam_world_ends.specs.declared.status.Status.{Status}
use Rattle.seam_world_ends.specs.declared.status.Status.TheVariants as status

abbrev pub code_of : Status → ℕ
code_of status.Done = 0
code_of status.Usage = 1
code_of (status.BadHeader k) = 2
code_of status.ReadFault = 3
code_of status.WriteFault = 4
code_of status.Limit = 5
code_of status.NoMemory = 6

-- the number of a cause for which a header may be refused
abbrev pub IsHeaderCause : ℕ → Type 0
IsHeaderCause k = (1 ≤ k) × (k ≤ no_end)

-- the statuses that the header may end a run with
abbrev pub IsHeaderEnd : Status → Type 0
IsHeaderEnd status.Done = ⊥
IsHeaderEnd status.Usage = ⊥
IsHeaderEnd (status.BadHeader k) = IsHeaderCause k
IsHeaderEnd status.ReadFault = Unit {0}
IsHeaderEnd status.WriteFault = ⊥
IsHeaderEnd status.Limit = Unit {0}
IsHeaderEnd status.NoMemory = Unit {0}

-- the statuses that a run without words may end with
abbrev pub IsRunEnd : Status → Type 0
IsRunEnd status.Done = Unit {0}
IsRunEnd status.Usage = ⊥
IsRunEnd (status.BadHeader k) = IsHeaderCause k
IsRunEnd status.ReadFault = Unit {0}
IsRunEnd status.WriteFault = Unit {0}
IsRunEnd status.Limit = Unit {0}
IsRunEnd status.NoMemory = Unit {0}

-- the status of a run whose header is refused, by the number of the cause
abbrev pub refused_with : Option ℕ → Status
refused_with (Some k) = status.BadHeader k
refused_with None = status.NoMemory

abbrev pub refusal_of : HeaderError → Status
refusal_of e = refused_with (number_of e)

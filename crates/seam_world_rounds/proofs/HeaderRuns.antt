-- A run that ended in its header, or before it.
use Rattle.std.proofs.Common.{◌≡◌, ◌≤◌, inl, ℕ, List, [], length, arith}
use Rattle.std.proofs.KnownBytes.{Appends-nil}
use Rattle.std.specs.Io.KnownBytes.{Consumes}
use Rattle.seam_rule_rounds.specs.Prelude.{SourceState, Reader, Header}
use Rattle.seam_rule_rounds.specs.declared.totals.Totals.{Totals}
use Rattle.seam_world_ends.specs.Status.{IsHeaderEnd, IsRunEnd}
use Rattle.seam_world_ends.specs.Ends.{Means, most_bytes, the_space}
use Rattle.seam_world_ends.specs.Headers.{HasHeader, EndsInHeader, Awaits, Never}
use Rattle.seam_world_rounds.specs.Histories.{OpenAs, EndedAs, StoppedFirst}
use Rattle.seam_world_rounds.specs.declared.round.Output.{Output}
use Rattle.seam_world_ends.specs.declared.status.Status.{Status}
use Rattle.seam_world_ends.specs.declared.status.Status.TheVariants as status
use Rattle.seam_watch.proofs.Told.{told_nothing}
use Rattle.seam_world_ends.proofs.HeaderRuns.{nothing_read, header_alone as alone}

header_fails_no_write : (st : Status) → IsHeaderEnd st → st ≡ status.WriteFault → ⊥
header_fails_no_write status.Done h e = absurd h
header_fails_no_write status.Usage h e = absurd h
header_fails_no_write (status.BadHeader n) h e = cc
header_fails_no_write status.ReadFault h e = cc
header_fails_no_write status.WriteFault h e = absurd h
header_fails_no_write status.Limit h e = cc
header_fails_no_write status.NoMemory h e = cc

header_may_end : (st : Status) → IsHeaderEnd st → IsRunEnd st
header_may_end status.Done h = absurd h
header_may_end status.Usage h = absurd h
header_may_end (status.BadHeader n) h = h
header_may_end status.ReadFault h = tt
header_may_end status.WriteFault h = absurd h
header_may_end status.Limit h = tt
header_may_end status.NoMemory h = tt

-- where nothing was printed, and the header may yet begin, the transcript is open
told_open : (o : Output) (totals : Totals) (began now : SourceState) (given : List ℕ) (st : Status) → IsHeaderEnd st →
    Means Awaits Never st began now given [] [] → Means (OpenAs o) (EndedAs o totals) st began now given [] []
told_open o totals began now given status.Done end t = absurd end
told_open o totals began now given status.Usage end t = absurd end
told_open o totals began now given (status.BadHeader k) end t = t
told_open o totals began now given status.ReadFault end t = (t.0, t.1, inl t.2)
told_open o totals began now given status.WriteFault end t = absurd end
told_open o totals began now given status.Limit end t = (t.0, inl t.1)
told_open o totals began now given status.NoMemory end t = (t.0, t.1, inl t.2)

-- the run ended within the header
pub header_stopped : (st : Status) (began now : SourceState) → EndsInHeader st began now → StoppedFirst st began now
header_stopped st began now e = λ o totals sink told. record {
  given = e.given;
  text = [];
  steps = [];
  took = e.took;
  most = e.most;
  writing = Appends-nil sink.written;
  later = omega arith;
  failed = λ is. absurd (header_fails_no_write st e.end is);
  allowed = header_may_end st e.end;
  means = told_open o totals began now e.given st e.end e.means;
  watched = told_nothing the_space told;
}

-- an allocation failed before a line was judged
pub nothing_judged : (began now : SourceState) (given : List ℕ) → Consumes began.left now.left given → length given ≤ most_bytes →
    StoppedFirst status.NoMemory began now
nothing_judged began now given took most = header_stopped status.NoMemory began now (nothing_read began now given took most)

-- an allocation failed after the header
pub header_alone : (began now : SourceState) (reader : Reader) (h : Header) (count : ℕ) → HasHeader began now reader h count →
    StoppedFirst status.NoMemory began now
header_alone began now reader h count has = header_stopped status.NoMemory began now (alone began now reader h count has)

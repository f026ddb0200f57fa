use Rattle.std.proofs.Common.{◌≡◌, ◌⊎◌, List, ℕ, take, drop, refl, sym, Result, Ok, Err, inl, inr}
use Rattle.std.proofs.lemmas.List.{take-append-drop}
use Rattle.std.specs.Prelude.{OnOk, IfErr, Option, length, ◌<◌}
use Rattle.std.specs.Io.KnownBytes.{Appends}
use Rattle.seam_io.specs.Causes.{Rose, HasCause}
use Rattle.seam_io.specs.declared.sink.WriteFault.{WriteFault}
use Rattle.seam_world_ends.specs.Ends.{IsPrefix}
use Rattle.seam_world_ends.proofs.faults.put.Goals as goal

-- the line went out whole, or a prefix of it where the sink failed
put_either : (old new : Option (List ℕ)) (before now : ℕ) (line : List ℕ) (r : Result (Unit {0}) WriteFault) → OnOk r (Appends old new line)
    → IfErr r (λ e. (e.wrote < length line) × Appends old new (take e.wrote line)) → HasCause before now r
    → (tail : List ℕ) × Appends old new tail × ((tail ≡ line) ⊎ (IsPrefix tail line × Rose before now))
put_either old new before now line (Ok x) ok err cause = (line, ok, inl refl)
put_either old new before now line (Err e) ok err cause =
    (take e.wrote line, err.1, inr ((drop e.wrote line, sym (take-append-drop e.wrote line)), cause.failed))

pub returns-clause-written : goal.returns-clause-written
returns-clause-written g c =
    put_either _ _ _ _ c.args.line.now c.write_whole.result c.write_whole.ensures.ok c.write_whole.ensures.err c.write_whole.ensures.cause

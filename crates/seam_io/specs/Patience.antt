-- Which failed calls of a stream are made again.
use Rattle.std.specs.Prelude.{◌≡◌, ◌⊎◌}
use Rattle.std.specs.declared.io.ErrorKind.{ErrorKind}
use Rattle.std.specs.declared.io.ErrorKind.TheVariants.{Interrupted, WouldBlock}

-- a signal interrupted the call, or the stream would block
abbrev pub IsPassing : ErrorKind → Type 0
IsPassing kind = (kind ≡ Interrupted) ⊎ (kind ≡ WouldBlock)

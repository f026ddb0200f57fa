-- The built-in types are well formed: the test computes.
use Rattle.std.proofs.Common.{◌≡◌, [], true, refl}
use Rattle.std.specs.Str.{is_utf8}
use Rattle.std.proofs.lemmas.Str.{is_utf8-from_IsUtf8}
use Rattle.seam_defs.specs.Types.{AreDefs}
use Rattle.seam_defs.specs.Builtin.{builtin}
use Rattle.seam_defs.proofs.DefsTest.{defs}

empty_is_text : is_utf8 [] ≡ true
empty_is_text = is_utf8-from_IsUtf8 [] ([], (refl, refl))

pub builtin-are-defs : AreDefs builtin
builtin-are-defs = defs builtin (rw empty_is_text refl)

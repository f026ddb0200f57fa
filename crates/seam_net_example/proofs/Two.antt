-- Two logs.
use Rattle.std.proofs.Common.{zero, suc, List, [], ◌∷◌}
use Rattle.seam_stamp.specs.declared.Stamped.{Stamped}
use Rattle.seam_stamp.specs.Logs.{IsLogFrom, AreLogs}

pub logs_of_two : {E : Type 0} (a b : List (Stamped E)) → IsLogFrom 0 0 a → IsLogFrom 1 0 b → AreLogs (a ∷ b ∷ [])
logs_of_two a b p q zero = p
logs_of_two a b p q (suc zero) = q
logs_of_two a b p q (suc (suc k)) = tt

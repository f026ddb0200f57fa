-- What a look-up finds.
use Rattle.std.proofs.Common.{◌≡◌, false, Option, None, Some, sym, Bor, option_copied, is_some}

pub none_there : {X : Type 0} (o : Option (Bor X)) (p : Option X) → option_copied o ≡ p → is_some o ≡ false → p ≡ None
none_there None p e t = sym e
none_there (Some x) p e t = cc

-- What a closure does to an item that it is lent.
use Rattle.std.specs.Prelude.{◌≡◌}
use Rattle.std.specs.Fn.{Shared}
use denote.Ref.{MutBor}

-- each call of the closure leaves f of the item there
pub record Leaves {F T : Type 0} (g : Shared F (MutBor T × Unit {0}) (Unit {0} × (MutBor T × Unit {0}))) (change : F) (f : T →
    T) : Type 0 where
  pub at : (before after : MutBor T) → g.post change (before, tt) (tt, (after, tt)) → after.now ≡ f before.now

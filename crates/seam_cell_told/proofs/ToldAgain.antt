-- What was told stays right.
use Rattle.std.proofs.Common.{◌≡◌, ℕ, ◌∙◌, [], Option, None, Some, ap, sym}
use Rattle.seam_node_steps.specs.Prelude.{GhostCopy}
use Rattle.seam_cell_told.specs.Told.{Told, told_of, AreAsKnown, AreStillAsKnown}

pub none_told : (known : ℕ → Option GhostCopy) (told : Told) → told ≡ [] → AreAsKnown known told
none_told known told none e c is = let wrong : None ≡ Some c = sym (ap (told_of e) none) ∙ is in cc

module _ (own : ℕ) (known : ℕ → Option GhostCopy) where
  pub told_again : (a b c : Told) → AreStillAsKnown own known a b → AreStillAsKnown own known b c → AreStillAsKnown own known a c
  told_again a b c first second = (second.0, second.1 ∙ first.1)

  pub still_told : (a b c : Told) → b ≡ a → AreStillAsKnown own known b c → AreStillAsKnown own known a c
  still_told a b c same still = (still.0, still.1 ∙ ap (told_of own) same)

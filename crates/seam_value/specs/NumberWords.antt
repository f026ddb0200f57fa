-- Words that are numbers.
use Rattle.std.specs.Prelude.{◌≡◌, ℕ, ◌<◌, ◌^◌, List}
use Rattle.seam_value.specs.Values.{decimal_of}

-- a number that 32 bits hold
abbrev pub IsWhole : ℕ → Type 0
IsWhole n = n < 2 ^ 32

-- the word is the spelling of the number, which 32 bits hold
pub record SpellsNumber (word : List ℕ) (n : ℕ) : Type 0 where
  pub whole : IsWhole n
  pub spelled : decimal_of n ≡ word

-- the word is the spelling of a number from 1 on, which 32 bits hold
pub record SpellsPositive (word : List ℕ) (n : ℕ) : Type 0 where
  pub some : 0 < n
  pub number : SpellsNumber word n

-- What clap finds for words that it does not refuse: no clause of a public call cites these.
use Rattle.std.specs.Prelude.{◌≡◌, ◌⊎◌, ℕ, Some, None, pos, codes}
use Rattle.clap.specs.Words.{IsSignedIn, Text, one_text, without_minus}
use Rattle.clap.specs.declared.parser.matches.Found.{Found}
use Rattle.seam_args.specs.declared.TheConstants.{MOST_WORKERS, MOST_TURNS, LONGEST_STORM}

-- the option has a text that reads as a number from 1 to `most`
pub record HasNumber (found : Found) (option : Text) (most : ℕ) : Type 0 where
  pub text : Text
  pub is : one_text found option ≡ Some (without_minus text)
  pub number : IsSignedIn (pos 1) (pos most) text

-- each option has its number, but for the one without a default, which may be missing
pub record HasNumbers (found : Found) : Type 0 where
  pub workers : HasNumber found (codes "workers") MOST_WORKERS
  pub turns : HasNumber found (codes "turns") MOST_TURNS
  pub storm : (one_text found (codes "storm") ≡ None) ⊎ HasNumber found (codes "storm") LONGEST_STORM

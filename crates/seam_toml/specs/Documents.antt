-- Which texts are documents, as headers have to be.
use Rattle.std.specs.Prelude.{◌≡◌, ℕ, ◌<◌, ◌≤◌, List, length, Some}
use Rattle.std.specs.Str.{IsUtf8}
use Rattle.toml.specs.Data.{Members}
use Rattle.toml.specs.Parse.{parse_document}
use Rattle.seam_toml.specs.declared.documents.DocumentError.{DocumentError}
use Rattle.seam_toml.specs.declared.documents.DocumentError.TheVariants.{TooLong, NotToml, NoMemory}
use Rattle.seam_toml.specs.declared.documents.TheConstants.{MOST_HEADER_BYTES}

-- the text is a TOML document, whose top table has these members
pub record IsDocument (text : List ℕ) (ms : Members) : Type 0 where
  pub utf8 : IsUtf8 text
  pub parsed : parse_document text ≡ Some ms

-- the text is not longer than a header may be
abbrev pub IsShort : List ℕ → Type 0
IsShort text = length text ≤ MOST_HEADER_BYTES

-- why a text is no document: it is too long, or else it is none
abbrev pub Refuses : List ℕ → DocumentError → Type 0
Refuses text TooLong = MOST_HEADER_BYTES < length text
Refuses text NotToml = IsShort text × ((ms : Members) → ¬ (IsDocument text ms))
Refuses text NoMemory = IsShort text

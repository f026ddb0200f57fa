-- Short texts, and how a text is spelled.
use Rattle.std.specs.Prelude.{ℕ, ◌≤◌, List, [], ◌∷◌, ◌++◌, length, if◌then◌else◌, ◌==◌}
use Rattle.std.specs.Str.{IsUtf8}
use Rattle.std.specs.List.{flat_map}

-- UTF-8 of at most 255 bytes
pub record IsShortText (bytes : List ℕ) : Type 0 where
  pub utf8 : IsUtf8 bytes
  pub short : length bytes ≤ 255

-- a byte as it is written between quotes: `\"`, `\\` and `\n` for a quote, a backslash and a line feed, and every other
-- byte as itself
abbrev pub spelled_byte : ℕ → List ℕ
spelled_byte b = if b == 34 then 92 ∷ 34 ∷ [] else (if b == 92 then 92 ∷ 92 ∷ [] else (if b == 10 then 92 ∷ 110 ∷ [] else b ∷ []))

-- a text in quotes
unfoldable pub quoted : List ℕ → List ℕ
quoted content = 34 ∷ flat_map spelled_byte content ++ 34 ∷ []

-- The words of a printed line.
use Rattle.std.specs.Prelude.{◌≡◌, ◌⊎◌, ⊤, ℕ, Bool, true, not, ◌&&◌, ◌==◌, List, [], ◌∷◌, ◌++◌}
use Rattle.std.specs.List.{list_all}
use Rattle.seam_value.specs.Texts.{quoted}

-- a byte of a word outside of quotes: no space, no line feed and no quote
abbrev pub is_plain : ℕ → Bool
is_plain b = not (b == 32) && not (b == 10) && not (b == 34)

-- all bytes are such
abbrev pub ArePlain : List ℕ → Type 0
ArePlain bytes = list_all is_plain bytes ≡ true

-- a word of a printed line: bytes outside of quotes, and after them a text in quotes or nothing
abbrev pub IsWord : List ℕ → Type 0
IsWord word = (front : List ℕ) × ArePlain front × ((word ≡ front) ⊎ ((content : List ℕ) × (word ≡ front ++ quoted content)))

-- each is a word
abbrev pub AreWords : List (List ℕ) → Type 0
AreWords [] = ⊤
AreWords (word ∷ words) = IsWord word × AreWords words

-- the words of a line after its first one, each after a space
abbrev pub spaced : List (List ℕ) → List ℕ
spaced [] = []
spaced (word ∷ words) = 32 ∷ word ++ spaced words

-- these words, the line feed, and the text that comes after the line
abbrev pub rest_of_line : List (List ℕ) → (after : List ℕ) → List ℕ
rest_of_line [] after = 10 ∷ after
rest_of_line (word ∷ words) after = 32 ∷ word ++ rest_of_line words after

-- no byte is a line feed
abbrev pub HasNoFeed : List ℕ → Type 0
HasNoFeed bytes = list_all (λ b. not (b == 10)) bytes ≡ true

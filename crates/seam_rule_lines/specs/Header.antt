-- Headers: what the first lines of an input set.
use Rattle.std.specs.Prelude.{◌≡◌, ◌≢◌, ◌⊎◌, ℕ, ◌+◌, ◌≤◌, All, List, [], ◌∷◌, ◌++◌, codes, length, map, Some}
use Rattle.std.specs.List.{flat_map}
use Rattle.seam_io.specs.Lines.{Line, Content}
use Rattle.seam_toml.specs.declared.documents.TheConstants.{MOST_HEADER_BYTES}
use Rattle.seam_toml.specs.declared.header.Header.{Header}
use Rattle.seam_toml.specs.declared.header.HeaderError.{HeaderError}
use Rattle.seam_toml.specs.Header.{Reads, Refuses, number_of}

-- the line that ends a header
abbrev pub separator : Line
separator = Content (codes "%%")

-- the text of lines: the content of each with a line feed
abbrev pub text_of_contents : List (List ℕ) → List ℕ
text_of_contents contents = flat_map (λ content. content ++ 10 ∷ []) contents

-- lines that come before a header's end, and the text that they make
pub record AreHeaderLines (lines : List Line) (text : List ℕ) : Type 0 where
  pub contents : List (List ℕ)
  pub are : lines ≡ map Content contents
  pub none_ends : All (λ content. Content content ≢ separator) contents
  pub whole : text ≡ text_of_contents contents
  pub most : length text ≤ MOST_HEADER_BYTES

-- lines begin with a header, of `count` lines with its end, and the lines `rest` come after it
pub record BeginWithHeader (lines : List Line) (h : Header) (count : ℕ) (rest : List Line) : Type 0 where
  pub head : List Line
  pub text : List ℕ
  pub are : AreHeaderLines head text
  pub reads : Reads text h
  pub number : count ≡ length head + 1
  pub whole : lines ≡ head ++ separator ∷ rest

-- no header's end was read, and what was read may yet begin a header
abbrev pub AwaitHeader : List Line → Type 0
AwaitHeader lines = (text : List ℕ) × AreHeaderLines lines text

-- The numbers of the causes that no text tells, beside those of `HeaderError`: more bytes come before the header's end than may; or
-- its end is missing.
abbrev pub too_long : ℕ
too_long = 9

abbrev pub no_end : ℕ
no_end = 10

-- The header is refused at the line that comes after these, and the number of the cause: with it they are too long, or it is the
-- end and the text before it is at fault.
abbrev pub RefusesHeader : List Line → Line → ℕ → Type 0
RefusesHeader lines line k =
    ((k ≡ too_long) × (line ≢ separator) × AwaitHeader lines × ¬ (AwaitHeader (lines ++ line ∷ [])))
    ⊎ ((line ≡ separator) × (text : List ℕ) × (e : HeaderError) × AreHeaderLines lines text × Refuses text e × (number_of e ≡ Some k))

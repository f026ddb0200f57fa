-- Where the words of a line end.
use Rattle.std.specs.Prelude.{◌≡◌, ℕ, List, ◌∷◌, false}
use Rattle.seam_law_texts.specs.Words.{is_plain}

-- a text does not go on with a plain byte
abbrev pub StopsPlain : List ℕ → Type 0
StopsPlain text = (b : ℕ) (rest : List ℕ) → text ≡ b ∷ rest → is_plain b ≡ false

-- a text goes on with a space, or has ended
abbrev pub StopsWord : List ℕ → Type 0
StopsWord text = (b : ℕ) (rest : List ℕ) → text ≡ b ∷ rest → b ≡ 32

-- What a watch tells.
use Rattle.std.specs.Prelude.{◌≡◌, ℕ, List, [], ◌∷◌, ◌++◌, Option, map, option_map}
use Rattle.seam_watch.specs.declared.journal.Journal.{Journal}

-- the journals that a watch was given, each with the number of its space, where it tells them
abbrev pub Told : Type 0
Told = Option (List (ℕ × Journal))

-- one more was given
abbrev pub IsGiven : ℕ → Journal → Told → Told → Type 0
IsGiven space j before after = after ≡ option_map (λ js. js ++ (space, j) ∷ []) before

-- what it tells after it was given these of a space
abbrev pub after_all : ℕ → List Journal → Told → Told
after_all space js before = option_map (λ told. told ++ map (λ j. (space, j)) js) before

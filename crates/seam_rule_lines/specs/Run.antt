-- Lines that are read, one after another.
use Rattle.std.specs.Prelude.{◌≡◌, List, [], ◌∷◌, ◌++◌}
use Rattle.seam_io.specs.Lines.{Line}

-- lines are read by steps of any kind: each leads from one state to the next, and prints pieces
abbrev pub Run : {S P : Type 0} → (S → Line → List P → S → Type 0) → S → List Line → List P → S → Type 0
Run Steps s [] pieces t = (pieces ≡ []) × (t ≡ s)
Run {S} {P} Steps s (line ∷ lines) pieces t =
    (first rest : List P) × (mid : S) × (pieces ≡ first ++ rest) × Steps s line first mid × Run Steps mid lines rest t

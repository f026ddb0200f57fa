-- Places as values.
use Rattle.std.specs.Prelude.{ℕ, ◌<◌, IsTrue, refl}
use Rattle.std.specs.FinSet as set
use Rattle.std.specs.Coded.{Coded, code_by, coded×, coded_ℕ}
use Rattle.seam_rule_rounds.specs.Prelude.{Cells, Place}

-- a place is stored as the pair of its fields
abbrev pub place_code : Coded Place
place_code =
    code_by (ℕ × Cells) (coded× coded_ℕ (set.code coded_ℕ)) (λ p. (p.home, p.ghosts)) (λ q. record { home = q.0; ghosts = q.1 }) (λ _. refl)

-- the numbers are those of cells that a tree can have
abbrev pub AreSmall : Cells → Type 0
AreSmall cells = (c : ℕ) → IsTrue (set.contains cells c) → c < 16

-- What a cell is told of a real that settles.
use Rattle.std.specs.Prelude.{ℕ, Bool, true, false, ◌||◌, ◌==◌, if◌then◌else◌}
use Rattle.std.specs.FinSet as set
use Rattle.seam_haunt.specs.declared.telling.Telling.{Telling}
use Rattle.seam_haunt.specs.declared.telling.Told.{Told}
use Rattle.seam_haunt.specs.declared.telling.Told.TheVariants.{Nothing, Set, Drop}

-- what a cell is told, by whether it is a haunt now, was one, and others may see a change
abbrev pub word_at : Bool → Bool → Bool → Told
word_at true true true = Set
word_at true true false = Nothing
word_at true false changed = Set
word_at false true changed = Drop
word_at false false changed = Nothing

-- neither the cell itself nor the home is told
abbrev pub word : Telling → ℕ → Told
word t k = if (k == t.me) || (k == t.home) then Nothing else word_at (set.contains t.haunts k) (set.contains t.old k) t.changed

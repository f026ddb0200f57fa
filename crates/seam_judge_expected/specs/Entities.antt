-- Entities by their numbers.
use Rattle.std.specs.Prelude.{ℕ, List, find, ◌==◌}
use Rattle.std.specs.List.{filter_map}
use Rattle.seam_call.specs.declared.create.Create.{Create}

-- the entities of these numbers, by what was created first
abbrev pub among_numbers : List Create → List ℕ → List Create
among_numbers creates numbers = filter_map (λ e. find (λ c. c.entity == e) creates) numbers

-- What a world of the standard settings may be loaded with first.
use Rattle.std.specs.Prelude.{◌≡◌, eqb, map}
use Rattle.std.specs.List.{AllByRecursion, IsDistinct}
use Rattle.seam_tree.specs.Division.{IsInSpace}
use Rattle.seam_call.specs.declared.order.Batch.{Batch}
use Rattle.seam_law_rounds.specs.Between.{created_entity}

-- entities and clients that a world without entities may be loaded with
pub record MayBeFirst (b : Batch) : Type 0 where
  pub size : b.tree.size ≡ 10000
  pub inside : AllByRecursion (λ x. IsInSpace b.tree x.pos) b.creates
  pub once : IsDistinct eqb (map created_entity b.creates)
  pub one_each : IsDistinct eqb b.clients

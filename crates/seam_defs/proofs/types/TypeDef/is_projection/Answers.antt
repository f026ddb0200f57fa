use Rattle.std.proofs.Common.{◌≡◌, refl, [], ◌∷◌, List, Option, Some, None, IsTrue, ◌↔◌, Bool, true, false, not, Bor}
use Rattle.std.specs.Prelude.{MatchOption}
use Rattle.std.specs.Option.{is_some}
use Rattle.seam_value.specs.declared.values.Value.{Value}
use Rattle.seam_defs.specs.Remaining.{properties_left, values_left}
use Rattle.seam_defs.proofs.PropertyPlaces.{zip-done}
use Rattle.seam_defs.proofs.types.TypeDef.is_projection.Goals as goal

-- no value comes exactly where none is left
none-left : (o : Option (Bor Value)) (b : Bool) (xs ys : List Value) →
    MatchOption o ((xs ≡ []) × (ys ≡ [])) (λ v. xs ≡ v.now ∷ ys) → is_some o ≡ not b → IsTrue b ↔ (xs ≡ [])
none-left None true xs ys steps none = ((λ _. steps.0), (λ _. refl))
none-left None false xs ys steps none = absurd cc
none-left (Some v) true xs ys steps none = absurd cc
none-left (Some v) false xs ys steps none = ((λ e. absurd cc), (λ e. absurd cc))

pub returns : goal.returns
returns c =
    let last = c.loop-property.property-iterator in
    let done = zip-done (properties_left last.a) (values_left last.b) c.in-None.ensures.steps in
    let is = rw done at c.loop-property.invariant in
    let none =
    none-left c.next-2.result c.is_none.result (values_left c.loop-property.copies) (values_left c.next-2.new.self) c.next-2.ensures.steps
    c.is_none.ensures in
    ((λ t. is.1 (none.0 t)), (λ same. none.1 (is.0 same)))

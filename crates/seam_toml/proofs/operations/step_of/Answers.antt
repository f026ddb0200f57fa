use Rattle.std.proofs.Common.{refl, length}
use Rattle.std.proofs.lemmas.Option.{none-some, slice_get_read}
use Rattle.seam_toml.specs.Steps.{operand_of}
use Rattle.seam_toml.proofs.OperationLemmas.{unknown_verb, target_named, not_allowed, no_operand, is_spelled, named_at}
use Rattle.seam_toml.proofs.operations.step_of.Goals as goal

pub returns-in_default : goal.returns-in_default
returns-in_default c = unknown_verb _ _ _ _ _ _ c.in_default.ensures

pub returns-in_default-place_of : goal.returns-in_default-place_of
returns-in_default-place_of c op s = none-some _ (c.in_default-place_of.ensures.all _ (target_named _ _ _ _ _ _ op s))

pub returns-then-not-may_do : goal.returns-then-not-may_do
returns-then-not-may_do c =
    let ps = c.args.properties.now in
    let p = c.index-properties-place.result in
    let place = c.in-Some-place_of.place in
    let here = slice_get_read ps (length ps) place p refl c.in-Some-place_of.ensures.within c.index-properties-place.is in
    not_allowed _ _ _ _ _ _ place p c.in-Some-place_of.ensures.all here c.in-Some.verb c.in-Some.ensures
    (λ may. let yes = c.may_do.ensures.1 may in let refused = c.if-not-may_do.true in cc)

pub returns-in-Some-2 : goal.returns-in-Some-2
returns-in-Some-2 c =
    let ps = c.args.properties.now in
    let p = c.index-properties-place.result in
    let place = c.in-Some-place_of.place in
    let here = slice_get_read ps (length ps) place p refl c.in-Some-place_of.ensures.within c.index-properties-place.is in
    let read = rw c.in-Some-2.is at c.in_ok-given.ensures in
    is_spelled _ _ _ place p (operand_of c.in-Some-2.given) here read.1 c.in-Some.verb _ _ _ c.in-Some.ensures
    (named_at ps place p _ here c.in-Some-place_of.ensures.found) read.0 (c.may_do.ensures.0 (let allowed = c.if-not-may_do.false in cc))

pub returns-in-None : goal.returns-in-None
returns-in-None c =
    let ps = c.args.properties.now in
    let p = c.index-properties-place.result in
    let place = c.in-Some-place_of.place in
    let here = slice_get_read ps (length ps) place p refl c.in-Some-place_of.ensures.within c.index-properties-place.is in
    let read = rw c.in-None.is at c.in_ok-given.ensures in
    no_operand _ _ _ _ _ _ place p c.in-Some-place_of.ensures.all here read

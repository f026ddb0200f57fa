use Rattle.std.proofs.Common.{arith, length, ◌<◌}
use Rattle.std.proofs.lemmas.Result.{err_from_is_err_and}
use Rattle.seam_accept.proofs.ArgLemmas.{not_as_many, one_is_none, ill_typed, spell_more}
use Rattle.seam_accept.proofs.deeds.args_named.Goals as goal

pub returns-then-arguments-types-clause-none : goal.returns-then-arguments-types-clause-none
returns-then-arguments-types-clause-none c =
    not_as_many c.args.method.now c.as_slice-types.result.now c.args.arguments.now c.as_slice-types.ensures c.if-arguments-types.true

pub returns-in_err-value_named-clause-none : goal.returns-in_err-value_named-clause-none
returns-in_err-value_named-clause-none c =
    let p = err_from_is_err_and c.from_residual-in_err-value_named.result c.from_residual-in_err-value_named.ensures.1 in
    let in_arguments : c.loop-i.i < length c.args.arguments.now = omega arith in
    let in_types : c.loop-i.i < length c.as_slice-types.result.now = omega (arith, c.if-arguments-types.false) in
    rw (p.1, p.2) (ill_typed
    (one_is_none c.args.method.now c.as_slice-types.result.now c.args.arguments.now c.loop-i.i _ _ c.as_slice-types.ensures in_types
    in_arguments)
    c.in_err-value_named.field-0.0 c.in_err-value_named.ensures.none)

pub loop-i-preserved : goal.loop-i-preserved
loop-i-preserved c =
    let in_arguments : c.loop-i.i < length c.args.arguments.now = omega arith in
    let in_types : c.loop-i.i < length c.as_slice-types.result.now = omega (arith, c.if-arguments-types.false) in
    rw c.in_ok-push.ensures.items (spell_more c.as_slice-types.result.now c.args.arguments.now c.loop-i.i c.loop-i.values.items _ _
    c.in_ok-value_named.field-0 c.loop-i.invariant in_types in_arguments c.in_ok-value_named.ensures.value.0
    c.in_ok-value_named.ensures.value.1)

use Rattle.std.proofs.Common.{arith, rules, ◌≤◌, length}
use Rattle.toml.specs.View.{table_view}
use Rattle.seam_defs.specs.declared.limits.TheConstants.{MOST_ARGUMENTS}
use Rattle.seam_toml.proofs.Soundness.{too_many_arguments, no_body, is_method}
use Rattle.seam_toml.proofs.methods.method_of.Goals as goal

pub returns-then-len-gt-MOST_ARGUMENTS : goal.returns-then-len-gt-MOST_ARGUMENTS
returns-then-len-gt-MOST_ARGUMENTS c =
    let long = c.if-len-gt-MOST_ARGUMENTS.true in
    too_many_arguments c.args.properties.now c.args.key.now (table_view c.args.table.now) c.in-Some.args.items
    (rw c.in-Some.is at c.in_ok-args.ensures) (omega (arith, long, c.len.ensures))

pub returns-in_default-3 : goal.returns-in_default-3
returns-in_default-3 c =
    no_body c.args.properties.now c.args.key.now (table_view c.args.table.now) c.in-Some.args.items
    (rw c.in-Some.is at c.in_ok-args.ensures) c.in-Some-Some.part c.in-Some-Some.ensures
    (rw (c.in_default-3.is, c.deref.ensures.value) at c.in_ok-body.ensures.says)

pub returns-in-Some-3 : goal.returns-in-Some-3
returns-in-Some-3 c =
    let short = c.if-len-gt-MOST_ARGUMENTS.false in
    let few : length c.in-Some.args.items ≤ MOST_ARGUMENTS = omega (arith, short, c.len.ensures) in
    let name = rw c.in-Some-3.is at c.in_ok-name.ensures in
    is_method c.args.properties.now c.args.key.now (table_view c.args.table.now) _ name.0 (search rules) c.in-Some-Some.ensures
    (search rules) (rw (c.of.ensures) (rw c.in-Some.is at c.in_ok-args.ensures)) (rw (c.of.ensures) few)
    (rw (c.of.ensures, c.of-in-Some-3.ensures) (rw (c.in-Some-2.is, c.deref.ensures.value) at c.in_ok-body.ensures.says))
    (rw (c.of-in-Some-3.ensures) (rw c.in-Some-2.is at c.in_ok-body.ensures.few))

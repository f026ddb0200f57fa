use Rattle.std.proofs.Common.{arith, rules, ◌≡◌, ◌≤◌, length}
use Rattle.toml.specs.Data.{table}
use Rattle.toml.specs.View.{table_view}
use Rattle.seam_defs.specs.declared.limits.TheConstants.{MOST_PROPERTIES}
use Rattle.seam_toml.proofs.Soundness.{too_many_properties, no_methods, is_type, type_is_sound}
use Rattle.seam_toml.proofs.types.type_of.Goals as goal

pub returns-then-len-gt-MOST_PROPERTIES-clause-defines : goal.returns-then-len-gt-MOST_PROPERTIES-clause-defines
returns-then-len-gt-MOST_PROPERTIES-clause-defines c =
    let long = c.if-len-gt-MOST_PROPERTIES.true in
    too_many_properties c.args.key.now (table_view c.args.table.now) c.in-Some.properties.items
    (rw c.in-Some.is at c.in_ok-properties.ensures.defines) (omega (arith, long, c.len.ensures))

pub returns-in_default-2-clause-defines : goal.returns-in_default-2-clause-defines
returns-in_default-2-clause-defines c =
    no_methods c.args.key.now (table_view c.args.table.now) c.in-Some.properties.items
    (rw c.in-Some.is at c.in_ok-properties.ensures.defines)
    (rw (c.in_default-2.is, c.deref.ensures.value) at c.in_ok-methods.ensures.defines)

pub returns-in_ok-of-in-Some-3-clause-sound : goal.returns-in_ok-of-in-Some-3-clause-sound
returns-in_ok-of-in-Some-3-clause-sound c =
    let short = c.if-len-gt-MOST_PROPERTIES.false in
    let few : length c.in-Some.properties.items ≤ MOST_PROPERTIES = omega (arith, short, c.len.ensures) in
    let name = rw c.in-Some-3.is at c.in_ok-name.ensures in
    let same : c.in_ok-of-in-Some-3.field-0 ≡ c.in-Some.properties.items = c.in_ok-of-in-Some-3.ensures in
    let defines =
    is_type c.args.key.now (table_view c.args.table.now) _ name.0 (search rules)
    (rw same (rw c.in-Some.is at c.in_ok-properties.ensures.defines)) (rw same few)
    (rw (same, c.of-in-Some-3.ensures) (rw (c.in-Some-2.is, c.deref.ensures.value) at c.in_ok-methods.ensures.defines))
    (rw c.of-in-Some-3.ensures (rw c.in-Some-2.is at c.in_ok-methods.ensures.few)) in
    type_is_sound c.args.key.now (table (table_view c.args.table.now)) _ defines
    (rw same (rw c.in-Some.is at c.in_ok-properties.ensures.rising))
    (rw c.of-in-Some-3.ensures (rw c.in-Some-2.is at c.in_ok-methods.ensures.rising))

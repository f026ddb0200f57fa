use Rattle.std.proofs.Common.{◌≡◌, ◌∷◌, [], string_bytes, arith}
use Rattle.std.proofs.lemmas.Grind.{common_steps}
use Rattle.toml.specs.View.{view, members_view}
use Rattle.toml.proofs.Views.{Entry}
use Rattle.seam_toml.specs.Definitions.{DefinesMethod}
use Rattle.seam_toml.proofs.Eaches.{one_more, none_more, all_read, rising_names}
use Rattle.seam_toml.proofs.Soundness.{method_name_is_name}
use Rattle.seam_toml.proofs.Soundness.{as_many}
use Rattle.seam_toml.proofs.methods.methods.Goals as goal

pub members-preserved : goal.members-preserved
members-preserved c =
    let (can, finite, so_far) = c.members.invariant in
    let e : Entry = (c.in-Some.key.now, c.in-Some.value.now) in
    let iter : c.members.key-iterator ≡ e ∷ c.next.new.self = grind (arith, common_steps) in
    let p = c.in-Some-2.method in
    let read : DefinesMethod c.args.properties.now (string_bytes e.0)
    (view e.1) p = rw c.as_str.ensures.value at (rw c.in-Some-2.is at c.in_ok-method.ensures) in
    let more =
    one_more (DefinesMethod c.args.properties.now) (members_view c.args.table.now.entries) (string_bytes e.0) (view e.1)
    (members_view c.next.new.self)
    c.members.methods.items p read (rw iter at so_far) in
    (tt, tt, rw c.in_ok-push-in-Some-2.ensures.items more)

pub returns-in-None-2-clause-defines : goal.returns-in-None-2-clause-defines
returns-in-None-2-clause-defines c xs each few =
    let (can, finite, so_far) = c.members.invariant in
    let e : Entry = (c.in-Some.key.now, c.in-Some.value.now) in
    let iter : c.members.key-iterator ≡ e ∷ c.next.new.self = grind (arith, common_steps) in
    let none = rw c.as_str.ensures.value at (rw c.in-None-2.is at c.in_ok-method.ensures) in
    none_more (DefinesMethod c.args.properties.now) (members_view c.args.table.now.entries) (string_bytes e.0) (view e.1)
    (members_view c.next.new.self)
    c.members.methods.items none (rw iter at so_far) xs each

pub returns-clause-defines : goal.returns-clause-defines
returns-clause-defines c =
    let (can, finite, so_far) = c.members.invariant in
    let none : c.members.key-iterator ≡ [] = grind (arith, common_steps) in
    all_read (DefinesMethod c.args.properties.now) (members_view c.args.table.now.entries) c.members.methods.items (rw none at so_far)

pub returns-clause-rising : goal.returns-clause-rising
returns-clause-rising c =
    let (can, finite, so_far) = c.members.invariant in
    let none : c.members.key-iterator ≡ [] = grind (arith, common_steps) in
    rising_names (DefinesMethod c.args.properties.now) (λ p. p.name)
    (λ k d p r. (r.name, method_name_is_name k r.named)) c.args.table.now.entries c.members.methods.items
    c.len.ensures.ordered
    (all_read (DefinesMethod c.args.properties.now) (members_view c.args.table.now.entries) c.members.methods.items (rw none at so_far))

pub returns-then-len-gt-MOST_METHODS-clause-defines : goal.returns-then-len-gt-MOST_METHODS-clause-defines
returns-then-len-gt-MOST_METHODS-clause-defines c xs each few =
    let same = as_many (DefinesMethod c.args.properties.now) c.args.table.now.entries xs each in
    let long = c.if-len-gt-MOST_METHODS.true in
    absurd (omega (arith, same, long, few, c.len.ensures.len))

pub returns-clause-few : goal.returns-clause-few
returns-clause-few c =
    let same = as_many (DefinesMethod c.args.properties.now) c.args.table.now.entries c.members.methods.items (returns-clause-defines c) in
    let short = c.if-len-gt-MOST_METHODS.false in
    omega (arith, same, short, c.len.ensures.len)

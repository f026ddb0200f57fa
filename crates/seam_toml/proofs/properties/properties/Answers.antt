use Rattle.std.proofs.Common.{◌≡◌, ◌∷◌, [], string_bytes, arith}
use Rattle.std.proofs.lemmas.Grind.{common_steps}
use Rattle.toml.specs.View.{view, members_view}
use Rattle.toml.proofs.Views.{Entry}
use Rattle.seam_toml.specs.Definitions.{DefinesProperty}
use Rattle.seam_toml.proofs.Eaches.{one_more, none_more, all_read, rising_names}
use Rattle.seam_toml.proofs.properties.properties.Goals as goal

pub members-preserved : goal.members-preserved
members-preserved c =
    let (can, finite, so_far) = c.members.invariant in
    let e : Entry = (c.in-Some.key.now, c.in-Some.value.now) in
    let iter : c.members.key-iterator ≡ e ∷ c.next.new.self = grind (arith, common_steps) in
    let p = c.in-Some-2.property in
    let read : DefinesProperty (string_bytes e.0) (view e.1) p = rw c.as_str.ensures.value at (rw c.in-Some-2.is at
    c.in_ok-property.ensures) in
    let more =
    one_more DefinesProperty (members_view c.args.table.now.entries) (string_bytes e.0) (view e.1) (members_view c.next.new.self)
    c.members.properties.items p read (rw iter at so_far) in
    (tt, tt, rw c.in_ok-push-in-Some-2.ensures.items more)

pub returns-in-None-2-clause-defines : goal.returns-in-None-2-clause-defines
returns-in-None-2-clause-defines c =
    let (can, finite, so_far) = c.members.invariant in
    let e : Entry = (c.in-Some.key.now, c.in-Some.value.now) in
    let iter : c.members.key-iterator ≡ e ∷ c.next.new.self = grind (arith, common_steps) in
    let none = rw c.as_str.ensures.value at (rw c.in-None-2.is at c.in_ok-property.ensures) in
    none_more DefinesProperty (members_view c.args.table.now.entries) (string_bytes e.0) (view e.1) (members_view c.next.new.self)
    c.members.properties.items none (rw iter at so_far)

pub returns-clause-defines : goal.returns-clause-defines
returns-clause-defines c =
    let (can, finite, so_far) = c.members.invariant in
    let none : c.members.key-iterator ≡ [] = grind (arith, common_steps) in
    all_read DefinesProperty (members_view c.args.table.now.entries) c.members.properties.items (rw none at so_far)

pub returns-clause-rising : goal.returns-clause-rising
returns-clause-rising c =
    let (can, finite, so_far) = c.members.invariant in
    let none : c.members.key-iterator ≡ [] = grind (arith, common_steps) in
    rising_names DefinesProperty (λ p. p.name) (λ k d p r. (r.name, r.named)) c.args.table.now.entries c.members.properties.items
    c.len.ensures.ordered
    (all_read DefinesProperty (members_view c.args.table.now.entries) c.members.properties.items (rw none at so_far))

use Rattle.std.proofs.Common.{rules, Ok, Err}
use Rattle.std.proofs.lemmas.Fn.{always_returns_same}
use Rattle.std.specs.Ordering.{nat_cmp}
use Rattle.std.specs.Cmp.Lexicographic.{slice_cmp}
use Rattle.seam_defs.proofs.NameSearch.{found_exactly}
use Rattle.seam_defs.proofs.types.TypeDef.find_property.Goals as goal

pub returns-in-Ok-clause-found : goal.returns-in-Ok-clause-found
returns-in-Ok-clause-found c =
    let sought =
    c.in-Ok.ensures.position (λ x. slice_cmp nat_cmp x.name c.args.name.now)
    (always_returns_same _ _ _ (λ a r f called. search rules)) in
    rw (← c.as_slice-properties.ensures)
    ((found_exactly (λ x. x.name) c.as_slice-properties.result.now (rw c.as_slice-properties.ensures c.requires.property_names)
    c.args.name.now (Ok c.in-Ok.number) c.in-Ok.ensures.bound sought).0)

pub returns-in-Ok-clause-all : goal.returns-in-Ok-clause-all
returns-in-Ok-clause-all c k there =
    let sought =
    c.in-Ok.ensures.position (λ x. slice_cmp nat_cmp x.name c.args.name.now)
    (always_returns_same _ _ _ (λ a r f called. search rules)) in
    let same =
    (found_exactly (λ x. x.name) c.as_slice-properties.result.now (rw c.as_slice-properties.ensures c.requires.property_names)
    c.args.name.now (Ok c.in-Ok.number) c.in-Ok.ensures.bound sought).1 k (rw c.as_slice-properties.ensures there) in
    cc

pub returns-in-Err-clause-all : goal.returns-in-Err-clause-all
returns-in-Err-clause-all c k there =
    let sought =
    c.in-Err.ensures.position (λ x. slice_cmp nat_cmp x.name c.args.name.now)
    (always_returns_same _ _ _ (λ a r f called. search rules)) in
    let same =
    (found_exactly (λ x. x.name) c.as_slice-properties.result.now (rw c.as_slice-properties.ensures c.requires.property_names)
    c.args.name.now (Err c.in-Err.field-0) c.in-Err.ensures.bound sought).1 k (rw c.as_slice-properties.ensures there) in
    absurd cc

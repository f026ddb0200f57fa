use Rattle.std.proofs.Common.{rules, Ok, Err}
use Rattle.std.proofs.lemmas.Fn.{always_returns_same}
use Rattle.std.specs.Ordering.{nat_cmp}
use Rattle.std.specs.Cmp.Lexicographic.{slice_cmp}
use Rattle.seam_defs.proofs.NameSearch.{found_exactly}
use Rattle.seam_defs.proofs.defs.Defs.find_type.Goals as goal

pub returns-in-Ok-clause-found : goal.returns-in-Ok-clause-found
returns-in-Ok-clause-found c =
    let sought =
    c.in-Ok.ensures.position (λ x. slice_cmp nat_cmp x.name c.args.name.now)
    (always_returns_same _ _ _ (λ a r f called. search rules)) in
    rw (← c.self.view_is, ← c.deref.ensures.value)
    ((found_exactly (λ x. x.name) c.deref.result.now (rw c.deref.ensures.value c.self.invariant.are.names) c.args.name.now
    (Ok c.in-Ok.place) c.in-Ok.ensures.bound sought).0)

pub returns-in-Ok-clause-all : goal.returns-in-Ok-clause-all
returns-in-Ok-clause-all c k there =
    let sought =
    c.in-Ok.ensures.position (λ x. slice_cmp nat_cmp x.name c.args.name.now)
    (always_returns_same _ _ _ (λ a r f called. search rules)) in
    let same =
    (found_exactly (λ x. x.name) c.deref.result.now (rw c.deref.ensures.value c.self.invariant.are.names) c.args.name.now
    (Ok c.in-Ok.place) c.in-Ok.ensures.bound sought).1 k (rw (c.deref.ensures.value, c.self.view_is) there) in
    cc

pub returns-in-Err-clause-all : goal.returns-in-Err-clause-all
returns-in-Err-clause-all c k there =
    let sought =
    c.in-Err.ensures.position (λ x. slice_cmp nat_cmp x.name c.args.name.now)
    (always_returns_same _ _ _ (λ a r f called. search rules)) in
    let same =
    (found_exactly (λ x. x.name) c.deref.result.now (rw c.deref.ensures.value c.self.invariant.are.names) c.args.name.now
    (Err c.in-Err.field-0) c.in-Err.ensures.bound sought).1 k (rw (c.deref.ensures.value, c.self.view_is) there) in
    absurd cc

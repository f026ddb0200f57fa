use Rattle.std.proofs.Common.{ℕ, sym, subst}
use Rattle.std.specs.List.{AllByRecursion}
use Rattle.seam_report.specs.declared.spellings.Spelling.{Spelling}
use Rattle.seam_report.specs.Spelled.{IsSpelling, AreSpelled, IsOf}
use Rattle.seam_report.proofs.Spelled.{at_place, IsThere, each_of, spelling_told, starts_within}
use Rattle.seam_report.proofs.spellings.Spellings.kept_at.Goals as goal

pub returns-in-Some-clause-text : goal.returns-in-Some-clause-text
returns-in-Some-clause-text c vs go knows =
    let v = c.args.self.now in
    let es = c.self.inside.copies.entries in
    let s = c.in-Some.spelling.now in
    let i = c.in_ok-place.field-0 in
    let x : ℕ × Spelling = (c.in-Some.spelled.now, s) in
    let at = sym c.in-Some.ensures.entry in
    let named = c.if-spelled-entity.true in
    let texts = subst (λ t. AreSpelled t.defs es) c.self.view_is c.self.invariant in
    spelling_told v.defs vs c.args.entity s c.args.copy.now
    (subst (λ e. IsSpelling v.defs e s.copy.now s) named (at_place (λ e. IsSpelling v.defs e.0 e.1.copy.now e.1) es i x at texts))
    c.if-spelling-copy.true
    (subst (λ e. IsOf vs e s.copy.now) named
    (at_place (IsThere vs) es i x at
    (each_of vs es (subst (λ t. AllByRecursion (λ p. IsOf vs p.0 p.1) t.kept) (sym c.self.view_is) go))))
    knows

pub returns-in-Some-clause-start : goal.returns-in-Some-clause-start
returns-in-Some-clause-start c =
    let es = c.self.inside.copies.entries in
    let x : ℕ × Spelling = (c.in-Some.spelled.now, c.in-Some.spelling.now) in
    starts_within c.self.inside.defs.now x.0 x.1.copy.now x.1
    (at_place (λ e. IsSpelling c.self.inside.defs.now e.0 e.1.copy.now e.1) es c.in_ok-place.field-0 x (sym c.in-Some.ensures.entry)
    c.self.invariant)

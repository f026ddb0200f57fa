use Rattle.std.proofs.Common.{ℕ, List, map, sym, subst, nat_eq}
use Rattle.std.specs.List.{AllByRecursion}
use Rattle.indexmap.specs.IndexMap.{insert_entry}
use Rattle.seam_report.specs.declared.spellings.Spelling.{Spelling}
use Rattle.seam_report.specs.Spelled.{IsSpelling, AreSpelled, GoesBy, IsOf}
use Rattle.seam_report.proofs.Spelled.{one_more, copy_in, IsThere, each_of, all_of}
use Rattle.seam_report.proofs.spellings.Spellings.keep.Goals as goal

pub invariant_of-self-2 : goal.invariant_of-self-2
invariant_of-self-2 c =
    let spelling = c.args.spelling in
    let defs = c.self.inside.defs.now in
    subst (AreSpelled defs) (sym c.in-Ok.ensures.entries)
    (one_more (λ e. IsSpelling defs e.0 e.1.copy.now e.1) c.args.entity spelling
    (subst (λ s. IsSpelling s.defs c.args.entity spelling.copy.now spelling) (sym c.self.view_is) c.requires) c.self.inside.copies.entries
    c.self.invariant)

pub returns-clause-kept : goal.returns-clause-kept
returns-clause-kept c vs go known =
    let s = c.args.spelling in
    let es = c.self.inside.copies.entries in
    subst (λ (l : List (ℕ × Spelling)). AllByRecursion (λ p. IsOf vs p.0 p.1) (map copy_in l)) (sym c.in-Ok.ensures.entries)
    (all_of vs (insert_entry nat_eq es c.args.entity s)
    (one_more (IsThere vs) c.args.entity s known es (each_of vs es (subst (GoesBy vs) (sym c.self.view_is) go))))

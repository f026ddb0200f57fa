use Rattle.std.proofs.Common.{◌∙◌, eqb, sym, ap, subst}
use Rattle.std.specs.List.{list_any}
use Rattle.std.specs.Map.{keys_of}
use Rattle.seam_view.specs.ByNumber.{IsByNumber, entries_of}
use Rattle.seam_view.proofs.ByNumber.{not_among}
use Rattle.seam_view.proofs.numbered.Entered.find.Goals as goal

pub returns-in-Err-clause-none : goal.returns-in-Err-clause-none
returns-in-Err-clause-none c =
    let held =
    subst (λ ps. IsByNumber (keys_of (entries_of c.deref.result.now)) ps) (sym c.deref-2.ensures.value)
    (subst (λ ss. IsByNumber (keys_of (entries_of ss)) c.self.inside.by_number.items) (sym c.deref.ensures.value) c.self.invariant) in
    let none =
    ap (λ ss. list_any (λ p. eqb c.args.e p.0) (entries_of ss)) (sym c.deref.ensures.value)
    ∙ not_among (entries_of c.deref.result.now) c.deref-2.result.now c.args.e c.in-Err.rank held c.in-Err.ensures.below
    c.in-Err.ensures.above in
    ap (λ w. list_any (λ p. eqb c.args.e p.0) w.entries) (sym c.self.view_is) ∙ none

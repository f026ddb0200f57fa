use Rattle.std.proofs.Common.{[], sym, subst}
use Rattle.std.specs.Map.{keys_of}
use Rattle.seam_view.specs.ByNumber.{IsByNumber, entries_of}
use Rattle.seam_view.proofs.ByNumber.{none_by_number}
use Rattle.seam_view.proofs.numbered.Entered.new.Goals as goal

pub invariant_of-result : goal.invariant_of-result
invariant_of-result c =
    subst (λ ps. IsByNumber (keys_of (entries_of c.new.result.items)) ps) (sym c.new-2.ensures.items)
    (subst (λ ss. IsByNumber (keys_of (entries_of ss)) []) (sym c.new.ensures.items) none_by_number)

use Rattle.std.proofs.Common.{◌+◌, ◌++◌, ◌∷◌, [], List, ℕ, Bool, refl, sym, ◌∙◌, ap, subst}
use Rattle.std.specs.Prelude.{not, if◌then◌else◌}
use Rattle.std.specs.BTreeSet.{btree_set_len}
use Rattle.seam_accept.specs.Refines.{Refines}
use Rattle.seam_accept.proofs.NamedEntities.{apart_in_set}
use Rattle.seam_accept.proofs.Keeping.{client_kept}
use Rattle.seam_accept.proofs.book.Book.add_client.Goals as goal

pub returns-clause-kept : goal.returns-clause-kept
returns-clause-kept c = λ h b was clientless.
    let here = subst (Refines h b) (sym c.self.view_is) was in
    let put = c.in_ok-insert.ensures in
    let added = put.added ∙ ap not (here.clients.each c.args.entity ∙ clientless.clientless) in
    client_kept h b _ _ c.args.entity here clientless refl refl
    (record { here = put.updates.1; others = λ other ne. put.updates.2 other (apart_in_set c.args.entity other ne) })
    (put.len ∙ ap (λ (x : Bool). btree_set_len c.self.inside.clients + (if x then 1 else 0)) added)
    (record {
      header = refl;
      tree = refl;
      count = refl;
      creates = refl;
      joined_ = c.push_reserved.ensures.items ∙ ap (λ (es : List ℕ). es ++ c.args.entity ∷ []) c.reserve.ensures.items;
      orders = refl;
      destroyed_ = refl;
      balance = refl;
    })

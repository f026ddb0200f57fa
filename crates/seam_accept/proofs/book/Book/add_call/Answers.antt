use Rattle.std.proofs.Common.{◌≡◌, ◌++◌, ◌∷◌, [], refl, sym, ◌∙◌, ap, subst}
use Rattle.seam_toml.specs.declared.header.Header.{Header}
use Rattle.seam_accept.specs.Batches.{node_of}
use Rattle.seam_accept.specs.Refines.{Refines}
use Rattle.seam_accept.proofs.Keeping.{call_kept}
use Rattle.seam_accept.proofs.book.Book.add_call.Goals as goal

pub returns-clause-kept : goal.returns-clause-kept
returns-clause-kept c = λ h b was is.
    let here = subst (Refines h b) (sym c.self.view_is) was in
    let node : c.node_of-node.result ≡ node_of h c.args.call.sender =
    c.node_of-node.ensures h (ap (λ (x : Header). x.settings.bases) (sym here.header)) in
    call_kept h b _ _ c.args.call here is c.in_ok-keep_last.ensures.kept refl refl
    (record {
      header = refl;
      tree = refl;
      count = refl;
      creates = refl;
      joined_ = refl;
      orders = c.push_reserved.ensures.items ∙ (λ i. c.reserve.ensures.items i ++ (node i, c.order.ensures i) ∷ []);
      destroyed_ = refl;
      balance = refl;
    })

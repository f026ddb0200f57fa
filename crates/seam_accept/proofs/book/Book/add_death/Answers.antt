use Rattle.std.proofs.Common.{◌+◌, ◌++◌, ◌∷◌, [], List, ℕ, Bool, Option, refl, sym, ◌∙◌, ap, subst}
use Rattle.std.specs.Prelude.{is_some, if◌then◌else◌}
use Rattle.std.specs.BTreeSet.{btree_set_len}
use Rattle.indexmap.specs.IndexMap.{index_map_len}
use Rattle.seam_accept.specs.Refines.{Refines}
use Rattle.seam_accept.specs.declared.entity.Entity.{Entity}
use Rattle.seam_accept.proofs.NamedEntities.{apart, apart_in_set}
use Rattle.seam_accept.proofs.Keeping.{destroy_kept}
use Rattle.seam_accept.proofs.book.Book.add_death.Goals as goal

pub returns-clause-kept : goal.returns-clause-kept
returns-clause-kept c = λ h b was lives.
    let put = c.in_ok-insert.ensures in
    let left = c.remove.ensures in
    let taken = c.swap_remove.ensures in
    destroy_kept h b _ _ c.args.entity (subst (Refines h b) (sym c.self.view_is) was) lives
    (record {
      count =
          ap (λ (o : Option Entity). index_map_len c.swap_remove.new.self + (if is_some o then 1 else 0)) (sym taken.value) ∙ taken.len;
      here = taken.updates.1;
      others = λ other ne. taken.updates.2 other (apart c.args.entity other ne);
    })
    (record {
      count = put.len ∙ ap (λ (x : Bool). btree_set_len c.self.inside.dead + (if x then 1 else 0)) put.added;
      sets = record { here = put.updates.1; others = λ other ne. put.updates.2 other (apart_in_set c.args.entity other ne) };
    })
    (record { here = left.updates.1; others = λ other ne. left.updates.2 other (apart_in_set c.args.entity other ne) })
    (ap (λ (x : Bool). btree_set_len c.remove.new.self + (if x then 1 else 0)) (sym left.test) ∙ left.len)
    (record {
      header = refl;
      tree = refl;
      count = refl;
      creates = refl;
      joined_ = refl;
      orders = refl;
      destroyed_ = c.push_reserved.ensures.items ∙ ap (λ (es : List ℕ). es ++ c.args.entity ∷ []) c.reserve.ensures.items;
      balance = refl;
    })

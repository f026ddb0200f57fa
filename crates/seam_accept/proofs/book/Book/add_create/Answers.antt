use Rattle.std.proofs.Common.{◌+◌, List, [], ◌∷◌, ◌++◌, refl, sym, ◌∙◌, ap, subst, Option, arith}
use Rattle.std.specs.Prelude.{is_some, if◌then◌else◌}
use Rattle.indexmap.specs.IndexMap.{index_map_len}
use Rattle.seam_call.specs.declared.create.Create.{Create}
use Rattle.seam_accept.specs.Refines.{Refines}
use Rattle.seam_accept.specs.declared.entity.Entity.{Entity}
use Rattle.seam_accept.proofs.NamedEntities.{apart, unused_is_nowhere}
use Rattle.seam_accept.proofs.Keeping.{create_kept}
use Rattle.seam_accept.proofs.book.Book.add_create.Goals as goal

pub returns-clause-kept : goal.returns-clause-kept
returns-clause-kept c = λ h b was new.
    let put = c.in_ok-insert.ensures in
    let here = subst (Refines h b) (sym c.self.view_is) was in
    let nowhere =
    unused_is_nowhere b c.self.inside.entities.entries c.self.inside.dead.keys c.args.create.entity here.entities new in
    create_kept h b _ _ c.args.create c.new.result here (omega arith) new
    (record { ty = c.new.ensures.ty; last = c.new.ensures.last })
    (record {
      count =
          put.len
          ∙ ap (λ (o : Option Entity). index_map_len c.self.inside.entities + (if is_some o then 0 else 1)) (put.old ∙ nowhere.0);
      here = put.updates.1;
      others = λ other ne. put.updates.2 other (apart c.args.create.entity other ne);
    })
    refl refl
    (record {
      header = refl;
      tree = refl;
      count = refl;
      creates = c.push_reserved.ensures.items ∙ ap (λ (cs : List Create). cs ++ c.args.create ∷ []) c.reserve.ensures.items;
      joined_ = refl;
      orders = refl;
      destroyed_ = refl;
      balance = refl;
    })

use Rattle.std.proofs.Common.{◌++◌, ◌∷◌, [], ℕ, List, take, get_or, sym, ap, ◌∙◌, subst, add-one}
use Rattle.std.proofs.Math.Seq.{take-suc}
use Rattle.std.proofs.lemmas.List.{take_all}
use Rattle.seam_table.specs.Tables.{TableView}
use Rattle.seam_world_text.specs.declared.farewells.Farewell.{Farewell}
use Rattle.seam_world_text.specs.Farewells.{AreOf}
use Rattle.seam_world_text.specs.Residents.{ArePresent}
use Rattle.seam_world_text.specs.declared.residents.Resident.{Resident}
use Rattle.seam_world_text.proofs.Kept.{none_kept, one_more_kept, none_more_kept, are_farewells}
use Rattle.seam_world_text.proofs.farewells.write_farewells.Goals.{in-Some+in_ok-keep, in_default}
use Rattle.seam_world_text.proofs.farewells.write_farewells.Goals as goal

pub loop-e-init : goal.loop-e-init
loop-e-init c =
    none_kept c.args.round.now.defs.now c.args.called.now c.by_number-residents.result.now c.new-kept.result.items
    (ap (λ (t : TableView Farewell). t.items) c.new-kept.ensures)

pub loop-e-preserved : goal.loop-e-preserved
loop-e-preserved c =
    let defs = c.args.round.now.defs.now in
    let w = c.args.called.now in
    let m = c.by_number-residents.result.now in
    let i = c.loop-e.e-index in
    let e = get_or c.args.destroys.now i 0 in
    let so_far = take i c.args.destroys.now in
    let found = c.in_ok-farewell.ensures in
    let more : AreOf defs w m (so_far ++ e ∷ []) c.match-branch-2.kept.items = elim c.match-branch-2.branch [
      | in-Some+in_ok-keep x ↦
          one_more_kept defs w m e so_far c.loop-e.kept.items c.loop-e.invariant x.in-Some.farewell (sym found ∙ x.in-Some.is)
          c.match-branch-2.kept.items (ap (λ (t : TableView Farewell). t.items) x.kept-is ∙ x.in_ok-keep.ensures)
      | in_default x ↦
          subst (AreOf defs w m (so_far ++ e ∷ [])) (sym (ap (λ (t : TableView Farewell). t.items) x.kept-is))
          (none_more_kept defs w m e so_far c.loop-e.kept.items c.loop-e.invariant (sym found ∙ x.in_default.is))
    ] in
    subst (λ (es : List ℕ). AreOf defs w m es c.match-branch-2.kept.items)
    (sym (rw add-one (take-suc c.args.destroys.now i 0 c.loop-e-test.true))) more

pub returns : goal.returns
returns c b is present =
    let m = c.by_number-residents.result.now in
    let defs = c.args.round.now.defs.now in
    let w = c.args.called.now in
    are_farewells defs w m b c.by_number-residents.ensures.named
    (subst (λ (rs : List Resident). ArePresent b rs) (sym c.by_number-residents.ensures.list) present) c.args.destroys.now is
    c.loop-e.kept.items
    (subst (λ (es : List ℕ). AreOf defs w m es c.loop-e.kept.items)
    (take_all c.loop-e.e-index c.args.destroys.now c.loop-e-test.false) c.loop-e.invariant)

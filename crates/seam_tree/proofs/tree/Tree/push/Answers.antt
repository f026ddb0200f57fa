use Rattle.std.proofs.Common.{◌≡◌, List, length, set, sym, ap, subst, ◌∙◌, arith}
use Rattle.seam_geo.specs.Rect.{Area}
use Rattle.seam_tree.specs.Division.{IsTree}
use Rattle.seam_tree.specs.Change.{with_cut}
use Rattle.seam_tree.specs.Table.{area_table}
use Rattle.seam_tree.proofs.Padded.{HoldsCuts, cuts_length, holds_push}
use Rattle.seam_tree.proofs.Tables.{table_with_cut}
use Rattle.seam_tree.proofs.tree.Tree.push.Goals as goal

pub invariant_of-self : goal.invariant_of-self
invariant_of-self c =
    let before : HoldsCuts c.self.inside.size c.self.inside.count c.self.inside.cuts c.args.self.now =
    record { most = c.self.invariant.0; table = c.self.invariant.1; view = c.self.view_is } in
    let after =
    holds_push c.self.inside.size c.self.inside.count c.self.inside.cuts c.args.self.now c.from.result c.args.cut before c.from.ensures
    c.requires.room in
    let made : length c.args.self.now.cuts ≡ c.self.inside.count =
    cuts_length c.self.inside.size c.self.inside.count c.self.inside.cuts c.args.self.now before in
    let table : c.self.inside.areas ≡ area_table c.args.self.now = c.self.invariant.3 ∙ ap area_table c.self.view_is in
    let written : set (set c.self.inside.areas c.from-2.result c.args.parts.0) c.from-3.result c.args.parts.1
    ≡ area_table (with_cut c.args.self.now c.args.cut.cell c.args.cut.boundary) =
    ap (λ (areas : List Area). set (set areas c.from-2.result c.args.parts.0) c.from-3.result c.args.parts.1) table
    ∙ table_with_cut c.args.self.now c.args.cut c.from-2.result c.from-3.result c.args.parts.0 c.args.parts.1 c.requires.room
    c.requires.there c.from-2.ensures (omega (arith, c.from-3.ensures, made)) c.requires.lower c.requires.upper in
    (after.most, after.table, subst IsTree (sym after.view) c.requires.tree, written ∙ ap area_table (sym after.view))

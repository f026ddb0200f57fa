use Rattle.std.proofs.Common.{◌≡◌, ◌*◌, List, length, drop, map}
use Rattle.seam_logged.specs.Mesh.{AreLinked}
use Rattle.seam_logged.specs.SomeLinks.{Reached}
use Rattle.seam_logged.proofs.mesh.link_row.Given as goal

abbrev pub invariant-loop-to : goal.invariant-loop-to
invariant-loop-to g l = record {
  reached : Reached (length l.fn.ends.items) l.from l.to l.ends.items;
  rest : l.rest.items ≡ drop l.to l.fn.rest.items;
  linked : (links : List (List _)) → map (λ v. v.items) l.fn.rest.items ≡ drop (l.from * length l.fn.ends.items) links →
      AreLinked (length l.fn.ends.items) links l.fn.ends.items → AreLinked (length l.fn.ends.items) links l.ends.items;
}

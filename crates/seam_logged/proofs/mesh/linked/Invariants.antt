use Rattle.std.proofs.Common.{◌≡◌, ◌*◌, drop, map}
use Rattle.seam_logged.specs.Mesh.{AreLinked}
use Rattle.seam_logged.specs.SomeLinks.{Reached}
use Rattle.seam_logged.proofs.mesh.linked.Given as goal

abbrev pub invariant-loop-from : goal.invariant-loop-from
invariant-loop-from g l = record {
  reached : Reached l.n l.from 0 l.ends.items;
  rest : l.rest.items ≡ drop (l.from * l.n) l.fn.links.items;
  linked : AreLinked l.n (map (λ v. v.items) l.fn.links.items) l.ends.items;
}

use Rattle.std.proofs.Common.{arith, inl, inr, refl}
use Rattle.seam_io.proofs.Copies.{contains_found}
use Rattle.seam_io.proofs.memory.MemSinkSink.write.Goals.{then-count-eq0-via-then-count-eq0}
use Rattle.seam_io.proofs.memory.MemSinkSink.write.Goals.{then-count-eq0-via-else-count-eq0+then-contains}
use Rattle.seam_io.proofs.memory.MemSinkSink.write.Goals as goal

pub returns-then-count-eq0-clause-fails : goal.returns-then-count-eq0-clause-fails
returns-then-count-eq0-clause-fails c =
    let within = c.self.invariant in
    let fits = c.self.inside.bytes.ok.0 in (
      λ _. elim c.then-count-eq0.branch [
        | then-count-eq0-via-then-count-eq0 w ↦ inl (rw (← c.self.view_is) (let zero = w.if-count-eq0.true in omega arith))
        | then-count-eq0-via-else-count-eq0+then-contains w ↦ inr
            (rw (← c.self.view_is) (contains_found _ _ (rw w.deref.ensures.value at w.if-contains.ensures.cases)))
      ],
      λ _. refl,
    )

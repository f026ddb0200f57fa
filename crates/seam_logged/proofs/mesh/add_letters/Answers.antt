use Rattle.std.proofs.Common.{◌∙◌, ◌∷◌, ◌++◌, [], ap, sym, append_assoc}
use Rattle.seam_stamp.specs.Acts.{items}
use Rattle.seam_stamp.proofs.Moves.{items_append}
use Rattle.seam_logged.proofs.mesh.add_letters.Goals as goal

pub loop-letter-preserved : goal.loop-letter-preserved
loop-letter-preserved g c =
    let old = c.args.link.now.items in
    let done = c.loop-letter.yielded in
    let next = c.in-Some.letter ∷ [] in
    c.in_ok-push.ensures.items ∙ (ap (λ l. l ++ items next) c.loop-letter.invariant
    ∙ (append_assoc old (items done) (items next) ∙ ap (λ l. old ++ l) (sym (items_append done next))))

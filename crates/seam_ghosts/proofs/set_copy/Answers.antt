use Rattle.std.proofs.Common.{◌<◌, ℕ, Some, ap, sym, subst, ◌∙◌, arith}
use Rattle.seam_ghosts.specs.Joined.{book_of}
use Rattle.seam_ghosts.proofs.Joins.{book_put}
use Rattle.seam_ghosts.proofs.Messages.{heard}
use Rattle.seam_ghosts.proofs.set_copy.Goals as goal

pub returns-in-Ok-clause-after : goal.returns-in-Ok-clause-after
returns-in-Ok-clause-after g c =
    let copies = c.args.copies.now in
    let dropped = c.args.dropped.now in
    let e = c.args.e in
    ap (λ t. book_of t dropped) c.in-Ok.ensures.after
    ∙ book_put copies dropped e (record { beat = c.args.beat; copy = c.args.copy })
    ∙ sym (heard (book_of copies dropped) e (record { beat = c.args.beat; copy = Some c.args.copy })
    (subst (λ (n : ℕ). n < c.args.beat) c.known_beat.ensures (omega (arith, c.if-beat-known_beat.false))))

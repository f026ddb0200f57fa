use Rattle.std.proofs.Common.{◌<◌, ℕ, None, sym, subst, ◌∙◌, arith}
use Rattle.seam_ghosts.specs.Joined.{book_of}
use Rattle.seam_ghosts.proofs.Joins.{book_dropped}
use Rattle.seam_ghosts.proofs.Messages.{heard}
use Rattle.seam_ghosts.proofs.drop_at.Goals as goal

pub returns-clause-after : goal.returns-clause-after
returns-clause-after g c =
    let copies = c.args.copies.now in
    let dropped = c.args.dropped.now in
    let e = c.args.e in
    (λ i. book_of (c.remove.ensures.after i) (c.in-Ok.ensures.after i))
    ∙ book_dropped copies dropped e c.args.beat
    ∙ sym (heard (book_of copies dropped) e (record { beat = c.args.beat; copy = None })
    (subst (λ (n : ℕ). n < c.args.beat) c.known_beat-known.ensures (omega (arith, c.if-known-beat.false))))

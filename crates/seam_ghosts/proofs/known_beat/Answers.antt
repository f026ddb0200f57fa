use Rattle.std.proofs.Common.{sym, ap, ◌∙◌}
use Rattle.std.specs.FinMap as map
use Rattle.seam_ghosts.specs.Book.{beat_in}
use Rattle.seam_ghosts.proofs.Joins.{ghost_of, beat_joined}
use Rattle.seam_ghosts.proofs.known_beat.Goals as goal

pub returns-in-Some : goal.returns-in-Some
returns-in-Some g c =
    ap (λ o. beat_in (ghost_of o (map.get c.args.dropped.now.items c.args.e))) c.in-Some.ensures.item
    ∙ sym (beat_joined c.args.copies.now.items c.args.dropped.now.items c.args.e)

pub returns-in-Some-get : goal.returns-in-Some-get
returns-in-Some-get g c =
    (λ i. beat_in (ghost_of (c.in-None.ensures.item i) (c.in-Some-get.ensures.item i)))
    ∙ sym (beat_joined c.args.copies.now.items c.args.dropped.now.items c.args.e)

pub returns-in-None-get : goal.returns-in-None-get
returns-in-None-get g c =
    (λ i. beat_in (ghost_of (c.in-None.ensures.item i) (c.in-None-get.ensures.item i)))
    ∙ sym (beat_joined c.args.copies.now.items c.args.dropped.now.items c.args.e)

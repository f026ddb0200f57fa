use Rattle.seam_words.proofs.Pieces.{one_more}
use Rattle.seam_words.proofs.splitting.after_pieces.Goals as goal

pub loop-rest-preserved : goal.loop-rest-preserved
loop-rest-preserved c =
    one_more c.args.bytes.now c.loop-rest.invariant.0 c.loop-rest.rest.now c.in-Some.after.now c.loop-rest.invariant.1
    c.loop-rest.invariant.2 c.in-Some.ensures.piece

use Rattle.std.proofs.Common.{rules, ◌-◌, length, take, drop}
use Rattle.seam_words.specs.WordParts.{ClosesWord}
use Rattle.seam_words.proofs.Pieces.{quoted_first, drop_first, quoted_word, open_quote}
use Rattle.seam_words.proofs.splitting.after_quoted.Goals as goal

pub returns-then-closes_word-clause-word : goal.returns-then-closes_word-clause-word
returns-then-closes_word-clause-word c =
    let closes : ClosesWord c.in_ok-rest.rest.now = search rules in
    rw drop_first (quoted_word c.args.bytes.now (take (length c.args.bytes.now - 1) (drop 1 c.args.bytes.now)) c.in_ok-rest.rest.now
    (quoted_first c.args.bytes.now c.requires) c.in_ok-rest.ensures.pieces closes)

pub returns-else-closes_word-clause-fault : goal.returns-else-closes_word-clause-fault
returns-else-closes_word-clause-fault c =
    let unclosed : ¬ (ClosesWord c.in_ok-rest.rest.now) = search rules in
    open_quote c.args.bytes.now (take (length c.args.bytes.now - 1) (drop 1 c.args.bytes.now)) c.in_ok-rest.rest.now
    (quoted_first c.args.bytes.now c.requires) c.in_ok-rest.ensures.pieces unclosed

use Rattle.std.proofs.Common.{rules, ◌≡◌, true, false}
use Rattle.std.specs.Prelude.{slice_index, ◌==◌}
use Rattle.seam_words.specs.Words.{is_plain}
use Rattle.seam_words.proofs.Runs.{HasRun, has_run, plain_word, quote_inside}
use Rattle.seam_words.proofs.splitting.after_word.Goals as goal

pub returns-then-not-begins_with_quote-clause-word : goal.returns-then-not-begins_with_quote-clause-word
returns-then-not-begins_with_quote-clause-word c =
    let run : HasRun is_plain c.args.bytes.now c.after_plain_bytes-rest.result.now =
    rw c.after_plain_bytes-rest.ensures (has_run is_plain c.args.bytes.now) in
    let no_quote : (slice_index c.after_plain_bytes-rest.result.now 0 == 34) ≡ false = search rules in
    plain_word c.args.bytes.now c.after_plain_bytes-rest.result.now c.requires run no_quote

pub returns-else-rest-bytes-clause-fault : goal.returns-else-rest-bytes-clause-fault
returns-else-rest-bytes-clause-fault c =
    let run : HasRun is_plain c.args.bytes.now c.after_plain_bytes-rest.result.now =
    rw c.after_plain_bytes-rest.ensures (has_run is_plain c.args.bytes.now) in
    let quote : (slice_index c.after_plain_bytes-rest.result.now 0 == 34) ≡ true = search rules in
    quote_inside c.args.bytes.now c.after_plain_bytes-rest.result.now run c.if-rest-bytes.false quote

use Rattle.std.proofs.Common.{rules}
use Rattle.std.specs.Str.{IsAscii}
use Rattle.std.proofs.lemmas.Str.{IsUtf8-from_ascii}
use Rattle.seam_words.proofs.splitting.is_utf8.Goals as goal

pub returns-then-is_ascii : goal.returns-then-is_ascii
returns-then-is_ascii c =
    let ascii : IsAscii c.args.bytes.now = search rules in
    (λ _. IsUtf8-from_ascii c.args.bytes.now ascii, λ _. c.if-is_ascii.true)

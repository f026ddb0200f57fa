use Rattle.std.proofs.Common.{◌≡◌, ◌<◌, ◌≤◌, ◌++◌, ◌∷◌, [], length, length-append, sym, ap, subst, arith, inl}
use Rattle.std.proofs.lemmas.Option.{same_Some}
use Rattle.seam_io.specs.Lines.{Content}
use Rattle.seam_toml.specs.declared.documents.TheConstants.{MOST_HEADER_BYTES}
use Rattle.seam_rule_lines.specs.Header.{AreHeaderLines}
use Rattle.seam_rule_lines.proofs.HeaderLemmas.{with_line, too_long_for_header}
use Rattle.seam_accept.proofs.header.HeaderLines.read_line.Goals as goal

pub returns-then-len-line-ge-MOST_HEADER_BYTES-clause-refused : goal.returns-then-len-line-ge-MOST_HEADER_BYTES-clause-refused
returns-then-len-line-ge-MOST_HEADER_BYTES-clause-refused c lines k are is =
    let text = c.args.self.now in
    let line = c.args.line.now in
    let held : length c.self.inside.text.items ≡ length text = ap length c.self.view_is in
    let size = length-append text (line ++ 10 ∷ []) in
    let feed = length-append line (10 ∷ []) in
    let all = length-append (text ++ line) (10 ∷ []) in
    let both = length-append text line in
    let len = c.len.ensures in
    let items = c.self.inside.text.ok.0 in
    let more = c.if-len-line-ge-MOST_HEADER_BYTES.true in
    let long : MOST_HEADER_BYTES < length (text ++ line ++ 10 ∷ []) = omega (arith, held, all, both, len, items, more) in
    inl (sym (same_Some 9 k is), c.if-is_separator.ensures, (text, are), too_long_for_header lines text line are long)

pub returns-in-Ok-clause-reads : goal.returns-in-Ok-clause-reads
returns-in-Ok-clause-reads c lines are =
    let text = c.args.self.now in
    let line = c.args.line.now in
    let held : length c.self.inside.text.items ≡ length text = ap length c.self.view_is in
    let all = length-append (text ++ line) (10 ∷ []) in
    let both = length-append text line in
    let len = c.len.ensures in
    let items = c.self.inside.text.ok.0 in
    let fewer = c.if-len-line-ge-MOST_HEADER_BYTES.false in
    let most : length (text ++ line ++ 10 ∷ []) ≤ MOST_HEADER_BYTES = omega (arith, held, all, both, len, items, fewer) in
    subst (AreHeaderLines (lines ++ Content line ∷ [])) (sym c.in-Ok.ensures) (with_line lines text line are c.if-is_separator.ensures most)

use Rattle.std.proofs.Common.{◌∙◌, sym, ap, map, length, List, Bor}
use Rattle.seam_call.specs.declared.shown.Line.{Line}
use Rattle.seam_rule_rounds.specs.Lines.{ClientLine}
use Rattle.seam_judge_data.specs.Standings.{standing_of}
use Rattle.std.proofs.lemmas.List.{length-map}
use Rattle.seam_judge_rounds.proofs.ShownLines.{client_decided, typed_of, right_of, bases_of}
use Rattle.seam_judge_rounds.proofs.clients.shows_client.Goals as goal

pub returns : goal.returns
returns c =
    let h = c.args.case.now.header.now in
    let s = standing_of c.args.case.now.before.now in
    let t = standing_of c.args.case.now.after.now in
    let told = c.in_ok-told.told.items in
    let told_are = c.in_ok-told.ensures ∙ ap (λ (ls : List (Bor ClientLine)). map (λ l. l.line) (map (λ l. l.now) ls)) c.deref.ensures.value
    in
    client_decided h s c.args.case.now.round.now t c.args.create c.in_ok-lines.lines.items told c.in_ok-lines.ensures told_are
    (length c.as_slice.result.now) c.deref-3.result.now c.have_type-typed.result c.are_counted-numbered.result c.in_ok-right.right
    c.in_ok-bases.bases c.both.result c.both-2.result c.both-3.result
    (ap length c.as_slice.ensures.value ∙ sym (length-map c.in_ok-former.former.items (λ l. l.now)) ∙ ap length c.in_ok-former.ensures)
    (c.deref-3.ensures.value ∙ c.in_ok-numbers.ensures ∙ ap (λ (ls : List (Bor Line)). map (λ l. l.number) (map (λ l. l.now) ls))
    c.deref-2.ensures.value)
    (typed_of c.args.create c.in_ok-lines.lines.items c.deref-6.result.now c.have_type-typed.result c.deref-6.ensures.value
    c.have_type-typed.ensures)
    c.are_counted-numbered.ensures
    (right_of h s t c.args.create told c.deref-4.result.now c.in_ok-right.right c.deref-4.ensures.value c.in_ok-right.ensures)
    (bases_of h s t c.args.create told c.deref-5.result.now c.in_ok-bases.bases c.deref-5.ensures.value c.in_ok-bases.ensures)
    c.both.ensures c.both-2.ensures c.both-3.ensures

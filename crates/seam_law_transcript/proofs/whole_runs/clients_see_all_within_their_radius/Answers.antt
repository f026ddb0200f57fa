use Rattle.seam_law_transcript.proofs.Prelude.{ap, sym, ◌∙◌, rows_but, look_by, rows_of, replica_of}
use Rattle.seam_law_transcript.proofs.Truly.{truly_then, shows_present}
use Rattle.seam_law_transcript.proofs.whole_runs.clients_see_all_within_their_radius.Goals as goal

pub returns : goal.returns
returns c h s tree w g r t legal e own shown is =
    let others = rows_but e (rows_of h t.orders legal.live) in
    shows_present h s.book t.orders legal.live legal.listed e (replica_of h t e)
    (truly_then c.lines_follow_lines.ensures h s r t legal g.truly e) own is
    (c.look_shows_the_table.ensures (replica_of h t e) own others
    (sym (ap (λ o. look_by (replica_of h t e) o others) is) ∙ legal.looked.nothing_left e shown))

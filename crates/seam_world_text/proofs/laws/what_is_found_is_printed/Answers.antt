use Rattle.std.proofs.Common.{◌≡◌, None, subst, ap, ◌∙◌}
use Rattle.std.specs.Prelude.{if◌then◌else◌}
use Rattle.seam_defs.specs.declared.flags.Part.TheVariants as part
use Rattle.seam_rule_rounds.specs.Prelude.{tree_of, told_in}
use Rattle.seam_law_book.specs.Prelude.{ghosts_read}
use Rattle.seam_law_transcript.specs.Prelude.{data_of, standing_of, homes_read, base_if, bases_read, lines_shown}
use Rattle.seam_law_book.proofs.Ended.{live_ended}
use Rattle.seam_world_text.specs.Finding.{home_line_at, homes_found, bases_found, ghost_lines_at, ghosts_found}
use Rattle.seam_world_text.specs.Finding.{lines_found}
use Rattle.seam_world_text.specs.Told.{ShowOf}
use Rattle.seam_world_text.proofs.Versions.{versions_of, lines_are_of, all_are_of}
use Rattle.seam_world_text.proofs.Routes.{homes_are_found, bases_are_found, ghosts_are_found, lines_are_found, nowhere, home_is}
use Rattle.seam_world_text.proofs.Played.{done_is_printed, left_is_printed, shown_is_printed, shown_is_counted, is_nowhere, has_no_part}
use Rattle.seam_world_text.proofs.laws.what_is_found_is_printed.Goals as goal

pub returns-clause-did : goal.returns-clause-did
returns-clause-did c h s tree w v p bounds rs present =
    let rest = c.a_round_is_read_at_rest.ensures h s tree w v p in
    done_is_printed s.book rs present h (tree_of s.book) p.beside.legal.in_range.some_bases p.round.called rest.called part.Cell p.made
    p.made_listed (rest.idle part.Cell)

pub returns-clause-dob : goal.returns-clause-dob
returns-clause-dob c h s tree w v p bounds rs present =
    let rest = c.a_round_is_read_at_rest.ensures h s tree w v p in
    done_is_printed s.book rs present h (tree_of s.book) p.beside.legal.in_range.some_bases p.round.called rest.called part.Base p.made
    p.made_listed (rest.idle part.Base)

pub returns-clause-homes : goal.returns-clause-homes
returns-clause-homes c h s tree w v p bounds rs present =
    let rest = c.a_round_is_read_at_rest.ensures h s tree w v p in
    let t = tree_of s.book in
    let some = p.beside.legal.in_range.some_bases in
    left_is_printed s.book rs present (homes_found v) (homes_read v) p.live p.live_listed
    (λ x dies. ap (home_line_at x.entity) (nowhere h t some v rest.ended x.entity (is_nowhere h s.book t v rest.goes x.entity dies)))
    (λ x has. homes_are_found h t some v rest.ended x.entity)

pub returns-clause-bases : goal.returns-clause-bases
returns-clause-bases c h s tree w v p bounds rs present =
    let rest = c.a_round_is_read_at_rest.ensures h s tree w v p in
    let t = tree_of s.book in
    let some = p.beside.legal.in_range.some_bases in
    left_is_printed s.book rs present (bases_found v) (bases_read h v) p.live p.live_listed
    (λ x dies. ap (base_if x.entity) (has_no_part h s.book t v rest.goes x.entity dies))
    (λ x has. bases_are_found h t some v rest.ended x.entity)

pub returns-clause-ghosts : goal.returns-clause-ghosts
returns-clause-ghosts c h s tree w v p bounds rs present =
    let rest = c.a_round_is_read_at_rest.ensures h s tree w v p in
    let b = s.book in
    let t = tree_of b in
    let some = p.beside.legal.in_range.some_bases in
    left_is_printed b rs present (ghosts_found v) (λ e. ghosts_read e v) p.live p.live_listed
    (λ x dies. ap (ghost_lines_at x.entity) (nowhere h t some v rest.ended x.entity (is_nowhere h b t v rest.goes x.entity dies)))
    (λ x has.
    let held = rest.goes.live x.entity x (live_ended b x.entity ∙ (p.live_listed.exact x).0 has) in
    ghosts_are_found h t some v rest.ended x.entity held.cell held.real held.here rest.copies)

pub returns-clause-routes : goal.returns-clause-routes
returns-clause-routes c h s tree w v p =
    let rest = c.a_round_is_read_at_rest.ensures h s tree w v p in
    let some = p.beside.legal.in_range.some_bases in
    (home_is h (tree_of s.book) some p.round.called rest.called, home_is h (tree_of s.book) some v rest.ended)

pub returns-clause-shown : goal.returns-clause-shown
returns-clause-shown c h s tree w v p bounds rs present kept farewells =
    let rest = c.a_round_is_read_at_rest.ensures h s tree w v p in
    shown_is_printed s.book rs present h (tree_of s.book) p.beside.legal.in_range.some_bases p.round.called v rest.called rest.ended p.made
    p.made_listed kept farewells

pub returns-clause-versions : goal.returns-clause-versions
returns-clause-versions c h s tree w v p rs present kept farewells =
    let rest = c.a_round_is_read_at_rest.ensures h s tree w v p in
    let t = standing_of h s tree w v p None s.book in
    let called = p.round.called in (
      versions_of h s t,
      all_are_of (versions_of h s t) s.book rs present called v kept h.defs farewells
          (λ x made shown lives.
          let told : told_in (data_of h s tree w v p None) x.entity ≡ lines_found v x.entity =
          c.client_lines_are_gathered.ensures.told h s tree w v p None x made shown
          ∙ ap (λ dies. if dies then lines_shown h called x.entity else lines_shown h v x.entity) lives
          ∙ lines_are_found h (tree_of s.book) p.beside.legal.in_range.some_bases v rest.ended x.entity in
          subst (ShowOf (versions_of h s t)) told
          (lines_are_of h s t x (told_in (data_of h s tree w v p None) x.entity)
          (c.what_clients_are_shown_is_right.ensures h s tree w v p None s.book x made shown).true_)),
    )

pub returns-clause-count : goal.returns-clause-count
returns-clause-count c h s tree w v p bounds rs present kept farewells =
    let rest = c.a_round_is_read_at_rest.ensures h s tree w v p in
    shown_is_counted s.book rs present h (tree_of s.book) p.beside.legal.in_range.some_bases p.round.called v rest.called rest.ended p.made
    p.made_listed kept farewells

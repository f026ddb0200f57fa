use Rattle.seam_law_transcript.proofs.Prelude.{◌≡◌, ℕ, [], ◌∷◌, ◌++◌, sym, ap, ◌∙◌, arith, length-append, append-nil, find, ◌==◌, option_or}
use Rattle.seam_law_transcript.proofs.Prelude.{none-some, opened, with_line, with_entry, creates_of, after_header, replica_of, created_with}
use Rattle.seam_law_transcript.proofs.Prelude.{has_none, entity_flow, real_in, IsFrame, first_frame, empty, accepts, one_cell_tree}
use Rattle.seam_law_transcript.proofs.Prelude.{opened_is_new}
use Rattle.seam_defs.specs.declared.flags.Part.TheVariants as part
use Rattle.seam_law_transcript.proofs.Truly.{new_is_true, truly_later}
use Rattle.seam_law_transcript.proofs.whole_runs.a_course_begins_and_goes_on.Goals as goal

pub returns-clause-opened : goal.returns-clause-opened
returns-clause-opened c h count legal defs =
    let frame : IsFrame (first_frame h.defs h.settings) = record { defs = defs; tree = one_cell_tree h legal; later = tt } in
    let bounded = c.a_round_keeps_what_bounds_it.ensures.opened h.defs h.settings frame legal.in_range.some_bases in
    let new : (e k : ℕ) → (entity_flow e (opened h.defs h.settings)).slot k ≡ has_none =
    opened_is_new h.defs h.settings frame legal.in_range.some_bases in
    record {
      legal = legal;
      of_lines = empty;
      between = c.a_standing_goes_with_a_world_before_its_round.ensures.opened h count legal defs;
      truly = λ e. new_is_true h (after_header h count).book (after_header h count).orders e h.settings;
      bounded = record { nothing = bounded.0; sees = bounded.1 };
      counted = record { entries_ = omega arith; rounds = omega arith };
      few = record {
        reals = λ e k r at. absurd (none-some r (sym (ap real_in (new e k)) ∙ at));
        told = λ e k r at. absurd (none-some r (sym (ap real_in (new e k)) ∙ at));
      };
    }

pub returns-clause-line : goal.returns-clause-line
returns-clause-line c h s tree w g =
    let entries_ = g.counted.entries_ in
    let rounds = g.counted.rounds in
    record {
      legal = g.legal;
      of_lines = g.of_lines;
      between = c.a_standing_goes_with_a_world_before_its_round.ensures.line h s tree w g.between;
      truly = g.truly;
      bounded = g.bounded;
      counted = record { entries_ = omega (arith, entries_); rounds = omega (arith, rounds) };
      few = record { reals = g.few.reals; told = g.few.told };
    }

pub returns-clause-entry : goal.returns-clause-entry
returns-clause-entry c h s tree w x g accepted =
    let b = s.book in
    let entries_ = g.counted.entries_ in
    let rounds = g.counted.rounds in
    let all = length-append b.past (b.current ++ x ∷ []) in
    let were = length-append b.past b.current in
    let more = length-append b.current (x ∷ []) in
    record {
      legal = g.legal;
      of_lines = accepts b x g.of_lines accepted;
      between = c.a_standing_goes_with_a_world_before_its_round.ensures.entry h (with_line s) tree w x
          (c.a_standing_goes_with_a_world_before_its_round.ensures.line h s tree w g.between);
      truly = λ e.
          truly_later h b (with_entry b x) s.orders s.orders
          (λ y made is. created_with b x y ∙ ap (λ o. option_or o (find (λ d. d.entity == y) (creates_of (x ∷ [])))) is)
          (λ y. ([], sym (append-nil (s.orders part.Cell y)))) e (replica_of h s e) (g.truly e);
      bounded = g.bounded;
      counted = record { entries_ = omega (arith, entries_, all, were, more); rounds = omega (arith, rounds, more) };
      few = record { reals = g.few.reals; told = g.few.told };
    }

use Rattle.seam_law_transcript.proofs.Prelude.{◌≡◌, ℕ, refl, sym, ap, ◌∙◌, none-some, one_cell_tree, opened, after_header, replica_of}
use Rattle.seam_law_transcript.proofs.Prelude.{has_none, entity_flow, real_in, IsFrame, first_frame, base_node, opened_is_new}
use Rattle.seam_law_transcript.proofs.legal_rounds.a_standing_goes_with_a_world_before_its_round.Goals as goal

pub returns-clause-opened : goal.returns-clause-opened
returns-clause-opened c h count legal defs =
    let frame : IsFrame (first_frame h.defs h.settings) = record { defs = defs; tree = one_cell_tree h legal; later = tt } in
    let w = opened h.defs h.settings in
    let new : (e k : ℕ) → (entity_flow e w).slot k ≡ has_none = opened_is_new h.defs h.settings frame legal.in_range.some_bases in
    record {
      keeps = c.an_opened_world_keeps_the_records.ensures h.defs h.settings frame legal.in_range.some_bases legal.reach
          (replica_of h (after_header h count));
      goes = c.an_empty_book_goes_with_an_opened_world.ensures h legal defs;
      before = record {
        full = λ p e sender. refl;
        reals = λ e k r made at lives. absurd (none-some r (sym (ap real_in (new e k)) ∙ at));
        parts = λ e q made at lives. absurd (none-some q (sym (ap (λ a. a.base.part) (new e (base_node h e))) ∙ at));
      };
      places = λ e k r at. absurd (none-some r (sym (ap real_in (new e k)) ∙ at));
      numbers = λ e q x at has. absurd (none-some q (sym (ap (λ a. a.base.part) (new e (base_node h e))) ∙ at));
      untold = λ e never. refl;
    }

pub returns-clause-line : goal.returns-clause-line
returns-clause-line c h s tree w g = record {
  keeps = g.keeps;
  goes = g.goes;
  before = g.before;
  places = g.places;
  numbers = g.numbers;
  untold = g.untold;
}

pub returns-clause-entry : goal.returns-clause-entry
returns-clause-entry c h s tree w x g = record {
  keeps = g.keeps;
  goes = g.goes;
  before = record { full = g.before.full; reals = g.before.reals; parts = g.before.parts };
  places = g.places;
  numbers = g.numbers;
  untold = g.untold;
}

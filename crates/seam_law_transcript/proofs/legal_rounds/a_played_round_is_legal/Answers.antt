use Rattle.seam_law_transcript.proofs.Prelude.{None, Some, refl, sym, subst, with_round_ended, with_tree, standing_of}
use Rattle.seam_law_transcript.specs.Playing.{ContinuesLines}
use Rattle.seam_law_transcript.proofs.legal_rounds.a_played_round_is_legal.Goals as goal

pub returns-clause-with_bounds : goal.returns-clause-with_bounds
returns-clause-with_bounds c h s tree w v p bounds next bound =
    let its = c.a_played_round_is_legal_but_for_clients.ensures h s tree w v p bounds next in
    let t = standing_of h s tree w v p bounds next in
    record {
      number = refl;
      did = its.did;
      dob = its.dob;
      live = p.live;
      listed = p.live_listed;
      places = its.places;
      homes = its.homes;
      bases = its.bases;
      ghosts = its.ghosts;
      shown = record {
        rising = c.client_lines_are_gathered.ensures.rising h s tree w v p bounds;
        only = c.client_lines_are_gathered.ensures.only h s tree w v p bounds;
        each = λ x is shown.
            let so = subst (ContinuesLines h s t x v) (sym (c.client_lines_are_gathered.ensures.told h s tree w v p bounds x is shown))
            (c.clients_are_shown_base_parts.ensures h s tree w v p bounds next x is shown) in
            record {
              types = c.client_lines_are_gathered.ensures.types h s tree w v p bounds x is shown;
              numbers = so.numbers;
              right = c.what_clients_are_shown_is_right.ensures h s tree w v p bounds next x is shown;
              bases = so.bases;
            };
        told = λ e. refl;
      };
      looked = record {
        nothing_left = c.a_look_after_the_round_shows_nothing.ensures h s tree w v p bounds next;
        one_each = c.without_a_tick_each_client_is_shown_one_look.ensures h s tree w v p bounds next;
      };
      bounds = bound;
      lines = refl;
      rounds = refl;
    }

pub returns-clause-kept : goal.returns-clause-kept
returns-clause-kept c h s tree w v p none =
    returns-clause-with_bounds c h s tree w v p None (with_round_ended s.book)
    (c.the_next_round_has_the_tree_of_the_rules.ensures.kept h s tree w v p none)

pub returns-clause-balanced : goal.returns-clause-balanced
returns-clause-balanced c h s tree w v p u some balanced =
    returns-clause-with_bounds c h s tree w v p (Some u) (with_tree (with_round_ended s.book) u)
    (c.the_next_round_has_the_tree_of_the_rules.ensures.balanced h s tree w v p u some balanced)

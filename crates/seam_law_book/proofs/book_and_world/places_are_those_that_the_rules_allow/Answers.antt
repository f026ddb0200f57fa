use Rattle.seam_law_book.proofs.Prelude.{◌≡◌, ℕ, ◌++◌, None, Some, sym, ap, ◌∙◌, subst, RealView, loaded, created_as, real_at, framed}
use Rattle.seam_law_book.proofs.Prelude.{first_place, made_real, IsRightPlace, clients_loaded, clients_shown, as_begun, IsUntouched}
use Rattle.seam_law_book.proofs.Prelude.{frame_of, done_in, batch_of, search_real, may_begin}
use Rattle.seam_defs.specs.declared.flags.Part.TheVariants as part
use Rattle.seam_law_book.proofs.Adding.{all_turn}
use Rattle.seam_law_book.proofs.Present.{live_is_present}
use Rattle.seam_law_book.proofs.Untouched.{orderly}
use Rattle.seam_law_book.proofs.Given.{present_one}
use Rattle.seam_law_book.proofs.Started.{real_comes}
use Rattle.seam_law_book.proofs.Done.{began_by, done_cell}
use Rattle.seam_law_book.proofs.Placing.{placed_by}
use Rattle.seam_law_book.proofs.book_and_world.places_are_those_that_the_rules_allow.Goals as goal

pub returns : goal.returns
returns c h s t tree clients w play before there v round orders left x k q at lives =
    let f = frame_of h tree in
    let b = s.book in
    let B = batch_of h b in
    let g = framed f B in
    let some = play.legal.in_range.some_bases in
    let R = c.lines_bring_what_fits.ensures.brings h b play.legal play.of_lines in
    let begun = c.lines_bring_what_fits.ensures.begun h b play.of_lines in
    let untouched : (e : ℕ) → created_as (as_begun b) e ≡ None → IsUntouched (as_begun b) e =
    λ e none. c.uncreated_numbers_are_untouched.ensures h (as_begun b) play.legal begun e none in
    let may = c.what_lines_bring_fits.ensures.given h b tree clients w play in
    let present = present_one h some b tree w play.keeps.reals play.goes R untouched play.few play.room in
    let then = clients_shown g (clients_loaded f B clients) round.called in
    let laws = c.calls_obey_the_laws.ensures.laws f clients w play.keeps B may round.call_events round.called round.calls in
    let ends = c.calls_obey_the_laws.ensures.ends f clients w play.keeps B may round.call_events round.called round.calls round.calls_done
    in
    let called = c.calls_obey_the_laws.ensures.records f clients w play.keeps B may round.call_events round.called round.calls
    round.calls_done in
    let reaped = c.reaps_obey_the_laws.ensures.records g then round.called called round.gone round.may round.reap_events round.reaped
    round.reaps round.reaps_done in
    let e = x.entity in
    let last = c.the_last_phases_leave_places.ensures.looks g round.reaped reaped.records.reals round.look_events v round.looks e k q at in
    let first = c.the_last_phases_leave_places.ensures.reaps g round.called called.records.reals round.gone round.may round.reap_events
    round.reaped round.reaps e k last.real last.here in
    let p = began_by h some b tree clients w play.keeps may play.goes R untouched play.few present round.called round.call_events
    round.calls laws ends then
    called e k first.real first.here (search_real e (loaded w B)) in
    let done : done_in h round.called part.Cell e ≡ q.done =
    done_cell h some b tree clients w play.keeps may play.goes R untouched play.few present round.called round.call_events round.calls
    laws ends then called e
    k first.real first.here ∙ sym (ap (λ (y : RealView). y.done) last.same ∙ ap (λ (y : RealView). y.done) first.same) in
    placed_by h some s tree clients w play.keeps may play.goes R untouched play.few present (orderly h (as_begun b) play.legal
    begun).senders
    before.full before.reals there t k q x lives (ap (λ o. o part.Cell e) orders ∙ ap (λ l. s.orders part.Cell e ++ l) done) (left e k q
    at) (record {
      kept = λ home r here. c.a_round_leaves_right_places.ensures.kept f w B (may_begin play.keeps may) v round e home r here k q at;
      made = all_turn (λ y. (j : ℕ) (z : RealView) → real_at y.entity v j ≡ Some z →
          IsRightPlace f B.tree (first_place B.tree y) (made_real f B.tree y) j z)
          (λ y. y.entity ≡ e → IsRightPlace f B.tree (first_place B.tree y) (made_real f B.tree y) k q)
          (λ y right same. right k q (subst (λ d. real_at d v k ≡ Some q) (sym same) at)) B.creates
          (c.a_round_leaves_right_places.ensures.made f w B (may_begin play.keeps may) v round);
    }) p.0 p.1 (real_comes h some b tree clients w play.keeps may play.goes R untouched play.few present e p.0 p.1 p.2) (live_is_present b
    e x lives)

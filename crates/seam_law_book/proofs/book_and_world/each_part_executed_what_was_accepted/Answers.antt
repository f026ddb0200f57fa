use Rattle.seam_law_book.proofs.Prelude.{◌≡◌, ℕ, None, refl, created_as, framed, clients_loaded, clients_shown, as_begun, IsUntouched}
use Rattle.seam_law_book.proofs.Prelude.{frame_of, done_in, batch_of}
use Rattle.seam_law_book.proofs.Given.{present_one}
use Rattle.seam_law_book.proofs.Done.{all_executed, done_on}
use Rattle.seam_law_book.proofs.book_and_world.each_part_executed_what_was_accepted.Goals as goal

pub returns-clause-full : goal.returns-clause-full
returns-clause-full c h b t clients w play es v run quiet orders full p e =
    let f = frame_of h t in
    let B = batch_of h b in
    let some = play.legal.in_range.some_bases in
    let R = c.lines_bring_what_fits.ensures.brings h b play.legal play.of_lines in
    let untouched : (e : ℕ) → created_as (as_begun b) e ≡ None → IsUntouched (as_begun b) e =
    λ e none. c.uncreated_numbers_are_untouched.ensures h (as_begun b) play.legal (c.lines_bring_what_fits.ensures.begun h b
    play.of_lines) e none in
    let may = c.what_lines_bring_fits.ensures.given h b t clients w play in
    all_executed h some b t clients w play.keeps may play.goes R untouched play.few
    (present_one h some b t w play.keeps.reals play.goes R untouched play.few play.room) v es run
    (c.calls_obey_the_laws.ensures.laws f clients w play.keeps B may es v run)
    (λ e home r here k q at. c.calls_obey_the_laws.ensures.ends f clients w play.keeps B may es v run quiet e home r here k q at)
    (clients_shown (framed f B) (clients_loaded f B clients) v)
    (c.calls_obey_the_laws.ensures.records f clients w play.keeps B may es v run quiet) orders full p e

pub returns-clause-on : goal.returns-clause-on
returns-clause-on c h b t clients w play es v run quiet e k q at made there p =
    let f = frame_of h t in
    let B = batch_of h b in
    let some = play.legal.in_range.some_bases in
    let R = c.lines_bring_what_fits.ensures.brings h b play.legal play.of_lines in
    let begun = c.lines_bring_what_fits.ensures.begun h b play.of_lines in
    let untouched : (e : ℕ) → created_as (as_begun b) e ≡ None → IsUntouched (as_begun b) e =
    λ e none. c.uncreated_numbers_are_untouched.ensures h (as_begun b) play.legal begun e none in
    let may = c.what_lines_bring_fits.ensures.given h b t clients w play in
    let present = present_one h some b t w play.keeps.reals play.goes R untouched play.few play.room in
    done_on h some b t clients w play.keeps may play.goes R untouched play.few present v es run
    (c.calls_obey_the_laws.ensures.laws f clients w play.keeps B may es v run)
    (λ x home r here j z is. c.calls_obey_the_laws.ensures.ends f clients w play.keeps B may es v run quiet x home r here j z is)
    (clients_shown (framed f B) (clients_loaded f B clients) v)
    (c.calls_obey_the_laws.ensures.records f clients w play.keeps B may es v run quiet) e k q at made there p

pub returns-clause-lines : goal.returns-clause-lines
returns-clause-lines c h b v orders full made listed p = record {
  made = made;
  listed = listed;
  done = done_in h v p;
  are = refl;
  further = λ e. refl;
  full = full p;
}

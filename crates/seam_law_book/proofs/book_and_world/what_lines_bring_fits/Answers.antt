use Rattle.seam_law_book.proofs.Prelude.{◌≡◌, ℕ, ◌+◌, ◌^◌, ◌<◌, true, None, arith, inl, inr, ◌⊎◌, nat_tests, limit, may_rise, holders}
use Rattle.seam_law_book.proofs.Prelude.{loaded, RealView, created_as, numbers_of, MayBeLoaded, as_begun, IsUntouched, frame_of, batch_of}
use Rattle.seam_law_book.proofs.Prelude.{Somewhere, Nowhere, search_real, may_load}
use Rattle.seam_law_book.proofs.Adding.{all_turn}
use Rattle.seam_law_book.proofs.Given.{may_be_given, present_one}
use Rattle.seam_law_book.proofs.Started.{no_one, made_now, real_comes}
use Rattle.seam_law_book.proofs.Origins.{was, made}
use Rattle.seam_law_book.proofs.Clients.{client_given}
use Rattle.seam_law_book.proofs.book_and_world.what_lines_bring_fits.Goals as goal

pub returns-clause-given : goal.returns-clause-given
returns-clause-given c h b t clients w play =
    may_be_given h play.legal.in_range.some_bases b t w play.keeps.reals play.goes (c.lines_bring_what_fits.ensures.brings h b play.legal
    play.of_lines)
    (λ e none. c.uncreated_numbers_are_untouched.ensures h (as_begun b) play.legal
    (c.lines_bring_what_fits.ensures.begun h b play.of_lines) e none) play.few play.room

pub returns-clause-there : goal.returns-clause-there
returns-clause-there c h b t clients w play e d there =
    let f = frame_of h t in
    let B = batch_of h b in
    let some = play.legal.in_range.some_bases in
    let R = c.lines_bring_what_fits.ensures.brings h b play.legal play.of_lines in
    let begun = c.lines_bring_what_fits.ensures.begun h b play.of_lines in
    let untouched : (e : ℕ) → created_as (as_begun b) e ≡ None → IsUntouched (as_begun b) e =
    λ e none. c.uncreated_numbers_are_untouched.ensures h (as_begun b) play.legal begun e none in
    let may = returns-clause-given c h b t clients w play in
    let present = present_one h some b t w play.keeps.reals play.goes R untouched play.few play.room in
    let loads : MayBeLoaded f w B = may_load play.keeps may in
    let somewhere : Somewhere e (loaded w B) ⊎ Nowhere e (loaded w B) → Somewhere e (loaded w B) = λ s. elim s [
      | inl p ↦ p
      | inr n ↦
          absurd (no_one h some b t clients w play.keeps may play.goes R untouched play.few present e n (present e d there))
    ] in
    let p = somewhere (search_real e (loaded w B)) in
    let had = c.a_base_part_of_a_loaded_world_is_ready.ensures.settled f w B loads e p.0 p.1 p.2 in
    record {
      cell = p.0;
      real = p.1;
      here = p.2;
      base = had.part;
      base_here = had.here;
      client = client_given h some b t clients w play.keeps may play.goes R untouched play.few present e had.part had.here p.0 p.1
          (real_comes h some b t clients w play.keeps may play.goes R untouched play.few present e p.0 p.1 p.2);
    }

pub returns-clause-comes : goal.returns-clause-comes
returns-clause-comes c h b t clients w play e k r at =
    let some = play.legal.in_range.some_bases in
    let R = c.lines_bring_what_fits.ensures.brings h b play.legal play.of_lines in
    let begun = c.lines_bring_what_fits.ensures.begun h b play.of_lines in
    let untouched : (e : ℕ) → created_as (as_begun b) e ≡ None → IsUntouched (as_begun b) e =
    λ e none. c.uncreated_numbers_are_untouched.ensures h (as_begun b) play.legal begun e none in
    let may = returns-clause-given c h b t clients w play in
    let present = present_one h some b t w play.keeps.reals play.goes R untouched play.few play.room in
    elim (real_comes h some b t clients w play.keeps may play.goes R untouched play.few present e k r at) [
      | was others q y here is ↦ (let l = play.goes.reals e k q here in (l.0, inl l.1))
      | made y i ty orders ↦ (y, inr (made_now h some b t clients w play.keeps may play.goes R untouched play.few present e y i))
    ]

rises_by : (beat : ℕ) → beat + 1 < limit → may_rise beat ≡ true
rises_by beat lt = grind (arith, nat_tests, lt)

-- a number of a real that has room may rise
rises : (r : RealView) → numbers_of r < 2 ^ 61 + 2 ^ 60 → may_rise r.beat ≡ true
rises r low = rises_by r.beat (omega (arith, low))

pub returns-clause-reaped : goal.returns-clause-reaped
returns-clause-reaped c h b t clients w keeps may es v run quiet =
    let laws = c.calls_obey_the_laws.ensures.laws (frame_of h t) clients w keeps (batch_of h b) may es v run in
    let within = c.calls_obey_the_laws.ensures.records (frame_of h t) clients w keeps (batch_of h b) may es v run quiet in
    record {
      there = all_turn (λ e. holders (loaded w (batch_of h b)) e ≡ 1) (λ e. holders v e ≡ 1) laws.one_real (batch_of h b).destroys
          may.reals.destroys;
      once = may.reals.ends_once;
      small = λ e k r at. rises r (within.small.reals e k r at);
    }

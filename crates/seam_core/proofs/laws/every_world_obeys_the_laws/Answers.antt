use Rattle.seam_law_all.specs.Prelude.{may_begin}
use Rattle.seam_core.proofs.laws.every_world_obeys_the_laws.Goals as goal

pub returns : goal.returns
returns c v = record {
  calls = λ f clients w b from. c.calls_obey_the_laws.ensures.laws f clients w from.keeps b from.may from.events v from.leads;
  versions = λ f clients w b from e one u es leads k old new.
      c.ghosts_of_a_round_are_true.ensures.versions f w b (may_begin from.keeps from.may) from.keeps.copies v from.events from.leads u es
      leads
      e one k old new;
  hushed = λ f clients w b from e one k q here.
      c.ghosts_of_a_round_are_true.ensures.hushed f w b (may_begin from.keeps from.may) from.keeps.copies v from.events from.leads e one k q
      here;
  reaps = λ f clients u es from. c.reaps_obey_the_laws.ensures.laws f clients u from.keeps es from.may from.events v from.leads;
  until = λ f clients u es from e one.
      c.reaps_end_reals.ensures.counts f u from.keeps.records.reals es from.may from.events v from.leads e one;
  looks = λ f clients u from. c.looks_obey_the_laws.ensures.laws f clients u from.keeps from.events v from.leads;
  ends = λ quiet. record {
    settled = λ f clients w b from. c.calls_obey_the_laws.ensures.ends f clients w from.keeps b from.may from.events v from.leads quiet;
    calls = λ f clients w b from. c.calls_obey_the_laws.ensures.records f clients w from.keeps b from.may from.events v from.leads quiet;
    gone = λ f clients u es from. c.reaps_obey_the_laws.ensures.gone f clients u from.keeps es from.may from.events v from.leads quiet;
    reaps = λ f clients u es from. c.reaps_obey_the_laws.ensures.records f clients u from.keeps es from.may from.events v from.leads quiet;
    shown = λ f clients u from. c.looks_obey_the_laws.ensures.shown f clients u from.keeps from.events v from.leads quiet;
    looks = λ f clients u from. c.looks_obey_the_laws.ensures.records f clients u from.keeps from.events v from.leads quiet;
  };
}

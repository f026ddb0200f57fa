-- What a `client` and a `destroy` are judged to be.
use Rattle.std.proofs.Common.{◌≡◌, ◌≤◌, ◌<◌, ℕ, true, false, List, refl, sym, ◌∙◌, ap, subst, arith, Some, None}
use Rattle.std.specs.Prelude.{IsSome, is_some}
use Rattle.std.proofs.lemmas.Bool.{false≢true}
use Rattle.std.proofs.lemmas.Option.{none-some}
use Rattle.seam_value.specs.NumberWords.{SpellsPositive}
use Rattle.seam_call.specs.declared.create.Create.{Create}
use Rattle.seam_toml.specs.declared.header.Header.{Header}
use Rattle.seam_rule_lines.specs.Language.{Client, Destroy}
use Rattle.seam_rule_lines.specs.Book.{Book, entries, creates_of, live_as, has_client, count_of_clients}
use Rattle.seam_rule_lines.specs.Judging.{NamesLive, HoldsAgainst, IsDead, IsFirst}
use Rattle.seam_rule_lines.specs.declared.verdict.Entry.TheVariants.{Joined, Destroyed}
use Rattle.seam_rule_lines.specs.declared.verdict.Cause.TheVariants as cause
use Rattle.seam_rule_lines.specs.declared.limits.TheConstants.{MOST_CLIENTS}
use Rattle.seam_rule_lines.proofs.BookEntries.{live_is_created}
use Rattle.seam_rule_lines.proofs.InOrderLemmas.{found_entity}
use Rattle.seam_rule_lines.proofs.Verdicts.{positive_is_one}
use Rattle.seam_accept.specs.Judging.{Accepts}
use Rattle.seam_accept.proofs.Causes.{against_client, against_destroy}

-- an entity that is made so lives
pub is_some_of : (b : Book) (e : ℕ) (made : Create) → live_as b e ≡ Some made → IsSome (live_as b e)
is_some_of b e made is = ap is_some is

module _ (h : Header) (b : Book) (w : List ℕ) (e : ℕ) (spells : SpellsPositive w e) where
  number_there : ¬ ((d : ℕ) → ¬ (SpellsPositive w d))
  number_there none = none e spells

  not_dead : (made : Create) → live_as b e ≡ Some made → ¬ (IsDead b w)
  not_dead made is (d, number, none) = none-some made (sym none ∙ ap (live_as b) (positive_is_one w d e number spells) ∙ is)

  named : (made : Create) → live_as b e ≡ Some made → NamesLive b w made
  named made is =
      let same : made.entity ≡ e = found_entity (creates_of (entries b)) e made (live_is_created b e made is) in
      record { number = subst (SpellsPositive w) (sym same) spells; lives = ap (live_as b) same ∙ is }

  alone_there : has_client b e ≡ false → ¬ (HoldsAgainst h b (Client w) cause.Exists)
  alone_there clientless (d, number, has) =
      false≢true (sym clientless ∙ ap (has_client b) (positive_is_one w e d spells number) ∙ has)

  pub exists_first : has_client b e ≡ true → IsFirst (HoldsAgainst h b (Client w)) cause.Exists
  exists_first has = record {
    here = (e, spells, has);
    first = against_client h b w _ (λ k. absurd (number_there k)) (λ k. omega arith) (λ k. omega arith) (λ k. omega arith);
  }

  pub clients_full_first : (made : Create) → live_as b e ≡ Some made → has_client b e ≡ false → MOST_CLIENTS ≤ count_of_clients b →
      IsFirst (HoldsAgainst h b (Client w)) cause.Full
  clients_full_first made is clientless full = record {
    here = (
      made,
      named made is,
      subst (λ (n : ℕ). has_client b n ≡ false)
          (sym (found_entity (creates_of (entries b)) e made (live_is_created b e made is))) clientless,
      full,
    );
    first = against_client h b w _ (λ k. absurd (number_there k)) (λ k. absurd (alone_there clientless k)) (λ k. omega arith)
        (λ k. omega arith);
  }

  pub client_dead_first : live_as b e ≡ None → has_client b e ≡ false → IsFirst (HoldsAgainst h b (Client w)) cause.Dead
  client_dead_first dead clientless = record {
    here = (e, spells, dead);
    first = against_client h b w _ (λ k. absurd (number_there k)) (λ k. absurd (alone_there clientless k))
        (λ (made, names, alone_, full). absurd (none-some made (sym dead
        ∙ ap (live_as b) (positive_is_one w e made.entity spells names.number) ∙ names.lives))) (λ k. omega arith);
  }

  pub client_accepted : (made : Create) → live_as b e ≡ Some made → has_client b e ≡ false → count_of_clients b < MOST_CLIENTS →
      Accepts h b (Client w) (Joined e)
  client_accepted made is clientless room = record {
    none = against_client h b w _ number_there (alone_there clientless) (λ (made, names, alone_, full). omega (arith, full, room))
        (not_dead made is);
    adds = (e, spells, refl);
  }

  pub destroy_dead_first : live_as b e ≡ None → IsFirst (HoldsAgainst h b (Destroy w)) cause.Dead
  destroy_dead_first dead = record {
    here = (e, spells, dead);
    first = against_destroy h b w _ (λ k. absurd (number_there k)) (λ k. omega arith);
  }

  pub destroy_accepted : (made : Create) → live_as b e ≡ Some made → Accepts h b (Destroy w) (Destroyed e)
  destroy_accepted made is =
      record { none = against_destroy h b w _ number_there (not_dead made is); adds = (e, spells, refl) }

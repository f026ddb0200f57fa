-- The lines of the two worked rounds are accepted, and make and leave these entities.
use Rattle.std.proofs.Common.{◌≡◌, ℕ, zero, suc, ◌+◌, Bool, true, false, [], ◌∷◌, length, None, Some, refl, subst, arith, inl, inr, ◌⊎◌}
use Rattle.std.proofs.Common.{cond, take}
use Rattle.std.specs.Prelude.{codes, ◌==◌, ◌||◌, if◌then◌else◌, Contains}
use Rattle.std.proofs.lemmas.Option.{none-some, same_Some}
use Rattle.seam_defs.specs.declared.flags.Part.TheVariants as part
use Rattle.seam_call.specs.declared.sender.Sender.TheVariants as sender
use Rattle.seam_call.specs.declared.create.Create.{Create as CreateData}
use Rattle.seam_rule_rounds.specs.Prelude.{header, Lists}
use Rattle.seam_rule_lines.specs.Language.{Create, Call, Client, Destroy}
use Rattle.seam_rule_lines.specs.Book.{Book, created_as, live_as, accepted}
use Rattle.seam_rule_lines.specs.declared.verdict.Entry.TheVariants as entry
use Rattle.std.specs.List.Sorted.{IsStrictlyIncreasing}
use Rattle.seam_rule_lines.proofs.Lists.{contains_first, contains_later, contains_cases}
use Rattle.seam_node_steps.specs.Prelude.{made_at}
use Rattle.seam_law_transcript.specs.Steps.{AreAccepted, with_all_accepted}
use Rattle.seam_law_transcript.specs.TwoRounds.{begun, between, first, first_entries, second_entries, created_both, alive, the_hit}
use Rattle.seam_rule_lines.proofs.SkipLemmas.{has_words_after_gap}
use Rattle.seam_law_transcript.proofs.AcceptedLines.{IsSaid, Taken, one_is, two_is, x_of_1, x_of_2, no_note, cut_taken, create_taken}
use Rattle.seam_law_transcript.proofs.AcceptedLines.{client_taken, tick_taken, call_taken, destroy_taken}

hit_said : IsSaid (Call (codes "b1") (codes "1") (codes "hit") (codes "1" ∷ []))
hit_said = record {
  clear = refl;
  low = refl;
  few = omega arith;
  texts = refl;
  words = has_words_after_gap (32 ∷ []) 99 (codes "all b1 1 hit 1") refl refl (no_note 99 refl);
}

-- entity 1 is hit for the n-th time
hit_taken : (b : Book) (n : ℕ) → live_as b 1 ≡ Some (made_at 1 4850) → n ≡ length (accepted b part.Cell 1 (sender.Base 1)) + 1 →
    Taken b (entry.Called (the_hit n))
hit_taken b n lives next = call_taken b (codes "1") 1 one_is (made_at 1 4850) refl lives refl n next hit_said

create_said_1 : IsSaid (Create (codes "1") (codes "Avatar") (codes "4850") (codes "1000"))
create_said_1 = record {
  clear = refl;
  low = refl;
  few = omega arith;
  texts = refl;
  words = has_words_after_gap (32 ∷ []) 99 (codes "reate 1 Avatar 4850 1000") refl refl (no_note 99 refl);
}

create_said_2 : IsSaid (Create (codes "2") (codes "Avatar") (codes "5150") (codes "1000"))
create_said_2 = record {
  clear = refl;
  low = refl;
  few = omega arith;
  texts = refl;
  words = has_words_after_gap (32 ∷ []) 99 (codes "reate 2 Avatar 5150 1000") refl refl (no_note 99 refl);
}

client_said_1 : IsSaid (Client (codes "1"))
client_said_1 = record {
  clear = refl;
  low = refl;
  few = omega arith;
  texts = refl;
  words = has_words_after_gap (32 ∷ []) 99 (codes "lient 1") refl refl (no_note 99 refl);
}

client_said_2 : IsSaid (Client (codes "2"))
client_said_2 = record {
  clear = refl;
  low = refl;
  few = omega arith;
  texts = refl;
  words = has_words_after_gap (32 ∷ []) 99 (codes "lient 2") refl refl (no_note 99 refl);
}

destroy_said : IsSaid (Destroy (codes "2"))
destroy_said = record {
  clear = refl;
  low = refl;
  few = omega arith;
  texts = refl;
  words = has_words_after_gap (32 ∷ []) 100 (codes "estroy 2") refl refl (no_note 100 refl);
}

pub first_accepted : AreAccepted header begun first_entries
first_accepted = (
  cut_taken begun.book refl,
  (
    create_taken (with_all_accepted begun (take 1 first_entries)).book (codes "1") (codes "4850") 1 4850 one_is x_of_1 (omega arith) refl
        (omega arith) create_said_1,
    (
      create_taken (with_all_accepted begun (take 2 first_entries)).book (codes "2") (codes "5150") 2 5150 two_is x_of_2 (omega arith) refl
          (omega arith) create_said_2,
      (
        client_taken (with_all_accepted begun (take 3 first_entries)).book (codes "1") 1 one_is (made_at 1 4850) refl refl refl
            (omega arith) client_said_1,
        (
          client_taken (with_all_accepted begun (take 4 first_entries)).book (codes "2") 2 two_is (made_at 2 5150) refl refl refl
              (omega arith) client_said_2,
          (
            hit_taken (with_all_accepted begun (take 5 first_entries)).book 1 refl refl,
            (
              tick_taken (with_all_accepted begun (take 6 first_entries)).book,
              (
                hit_taken (with_all_accepted begun (take 7 first_entries)).book 2 refl refl,
                (
                  destroy_taken (with_all_accepted begun (take 8 first_entries)).book (codes "2") 2 two_is (made_at 2 5150) refl refl
                      destroy_said,
                  tt,
                ),
              ),
            ),
          ),
        ),
      ),
    ),
  ),
)

pub second_accepted : AreAccepted header between second_entries
second_accepted = (hit_taken between.book 3 refl refl, tt)

-- ---- who is created, and who lives

found : (c : CreateData) → cond (1 == c.entity) (Some (made_at 1 4850)) (cond (2 == c.entity) (Some (made_at 2 5150)) None) ≡ Some c →
    (made_at 1 4850 ≡ c) ⊎ (made_at 2 5150 ≡ c)
found c is = by (1 == c.entity) (2 == c.entity) is
  where
    by : (x y : Bool) → cond x (Some (made_at 1 4850)) (cond y (Some (made_at 2 5150)) None) ≡ Some c →
        (made_at 1 4850 ≡ c) ⊎ (made_at 2 5150 ≡ c)
    by true y is = inl (same_Some (made_at 1 4850) c is)
    by false true is = inr (same_Some (made_at 2 5150) c is)
    by false false is = absurd (none-some c is)

in_both : (c : CreateData) → (made_at 1 4850 ≡ c) ⊎ (made_at 2 5150 ≡ c) → Contains created_both c
in_both c (inl is) = subst (Contains created_both) is (contains_first (made_at 1 4850) (made_at 2 5150 ∷ []))
in_both c (inr is) =
    subst (Contains created_both) is
    (contains_later (made_at 1 4850) (made_at 2 5150) (made_at 2 5150 ∷ []) (contains_first (made_at 2 5150) []))

only_one : (x c : CreateData) → Contains (x ∷ []) c → x ≡ c
only_one x c has = by (contains_cases x c [] has)
  where
    by : (x ≡ c) ⊎ Contains [] c → x ≡ c
    by (inl is) = is
    by (inr (k, within, is)) = absurd (omega (arith, within))

of_both : (c : CreateData) → Contains created_both c → created_as first.book c.entity ≡ Some c
of_both c has = by (contains_cases (made_at 1 4850) c (made_at 2 5150 ∷ []) has)
  where
    by : (made_at 1 4850 ≡ c) ⊎ Contains (made_at 2 5150 ∷ []) c → created_as first.book c.entity ≡ Some c
    by (inl is) = subst (λ (d : CreateData). created_as first.book d.entity ≡ Some d) is refl
    by (inr has) =
        subst (λ (d : CreateData). created_as first.book d.entity ≡ Some d) (only_one (made_at 2 5150) c has) refl

pub created_listed : Lists (created_as first.book) created_both
created_listed = record { rising = rise; exact = λ c. (of_both c, (λ is. in_both c (found c is))) }
  where
    rise : IsStrictlyIncreasing (1 ∷ 2 ∷ [])
    rise zero within = omega arith
    rise (suc k) within = absurd (omega (arith, within))

alive_is : (c : CreateData) → live_as first.book c.entity ≡ Some c → made_at 1 4850 ≡ c
alive_is c is = by (1 == c.entity) (2 == c.entity) refl refl is
  where
    by : (x y : Bool) → (1 == c.entity) ≡ x → (2 == c.entity) ≡ y →
        (if (y || false) then None else cond x (Some (made_at 1 4850)) (cond y (Some (made_at 2 5150)) None)) ≡ Some c → made_at 1 4850 ≡ c
    by x true one two is = absurd (none-some c is)
    by true false one two is = same_Some (made_at 1 4850) c is
    by false false one two is = absurd (none-some c is)

pub alive_listed : Lists (live_as first.book) alive
alive_listed = record {
  rising = rise;
  exact = λ c. (
    (λ has. subst (λ (d : CreateData). live_as first.book d.entity ≡ Some d) (only_one (made_at 1 4850) c has) refl),
    (λ is. subst (Contains alive) (alive_is c is) (contains_first (made_at 1 4850) [])),
  );
}
  where
    rise : IsStrictlyIncreasing (1 ∷ [])
    rise zero within = absurd (omega (arith, within))
    rise (suc k) within = absurd (omega (arith, within))

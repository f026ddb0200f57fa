-- What a `create` is judged to be.
use Rattle.std.proofs.Common.{◌≡◌, ◌<◌, ◌≤◌, ℕ, List, length, refl, sym, ◌∙◌, ap, arith, false, Option, Some, None, ◌⊎◌, inl, inr}
use Rattle.std.specs.Prelude.{is_some}
use Rattle.std.proofs.lemmas.Bool.{false≢true}
use Rattle.seam_value.specs.NumberWords.{SpellsNumber, SpellsPositive}
use Rattle.seam_value.proofs.NumberWords.{spells_one_number}
use Rattle.seam_rule_lines.specs.Language.{Create}
use Rattle.seam_toml.specs.declared.header.Header.{Header}
use Rattle.seam_rule_lines.specs.Book.{Book, entries, creates_of, created_as}
use Rattle.seam_rule_lines.specs.Judging.{NamesType, HoldsAgainst, IsFirst}
use Rattle.seam_rule_lines.specs.declared.verdict.Entry.TheVariants.{Created}
use Rattle.seam_rule_lines.specs.declared.verdict.Cause.TheVariants as cause
use Rattle.seam_rule_lines.specs.declared.limits.TheConstants.{MOST_ENTITIES}
use Rattle.seam_rule_lines.proofs.Verdicts.{positive_is_one}
use Rattle.seam_accept.specs.Judging.{Accepts}
use Rattle.seam_accept.proofs.Causes.{against_create}

-- there is nothing where a test for something fails
pub none_of_false : {X : Type 0} (o : Option X) → is_some o ≡ false → o ≡ None
none_of_false None is = refl
none_of_false (Some x) is = absurd (false≢true (sym is))

-- the words of a `create` whose number is new
pub record IsNew (b : Book) (e x z : List ℕ) (entity px pz : ℕ) : Type 0 where
  pub number : SpellsPositive e entity
  pub spelled_x : SpellsNumber x px
  pub spelled_z : SpellsNumber z pz
  pub new : created_as b entity ≡ None

module _ (h : Header) (b : Book) (e n x z : List ℕ) (entity px pz : ℕ) (is : IsNew b e x z entity px pz) where
  all_numbers : ¬ (HoldsAgainst h b (Create e n x z) cause.BadNumber)
  all_numbers (inl none) = none entity is.number
  all_numbers (inr (inl none)) = none px is.spelled_x
  all_numbers (inr (inr none)) = none pz is.spelled_z

  not_there : ¬ (HoldsAgainst h b (Create e n x z) cause.Exists)
  not_there (other, spells, some) =
      false≢true (sym (ap is_some (ap (created_as b) (positive_is_one e other entity spells is.number) ∙ is.new)) ∙ some)

  not_outside : px < h.settings.size → pz < h.settings.size → ¬ (HoldsAgainst h b (Create e n x z) cause.Outside)
  not_outside in_x in_z (m, inl spells, out) =
      let same = spells_one_number x m px spells is.spelled_x in
      omega (arith, same, out, in_x)
  not_outside in_x in_z (m, inr spells, out) =
      let same = spells_one_number z m pz spells is.spelled_z in
      omega (arith, same, out, in_z)

  -- there is no type of the name
  pub no_type_first : ((ty : ℕ) → ¬ (NamesType h.defs n ty)) → IsFirst (HoldsAgainst h b (Create e n x z)) cause.NoType
  no_type_first none = record {
    here = none;
    first = against_create h b e n x z _ (λ k. absurd (all_numbers k)) (λ k. absurd (not_there k)) (λ k. omega arith) (λ k. omega arith)
        (λ k. omega arith);
  }

  module _ (ty : ℕ) (names : NamesType h.defs n ty) where
    -- the position is outside
    pub outside_first : (h.settings.size ≤ px) ⊎ (h.settings.size ≤ pz) → IsFirst (HoldsAgainst h b (Create e n x z)) cause.Outside
    outside_first out = record {
      here = where_out out;
      first = against_create h b e n x z _ (λ k. absurd (all_numbers k)) (λ k. absurd (not_there k)) (λ k. absurd (k ty names))
          (λ k. omega arith) (λ k. omega arith);
    }
      where
        where_out : (h.settings.size ≤ px) ⊎ (h.settings.size ≤ pz) → HoldsAgainst h b (Create e n x z) cause.Outside
        where_out (inl above) = (px, inl is.spelled_x, above)
        where_out (inr above) = (pz, inr is.spelled_z, above)

    module _ (in_x : px < h.settings.size) (in_z : pz < h.settings.size) where
      -- as many entities were created as may be
      pub full_first : MOST_ENTITIES ≤ length (creates_of (entries b)) → IsFirst (HoldsAgainst h b (Create e n x z)) cause.Full
      full_first full = record {
        here = full;
        first = against_create h b e n x z _ (λ k. absurd (all_numbers k)) (λ k. absurd (not_there k)) (λ k. absurd (k ty names))
            (λ k. absurd (not_outside in_x in_z k)) (λ k. omega arith);
      }

      -- nothing is against it
      pub create_accepted : length (creates_of (entries b)) < MOST_ENTITIES →
          Accepts h b (Create e n x z) (Created (record { entity = entity; ty = ty; pos = record { x = px; z = pz } }))
      create_accepted room = record {
        none = against_create h b e n x z _ all_numbers not_there (λ k. k ty names) (not_outside in_x in_z)
            (λ full. omega (arith, full, room));
        adds = (
          record { entity = entity; ty = ty; pos = record { x = px; z = pz } },
          record {
            number = is.number;
            type_ = names;
            position = record { spelled_x = is.spelled_x; spelled_z = is.spelled_z; in_x = in_x; in_z = in_z };
          },
          refl,
        );
      }

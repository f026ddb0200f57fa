-- Lines create no more entities than there may be.
use Rattle.seam_law_transcript.proofs.Prelude.{ℕ, ◌+◌, ◌<◌, ◌≤◌, [], ◌∷◌, length, refl, sym, ap, ◌∙◌, arith, inl, inr, append_assoc}
use Rattle.seam_law_transcript.proofs.Prelude.{append-nil, length-append, cases_lt, filter_map-append, Create, Content, Long, Header, Book}
use Rattle.seam_law_transcript.proofs.Prelude.{entries, created, creates_of, Adds, HoldsAgainst, Holds, Spells, MOST_ENTITIES, Entry, Cause}
use Rattle.seam_law_transcript.proofs.Prelude.{IsAccepted, IsOfLines, empty, accepts, ends, balances}
use Rattle.seam_rule_rounds.specs.Prelude.{Line}
use Rattle.seam_rule_lines.specs.Language as language
use Rattle.seam_rule_lines.specs.declared.verdict.Entry.TheVariants as entry
use Rattle.seam_rule_lines.specs.declared.verdict.Cause.TheVariants as cause

below_of : (m n : ℕ) → ¬ (n ≤ m) → m < n
below_of m n not = elim (cases_lt m n) [ inl lt ↦ lt | inr ge ↦ absurd (not ge) ]

module _ (h : Header) (b : Book) where
  abbrev many : ℕ
  many = length (creates_of (entries b))

  -- only a `create` adds an entity, and no more than there may be
  not_full : (c : Create) (k : language.Command) → Adds h b k (entry.Created c) → ¬ (HoldsAgainst h b k cause.Full) → many < MOST_ENTITIES
  not_full c (language.Create e n x z) adds none = below_of many MOST_ENTITIES none
  not_full c (language.Call s e m args) (call, names, is) none = absurd (let z = is in cc)
  not_full c (language.Move s e x z) (call, names, is) none = absurd (let z = is in cc)
  not_full c language.Sync adds none = absurd adds
  not_full c (language.Client e) (n, spells, is) none = absurd (let z = is in cc)
  not_full c language.Tick is none = absurd (let z = is in cc)
  not_full c (language.Cut w a at) (cell, by, number, bound, is) none = absurd (let z = is in cc)
  not_full c (language.Shift w at) (k, place, number, placed, is) none = absurd (let z = is in cc)
  not_full c language.Balance is none = absurd (let z = is in cc)
  not_full c (language.Destroy w) (e, spells, is) none = absurd (let z = is in cc)

  line_not_full : (line : Line) (k : language.Command) (c : Create) → Spells line k → Adds h b k (entry.Created c) →
      ((k : Cause) → ¬ (Holds h b line k)) → many < MOST_ENTITIES
  line_not_full Long k c spells adds none = absurd spells
  line_not_full (Content content) k c spells adds none =
      not_full c k adds (λ full. none cause.Full (content, language.words_of k, refl, spells, (k, refl, full)))

  one_more : (x : Entry) → IsAccepted h b x → many ≤ MOST_ENTITIES → many + length (creates_of (x ∷ [])) ≤ MOST_ENTITIES
  one_more (entry.Created c) (line, (some, none, k, spells, adds)) few =
      let below = line_not_full line k c spells adds none in omega (arith, below)
  one_more _ accepted few = omega (arith, few)

pub few_created : (h : Header) (b : Book) → IsOfLines h b → length (creates_of (entries b)) ≤ MOST_ENTITIES
few_created h b empty = omega arith
few_created h b (accepts before x lines accepted) =
    let few = one_more h before x accepted (few_created h before lines) in
    let is = ap length (ap creates_of (sym (append_assoc before.past before.current (x ∷ [])))
    ∙ filter_map-append created (entries before) (x ∷ [])) in
    let both = length-append (creates_of (entries before)) (creates_of (x ∷ [])) in
    omega (arith, few, is, both)
few_created h b (ends before lines) =
    let few = few_created h before lines in
    let is = ap (λ xs. length (creates_of xs)) (append-nil (entries before)) in
    omega (arith, few, is)
few_created h b (balances before t lines may) =
    let few = few_created h before lines in
    let is = ap (λ xs. length (creates_of xs)) (append-nil (entries before)) in
    omega (arith, few, is)

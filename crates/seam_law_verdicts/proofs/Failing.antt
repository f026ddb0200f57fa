-- In which point a text fails.
use Rattle.std.proofs.Common.{◌≡◌, ℕ, List, [], ◌∷◌, ◌++◌, map, All, Some, refl, sym, ◌∙◌, ap, subst, inl, inr, arith}
use Rattle.std.specs.List.{flat_map}
use Rattle.std.proofs.lemmas.List.Elements.{All-weaker}
use Rattle.seam_defs.specs.Types.{AreDefs}
use Rattle.seam_defs.specs.declared.types.TypeDef.{TypeDef}
use Rattle.seam_haunt.specs.Places.{Place}
use Rattle.seam_call.specs.declared.create.Create.{Create}
use Rattle.seam_rule_rounds.specs.Prelude.{Header, IsRound, RoundData, Standing, live_as, round_text, HasPlace}
use Rattle.seam_rule_rounds.specs.Prelude.{HasLooked, home_line, base_line, ghost_lines, tree_of}
use Rattle.seam_rule_lines.proofs.Lists.{listed_is_one}
use Rattle.seam_law_texts.specs.Forms.{IsFormed}
use Rattle.seam_law_texts.proofs.Beginnings.{first_round}
use Rattle.seam_law_texts.proofs.Writing.{text_is}
use Rattle.seam_judge_rounds.specs.After.{after_round}
use Rattle.seam_judge_rounds.specs.Points.{HasCell, Holds, IsFirstBroken, OfLive, points}
use Rattle.seam_judge_rounds.specs.declared.verdict.Point.{Point}
use Rattle.seam_judge_rounds.specs.declared.verdict.Point.TheVariants as point
use Rattle.seam_law_verdicts.specs.Due.{Due, RefusalDue, RoundDue, EndDue}
use Rattle.seam_law_verdicts.specs.Verdicts.{BeginsAsRefusal, Fails, FailsRound, number_of}

-- ---- points

none_broken : (H : Point → Type 0) → ((p : Point) → H p) → (ps : List Point) (p : Point) → IsFirstBroken H ps (Some p) → ⊥
none_broken H all [] p broken = cc
none_broken H all (q ∷ ps) p (inl (not, is)) = not (all q)
none_broken H all (q ∷ ps) p (inr (holds, rest)) = none_broken H all ps p rest

first_is_one : (H : Point → Type 0) (ps : List Point) (p q : Point) → IsFirstBroken H ps (Some p) → IsFirstBroken H ps (Some q) → p ≡ q
first_is_one H [] p q one other = absurd (cc)
first_is_one H (x ∷ ps) p q (inl (not, is)) (inl (never, at)) = cc
first_is_one H (x ∷ ps) p q (inl (not, is)) (inr (holds, rest)) = absurd (not holds)
first_is_one H (x ∷ ps) p q (inr (holds, rest)) (inl (never, at)) = absurd (never holds)
first_is_one H (x ∷ ps) p q (inr (holds, rest)) (inr (too, more)) = first_is_one H ps p q rest more

-- a legal round breaks none
module _ (h : Header) (s : Standing) (r : RoundData) (t : Standing) (round : IsRound h s r t) where
  of_live : (P : List Create → Type 0) → P round.live → OfLive s P
  of_live P holds live listed = subst P (listed_is_one (live_as s.book) round.live live round.listed listed) holds

  cell_by : (c : Create) → HasPlace h s t c → HasCell h s t c
  cell_by c (inl is) = inl (sym (ap (λ (x : Place). x.home) is))
  cell_by c (inr (some, is)) = inr (some, sym (ap (λ (x : Place). x.home) is))

  holds_each : (p : Point) → Holds h s r t p
  holds_each point.Number = round.number
  holds_each point.Did = round.did
  holds_each point.Dob = round.dob
  holds_each point.Homes = of_live (λ (live : List Create). r.homes ≡ map (home_line h t) live) round.homes
  holds_each point.Cells = of_live (All (HasCell h s t)) (All-weaker (HasPlace h s t) (HasCell h s t) cell_by round.live round.places)
  holds_each point.Bases = of_live (λ (live : List Create). r.bases ≡ map (base_line h t) live) round.bases
  holds_each point.Places = of_live (All (HasPlace h s t)) round.places
  holds_each point.Ghosts = of_live (λ (live : List Create). r.ghosts ≡ flat_map (ghost_lines h (tree_of s.book) t) live) round.ghosts
  holds_each point.Shown = round.shown
  holds_each point.Looked = of_live (HasLooked h s r t) round.looked
  holds_each point.Bounds = round.bounds

-- ---- rounds

-- the round that is shown is one
shown_is_one : (h : Header) (s : Standing) (text : List ℕ) (r q : RoundData) → AreDefs h.defs → IsFormed h.defs s.book r →
    IsFormed h.defs s.book q → (after later : List ℕ) → text ≡ round_text h.defs r ++ after → text ≡ round_text h.defs q ++ later → r ≡ q
shown_is_one h s text r q are fr fq after later e f = (first_round h.defs are s.book r q after later fr fq (sym e ∙ f)).0

-- the text of a round does not begin as a refusal does
first_bytes : (b c : ℕ) (xs ys : List ℕ) → b ∷ xs ≡ c ∷ ys → b ≡ c
first_bytes b c xs ys e = cc

no_refusal : (defs : List TypeDef) (r : RoundData) (text after : List ℕ) → text ≡ round_text defs r ++ after → BeginsAsRefusal text → ⊥
no_refusal defs r text after is (rest, begins) =
    let same = first_bytes 108 114 _ _ (sym begins ∙ is ∙ text_is defs r after) in
    omega (arith, same)

pub does_not_fail : (h : Header) (s : Standing) (r : RoundData) → AreDefs h.defs → IsFormed h.defs s.book r →
    IsRound h s r (after_round s r) → (after : List ℕ) (number : ℕ) → ¬ (FailsRound h s (round_text h.defs r ++ after) number)
does_not_fail h s r are form round after number (inl (none, refusal)) =
    no_refusal h.defs r (round_text h.defs r ++ after) after refl refusal
does_not_fail h s r are form round after number (inr (inl (one, other, none))) = none r (form, (after, refl))
does_not_fail h s r are form round after number (inr (inr (q, p, (formed, (later, is)), broken, at))) =
    let same : r ≡ q = shown_is_one h s (round_text h.defs r ++ after) r q are form formed after later refl is in
    none_broken (Holds h s r (after_round s r)) (holds_each h s r (after_round s r) round) points p
    (subst (λ (x : RoundData). IsFirstBroken (Holds h s x (after_round s x)) points (Some p)) (sym same) broken)

fails_once : (h : Header) (s : Standing) (text : List ℕ) (number other : ℕ) → AreDefs h.defs → FailsRound h s text number →
    FailsRound h s text other → number ≡ other
fails_once h s text number other are (inl (one, refusal)) (inl (two, too)) = one ∙ sym two
fails_once h s text number other are (inl (one, refusal)) (inr (inl (two, never, none))) = absurd (never refusal)
fails_once h s text number other are (inl (one, refusal)) (inr (inr (q, p, (form, (after, is)), broken, at))) =
    absurd (no_refusal h.defs q text after is refusal)
fails_once h s text number other are (inr (inl (one, not, none))) (inl (two, refusal)) = absurd (not refusal)
fails_once h s text number other are (inr (inl (one, not, none))) (inr (inl (two, never, nothing))) = one ∙ sym two
fails_once h s text number other are (inr (inl (one, not, none))) (inr (inr (q, p, shows, broken, at))) = absurd (none q shows)
fails_once h s text number other are (inr (inr (q, p, (form, (after, is)), broken, at))) (inl (two, refusal)) =
    absurd (no_refusal h.defs q text after is refusal)
fails_once h s text number other are (inr (inr (q, p, shows, broken, at))) (inr (inl (two, never, none))) = absurd (none q shows)
fails_once h s text number other are (inr (inr (q, p, (form, (after, is)), broken, at)))
    (inr (inr (x, y, (formed, (later, begins)), breaks, too))) =
    let same : q ≡ x = shown_is_one h s text q x are form formed after later is begins in
    let first : p ≡ y =
    first_is_one (Holds h s x (after_round s x)) points p y
    (subst (λ (z : RoundData). IsFirstBroken (Holds h s z (after_round s z)) points (Some p)) same broken) breaks in
    at ∙ ap number_of first ∙ sym too

pub one_point : (h : Header) → AreDefs h.defs → (due : Due) (text : List ℕ) (number other : ℕ) → Fails h due text number →
    Fails h due text other → number ≡ other
one_point h are (RefusalDue line c) text number other one two = one.0 ∙ sym two.0
one_point h are (RoundDue s) text number other one two = fails_once h s text number other are one two
one_point h are EndDue text number other one two = one.0 ∙ sym two.0

-- A round that is due beside the text that comes next.
use Rattle.std.proofs.Common.{◌≡◌, ◌≢◌, ℕ, ◌-◌, List, [], ◌∷◌, ◌++◌, Some, length, take, refl, sym, ◌∙◌, ap, subst, arith, inl, inr}
use Rattle.std.proofs.Common.{length-append}
use Rattle.seam_node_steps.specs.Prelude.{AreDefs}
use Rattle.seam_defs.specs.declared.types.TypeDef.{TypeDef}
use Rattle.seam_rule_rounds.specs.Prelude.{Header, IsRound, RoundData, Standing, round_text}
use Rattle.seam_law_texts.specs.Forms.{IsFormed}
use Rattle.seam_judge_data.specs.Standings.{standing_of}
use Rattle.seam_judge_data.specs.declared.standing.Standing as plain
use Rattle.seam_judge_rounds.specs.After.{after_round}
use Rattle.seam_judge_rounds.specs.Points.{Holds, IsFirstBroken, points}
use Rattle.seam_judge_rounds.specs.declared.verdict.Point.{Point}
use Rattle.seam_judge_reader.specs.Scripts.{IsAt, ScriptView}
use Rattle.seam_law_verdicts.specs.Verdicts.{BeginsAsRefusal, FailsRound, number_of}
use Rattle.seam_check.specs.Judged.{IsBeside, RoundGoes}

-- the first piece of the text, and what comes after it
abbrev pub ArePieces : (text piece rest : List ℕ) → Type 0
ArePieces text piece rest =
    (defs : List TypeDef) → AreDefs defs → (r : RoundData) (after : List ℕ) → text ≡ round_text defs r ++ after →
    (piece ≡ round_text defs r) × (rest ≡ after)

-- a refusal comes in place of the round
pub surplus : (h : Header) (s : Standing) (text : List ℕ) → BeginsAsRefusal text → FailsRound h s text 0
surplus h s text refusal = inl (refl, refusal)

module _ (h : Header) (s : Standing) (script : ScriptView) (beside : IsBeside h s script) (g : Header) (p : plain.Standing)
    (header : g ≡ script.header) (standing : p ≡ script.standing) (text piece rest : List ℕ) (whole : piece ++ rest ≡ text)
    (pieces : ArePieces text piece rest)
  where
    h_is : g ≡ h
    h_is = header ∙ beside.at.header

    s_is : standing_of p ≡ s
    s_is = ap standing_of standing ∙ beside.at.standing

    -- what is said of the header and the standing in code
    said : (P : Header → Standing → Type 0) → P g (standing_of p) → P h s
    said P holds = subst (λ (u : Standing). P h u) s_is (subst (λ (k : Header). P k (standing_of p)) h_is holds)

    -- no round in form has the piece
    pub no_round : ¬ (BeginsAsRefusal text) → ((r : RoundData) → IsFormed g.defs (standing_of p).book r → round_text g.defs r ≢ piece) →
        FailsRound h s text 1
    no_round other none =
        let never = said (λ k u. (r : RoundData) → IsFormed k.defs u.book r → round_text k.defs r ≢ piece) none in
        inr (inl (refl, other, (λ r (form, (after, is)). never r form (sym (pieces h.defs beside.defs r after is).0))))

    shown : (r : RoundData) → round_text g.defs r ≡ piece → text ≡ round_text h.defs r ++ rest
    shown r is = sym whole ∙ ap (λ (t : List ℕ). t ++ rest) (sym is ∙ ap (λ (k : Header). round_text k.defs r) h_is)

    -- it is not legal
    pub broken : (r : RoundData) (point : Point) → round_text g.defs r ≡ piece → IsFormed g.defs (standing_of p).book r →
        IsFirstBroken (Holds g (standing_of p) r (after_round (standing_of p) r)) points (Some point) →
        FailsRound h s text (number_of point)
    broken r point is form first =
        inr (inr (
          r,
          point,
          (said (λ k u. IsFormed k.defs u.book r) form, (rest, shown r is)),
          said (λ k u. IsFirstBroken (Holds k u r (after_round u r)) points (Some point)) first,
          refl,
        ))

    -- it is
    pub goes : (r : RoundData) (new : ScriptView) → round_text g.defs r ≡ piece →
        IsRound g (standing_of p) r (after_round (standing_of p) r) → IsAt h (after_round s r) new → RoundGoes h s text rest new
    goes r new is legal at = record {
      round = r;
      legal = said (λ k u. IsRound k u r (after_round u r)) legal;
      is = shown r is;
      at = at;
    }

-- ---- what comes before the rest of a text

take_front : (xs ys : List ℕ) → take (length xs) (xs ++ ys) ≡ xs
take_front [] ys = refl
take_front (x ∷ xs) ys = λ i. x ∷ take_front xs ys i

pub front_is : (text front left : List ℕ) → text ≡ front ++ left → take (length text - length left) text ≡ front
front_is text front left is =
    let long = ap length is ∙ length-append front left in
    let count : length text - length left ≡ length front = omega (arith, long) in
    (λ i. take (count i) (is i)) ∙ take_front front left

-- How far a text was judged, in the loop over the lines of its input.
use Rattle.std.proofs.Common.{◌≡◌, ◌≢◌, ℕ, ◌+◌, List, [], ◌∷◌, ◌++◌, refl, sym, ◌∙◌, ap, subst, append_assoc}
use Rattle.std.specs.List.{count_by}
use Rattle.seam_io.specs.Lines.{is_feed}
use Rattle.seam_rule_rounds.specs.Prelude.{BeginWithHeader, Header, Line, Standing, open_lines}
use Rattle.seam_rule_rounds.specs.Standing.{after_header}
use Rattle.seam_judge_reader.specs.Scripts.{ScriptView}
use Rattle.seam_law_verdicts.specs.Verdicts.{FailsRound}
use Rattle.seam_law_verdicts.specs.declared.verdict.Verdict.TheVariants as verdict
use Rattle.seam_check.specs.Judged.{EndGoes, HasJudged, IsBeside, LineFails, LineGoes, SaysAfter, Stands}
use Rattle.seam_check.proofs.Judgments.{end_fails, ended, goes_on, last_fails, line_fails, nothing_judged}

-- from a script and lines after a header, the loop has come to a script, to further lines, and to the rest of the text
pub record IsUpTo (script : ScriptView) (lines : List Line) (text : List ℕ) (now : ScriptView) (input : List Line) (left : List ℕ)
    : Type 0 where
  pub stands : Stands now
  pub judged : (h : Header) (count : ℕ) → IsBeside h (after_header h count) script →
      (read : List Line) × (t : Standing) × (lines ≡ read ++ input) × IsBeside h t now × HasJudged h count read t text left

-- the place is that of the rest
abbrev pub IsPlace : (text left : List ℕ) (place : ℕ) → Type 0
IsPlace text left place = (front : List ℕ) → text ≡ front ++ left → place ≡ count_by is_feed front + 1

module _ (script : ScriptView) (lines : List Line) (text : List ℕ) where
  pub starts : Stands script → IsUpTo script lines text script lines text
  starts stands = record {
    stands = stands;
    judged = λ h count beside. ([], after_header h count, refl, beside, nothing_judged h count text);
  }

  module _ (now : ScriptView) (input : List Line) (left : List ℕ) (at : IsUpTo script lines text now input left) where
    module _ (line : Line) (others : List Line) (is : input ≡ line ∷ others) where
      pub goes_further : (new : ScriptView) (rest : List ℕ) →
          ((h : Header) (t : Standing) → IsBeside h t now → LineGoes h t line left rest new) → IsUpTo script lines text new others rest
      goes_further new rest goes = record {
        stands = by at.stands;
        judged = λ h count beside. next h count (at.judged h count beside);
      }
        where
          by : Stands now → Stands new
          by (h, t, beside) = (h, (goes h t beside).after, (goes h t beside).beside)

          next : (h : Header) (count : ℕ) →
              ((read : List Line) × (t : Standing) × (lines ≡ read ++ input) × IsBeside h t now × HasJudged h count read t text left) →
              (read : List Line) × (t : Standing) × (lines ≡ read ++ others) × IsBeside h t new × HasJudged h count read t text rest
          next h count (read, t, whole, beside, was) = (
            read ++ line ∷ [],
            (goes h t beside).after,
            whole ∙ ap (λ (ls : List Line). read ++ ls) is ∙ sym (append_assoc read (line ∷ []) others),
            (goes h t beside).beside,
            goes_on h count read t text left was line rest new (goes h t beside),
          )

      pub fails_at_line : (number place : ℕ) → ((h : Header) (t : Standing) → IsBeside h t now → LineFails h t line left number) →
          IsPlace text left place → (h : Header) (count : ℕ) → IsBeside h (after_header h count) script →
          SaysAfter h count lines text (verdict.No place number)
      fails_at_line number place fails place_is h count beside =
          let (read, t, whole, now_beside, was) = at.judged h count beside in
          record {
            says = λ all begins.
                line_fails h count read t text left was all input (subst (BeginWithHeader all h count) whole begins) line others is number
                place (fails h t now_beside) place_is;
          }

    module _ (over : input ≡ []) (h : Header) (count : ℕ) (beside : IsBeside h (after_header h count) script) where
      pub fails_at_end : (number place : ℕ) →
          ((k : Header) (t : Standing) → IsBeside k t now → (open_lines t.book ≢ 0) × FailsRound k t left number) →
          IsPlace text left place → SaysAfter h count lines text (verdict.No place number)
      fails_at_end number place fails place_is =
          let (read, t, whole, now_beside, was) = at.judged h count beside in
          record {
            says = λ all begins.
                last_fails h count read t text left was all input (subst (BeginWithHeader all h count) whole begins) over number place
                (fails h t now_beside) place_is;
          }

      module _ (rest : List ℕ) (goes : (k : Header) (t : Standing) → IsBeside k t now → EndGoes k t left rest) where
        pub ends_whole : rest ≡ [] → SaysAfter h count lines text verdict.Yes
        ends_whole none =
            let (read, t, whole, now_beside, was) = at.judged h count beside in
            record {
              says = λ all begins.
                  ended h count read t text left was all input (subst (BeginWithHeader all h count) whole begins) over rest
                  (goes h t now_beside) none;
            }

        pub goes_past_end : (place : ℕ) → rest ≢ [] → IsPlace text rest place → SaysAfter h count lines text (verdict.No place 0)
        goes_past_end place some place_is =
            let (read, t, whole, now_beside, was) = at.judged h count beside in
            record {
              says = λ all begins.
                  end_fails h count read t text left was all input (subst (BeginWithHeader all h count) whole begins) over rest
                  (goes h t now_beside) place some place_is;
            }

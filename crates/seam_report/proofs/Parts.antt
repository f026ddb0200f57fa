-- The text of a round with its steps, in three parts.
use Rattle.std.proofs.Common.{◌≡◌, ◌++◌, ◌∙◌, List, ℕ, ap, append_assoc, codes}
use Rattle.seam_rule_rounds.specs.Prelude.{TypeDef, number_text, RoundData, traced_text}
use Rattle.seam_report.specs.RoundParts.{lines_text}

-- ten texts after another one
after_ten : (x a b c d e f g h k l : List ℕ) → x ++ a ++ b ++ (c ++ d ++ e ++ f ++ g ++ h ++ k ++ l)
    ≡ x ++ (a ++ b ++ c ++ d ++ e ++ f ++ g ++ h ++ k ++ l)
after_ten x a b c d e f g h k l = simp append_assoc

pub in_three_parts : (old steps : List ℕ) (defs : List TypeDef) (r : RoundData) (one two all : List ℕ) →
    one ≡ old ++ number_text (codes "round ") r.number → two ≡ one ++ steps → all ≡ two ++ lines_text defs r →
    all ≡ old ++ traced_text steps defs r
in_three_parts old steps defs r one two all first second third =
    third ∙ ap (λ (xs : List ℕ). xs ++ lines_text defs r) (second ∙ ap (λ (xs : List ℕ). xs ++ steps) first)
    ∙ after_ten old (number_text (codes "round ") r.number) steps _ _ _ _ _ _ _ _

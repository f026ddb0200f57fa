-- The header of an input, line by line.
use Rattle.std.proofs.Common.{◌≡◌, ℕ, ◌+◌, List, [], ◌∷◌, ◌++◌, All, length, map, refl, sym, ◌∙◌, ap, subst, arith}
use Rattle.std.proofs.Common.{inl, inr, append_assoc, append-nil, length-append}
use Rattle.std.proofs.lemmas.List.Elements.{All-nil}
use Rattle.seam_io.specs.Lines.{Line, Content, Long}
use Rattle.seam_toml.specs.declared.header.Header.{Header}
use Rattle.seam_rule_lines.specs.Header.{AreHeaderLines, BeginWithHeader, RefusesHeader, no_end, separator, too_long}
use Rattle.seam_law_verdicts.specs.Verdicts.{HasBadHeader}

-- no line yet
pub none_yet : (text : List ℕ) → text ≡ [] → AreHeaderLines [] text
none_yet text none = record {
  contents = [];
  are = refl;
  none_ends = All-nil (λ content. Content content ≡ separator → ⊥);
  whole = none;
  most = omega (arith, ap length none);
}

-- ---- a line that is too long

no_long : (lines : List Line) (contents : List (List ℕ)) → lines ++ Long ∷ [] ≡ map Content contents → ⊥
no_long [] [] is = cc
no_long [] (c ∷ contents) is = first Long (Content c) [] (map Content contents) is differ
  where
    differ : Long ≡ Content c → ⊥
    differ e = cc

    first : (x y : Line) (xs ys : List Line) → x ∷ xs ≡ y ∷ ys → (x ≡ y → ⊥) → ⊥
    first x y xs ys e other = other (cc)
no_long (l ∷ lines) [] is = cc
no_long (l ∷ lines) (c ∷ contents) is = no_long lines contents (rest l (Content c) (lines ++ Long ∷ []) (map Content contents) is)
  where
    rest : (x y : Line) (xs ys : List Line) → x ∷ xs ≡ y ∷ ys → xs ≡ ys
    rest x y xs ys e = cc

pub long_refuses : (lines : List Line) (text : List ℕ) → AreHeaderLines lines text → RefusesHeader lines Long too_long
long_refuses lines text are =
    inl (refl, (λ e. by e), (text, are), (λ (other, more). no_long lines more.contents more.are))
  where
    by : Long ≡ separator → ⊥
    by e = cc

-- ---- what was read of an input

module _ (lines read : List Line) (line : Line) (now later : List Line) (whole : lines ≡ read ++ now) (next : now ≡ line ∷ later) where
  with_line : lines ≡ read ++ line ∷ later
  with_line = whole ∙ ap (λ (ls : List Line). read ++ ls) next

  pub one_more : lines ≡ (read ++ line ∷ []) ++ later
  one_more = with_line ∙ sym (append_assoc read (line ∷ []) later)

  pub counts_more : (count more : ℕ) → count ≡ length read → more ≡ count + 1 → more ≡ length (read ++ line ∷ [])
  counts_more count more was is = omega (arith, was, is, length-append read (line ∷ []))

  -- the header ends with the line
  pub head_ends : (h : Header) (count more : ℕ) → count ≡ length read → more ≡ count + 1 →
      BeginWithHeader (read ++ line ∷ []) h (length read + 1) [] → BeginWithHeader lines h more later
  head_ends h count more was is begins = record {
    head = begins.head;
    text = begins.text;
    are = begins.are;
    reads = begins.reads;
    number = is ∙ ap (λ (n : ℕ). n + 1) was ∙ begins.number;
    whole =
        one_more ∙ ap (λ (ls : List Line). ls ++ later) begins.whole ∙ append_assoc begins.head (separator ∷ []) later;
  }

  -- it is refused at the line
  pub head_refused : (k : ℕ) → RefusesHeader read line k → HasBadHeader lines k
  head_refused k refuses = inr (read, line, later, with_line, refuses)

-- no line is left
pub no_end_found : (lines read now : List Line) (text : List ℕ) → lines ≡ read ++ now → now ≡ [] → AreHeaderLines read text →
    HasBadHeader lines no_end
no_end_found lines read now text whole none are =
    inl (
      refl,
      (
        text,
        subst (λ (ls : List Line). AreHeaderLines ls text)
            (sym (whole ∙ ap (λ (ls : List Line). read ++ ls) none ∙ append-nil read)) are,
      ),
    )

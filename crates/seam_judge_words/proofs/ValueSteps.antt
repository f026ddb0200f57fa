-- The values of a line, one after the other.
use Rattle.std.proofs.Common.{◌≡◌, ℕ, Bool, true, false, cond, List, [], ◌∷◌, ◌++◌, map, zip, drop, get_or, refl, sym, ◌∙◌, ap, subst}
use Rattle.std.proofs.Common.{append_assoc, append-nil}
use Rattle.std.specs.List.{AllZip}
use Rattle.seam_value.specs.Values.{Fits, text_of}
use Rattle.seam_value.specs.declared.values.Value.{Value}
use Rattle.seam_value.specs.declared.types.ValueType.{ValueType}
use Rattle.seam_defs.specs.Groups.{in_group}
use Rattle.seam_defs.specs.Deeds.{properties_of, AreArgsOf}
use Rattle.seam_defs.specs.declared.types.Property.{Property}
use Rattle.seam_defs.specs.declared.flags.Group.{Group}
use Rattle.seam_law_texts.specs.TextLines.{property_word}

-- ---- properties of a group

-- values fit properties
abbrev pub FitAll : List Property → List Value → Type 0
FitAll ps values = AllZip (λ (p : Property) v. Fits v p.ty) ps values

of_in : (p : Property) (ps : List Property) (g : Group) → in_group p.flag g ≡ true → properties_of (p ∷ ps) g ≡ p ∷ properties_of ps g
of_in p ps g is = ap (λ (b : Bool). cond b (p ∷ properties_of ps g) (properties_of ps g)) is

of_out : (p : Property) (ps : List Property) (g : Group) → in_group p.flag g ≡ false → properties_of (p ∷ ps) g ≡ properties_of ps g
of_out p ps g is = ap (λ (b : Bool). cond b (p ∷ properties_of ps g) (properties_of ps g)) is

-- values so far fit, with any that fit the properties that are left
abbrev pub Fitting : Group → (all left : List Property) → List Value → Type 0
Fitting g all left values =
    (more : List Value) → FitAll (properties_of left g) more → FitAll (properties_of all g) (values ++ more)

pub fitting_in : (g : Group) (all others : List Property) (p : Property) (values : List Value) (v : Value) → in_group p.flag g ≡ true →
    Fits v p.ty → Fitting g all (p ∷ others) values → Fitting g all others (values ++ v ∷ [])
fitting_in g all others p values v is fits fit more rest =
    subst (FitAll (properties_of all g)) (sym (append_assoc values (v ∷ []) more))
    (fit (v ∷ more) (subst (λ (ps : List Property). FitAll ps (v ∷ more)) (sym (of_in p others g is)) (fits, rest)))

pub fitting_out : (g : Group) (all others : List Property) (p : Property) (values : List Value) → in_group p.flag g ≡ false →
    Fitting g all (p ∷ others) values → Fitting g all others values
fitting_out g all others p values is fit more rest =
    fit more (subst (λ (ps : List Property). FitAll ps more) (sym (of_out p others g is)) rest)

pub fitting_end : (g : Group) (all left : List Property) (values : List Value) → left ≡ [] → Fitting g all left values →
    FitAll (properties_of all g) values
fitting_end g all left values none fit =
    subst (FitAll (properties_of all g)) (append-nil values)
    (fit [] (subst (λ (ps : List Property). FitAll (properties_of ps g) []) (sym none) tt))

-- what is still to be read: words that spell values of the properties that are left
pub record ToCome (g : Group) (left : List Property) (words : List (List ℕ)) (values all : List Value) : Type 0 where
  pub more : List Value
  pub fit : FitAll (properties_of left g) more
  pub spelled : words ≡ map property_word (zip (properties_of left g) more)
  pub whole : values ++ more ≡ all

pub values_begin : (g : Group) (left : List Property) (words : List (List ℕ)) (all : List Value) → FitAll (properties_of left g) all →
    words ≡ map property_word (zip (properties_of left g) all) → ToCome g left words [] all
values_begin g left words all fit spelled = record { more = all; fit = fit; spelled = spelled; whole = refl }

pub values_in : (g : Group) (p : Property) (others : List Property) (words : List (List ℕ)) (values all : List Value) (v : Value) →
    in_group p.flag g ≡ true → ((w : Value) → Fits w p.ty → get_or words 0 [] ≡ property_word (p, w) → v ≡ w) →
    ToCome g (p ∷ others) words values all → ToCome g others (drop 1 words) (values ++ v ∷ []) all
values_in g p others words values all v is told come =
    by come.more (subst (λ (ps : List Property). FitAll ps come.more) (of_in p others g is) come.fit)
    (come.spelled ∙ ap (λ (ps : List Property). map property_word (zip ps come.more)) (of_in p others g is)) come.whole
  where
    by : (more : List Value) → FitAll (p ∷ properties_of others g) more →
        words ≡ map property_word (zip (p ∷ properties_of others g) more) → values ++ more ≡ all →
        ToCome g others (drop 1 words) (values ++ v ∷ []) all
    by [] fit spelled whole = absurd fit
    by (w ∷ more) fit spelled whole = record {
      more = more;
      fit = fit.1;
      spelled = ap (drop 1) spelled;
      whole =
          append_assoc values (v ∷ []) more
          ∙ ap (λ (x : Value). values ++ x ∷ more) (told w fit.0 (ap (λ (ws : List (List ℕ)). get_or ws 0 []) spelled)) ∙ whole;
    }

pub values_out : (g : Group) (p : Property) (others : List Property) (words : List (List ℕ)) (values all : List Value) →
    in_group p.flag g ≡ false → ToCome g (p ∷ others) words values all → ToCome g others words values all
values_out g p others words values all is come = record {
  more = come.more;
  fit = subst (λ (ps : List Property). FitAll ps come.more) (of_out p others g is) come.fit;
  spelled = come.spelled ∙ ap (λ (ps : List Property). map property_word (zip ps come.more)) (of_out p others g is);
  whole = come.whole;
}

pub values_end : (g : Group) (left : List Property) (words : List (List ℕ)) (values all : List Value) → left ≡ [] →
    ToCome g left words values all → values ≡ all
values_end g left words values all none come =
    by come.more (subst (λ (ps : List Property). FitAll (properties_of ps g) come.more) none come.fit) come.whole
  where
    by : (more : List Value) → FitAll [] more → values ++ more ≡ all → values ≡ all
    by [] fit whole = sym (append-nil values) ∙ whole
    by (w ∷ more) fit whole = absurd fit

-- ---- arguments

abbrev pub FittingArgs : (all left : List ValueType) → List Value → Type 0
FittingArgs all left values = (more : List Value) → AreArgsOf left more → AreArgsOf all (values ++ more)

pub args_fitting : (all others : List ValueType) (t : ValueType) (values : List Value) (v : Value) → Fits v t →
    FittingArgs all (t ∷ others) values → FittingArgs all others (values ++ v ∷ [])
args_fitting all others t values v fits fit more rest =
    subst (AreArgsOf all) (sym (append_assoc values (v ∷ []) more)) (fit (v ∷ more) (fits, rest))

pub args_fitting_end : (all left : List ValueType) (values : List Value) → left ≡ [] → FittingArgs all left values → AreArgsOf all values
args_fitting_end all left values none fit =
    subst (AreArgsOf all) (append-nil values) (fit [] (subst (λ (ts : List ValueType). AreArgsOf ts []) (sym none) tt))

pub record ArgsToCome (left : List ValueType) (words : List (List ℕ)) (values all : List Value) : Type 0 where
  pub more : List Value
  pub fit : AreArgsOf left more
  pub spelled : words ≡ map text_of more
  pub whole : values ++ more ≡ all

pub args_begin : (left : List ValueType) (words : List (List ℕ)) (all : List Value) → AreArgsOf left all → words ≡ map text_of all →
    ArgsToCome left words [] all
args_begin left words all fit spelled = record { more = all; fit = fit; spelled = spelled; whole = refl }

pub args_step : (t : ValueType) (others : List ValueType) (words : List (List ℕ)) (values all : List Value) (v : Value) →
    ((w : Value) → Fits w t → get_or words 0 [] ≡ text_of w → v ≡ w) → ArgsToCome (t ∷ others) words values all →
    ArgsToCome others (drop 1 words) (values ++ v ∷ []) all
args_step t others words values all v told come = by come.more come.fit come.spelled come.whole
  where
    by : (more : List Value) → AreArgsOf (t ∷ others) more → words ≡ map text_of more → values ++ more ≡ all →
        ArgsToCome others (drop 1 words) (values ++ v ∷ []) all
    by [] fit spelled whole = absurd fit
    by (w ∷ more) fit spelled whole = record {
      more = more;
      fit = fit.1;
      spelled = ap (drop 1) spelled;
      whole =
          append_assoc values (v ∷ []) more
          ∙ ap (λ (x : Value). values ++ x ∷ more) (told w fit.0 (ap (λ (ws : List (List ℕ)). get_or ws 0 []) spelled)) ∙ whole;
    }

pub args_end : (left : List ValueType) (words : List (List ℕ)) (values all : List Value) → left ≡ [] → ArgsToCome left words values all →
    values ≡ all
args_end left words values all none come =
    by come.more (subst (λ (ts : List ValueType). AreArgsOf ts come.more) none come.fit) come.whole
  where
    by : (more : List Value) → AreArgsOf [] more → values ++ more ≡ all → values ≡ all
    by [] fit whole = sym (append-nil values) ∙ whole
    by (w ∷ more) fit whole = absurd fit

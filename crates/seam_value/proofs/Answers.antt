-- From the parts' answers to the whole's.
use Rattle.std.proofs.Common.{◌≡◌, ◌≢◌, ℕ, List, Result, Ok, Err, refl, sym, ◌∙◌, ap, ℤ, subst, arith, ◌≤◌, length}
use Rattle.std.specs.Prelude.{IfOk, IfErr, MatchResult, slice_index}
use Rattle.std.specs.Str.{IsUtf8}
use Rattle.seam_value.specs.declared.types.ValueType.{ValueType}
use Rattle.seam_value.specs.declared.types.ValueType.TheVariants as type
use Rattle.seam_value.specs.declared.values.Value.{Value}
use Rattle.seam_value.specs.declared.values.Value.TheVariants.{Number, Text}
use Rattle.seam_value.specs.declared.values.ValueError.{ValueError}
use Rattle.seam_value.specs.declared.values.ValueError.TheVariants.{NotNumber, OutOfRange, BadString, TooLong, NoMemory}
use Rattle.seam_value.specs.Texts.{IsShortText, quoted}
use Rattle.seam_value.specs.Values.{Fits, number_text, text_of}
use Rattle.seam_value.specs.Causes.{RefusesText, Refuses}
use Rattle.seam_value.proofs.Spellings.{quoted-injective}
use Rattle.seam_value.proofs.Signs.{number_text-injective, no_quote}

pub number_value : (r : Result ℤ ValueError) (t : ValueType) (z : ℤ) (bytes : List ℕ) → number_text z ≡ bytes →
    IfOk r (λ y. Fits (Number y) t × (y ≡ z)) → IfOk r (λ y. Fits (Number y) t × (number_text y ≡ bytes))
number_value (Ok y) t z bytes e h = (h.0, ap number_text h.1 ∙ e)
number_value (Err x) t z bytes e h = tt

pub number_cause : (r : Result ℤ ValueError) (t : ValueType) (z : ℤ) (bytes : List ℕ) → t ≢ type.Text → number_text z ≡ bytes →
    IfErr r (λ e. (e ≡ OutOfRange) × ¬ (Fits (Number z) t)) → IfErr r (Refuses bytes t)
number_cause (Ok y) t z bytes n e h = tt
number_cause (Err OutOfRange) t z bytes n e h = (n, z, e, h.1)
number_cause (Err NotNumber) t z bytes n e h = let wrong = h.0 in cc
number_cause (Err BadString) t z bytes n e h = let wrong = h.0 in cc
number_cause (Err TooLong) t z bytes n e h = let wrong = h.0 in cc
number_cause (Err NoMemory) t z bytes n e h = let wrong = h.0 in cc

pub text_value : (r : Result (List ℕ) ValueError) (bytes content : List ℕ) → quoted content ≡ bytes →
    IfOk r (λ s. (s ≡ content) × IsShortText content) → IfOk r (λ s. IsShortText s × (quoted s ≡ bytes))
text_value (Ok s) bytes content e h = rw h.0 (h.1, e)
text_value (Err x) bytes content e h = tt

pub text_cause : (r : Result (List ℕ) ValueError) (bytes content : List ℕ) → quoted content ≡ bytes → IfErr r (RefusesText content) →
    IfErr r (Refuses bytes type.Text)
text_cause (Ok s) bytes content e h = tt
text_cause (Err NotNumber) bytes content e h = absurd h
text_cause (Err OutOfRange) bytes content e h = absurd h
text_cause (Err BadString) bytes content e h = (refl, λ other text same. h (subst_text other text same))
  where
    subst_text : (other : List ℕ) → IsUtf8 other → quoted other ≡ bytes → IsUtf8 content
    subst_text other text same = rw (← quoted-injective other content (same ∙ sym e)) text
text_cause (Err TooLong) bytes content e h = (refl, content, e, h.0, h.1)
text_cause (Err NoMemory) bytes content e h = refl

-- a spelling tells the value
number_is_no_text : (z : ℤ) (content : List ℕ) → number_text z ≢ quoted content
unfolding quoted
number_is_no_text z content e = no_quote z (ap (λ (xs : List ℕ). slice_index xs 0) e)

pub text_of-injective : (v w : Value) → text_of v ≡ text_of w → v ≡ w
text_of-injective (Number y) (Number z) e = ap Number (number_text-injective y z e)
text_of-injective (Number y) (Text ys) e = absurd (number_is_no_text y ys e)
text_of-injective (Text xs) (Number z) e = absurd (number_is_no_text z xs (sym e))
text_of-injective (Text xs) (Text ys) e = ap Text (quoted-injective xs ys e)

-- the spelling of a value that fits is not refused
pub refuses_none : (bytes : List ℕ) (t : ValueType) (v : Value) (e : ValueError) → Fits v t → text_of v ≡ bytes → Refuses bytes t e →
    e ≡ NoMemory
refuses_none bytes t (Number z) NotNumber f s h = absurd (h.1 z s)
refuses_none bytes t (Text xs) NotNumber f s h = absurd (h.0 f.0)
refuses_none bytes t (Number z) OutOfRange f s h =
    absurd (h.3 (subst (λ (y : ℤ). Fits (Number y) t) (number_text-injective z h.1 (s ∙ sym h.2)) f))
refuses_none bytes t (Text xs) OutOfRange f s h = absurd (h.0 f.0)
refuses_none bytes t (Number z) BadString f s h = absurd (f.0 h.0)
refuses_none bytes t (Text xs) BadString f s h = absurd (h.1 xs f.1.utf8 s)
refuses_none bytes t (Number z) TooLong f s h = absurd (f.0 h.0)
refuses_none bytes t (Text xs) TooLong f s h =
    let same : xs ≡ h.1 = quoted-injective xs h.1 (s ∙ sym h.2) in
    let short : length h.1 ≤ 255 = subst (λ (ys : List ℕ). length ys ≤ 255) same f.1.short in
    absurd (omega (arith, h.4))
refuses_none bytes t v NoMemory f s h = refl

pub reads_back : (r : Result Value ValueError) (bytes : List ℕ) (t : ValueType) → IfOk r (λ v. Fits v t × (text_of v ≡ bytes)) →
    IfErr r (Refuses bytes t) → (v : Value) → Fits v t → text_of v ≡ bytes → MatchResult r (λ read. read ≡ v) (λ e. e ≡ NoMemory)
reads_back (Ok read) bytes t h k v f s = text_of-injective read v (h.1 ∙ sym s)
reads_back (Err e) bytes t h k v f s = refuses_none bytes t v e f s k

-- a number that fits and is spelled so is read as itself
pub number_read : (r : Result ℤ ValueError) (bytes : List ℕ) (t : ValueType) → t ≢ type.Text →
    IfOk r (λ z. Fits (Number z) t × (number_text z ≡ bytes)) → IfErr r (Refuses bytes t) → (z : ℤ) → Fits (Number z) t →
    number_text z ≡ bytes → r ≡ Ok z
number_read (Ok y) bytes t n h k z f s = ap Ok (number_text-injective y z (h.1 ∙ sym s))
number_read (Err e) bytes t n h k z f s = absurd (n (memory_at_text (refuses_none bytes t (Number z) e f s k) k))
  where
    memory_at_text : e ≡ NoMemory → Refuses bytes t e → t ≡ type.Text
    memory_at_text same h = rw same at h

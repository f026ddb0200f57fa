-- The part of a list between two places.
use Rattle.std.proofs.Common.{◌≡◌, ℕ, ◌+◌, ◌-◌, ◌<◌, ◌≤◌, ◌⊎◌, inr, Bool, true, false, List, [], ◌++◌, length, take, drop, get_or}
use Rattle.std.proofs.Common.{sym, ap, ◌∙◌, subst, arith}
use Rattle.std.specs.Prelude.{slice_index, slice_range, Option, None, Some, MatchOption, MatchBool}
use Rattle.std.specs.Option.{is_some}
use Rattle.std.proofs.Math.Nat.{sub_self, sub-zero}
use Rattle.std.proofs.Math.Seq.{take-add}
use Rattle.std.proofs.lemmas.Bool.{false≢true}
use Rattle.std.proofs.lemmas.Grind.{common_steps}
use Rattle.std.proofs.lemmas.List.{length-take, length-drop, drop-drop, drop-take, get_or-take, get_or-drop}
use Rattle.std.proofs.lemmas.List.Elements.{All-get_or}
use Rattle.seam_io.specs.Lines.{HasNoFeed, is_feed}
use Rattle.seam_io.specs.Steps.{IsFeedAt}
use Rattle.seam_io.proofs.LineLemmas.{no_feed_append}

pub range_size : (xs : List ℕ) (a b : ℕ) → a ≤ b → b ≤ length xs → length (slice_range xs a b) ≡ b - a
range_size xs a b order fits = simp (length-take, length-drop) (omega arith)

pub range_empty : (xs : List ℕ) (a : ℕ) → slice_range xs a a ≡ []
range_empty xs a = ap (λ n. take n (drop a xs)) (sub_self a)

pub range_split : (xs : List ℕ) (a m b : ℕ) → a ≤ m → m ≤ b → slice_range xs a b ≡ slice_range xs a m ++ slice_range xs m b
range_split xs a m b first second =
    let parts : b - a ≡ (m - a) + (b - m) = omega arith in
    let place : a + (m - a) ≡ m = omega arith in
    ap (λ n. take n (drop a xs)) parts ∙ take-add (m - a) (b - m) (drop a xs)
    ∙ ap (λ rest. slice_range xs a m ++ take (b - m) rest) (drop-drop (m - a) a xs ∙ ap (λ n. drop n xs) place)

pub range_rest : (xs : List ℕ) (a b n : ℕ) → a + n ≤ b → slice_range xs (a + n) b ≡ drop n (slice_range xs a b)
range_rest xs a b n within =
    let parts : b - a ≡ n + (b - (a + n)) = omega arith in
    ap (take (b - (a + n))) (sym (drop-drop n a xs)) ∙ sym (drop-take n (b - (a + n)) (drop a xs))
    ∙ ap (λ m. drop n (take m (drop a xs))) (sym parts)

pub range_prefix : (xs : List ℕ) (a b n : ℕ) → a + n ≤ b → slice_range xs a (a + n) ≡ take n (slice_range xs a b)
range_prefix xs a b n within =
    let same : a + n - a ≡ n = omega arith in
    let low : n ≤ b - a = omega arith in
    grind (arith, common_steps)

-- ---- line feeds

-- the first line feed between two places, by where it is
pub feed_held : (xs : List ℕ) (a f b : ℕ) → a ≤ f → f < b → b ≤ length xs → HasNoFeed (slice_range xs a f) → slice_index xs f ≡ 10
    → IsFeedAt (slice_range xs a b) (f - a)
feed_held xs a f b order low fits before feed = record {
  within = omega (arith, range_size xs a b (omega arith) fits);
  feed = get_or-take (b - a) (drop a xs) (f - a) 0 (omega arith) ∙ get_or-drop a xs (f - a) 0 ∙ ap (λ n. get_or xs n 0) place ∙ feed;
  before = subst HasNoFeed (ap (slice_range xs a) (sym place) ∙ range_prefix xs a b (f - a) (omega arith)) before;
}
  where
    place : a + (f - a) ≡ f
    place = omega arith

no_feed_denied : (held : List ℕ) (len : ℕ) → IsFeedAt held len → ¬ (HasNoFeed held)
no_feed_denied held len feed none =
    false≢true (sym (All-get_or (λ byte. is_feed byte ≡ false) held len 0 feed.within none) ∙ ap is_feed feed.feed)

-- the answer of a search for a line feed, as a test, where no line is passed over
pub found_or_none : (passing : Bool) (held : List ℕ) (found : Option ℕ) → passing ≡ false →
    MatchOption found (HasNoFeed held) (IsFeedAt held)
    → MatchBool (is_some found) ((passing ≡ false) × ¬ (HasNoFeed held)) ((passing ≡ true) ⊎ HasNoFeed held)
found_or_none passing held None plain answer = inr answer
found_or_none passing held (Some len) plain answer = (plain, no_feed_denied held len answer)

-- bytes were read after those that were moved to the start
pub no_feed_after_read : (old new : List ℕ) (a b f : ℕ) → take (b - a) new ≡ slice_range old a b → b - a ≤ f
    → HasNoFeed (slice_range old a b) → HasNoFeed (slice_range new (b - a) f) → HasNoFeed (slice_range new 0 f)
no_feed_after_read old new a b f kept order whole more =
    let moved : slice_range new 0 (b - a) ≡ slice_range old a b = ap (λ n. take n new) (sub-zero (b - a)) ∙ kept in
    subst HasNoFeed (sym (range_split new 0 (b - a) f (omega arith) order))
    (no_feed_append (slice_range new 0 (b - a)) (slice_range new (b - a) f) (subst HasNoFeed (sym moved) whole) more)

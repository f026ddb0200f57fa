-- Runs of bytes that pass a test: gaps, and plain words.
use Rattle.std.proofs.Common.{◌≡◌, ℕ, ◌+◌, ◌<◌, Bool, true, false, List, [], ◌∷◌, ◌++◌, length, drop, refl, ◌∙◌, ap, arith, suc, eqb-true}
use Rattle.std.proofs.Common.{◌≢◌, length-append}
use Rattle.std.specs.Prelude.{slice_index, ◌==◌}
use Rattle.std.specs.List.{list_all, prefix_len}
use Rattle.std.proofs.lemmas.Grind.{common_steps}
use Rattle.seam_words.specs.Words.{is_plain, EndsWord}
use Rattle.seam_words.specs.Faults.{HasOpenQuote, BeginsWord}
use Rattle.seam_words.specs.Faults.HasOpenQuote.{inside}
use Rattle.seam_words.specs.WordParts.{IsFirstWord}

-- the bytes are none, or the first fails the test
abbrev pub StopsAt : (ℕ → Bool) → List ℕ → Type 0
StopsAt p [] = Unit {0}
StopsAt p (b ∷ bytes) = p b ≡ false

-- the bytes as a run that passes the test, and what follows it
pub record HasRun (p : ℕ → Bool) (bytes rest : List ℕ) : Type 0 where
  pub run : List ℕ
  pub passes : list_all p run ≡ true
  pub stops : StopsAt p rest
  pub whole : bytes ≡ run ++ rest

one_longer : (p : ℕ → Bool) (b : ℕ) (bytes rest : List ℕ) → p b ≡ true → HasRun p bytes rest → HasRun p (b ∷ bytes) rest
one_longer p b bytes rest e h = record {
  run = b ∷ h.run;
  passes = grind (arith, e, h.passes);
  stops = h.stops;
  whole = ap (λ (xs : List ℕ). b ∷ xs) h.whole;
}

pub has_run : (p : ℕ → Bool) (bytes : List ℕ) → HasRun p bytes (drop (prefix_len p bytes) bytes)
has_run p [] = record { run = []; passes = refl; stops = tt; whole = refl }
has_run p (b ∷ bytes) = by_test (p b) refl (has_run p bytes)
  where
    by_test : (t : Bool) → p b ≡ t → HasRun p bytes (drop (prefix_len p bytes) bytes) →
        HasRun p (b ∷ bytes) (drop (prefix_len p (b ∷ bytes)) (b ∷ bytes))
    by_test true e h =
        let step : 1 + prefix_len p bytes ≡ suc (prefix_len p bytes) = omega arith in
        rw (e, step) (one_longer p b bytes (drop (prefix_len p bytes) bytes) e h)
    by_test false e h = rw e (record { run = []; passes = refl; stops = e; whole = refl })

-- plain bytes are a word where no quote follows them, and else have a quote inside
no_quote_first : (bytes rest run : List ℕ) → list_all is_plain run ≡ true → 0 < length run → bytes ≡ run ++ rest →
    (slice_index bytes 0 == 34) ≡ false
no_quote_first bytes rest [] p h e = absurd (omega arith)
no_quote_first bytes rest (r ∷ run) p h e = rw e (grind (arith, common_steps, p))

some_plain : (bytes rest run : List ℕ) → BeginsWord bytes → StopsAt is_plain rest → (slice_index rest 0 == 34) ≡ false →
    bytes ≡ run ++ rest → 0 < length run
some_plain [] rest run s p q e = absurd s
some_plain (b ∷ bytes) rest (r ∷ run) s p q e = omega arith
some_plain (b ∷ bytes) [] [] s p q e = cc
some_plain (b ∷ bytes) (x ∷ rest) [] s p q e =
    let same : b ≡ x = cc in
    absurd (grind (arith, common_steps))

quote_first : (bytes : List ℕ) → (slice_index bytes 0 == 34) ≡ true → bytes ≡ 34 ∷ drop 1 bytes
quote_first [] e = cc
quote_first (b ∷ bytes) e = ap (λ (x : ℕ). x ∷ bytes) (eqb-true b 34 e)

ends_word : (bytes : List ℕ) → StopsAt is_plain bytes → (slice_index bytes 0 == 34) ≡ false → EndsWord bytes
ends_word [] p e = tt
ends_word (b ∷ bytes) p e = grind (arith, common_steps)

pub plain_word : (bytes rest : List ℕ) → BeginsWord bytes → HasRun is_plain bytes rest → (slice_index rest 0 == 34) ≡ false →
    IsFirstWord (slice_index bytes 0 == 34) bytes rest
plain_word bytes rest s h e =
    let some : 0 < length h.run = some_plain bytes rest h.run s h.stops e h.whole in
    rw (no_quote_first bytes rest h.run h.passes some h.whole) (record {
      word = h.run;
      good = record { some = some; plain = h.passes };
      ends = ends_word rest h.stops e;
      whole = h.whole;
    })

pub quote_inside : (bytes rest : List ℕ) → HasRun is_plain bytes rest → length rest ≢ length bytes → (slice_index rest 0 == 34) ≡ true →
    HasOpenQuote bytes
quote_inside bytes rest h more e =
    let some : 0 < length h.run = omega (arith, ap length h.whole, length-append h.run rest) in
    inside h.run (drop 1 rest) (record { some = some; plain = h.passes })
    (h.whole ∙ ap (λ (xs : List ℕ). h.run ++ xs) (quote_first rest e))

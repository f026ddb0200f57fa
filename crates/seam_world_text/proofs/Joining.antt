-- Texts of chunks, one after the other, are that of the whole.
use Rattle.std.proofs.Common.{◌≡◌, ℕ, zero, suc, ◌+◌, ◌*◌, ◌/◌, ◌%◌, ◌<◌, ◌≤◌, min, List, [], ◌∷◌, ◌++◌, length, map, get_or, take, drop}
use Rattle.std.proofs.Common.{refl, sym, ap, ◌∙◌, subst, arith, inl, inr, add-one, append-nil, append_assoc}
use Rattle.std.specs.Prelude.{Result, Ok, IfOk}
use Rattle.std.specs.List.{flat_map, All}
use Rattle.std.specs.Fork.{slice_chunk}
use native.Mathlib.Nat.{add-mul, one-mul, suc-mul, zero-mul}
use Rattle.std.proofs.lemmas.Nat.{div-add-mod', mod_below}
use Rattle.std.proofs.lemmas.Bool.{cases_lt}
use Rattle.std.proofs.Math.Seq.{take-add}
use Rattle.std.proofs.Math.ListN.{get_or-map}
use Rattle.std.proofs.lemmas.List.{take_all, take_more, flat_map_more, length-map}
use Rattle.std.proofs.lemmas.List.Concat.{flat_map-append}
use Rattle.seam_world_text.specs.RoundParts.{AreTextsOf}
use Rattle.seam_world_text.specs.declared.residents.Resident.{Resident}
use Rattle.seam_world_text.specs.declared.chunks.Texts.{Texts}

-- one more is written
pub one_more : {X : Type 0} (f : X → List ℕ) (o before after : List ℕ) (xs : List X) (i : ℕ) (d : X) → i < length xs →
    before ≡ o ++ flat_map f (take i xs) → after ≡ before ++ f (get_or xs i d) → after ≡ o ++ flat_map f (take (i + 1) xs)
one_more f o before after xs i d lt was is =
    is ∙ ap (λ t. t ++ f (get_or xs i d)) was ∙ flat_map_more f o (take i xs) (get_or xs i d)
    ∙ ap (λ l. o ++ flat_map f l) (sym (take_more xs i d lt))

-- so many chunks cover the whole
covers : (count len size : ℕ) → 0 < size → count ≡ len / size + min 1 (len % size) → len ≤ count * size
covers count len size p e =
    let q = len / size in
    let r = len % size in
    let all : q * size + r ≡ len = div-add-mod' len size in
    let below : r < size = mod_below len size p in
    elim (cases_lt 0 r) [
      | inl some ↦ (let more : count ≡ q + 1 = omega arith in
          omega (arith, all, below, ap (λ n. n * size) more, add-mul q 1 size, one-mul size))
      | inr none ↦ (let same : count ≡ q = omega arith in omega (arith, all, none, ap (λ n. n * size) same))
    ]

some_of : {C : Type 0} (cs : List C) (n : ℕ) → n < length cs → C
some_of [] n lt = absurd (omega (arith, lt))
some_of (c ∷ cs) n lt = c

module _ {X C : Type 0} (f : X → List ℕ) (h : C → List ℕ) (size : ℕ) (xs : List X) (cs : List C)
    (each : (n : ℕ) (d : C) → n < length cs → h (get_or cs n d) ≡ flat_map f (slice_chunk xs size n)) where
  so_far : (n : ℕ) → n ≤ length cs → flat_map h (take n cs) ≡ flat_map f (take (n * size) xs)
  so_far zero l = ap (λ k. flat_map f (take k xs)) (sym (zero-mul size))
  so_far (suc n) l =
      let d = some_of cs n (omega arith) in
      let more : take (suc n) cs ≡ take n cs ++ get_or cs n d ∷ [] =
      ap (λ k. take k cs) (sym (add-one n)) ∙ take_more cs n d (omega arith) in
      ap (flat_map h) more
      ∙ flat_map-append h (take n cs) (get_or cs n d ∷ [])
      ∙ (λ i. so_far n (omega arith) i ++ (append-nil (h (get_or cs n d)) ∙ each n d (omega arith)) i)
      ∙ sym (flat_map-append f (take (n * size) xs) (take size (drop (n * size) xs)))
      ∙ ap (flat_map f) (sym (take-add (n * size) size xs))
      ∙ ap (λ k. flat_map f (take k xs)) (sym (suc-mul n size))

  pub chunks_join : 0 < size → length cs ≡ length xs / size + min 1 (length xs % size) → flat_map h cs ≡ flat_map f xs
  chunks_join p e =
      sym (ap (flat_map h) (take_all (length cs) cs (omega arith)))
      ∙ so_far (length cs) (omega arith)
      ∙ ap (flat_map f) (take_all (length cs * size) xs (covers (length cs) (length xs) size p e))

-- the texts of each chunk are what f and g give of it
abbrev pub AreWritten : {E : Type 0} → (f g : Resident → List ℕ) → ℕ → List Resident → List (Result Texts E) → Type 0
AreWritten {E} f g size rs chunks =
    (n : ℕ) (d : Result Texts E) → n < length chunks → IfOk (get_or chunks n d)
    (λ t. (t.first.items ≡ flat_map f (slice_chunk rs size n)) × (t.second.items ≡ flat_map g (slice_chunk rs size n)))

module _ {E : Type 0} (f g : Resident → List ℕ) (size : ℕ) (rs : List Resident) (chunks : List (Result Texts E)) (ts : List Texts)
    (are : map Ok ts ≡ chunks) (written : AreWritten f g size rs chunks) where
  each : (n : ℕ) (d : Texts) → n < length ts → ((get_or ts n d).first.items ≡ flat_map f (slice_chunk rs size n))
      × ((get_or ts n d).second.items ≡ flat_map g (slice_chunk rs size n))
  each n d lt =
      let many : length ts ≡ length chunks = sym (length-map ts Ok) ∙ ap length are in
      subst (λ (r : Result Texts E). IfOk r
      (λ t. (t.first.items ≡ flat_map f (slice_chunk rs size n)) × (t.second.items ≡ flat_map g (slice_chunk rs size n))))
      (ap (λ l. get_or l n (Ok d)) (sym are) ∙ get_or-map Ok ts n d) (written n (Ok d) (omega (arith, many, lt)))

  pub texts_join : 0 < size → length chunks ≡ length rs / size + min 1 (length rs % size) → AreTextsOf f g rs ts
  texts_join p e =
      let many : length ts ≡ length rs / size + min 1 (length rs % size) = sym (length-map ts Ok) ∙ ap length are ∙ e in
      record {
        first = chunks_join f (λ (t : Texts). t.first.items) size rs ts (λ n d lt. (each n d lt).0) p many;
        second = chunks_join g (λ (t : Texts). t.second.items) size rs ts (λ n d lt. (each n d lt).1) p many;
      }

-- four texts are appended one after the other
pub four_parts : (o a b c d : List ℕ) → (((o ++ a) ++ b) ++ c) ++ d ≡ o ++ (a ++ (b ++ (c ++ d)))
four_parts o a b c d = simp append_assoc

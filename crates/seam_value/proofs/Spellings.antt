-- Texts in quotes: their spelling tells the content.
use Rattle.std.proofs.Common.{◌≡◌, ◌≢◌, ℕ, List, [], ◌∷◌, ◌++◌, length, refl, sym, ◌∙◌, ap, arith, append_assoc}
use Rattle.std.specs.List.{flat_map}
use Rattle.std.proofs.lemmas.List.{append_cancel_right}
use Rattle.std.proofs.lemmas.Grind.{common_steps, flat_map-append}
use Rattle.seam_value.specs.Texts.{spelled_byte, quoted}

-- a spelling tells its first byte and what follows
pub same_byte : (b c : ℕ) (xs ys : List ℕ) → spelled_byte b ++ xs ≡ spelled_byte c ++ ys → (b ≡ c) × (xs ≡ ys)
same_byte b c xs ys e = grind (arith, common_steps)

-- no spelling is empty
pub some_bytes : (b : ℕ) (rest : List ℕ) → [] ≢ spelled_byte b ++ rest
some_bytes b rest e = grind (arith, common_steps)

-- a spelling tells the content
pub content_is : (xs ys : List ℕ) → flat_map spelled_byte xs ≡ flat_map spelled_byte ys → xs ≡ ys
content_is [] [] e = refl
content_is [] (y ∷ ys) e = absurd (some_bytes y (flat_map spelled_byte ys) e)
content_is (x ∷ xs) [] e = absurd (some_bytes x (flat_map spelled_byte xs) (sym e))
content_is (x ∷ xs) (y ∷ ys) e =
    let first = same_byte x y (flat_map spelled_byte xs) (flat_map spelled_byte ys) e in
    let others = content_is xs ys first.1 in
    cc (first.0, others)

pub quoted-injective : (xs ys : List ℕ) → quoted xs ≡ quoted ys → xs ≡ ys
unfolding quoted
quoted-injective xs ys e =
    let same : flat_map spelled_byte xs ++ 34 ∷ [] ≡ flat_map spelled_byte ys ++ 34 ∷ [] = cc in
    content_is xs ys (append_cancel_right (flat_map spelled_byte xs) (flat_map spelled_byte ys) (34 ∷ []) same)

-- the reading of the bytes between the quotes, byte after byte
pub more_content : (content rest after whole : List ℕ) (b : ℕ) → flat_map spelled_byte content ++ rest ≡ whole →
    rest ≡ spelled_byte b ++ after → flat_map spelled_byte (content ++ b ∷ []) ++ after ≡ whole
more_content content rest after whole b e r =
    ap (λ (xs : List ℕ). xs ++ after) (flat_map-append spelled_byte content (b ∷ []))
    ∙ simp append_assoc (ap (λ (xs : List ℕ). flat_map spelled_byte content ++ xs) (sym r) ∙ e)

pub less_to_come : (rest after : List ℕ) (b : ℕ) → rest ≡ spelled_byte b ++ after → (more : List ℕ) → flat_map spelled_byte more ≡ rest →
    (others : List ℕ) × (flat_map spelled_byte others ≡ after)
less_to_come rest after b r [] e = absurd (some_bytes b after (e ∙ r))
less_to_come rest after b r (c ∷ others) e = (others, (same_byte c b (flat_map spelled_byte others) after (e ∙ r)).1)

pub none_to_come : (rest : List ℕ) → length rest ≢ 0 → ((b : ℕ) (after : List ℕ) → rest ≢ spelled_byte b ++ after) → (more : List ℕ) →
    flat_map spelled_byte more ≢ rest
none_to_come rest some never [] e = some (ap length (sym e))
none_to_come rest some never (b ∷ more) e = never b (flat_map spelled_byte more) (sym e)

-- the quotes round it
pub quoted_is : (bytes inner content : List ℕ) → bytes ≡ 34 ∷ inner ++ 34 ∷ [] → flat_map spelled_byte content ≡ inner →
    quoted content ≡ bytes
unfolding quoted
quoted_is bytes inner content b e = rw (e, b) refl

pub no_quoted_inside : (bytes inner : List ℕ) → bytes ≡ 34 ∷ inner ++ 34 ∷ [] →
    ((content : List ℕ) → flat_map spelled_byte content ≢ inner) → (content : List ℕ) → quoted content ≢ bytes
unfolding quoted
no_quoted_inside bytes inner b never content e =
    let same : flat_map spelled_byte content ++ 34 ∷ [] ≡ inner ++ 34 ∷ [] = cc in
    never content (append_cancel_right (flat_map spelled_byte content) inner (34 ∷ []) same)

pub no_quotes : (bytes : List ℕ) → ((inner : List ℕ) → bytes ≢ 34 ∷ inner ++ 34 ∷ []) → (content : List ℕ) → quoted content ≢ bytes
unfolding quoted
no_quotes bytes never content e = never (flat_map spelled_byte content) (sym e)

-- How pieces make a quoted word.
use Rattle.std.proofs.Common.{◌≡◌, ◌≢◌, ℕ, ◌-◌, ◌<◌, Bool, true, false, List, [], ◌∷◌, ◌++◌, length, take, drop, refl, sym, ◌∙◌, ap, arith}
use Rattle.std.proofs.Common.{inl, inr, append_assoc, append-nil, Bor, Option, Some, None, eqb-true}
use Rattle.std.specs.Prelude.{slice_index, MatchOption, ◌==◌}
use Rattle.std.specs.List.{concat, AllByRecursion}
use Rattle.std.proofs.lemmas.List.Folds.{concat-append}
use Rattle.std.proofs.lemmas.Grind.{common_steps}
use Rattle.seam_words.specs.Words.{is_blank, is_escaped, IsPiece, ArePieces}
use Rattle.seam_words.specs.Faults.{HasOpenQuote, HasBadEscape, IsNoEscape}
use Rattle.seam_words.specs.Faults.HasOpenQuote.{unended, followed}
use Rattle.seam_words.specs.WordParts.{IsFirstWord, EndsPieces, ClosesWord, HasPiece, HasBadPiece, HasPieces, RefusesPieces}

-- the bytes that a pattern names after the first
pub cons_is : (bytes : List ℕ) → 0 < length bytes → bytes ≡ slice_index bytes 0 ∷ take (length bytes - 1) (drop 1 bytes)
cons_is [] h = absurd (omega arith)
cons_is (b ∷ bytes) h = ap (λ (xs : List ℕ). b ∷ xs) (grind (arith, common_steps))

pub drop_first : (bytes : List ℕ) → take (length bytes - 1) (drop 1 bytes) ≡ drop 1 bytes
drop_first bytes = grind (arith, common_steps)

pub quoted_first : (bytes : List ℕ) → (slice_index bytes 0 == 34) ≡ true → bytes ≡ 34 ∷ take (length bytes - 1) (drop 1 bytes)
quoted_first [] e = cc
quoted_first (b ∷ bytes) e = cons_is (b ∷ bytes) (omega arith) ∙ ap (λ (x : ℕ). x ∷ take (length (b ∷ bytes) - 1) bytes) (eqb-true b 34 e)

-- pieces, and one more
each_append : (xs ys : List (List ℕ)) → AllByRecursion IsPiece xs → AllByRecursion IsPiece ys → AllByRecursion IsPiece (xs ++ ys)
each_append [] ys p q = q
each_append (x ∷ xs) ys p q = (p.0, each_append xs ys p.1 q)

pub one_more : (bytes prefix rest after : List ℕ) → ArePieces prefix → bytes ≡ prefix ++ rest → HasPiece rest after →
    (more : List ℕ) × ArePieces more × (bytes ≡ more ++ after)
one_more bytes prefix rest after p e h = (
  prefix ++ h.piece,
  record {
    pieces = p.pieces ++ h.piece ∷ [];
    each = each_append p.pieces (h.piece ∷ []) p.each (h.good, tt);
    joined =
        ap (λ (xs : List ℕ). xs ++ h.piece) p.joined ∙ ap (λ (xs : List ℕ). concat p.pieces ++ xs) (sym (append-nil h.piece))
        ∙ sym (concat-append p.pieces (h.piece ∷ []));
  },
  e ∙ ap (λ (xs : List ℕ). prefix ++ xs) h.whole ∙ sym (append_assoc prefix h.piece after),
)

pub no_pieces : ArePieces []
no_pieces = record { pieces = []; each = tt; joined = refl }

-- a byte that is neither quote nor backslash is a piece, and so is an escape
pub plain_piece : (bytes rest : List ℕ) → bytes ≡ slice_index bytes 0 ∷ rest → ¬ (EndsPieces bytes) → slice_index bytes 0 ≢ 92 →
    HasPiece bytes rest
plain_piece [] rest e h o = absurd (h tt)
plain_piece (b ∷ bytes) rest e h o = record { piece = b ∷ []; good = (b, inl (refl, h, o)); whole = e }

pub escape_piece : (bytes inner rest : List ℕ) (b : ℕ) → bytes ≡ 92 ∷ inner → is_escaped b ≡ true → inner ≡ b ∷ rest → HasPiece bytes rest
escape_piece bytes inner rest b e h i =
    record { piece = 92 ∷ b ∷ []; good = (b, inr (refl, h)); whole = e ∙ ap (λ (xs : List ℕ). 92 ∷ xs) i }

pub after_backslash : (bytes inner : List ℕ) → bytes ≡ 92 ∷ inner → (r : Option (Bor (List ℕ))) →
    MatchOption r (IsNoEscape inner) (λ rest. (is_escaped (slice_index inner 0) ≡ true) × (inner ≡ slice_index inner 0 ∷ rest.now)) →
    MatchOption r (HasBadPiece bytes) (λ rest. HasPiece bytes rest.now)
after_backslash bytes inner e None h = record { rest = inner; bad = h; whole = e }
after_backslash bytes inner e (Some rest) h = escape_piece bytes inner rest.now (slice_index inner 0) e h.0 h.1

-- a quoted word that ends, and one that does not
pub quoted_word : (bytes inner rest : List ℕ) → bytes ≡ 34 ∷ inner → HasPieces inner rest → ClosesWord rest →
    IsFirstWord true bytes (drop 1 rest)
quoted_word bytes inner [] e p c = absurd c
quoted_word bytes inner (b ∷ rest) e p c = record {
  word = 34 ∷ p.prefix ++ 34 ∷ [];
  good = record { inside = p.prefix; pieces = p.pieces; quotes = refl };
  ends = c.1;
  whole = e ∙ ap (λ (xs : List ℕ). 34 ∷ xs) (p.whole ∙ rw c.0 (sym (append_assoc p.prefix (34 ∷ []) rest)));
}

pub open_quote : (bytes inner rest : List ℕ) → bytes ≡ 34 ∷ inner → HasPieces inner rest → ¬ (ClosesWord rest) → HasOpenQuote bytes
open_quote bytes inner [] e p c = unended p.prefix p.pieces (e ∙ ap (λ (xs : List ℕ). 34 ∷ xs) (p.whole ∙ grind (arith, common_steps)))
open_quote bytes inner (b ∷ []) e p c = absurd (c (p.ends, tt))
open_quote bytes inner (b ∷ d ∷ rest) e p c =
    followed (34 ∷ p.prefix ++ 34 ∷ []) d rest (record { inside = p.prefix; pieces = p.pieces; quotes = refl }) (other (is_blank d) refl) (e
    ∙ ap (λ (xs : List ℕ). 34 ∷ xs) (p.whole ∙ rw p.ends (sym (append_assoc p.prefix (34 ∷ []) (d ∷ rest)))))
  where
    other : (t : Bool) → is_blank d ≡ t → is_blank d ≡ false
    other true f = absurd (c (p.ends, f))
    other false f = f

pub bad_escape : (bytes inner : List ℕ) → bytes ≡ 34 ∷ inner → RefusesPieces inner → HasBadEscape bytes
bad_escape bytes inner e p =
    record { prefix = p.prefix; rest = p.rest; pieces = p.pieces; bad = p.bad; whole = e ∙ ap (λ (xs : List ℕ). 34 ∷ xs) p.whole }

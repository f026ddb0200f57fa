-- Rows of links, as they are made.
use Rattle.std.proofs.Common.{◌≡◌, ℕ, zero, suc, ◌+◌, ◌<◌, List, [], ◌∷◌, ◌++◌, length, Some, get_or, drop, map, refl, sym, ap, ◌∙◌, arith}
use Rattle.std.proofs.Common.{inl, inr}
use Rattle.std.specs.Prelude.{slice_get}
use Rattle.std.proofs.lemmas.Bool.{cases_eq}
use Rattle.std.proofs.lemmas.List.{get_or-drop}
use Rattle.std.proofs.lemmas.Option.{slice_get_within}
use Rattle.seam_link.specs.Ends.{OutView}
use Rattle.seam_stamp.specs.declared.Letter.{Letter}
use Rattle.seam_logged.specs.Logs.{EndsView}
use Rattle.seam_logged.specs.Mesh.{AreFull, AreLinked, at_start}
use Rattle.seam_logged.specs.SomeLinks.{Reached}
use Rattle.seam_logged.proofs.LinkPlaces.{pushed}

pub at_start_append : {T : Type 0} (xs ys : List T) → at_start (xs ++ ys) ≡ at_start xs ++ at_start ys
at_start_append [] ys = refl
at_start_append (x ∷ xs) ys = ap (λ l. record { stamp = 0; item = x } ∷ l) (at_start_append xs ys)

drop_none : {X : Type 0} (k : ℕ) → drop {A = X} k [] ≡ []
drop_none zero = refl
drop_none (suc k) = refl

pub head_of_drop : {X : Type 0} (k : ℕ) (all : List X) (x d : X) (xs : List X) → x ∷ xs ≡ drop k all → get_or all k d ≡ x
head_of_drop k all x d xs e = ap (λ (j : ℕ). get_or all j d) (omega arith) ∙ (sym (get_or-drop k all 0 d) ∙ ap (λ l. get_or l 0 d) (sym e))

-- drop of a drop
pub drop_more : {X : Type 0} (a b : ℕ) (xs : List X) → drop b (drop a xs) ≡ drop (a + b) xs
drop_more zero b xs = ap (λ (k : ℕ). drop k xs) (omega arith)
drop_more (suc a) b [] = drop_none b ∙ sym (drop_none (suc a + b))
drop_more (suc a) b (x ∷ xs) = let e : suc (a + b) ≡ suc a + b = omega arith in drop_more a b xs ∙ ap (λ (k : ℕ). drop k (x ∷ xs)) e

pub map_drop : {A B : Type 0} (f : A → B) (k : ℕ) (xs : List A) → map f (drop k xs) ≡ drop k (map f xs)
map_drop f zero xs = refl
map_drop f (suc k) [] = refl
map_drop f (suc k) (x ∷ xs) = map_drop f k xs

module _ {T H : Type 0} where
  -- no node has an end
  abbrev pub AllNone : List (EndsView T H) → Type 0
  AllNone ends = (k : ℕ) (e : EndsView T H) → slice_get ends k ≡ Some e → (e.ins ≡ []) × (e.outs ≡ [])

  pub none_pushed : (ends : List (EndsView T H)) (e : EndsView T H) → AllNone ends → e.ins ≡ [] → e.outs ≡ [] → AllNone (ends ++ e ∷ [])
  none_pushed ends e none i o k f at = elim (pushed ends e k f at) [ inl h ↦ none k f h | inr h ↦ rw h.1 (i, o) ]

  pub reached_none : (n : ℕ) (ends : List (EndsView T H)) → length ends ≡ n → AllNone ends → Reached n 0 0 ends
  reached_none n ends many none = record {
    count = many;
    outs_low = λ k e at lt. absurd (omega (arith, lt));
    outs_here = λ k e at is. ap length (none k e at).1;
    outs_high = λ k e at gt. ap length (none k e at).1;
    ins_low = λ k e at lt. absurd (omega (arith, lt));
    ins_high = λ k e at ge. ap length (none k e at).0;
  }

  -- the next row begins where one ended
  pub reached_row : (n a : ℕ) (ends : List (EndsView T H)) → Reached n a n ends → Reached n (a + 1) 0 ends
  reached_row n a ends r = record {
    count = r.count;
    outs_low = λ k e at lt. elim (cases_eq k a) [ inl h ↦ r.outs_here k e at h | inr h ↦ r.outs_low k e at (omega (arith, lt, h)) ];
    outs_here = λ k e at is. r.outs_high k e at (omega (arith, is));
    outs_high = λ k e at gt. r.outs_high k e at (omega (arith, gt));
    ins_low = λ k e at lt. absurd (omega (arith, lt));
    ins_high = λ k e at ge. r.ins_low k e at (omega (arith, slice_get_within ends k e at, r.count));
  }

  pub reached_full : (n : ℕ) (ends : List (EndsView T H)) → Reached n n 0 ends → AreFull n ends
  reached_full n ends r = record {
    count = r.count;
    ins = λ k e at. r.ins_high k e at (omega arith);
    outs = λ k e at. r.outs_low k e at (omega (arith, slice_get_within ends k e at, r.count));
  }

  pub full_reached : (n : ℕ) (ends : List (EndsView T H)) → AreFull n ends → Reached n n 0 ends
  full_reached n ends f = record {
    count = f.count;
    outs_low = λ k e at lt. f.outs k e at;
    outs_here = λ k e at is. absurd (omega (arith, slice_get_within ends k e at, f.count, is));
    outs_high = λ k e at gt. absurd (omega (arith, slice_get_within ends k e at, f.count, gt));
    ins_low = λ k e at lt. absurd (omega (arith, lt));
    ins_high = λ k e at ge. f.ins k e at;
  }

  none_within : (a : ℕ) (os : List (OutView (Letter T) H)) (b : ℕ) → b < length os → (0 < a → length os ≡ 0) → (a ≡ 0 → length os ≡ 0) → ⊥
  none_within a os b lt few few' =
      elim (cases_eq a 0) [ inl h ↦ omega (arith, lt, few' h) | inr h ↦ omega (arith, lt, few (omega (arith, h))) ]

  pub linked_none : (n : ℕ) (links : List (List T)) (ends : List (EndsView T H)) → Reached n 0 0 ends → AreLinked n links ends
  linked_none n links ends r a b o i (e, at, is) end =
      absurd (let within = slice_get_within e.outs b o is in let few = r.outs_high a e at in let few' = r.outs_here a e at in
      none_within a e.outs b within few few')

  pub row_reached : (n a : ℕ) (ends : List (EndsView T H)) → Reached n (a + 1) 0 ends → Reached n a n ends
  row_reached n a ends r = record {
    count = r.count;
    outs_low = λ k e at lt. r.outs_low k e at (omega (arith, lt));
    outs_here = λ k e at is. r.outs_low k e at (omega (arith, is));
    outs_high = λ k e at gt. elim (cases_eq k (a + 1)) [ inl h ↦ r.outs_here k e at h | inr h ↦ r.outs_high k e at (omega (arith, gt, h)) ];
    ins_low = λ k e at lt. r.ins_high k e at (omega arith);
    ins_high = λ k e at ge. absurd (omega (arith, slice_get_within ends k e at, r.count, ge));
  }

-- What a call did, by the words of a line.
use Rattle.std.proofs.Common.{◌≡◌, ◌≢◌, ℕ, zero, suc, ◌<◌, List, [], ◌∷◌, Option, Some, None, get_or, drop, map, length, refl, sym, ◌∙◌, ap}
use Rattle.std.proofs.Common.{subst, arith, slice_get, slice_index_or}
use Rattle.seam_geo.specs.declared.pos.Pos.{Pos}
use Rattle.seam_value.specs.Values.{decimal_of, text_of}
use Rattle.seam_value.specs.declared.values.Value.{Value}
use Rattle.seam_defs.specs.Deeds.{FitsDeed, AreArgsOf}
use Rattle.seam_defs.specs.Types.{IsMethod, IsType, method_of, names_of_methods, no_method}
use Rattle.seam_defs.specs.declared.states.Deed.{Deed}
use Rattle.seam_defs.specs.declared.states.Deed.TheVariants.{Move, Method}
use Rattle.seam_defs.specs.declared.types.Method.{Method as MethodDef}
use Rattle.seam_defs.specs.declared.types.TypeDef.{TypeDef}
use Rattle.seam_law_texts.specs.TextLines.{deed_words}
use Rattle.seam_law_texts.specs.Forms.{GoesToPosition, IsPosition}

first_of : (ws vs : List (List ℕ)) → ws ≡ vs → get_or ws 0 [] ≡ get_or vs 0 []
first_of ws vs is = ap (λ (xs : List (List ℕ)). get_or xs 0 []) is

names_at : (ms : List MethodDef) (k : ℕ) (name : List ℕ) → slice_get (names_of_methods ms) k ≡ Some name →
    (k < length ms) × ((slice_index_or ms k no_method).name ≡ name)
names_at [] k name at = absurd (cc)
names_at (m ∷ ms) zero name at = (omega arith, cc)
names_at (m ∷ ms) (suc k) name at = let later = names_at ms k name at in (omega (arith, later.0), later.1)

at_name : (ms : List MethodDef) (k : ℕ) → k < length ms → slice_get (names_of_methods ms) k ≡ Some (slice_index_or ms k no_method).name
at_name [] k below = absurd (omega (arith, below))
at_name (m ∷ ms) zero below = refl
at_name (m ∷ ms) (suc k) below = at_name ms k (omega (arith, below))

some_is : (m n : ℕ) → Some m ≡ Some n → m ≡ n
some_is m n is = cc

none_is : (o : Option ℕ) (n : ℕ) → o ≡ None → o ≡ Some n → ⊥
none_is o n none some = cc

module _ (t : TypeDef) (sound : IsType t) (ws : List (List ℕ)) where
  pub deed_some : (k : ℕ) (d : Deed) (o : Option ℕ) → o ≡ Some k →
      slice_get (names_of_methods t.methods) k ≡ Some (get_or ws 0 []) →
      ((j : ℕ) → slice_get (names_of_methods t.methods) j ≡ Some (get_or ws 0 []) → o ≡ Some j) →
      ((vs : List Value) → k < length t.methods → AreArgsOf (method_of t k).args vs → drop 1 ws ≡ map text_of vs → d ≡ Method k vs) →
      (c : Deed) → FitsDeed t c → GoesToPosition c → ws ≡ deed_words t c → d ≡ c
  deed_some k d o found named all told (Move p) fits goes is =
      let here = names_at t.methods k (get_or ws 0 []) named in
      let method : IsMethod t.properties (method_of t k) = sound.bodies k no_method here.0 in
      absurd (method.not_move (here.1 ∙ first_of ws _ is))
  deed_some k d o found named all told (Method m vs) fits goes is =
      let same : k ≡ m =
      some_is k m (sym found ∙ all m (at_name t.methods m fits.0 ∙ ap (λ (name : List ℕ). Some name) (sym (first_of ws _ is)))) in
      told vs (subst (λ (n : ℕ). n < length t.methods) (sym same) fits.0)
      (subst (λ (n : ℕ). AreArgsOf (method_of t n).args vs) (sym same) fits.1) (ap (drop 1) is)
      ∙ ap (λ (n : ℕ). Method n vs) same

  pub deed_none : (p : Pos) (o : Option ℕ) → o ≡ None →
      ((j : ℕ) → slice_get (names_of_methods t.methods) j ≡ Some (get_or ws 0 []) → o ≡ Some j) →
      ((q : Pos) → IsPosition q → get_or ws 1 [] ≡ decimal_of q.x → get_or ws 2 [] ≡ decimal_of q.z → p ≡ q) →
      (c : Deed) → FitsDeed t c → GoesToPosition c → ws ≡ deed_words t c → Move p ≡ c
  deed_none p o none all told (Move q) fits goes is =
      ap Move (told q goes (ap (λ (xs : List (List ℕ)). get_or xs 1 []) is) (ap (λ (xs : List (List ℕ)). get_or xs 2 []) is))
  deed_none p o none all told (Method m vs) fits goes is =
      absurd (none_is o m none
      (all m (at_name t.methods m fits.0 ∙ ap (λ (name : List ℕ). Some name) (sym (first_of ws _ is)))))

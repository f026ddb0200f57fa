-- What a change of each item leaves.
use Rattle.std.proofs.Common.{◌≡◌, ℕ, Bool, true, false, cond, nat_eq, List, [], ◌∷◌, Option, None, Some, option_map, map as each, refl}
use Rattle.std.proofs.Common.{sym, ap, subst, ◌∙◌}
use Rattle.std.specs.Option.{option_flatten}
use Rattle.std.specs.Ordering.{nat_cmp}
use Rattle.std.specs.Cmp.{nat_cmp_total}
use Rattle.std.specs.Map.{keys_of, lookup}
use Rattle.std.specs.Map.Calls.{RetainsPairs}
use Rattle.std.specs.List.{IsDistinct}
use Rattle.std.specs.FinMap as map
use Rattle.std.specs.FinSet as set
use Rattle.seam_table.specs.Tables.{with_each}
use Rattle.seam_table.specs.Entries.{table_of}
use Rattle.seam_table.proofs.Changed.{got_changed}
use Rattle.seam_table.proofs.TableLemmas.{item-slot}

-- a test that always answers `true` keeps each key
pub keys_retained : {F K X : Type 0} (T : F → K → X → Bool → X → F → Type 0) →
    ((f : F) (k : K) (v : X) (b : Bool) (w : X) (f' : F) → T f k v b w f' → b ≡ true) → (f : F) (es kept : List (K × X)) →
    RetainsPairs T f es kept → keys_of kept ≡ keys_of es
keys_retained T always f [] kept r = ap keys_of r
keys_retained T always f (e ∷ es) kept r =
    ap keys_of (r.6 ∙ ap (λ b. cond b ((e.0, r.1) ∷ r.3) r.3) (always f e.0 e.1 r.0 r.1 r.2 r.4))
    ∙ ap (λ ks. e.0 ∷ ks) (keys_retained T always r.2 es r.3 r.5)

module _ {T : Type 0} (f : T → T) where
  at_head : (b : Bool) (x : Option T) (r : Option (Option T)) →
      cond b (Some (option_map f x)) (option_map (option_map f) r) ≡ option_map (option_map f) (cond b (Some x) r)
  at_head true x r = refl
  at_head false x r = refl

  lookup_changed : (q : ℕ) (ss : List (ℕ × Option T)) →
      lookup (nat_eq q) (each (λ s. (s.0, option_map f s.1)) ss) ≡ option_map (option_map f) (lookup (nat_eq q) ss)
  lookup_changed q [] = refl
  lookup_changed q (s ∷ ss) =
      ap (cond (nat_eq q s.0) (Some (option_map f s.1))) (lookup_changed q ss) ∙ at_head (nat_eq q s.0) s.1 (lookup (nat_eq q) ss)

  flat_changed : (r : Option (Option T)) → option_flatten (option_map (option_map f) r) ≡ option_map f (option_flatten r)
  flat_changed None = refl
  flat_changed (Some x) = refl

  -- a table whose entries' items are changed
  pub table_changed : (ss new : List (ℕ × Option T)) → IsDistinct nat_eq (keys_of ss) → keys_of new ≡ keys_of ss →
      new ≡ each (λ s. (s.0, option_map f s.1)) ss → table_of new ≡ with_each f (table_of ss)
  table_changed ss new distinct keys is =
      let items : (table_of new).items ≡ (with_each f (table_of ss)).items =
      map.same_map nat_cmp_total map.nat_cmp-IsAntisymmetric _ _ (λ q.
      item-slot new q (subst (IsDistinct nat_eq) (sym keys) distinct)
      ∙ ap (λ l. option_flatten (lookup (nat_eq q) l)) is
      ∙ ap option_flatten (lookup_changed q ss)
      ∙ flat_changed (lookup (nat_eq q) ss)
      ∙ ap (option_map f) (sym (item-slot ss q distinct))
      ∙ sym (got_changed f (table_of ss).items q)) in
      let room = ap (set.from_list {R = nat_cmp}) keys in
      λ i. record { items = items i; room = room i }

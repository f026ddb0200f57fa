-- Sums over the entries of finite maps, and over items that are sent to a range of nodes.
use Rattle.std.proofs.Common.{◌≡◌, ℕ, zero, suc, ◌+◌, ◌*◌, ◌≤◌, Bool, true, false, cond, ◌&&◌, T, List, [], ◌∷◌, map as each, Option, None}
use Rattle.std.proofs.Common.{Some, refl, sym, ap, subst, ◌∙◌, arith}
use Rattle.std.specs.Prelude.{filter_map}
use Rattle.std.specs.List.{range_with_len, cons_option}
use Rattle.std.specs.Ordering.{nat_cmp, eq_by_cmp, is_lt, is_eq}
use Rattle.std.specs.declared.cmp.Ordering.{Ordering}
use Rattle.std.specs.declared.cmp.Ordering.TheVariants.{Less, Equal, Greater}
use Rattle.std.specs.Cmp.{nat_cmp_total, tied_itself}
use Rattle.std.specs.FinMap as map
use Rattle.std.specs.FinMap.Entries.{by_order, put, find, is_sorted, below_all}
use Rattle.seam_machine.specs.Totals.{total}
use Rattle.seam_net_runs.specs.Weights.{sent_weight}
use Rattle.seam_net_runs.specs.Sums.{weight_or, map_total}

first : (a b : Bool) → T (a && b) → T a
first true b p = tt
first false b p = p

second : (a b : Bool) → T (a && b) → T b
second true b p = p
second false b p = absurd p

both : (a b : Bool) → T a → T b → T (a && b)
both true b p q = q
both false b p q = p

less : (o : Ordering) → T (is_lt o) → o ≡ Less
less Less p = refl
less Equal p = absurd p
less Greater p = absurd p

module _ {X : Type 0} (f : X → ℕ) where
  abbrev weigh : List (ℕ × X) → ℕ
  weigh es = total (λ p. f p.1) es

  below_more : (x y : ℕ) (es : List (ℕ × X)) → nat_cmp x y ≡ Less → T (below_all nat_cmp y es) → T (below_all nat_cmp x es)
  below_more x y [] p h = tt
  below_more x y (e ∷ es) p h =
      both _ _ (subst (λ r. T (is_lt r)) (sym (nat_cmp_total.trans x y e.0 p (less _ (first _ _ h)))) tt)
      (below_more x y es p (second _ _ h))

  not_found : (q : ℕ) (es : List (ℕ × X)) → T (below_all nat_cmp q es) → find nat_cmp q es ≡ None
  not_found q [] h = refl
  not_found q (e ∷ es) h = ap (λ r. cond (is_eq r) (Some e.1) (find nat_cmp q es)) (less _ (first _ _ h)) ∙ not_found q es (second _ _ h)

  put_by : (k : ℕ) (v : X) (e : ℕ × X) (es : List (ℕ × X)) (r : Ordering) → nat_cmp k e.0 ≡ r → T (is_sorted nat_cmp (e ∷ es)) →
      weigh (put nat_cmp k v es) + weight_or f (find nat_cmp k es) ≡ weigh es + f v →
      weigh (by_order r ((k, v) ∷ e ∷ es) ((e.0, v) ∷ es) (e ∷ put nat_cmp k v es))
      + weight_or f (cond (is_eq r) (Some e.1) (find nat_cmp k es)) ≡ (f e.1 + weigh es) + f v
  put_by k v e es Less p h rest = let none = ap (weight_or f) (not_found k es (below_more k e.0 es p (first _ _ h))) in omega (arith, none)
  put_by k v e es Equal p h rest = omega arith
  put_by k v e es Greater p h rest = omega (arith, rest)

  total_of_put : (k : ℕ) (v : X) (es : List (ℕ × X)) → T (is_sorted nat_cmp es) →
      weigh (put nat_cmp k v es) + weight_or f (find nat_cmp k es) ≡ weigh es + f v
  total_of_put k v [] h = omega arith
  total_of_put k v (e ∷ es) h = put_by k v e es (nat_cmp k e.0) refl h (total_of_put k v es (second _ _ h))

  -- what a map weighs after an insert
  pub total_of_insert : (m : map.FinMap nat_cmp X) (k : ℕ) (v : X) →
      map_total f (map.insert m k v) + weight_or f (map.get m k) ≡ map_total f m + f v
  total_of_insert m k v =
      let one = ap weigh (map.entries-insert nat_cmp_total m k v) in
      let two = ap (weight_or f) (map.get-entries m k) in
      let three = total_of_put k v (map.entries m) (map.entries_sorted m) in
      omega (arith, one, two, three)

  cond_same : (b c : Bool) (x : Option X) (o : Option X) → (c ≡ true → o ≡ x) → b ≡ c → cond b x (cond c None o) ≡ o
  cond_same b true x o h e = rw e (sym (h refl))
  cond_same b false x o h e = rw e refl

  tied : (q k : ℕ) → eq_by_cmp nat_cmp q k ≡ true → q ≡ k
  tied q k e = map.nat_cmp-IsAntisymmetric q k (is_equal (nat_cmp q k) e)
    where
      is_equal : (r : Ordering) → is_eq r ≡ true → r ≡ Equal
      is_equal Less e = cc
      is_equal Equal e = refl
      is_equal Greater e = cc

  put_back : (m : map.FinMap nat_cmp X) (k : ℕ) (v : X) → map.get m k ≡ Some v → map.insert (map.remove m k) k v ≡ m
  put_back m k v is =
      map.same_map nat_cmp_total map.nat_cmp-IsAntisymmetric _ _ (λ q. map.get-insert nat_cmp_total (map.remove m k) k v q
      ∙ ap (cond (eq_by_cmp nat_cmp q k) (Some v)) (map.get-remove nat_cmp_total m k q)
      ∙ cond_same (eq_by_cmp nat_cmp q k) (eq_by_cmp nat_cmp q k) (Some v) (map.get m q) (λ e. ap (map.get m) (tied q k e) ∙ is) refl)

  nothing_there : (m : map.FinMap nat_cmp X) (k : ℕ) → map.get m k ≡ None → map.remove m k ≡ m
  nothing_there m k is =
      map.same_map nat_cmp_total map.nat_cmp-IsAntisymmetric _ _ (λ q. map.get-remove nat_cmp_total m k q
      ∙ at q (eq_by_cmp nat_cmp q k) refl)
    where
      at : (q : ℕ) (b : Bool) → eq_by_cmp nat_cmp q k ≡ b → cond b None (map.get m q) ≡ map.get m q
      at q true e = sym (ap (map.get m) (tied q k e) ∙ is)
      at q false e = refl

  -- what a map weighs after a value was removed
  pub total_of_remove : (m : map.FinMap nat_cmp X) (k : ℕ) → map_total f (map.remove m k) + weight_or f (map.get m k) ≡ map_total f m
  total_of_remove m k = by (map.get m k) refl
    where
      by : (o : Option X) → map.get m k ≡ o → map_total f (map.remove m k) + weight_or f o ≡ map_total f m
      by None is = let same = ap (map_total f) (nothing_there m k is) in omega (arith, same)
      by (Some v) is =
          let one = total_of_insert (map.remove m k) k v in
          let two = ap (map_total f) (put_back m k v is) in
          let three = ap (weight_or f) (map.get-remove nat_cmp_total m k k ∙ ap (λ b. cond b None (map.get m k)) (itself k)) in
          omega (arith, one, two, three)
        where
          itself : (k : ℕ) → eq_by_cmp nat_cmp k k ≡ true
          itself k = ap is_eq (tied_itself nat_cmp_total k)

-- ---- lists that are sent

module _ {M : Type 0} (g : ℕ → M → ℕ) where
  abbrev some_weight : Option (ℕ × M) → ℕ
  some_weight o = weight_or (λ p. g p.0 p.1) o

  sent_of_cons : (o : Option (ℕ × M)) (ps : List (ℕ × M)) → sent_weight g (cons_option o ps) ≡ some_weight o + sent_weight g ps
  sent_of_cons None ps = omega arith
  sent_of_cons (Some p) ps = refl

  -- each of a range sends at most a
  pub sent_of_chosen : (f : ℕ → Option (ℕ × M)) (a from len : ℕ) → ((k : ℕ) → some_weight (f k) ≤ a) →
      sent_weight g (filter_map f (range_with_len from len)) ≤ len * a
  sent_of_chosen f a from zero h = omega arith
  sent_of_chosen f a from (suc len) h =
      let one = sent_of_cons (f from) (filter_map f (range_with_len (from + 1) len)) in
      let two = sent_of_chosen f a (from + 1) len h in
      let three = h from in
      grind (arith, one, two, three)

  pub sent_of_range_bounds : (f : ℕ → M) (a from len : ℕ) → ((k : ℕ) → g k (f k) ≤ a) →
      sent_weight g (each (λ k. (k, f k)) (range_with_len from len)) ≤ len * a
  sent_of_range_bounds f a from zero h = omega arith
  sent_of_range_bounds f a from (suc len) h =
      let two = sent_of_range_bounds f a (from + 1) len h in
      let three = h from in
      grind (arith, two, three)

pub sent_of_range : {M : Type 0} (g : ℕ → M → ℕ) (f : ℕ → M) (from len : ℕ) →
    sent_weight g (each (λ k. (k, f k)) (range_with_len from len)) ≡ total (λ k. g k (f k)) (range_with_len from len)
sent_of_range g f from zero = refl
sent_of_range g f from (suc len) = let e = sent_of_range g f (from + 1) len in omega (arith, e)

-- a longer range weighs no less
pub range_bounds : (f : ℕ → ℕ) (from m n : ℕ) → m ≤ n → total f (range_with_len from m) ≤ total f (range_with_len from n)
range_bounds f from zero n h = omega arith
range_bounds f from (suc m) zero h = absurd (omega (arith, h))
range_bounds f from (suc m) (suc n) h = let e = range_bounds f (from + 1) m n (omega (arith, h)) in omega (arith, e)

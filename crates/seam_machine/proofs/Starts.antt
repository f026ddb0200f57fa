-- Numbers below which no node's link to a node holds anything.
use Rattle.std.proofs.Common.{◌≡◌, ◌≢◌, ℕ, zero, suc, ◌<◌, ◌≤◌, List, [], ◌∷◌, length, get_or, set, refl, sym, ap, ◌∙◌, arith}
use Rattle.std.proofs.Common.{drop, replicate, inl, inr}
use Rattle.std.proofs.lemmas.Bool.{cases_eq}
use Rattle.std.proofs.lemmas.List.{length-set, length-replicate, get_or-set_same, get_or-set_other}
use Rattle.seam_machine.specs.Nets.{link, row_less}
use Rattle.seam_machine.specs.Inside.{StartsAt, Lowers}

none_known : (n b : ℕ) → ◌≡◌ {A = ℕ} (get_or (replicate n 0) b 0) 0
none_known zero b = refl
none_known (suc n) zero = refl
none_known (suc n) (suc b) = none_known n b

pub starts_unknown : {M : Type 0} (n : ℕ) (starts : List ℕ) (rows : List (List (List M))) → starts ≡ replicate n 0 → n ≡ length rows →
    StartsAt starts rows
starts_unknown n starts rows e many = record {
  len = ap length e ∙ (length-replicate {A = ℕ} n 0 ∙ many);
  empty = λ a b lt. let at = ap (λ l. get_or l b 0) e in let known = none_known n b in absurd (omega (arith, lt, at, known));
}

pub lowers_none : {M : Type 0} (a : ℕ) (starts : List ℕ) (row : List (List M)) →
    ((b : ℕ) → a < get_or starts b 0 → get_or row b [] ≡ []) → Lowers a starts starts row
lowers_none a starts row own = record { len = refl; less = λ b. omega arith; own = own }

-- node a's link to one more node was filled
pub lowers_more : {M : Type 0} (a to v : ℕ) (starts0 starts starts' : List ℕ) (row row' : List (List M)) (l : List M) → to < length starts →
    Lowers a starts0 starts row → row' ≡ set row to l → starts' ≡ set starts to v → v ≤ get_or starts to 0 → v ≤ a →
    Lowers a starts0 starts' row'
lowers_more a to v starts0 starts starts' row row' l here d r s low own =
    let at : get_or starts' to 0 ≡ v = ap (λ k. get_or k to 0) s ∙ get_or-set_same starts to v 0 here in
    let apart : (b : ℕ) → b ≢ to → get_or starts' b 0 ≡ get_or starts b 0 =
    λ b n. ap (λ k. get_or k b 0) s ∙ get_or-set_other starts to b v 0 n in
    record {
      len = ap length s ∙ (length-set starts to v ∙ d.len);
      less = λ b. elim (cases_eq b to) [
        | inl e ↦ let old = d.less to in rw e (omega (arith, at, old, low))
        | inr n ↦ let old = d.less b in let same = apart b n in omega (arith, same, old)
      ];
      own = λ b lt. elim (cases_eq b to) [
        | inl e ↦ let same : get_or starts' b 0 ≡ get_or starts' to 0 = ap (λ k. get_or starts' k 0) e in
            absurd (omega (arith, lt, same, at, own))
        | inr n ↦
            let same = apart b n in
            ap (λ k. get_or k b []) r ∙ (get_or-set_other row to b l [] n ∙ d.own b (omega (arith, lt, same)))
      ];
    }

-- a link of node a that holds something was changed
pub lowers_kept : {M : Type 0} (a to : ℕ) (starts0 starts : List ℕ) (row row' : List (List M)) (l : List M) →
    Lowers a starts0 starts row → row' ≡ set row to l → 0 < length (get_or row to []) → Lowers a starts0 starts row'
lowers_kept a to starts0 starts row row' l d r some = record {
  len = d.len;
  less = d.less;
  own = λ b lt. elim (cases_eq b to) [
    | inl e ↦
        let none : length (get_or row to []) ≡ 0 = ap length (ap (λ k. get_or row k []) (sym e) ∙ d.own b lt) in
        absurd (omega (arith, none, some))
    | inr n ↦ ap (λ k. get_or k b []) r ∙ (get_or-set_other row to b l [] n ∙ d.own b lt)
  ];
}

-- what waited was delivered to the links of node s
pub starts_lowered : {M : Type 0} (rows : List (List (List M))) (starts starts' : List ℕ) (s : ℕ) (row' : List (List M)) →
    StartsAt starts rows → s < length rows → Lowers s starts starts' row' → StartsAt starts' (set rows s row')
starts_lowered rows starts starts' s row' q within d = record {
  len = d.len ∙ (q.len ∙ sym (length-set rows s row'));
  empty = λ a b lt. elim (cases_eq a s) [
    | inl e ↦
        ap (λ i. link (set rows s row') i b) e
        ∙ (ap (λ r. get_or r b []) (get_or-set_same rows s row' [] within) ∙ d.own b (omega (arith, lt, e)))
    | inr n ↦
        let old = d.less b in
        ap (λ r. get_or r b []) (get_or-set_other rows s a row' [] n) ∙ q.empty a b (omega (arith, lt, old))
  ];
}

module _ {M : Type 0} where
  less_none : (row : List (List M)) (b y : ℕ) → get_or row y [] ≡ [] → get_or (row_less row b) y [] ≡ []
  less_none [] b y e = refl
  less_none (r ∷ rs) zero zero e = ap (drop 1) e
  less_none (r ∷ rs) zero (suc y) e = e
  less_none (r ∷ rs) (suc b) zero e = e
  less_none (r ∷ rs) (suc b) (suc y) e = less_none rs b y e

  module _ (rows : List (List (List M))) (a b : ℕ) (row' : List (List M)) (less : row' ≡ row_less (get_or rows a []) b)
      (within : a < length rows) where
    -- an empty link stays empty
    pub stays_empty : (x y : ℕ) → link rows x y ≡ [] → link (set rows a row') x y ≡ []
    stays_empty x y none = elim (cases_eq x a) [
      | inl e ↦
          ap (λ i. link (set rows a row') i y) e
          ∙ (ap (λ r. get_or r y []) (get_or-set_same rows a row' [] within ∙ less)
          ∙ less_none (get_or rows a []) b y (ap (λ i. link rows i y) (sym e) ∙ none))
      | inr n ↦ ap (λ r. get_or r y []) (get_or-set_other rows a x row' [] n) ∙ none
    ]

    -- the first message of the link from a to b was fed
    pub starts_served : (starts : List ℕ) → StartsAt starts rows → StartsAt starts (set rows a row')
    starts_served starts q = record {
      len = q.len ∙ sym (length-set rows a row');
      empty = λ x y lt. stays_empty x y (q.empty x y lt);
    }

  -- a node's start was moved to where the links to it are known to be empty
  pub starts_moved : (rows : List (List (List M))) (starts : List ℕ) (b v : ℕ) → StartsAt starts rows → b < length rows →
      ((a : ℕ) → a < v → link rows a b ≡ []) → StartsAt (set starts b v) rows
  starts_moved rows starts b v q within known = record {
    len = length-set starts b v ∙ q.len;
    empty = λ x y lt. elim (cases_eq y b) [
      | inl e ↦
          let at : get_or (set starts b v) b 0 ≡ v = get_or-set_same starts b v 0 (omega (arith, within, q.len)) in
          let same : get_or (set starts b v) y 0 ≡ get_or (set starts b v) b 0 = ap (λ k. get_or (set starts b v) k 0) e in
          ap (λ k. link rows x k) e ∙ known x (omega (arith, lt, same, at))
      | inr n ↦ let same = get_or-set_other starts b y v 0 n in q.empty x y (omega (arith, lt, same))
    ];
  }

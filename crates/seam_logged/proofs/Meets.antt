-- Links whose ends meet, from the last.
use Rattle.std.proofs.Common.{◌≡◌, ◌≢◌, ℕ, zero, suc, ◌+◌, ◌*◌, ◌-◌, ◌<◌, ◌≤◌, ◌⊎◌, List, [], ◌∷◌, ◌++◌, length, Some, get_or, map}
use Rattle.std.proofs.Common.{set, drop, refl, sym, ap, ◌∙◌, subst, arith, inl, inr}
use Rattle.std.specs.Prelude.{slice_get}
use Rattle.std.proofs.lemmas.Bool.{cases_eq}
use Rattle.std.proofs.lemmas.Bool.Decides.{leb_tells}
use Rattle.std.proofs.lemmas.List.{length-append, length-map, length-set, get_or-map, get_or-set_same, get_or-set_other, map-set}
use Rattle.std.proofs.lemmas.Option.{slice_get_within, slice_get-get_or, get_or_from_slice_get}
use Rattle.std.proofs.Math.Seq.{drop-append_seam}
use Rattle.std.proofs.Math.Nat.{mul-le-mul_right}
use Rattle.seam_machine.proofs.Writes.{slice_get-append_left, slice_get-append_right}
use Rattle.seam_machine.proofs.Flats.{one_more_row}
use Rattle.seam_machine.specs.Sends.{items_to}
use Rattle.seam_link.specs.Ends.{InView, OutView}
use Rattle.seam_stamp.specs.declared.Letter.{Letter}
use Rattle.seam_stamp.specs.Acts.{items}
use Rattle.seam_logged.specs.Logs.{EndsView}
use Rattle.seam_logged.specs.Mesh.{IsOut, IsIn, ArePaired, IsCell}
use Rattle.seam_logged.specs.SomeLinks.{Reached, AreWithin, Below, Remaining, IsRow}
use Rattle.seam_logged.proofs.LinkPlaces.{set_at}

pub drop_prefix : {X : Type 0} (xs ys zs : List X) → xs ++ ys ≡ zs → drop (length xs) zs ≡ ys
drop_prefix xs ys zs e = ap (drop (length xs)) (sym e) ∙ drop-append_seam xs ys

front : {X : Type 0} (xs ys : List X) (k : ℕ) (x : X) → slice_get xs k ≡ Some x → slice_get (xs ++ ys) k ≡ Some x
front xs ys k x e = slice_get-append_left xs ys k (slice_get_within xs k x e) ∙ e

last : {X : Type 0} (xs : List X) (x : X) → slice_get (xs ++ x ∷ []) (length xs) ≡ Some x
last xs x = slice_get-append_right xs (x ∷ []) (length xs) 0 (omega arith)

one_less : {X : Type 0} (xs ys : List X) (x : X) (m : ℕ) → xs ≡ ys ++ x ∷ [] → length xs ≡ m + 1 → length ys ≡ m
one_less xs ys x m e l = let h = length-append ys (x ∷ []) in omega (arith, sym l ∙ (ap length e ∙ h))

next_row : (a c n : ℕ) → a < c → a * n + n ≤ c * n
next_row a c n lt =
    let h : suc a * n ≤ c * n = mul-le-mul_right n (omega (arith, lt)) in
    let g = one_more_row a n in
    let s : suc a * n ≡ (a + 1) * n = ap (λ (k : ℕ). k * n) (omega arith) in
    omega (arith, h, g, s)

-- a place tells its link
pub place_unique : (n a b c d : ℕ) → a * n + b ≡ c * n + d → b < n → d < n → (a ≡ c) × (b ≡ d)
place_unique n a b c d e lb ld = elim (cases_eq a c) [
  | inl h ↦ (h, (let s : a * n ≡ c * n = ap (λ (k : ℕ). k * n) h in omega (arith, e, s)))
  | inr h ↦ elim (leb_tells (suc a) c) [
    | inl p ↦ absurd (let g = next_row a c n p.1 in omega (arith, g, e, lb))
    | inr p ↦ absurd (let g = next_row c a n (omega (arith, p.1, h)) in omega (arith, g, e, ld))
  ]
]

pub place_within : (n a b : ℕ) → a < n → b < n → a * n + b < n * n
place_within n a b la lb = let h = next_row a n n la in omega (arith, h, lb)

module _ {T H : Type 0} where
  -- the last link was taken out, from a to b
  module _ (n a b : ℕ) (ends : List (EndsView T H)) (ea eb : EndsView T H) (os : List (OutView (Letter T) H)) (o : OutView (Letter T) H)
      (is : List (InView (Letter T) H)) (i : InView (Letter T) H) (r : Reached n a (b + 1) ends) (la : a < n) (lb : b < n)
      (is_a : slice_get ends a ≡ Some ea) (outs_are : ea.outs ≡ os ++ o ∷ [])
      (is_b : slice_get (set ends a (record { ins = ea.ins; outs = os })) b ≡ Some eb) (ins_are : eb.ins ≡ is ++ i ∷ []) where
    abbrev cut : EndsView T H
    cut = record { ins = ea.ins; outs = os }

    abbrev mid : List (EndsView T H)
    mid = set ends a cut

    abbrev after : List (EndsView T H)
    after = set mid b (record { ins = is; outs = eb.outs })

    in_mid : a < length ends
    in_mid = omega (arith, la, r.count)

    in_after : b < length mid
    in_after = omega (arith, lb, r.count, length-set ends a cut)

    pub record Before (k : ℕ) (e : EndsView T H) : Type 0 where
      pub old : EndsView T H
      pub is_old : slice_get ends k ≡ Some old
      pub outs : ((k ≡ a) × (old.outs ≡ e.outs ++ o ∷ [])) ⊎ ((k ≢ a) × (old.outs ≡ e.outs))
      pub ins : ((k ≡ b) × (old.ins ≡ e.ins ++ i ∷ [])) ⊎ ((k ≢ b) × (old.ins ≡ e.ins))

    mid_outs : (k : ℕ) (m : EndsView T H) → slice_get mid k ≡ Some m →
        (old : EndsView T H) × (slice_get ends k ≡ Some old) × (old.ins ≡ m.ins)
        × (((k ≡ a) × (old.outs ≡ m.outs ++ o ∷ [])) ⊎ ((k ≢ a) × (old.outs ≡ m.outs)))
    mid_outs k m e = elim (set_at ends a cut k m in_mid e) [
      | inl h ↦ (
        ea,
        ap (slice_get ends) h.0 ∙ is_a,
        sym (ap (λ (v : EndsView T H). v.ins) h.1),
        inl (h.0, outs_are ∙ ap (λ l. l ++ o ∷ []) (sym (ap (λ (v : EndsView T H). v.outs) h.1))),
      )
      | inr h ↦ (m, h.1, refl, inr (h.0, refl))
    ]

    before : (k : ℕ) (e : EndsView T H) → slice_get after k ≡ Some e → Before k e
    before k e g = elim (set_at mid b (record { ins = is; outs = eb.outs }) k e in_after g) [
      | inl h ↦
          let m = mid_outs k eb (ap (slice_get mid) h.0 ∙ is_b) in
          record {
            old = m.0;
            is_old = m.1;
            outs = rw h.1 m.3;
            ins = inl (h.0, m.2 ∙ (ins_are ∙ ap (λ l. l ++ i ∷ []) (sym (ap (λ (v : EndsView T H). v.ins) h.1))));
          }
      | inr h ↦
          let m = mid_outs k e h.1 in
          record { old = m.0; is_old = m.1; outs = m.3; ins = inr (h.0, m.2) }
    ]

    pub reached_less : Reached n a b after
    reached_less = record {
      count = length-set mid b (record { ins = is; outs = eb.outs }) ∙ (length-set ends a cut ∙ r.count);
      outs_low = λ k e g lt. let p = before k e g in
          elim p.outs [ inl h ↦ absurd (omega (arith, lt, h.0)) | inr h ↦ ap length (sym h.1) ∙ r.outs_low k p.old p.is_old lt ];
      outs_here = λ k e g at. let p = before k e g in
          elim p.outs [ inl h ↦ one_less p.old.outs e.outs o b h.1 (r.outs_here k p.old p.is_old at) | inr h ↦ absurd (h.0 at) ];
      outs_high = λ k e g gt. let p = before k e g in
          elim p.outs [ inl h ↦ absurd (omega (arith, gt, h.0)) | inr h ↦ ap length (sym h.1) ∙ r.outs_high k p.old p.is_old gt ];
      ins_low = λ k e g lt. let p = before k e g in elim p.ins [
        | inl h ↦ absurd (omega (arith, lt, h.0))
        | inr h ↦ ap length (sym h.1) ∙ r.ins_low k p.old p.is_old (omega (arith, lt))
      ];
      ins_high = λ k e g ge. let p = before k e g in elim p.ins [
        | inl h ↦ one_less p.old.ins e.ins i a h.1 (r.ins_low k p.old p.is_old (omega (arith, h.0)))
        | inr h ↦ ap length (sym h.1) ∙ r.ins_high k p.old p.is_old (omega (arith, ge, h.0))
      ];
    }

    pub within_less : AreWithin after ends
    within_less = record {
      outs = λ c d p out. let q = before c out.0 out.1 in (
        q.old,
        q.is_old,
        elim q.outs [
          | inl h ↦ ap (λ l. slice_get l d) h.1 ∙ front out.0.outs (o ∷ []) d p out.2
          | inr h ↦ ap (λ l. slice_get l d) h.1 ∙ out.2
        ],
      );
      ins = λ c d p end. let q = before d end.0 end.1 in (
        q.old,
        q.is_old,
        elim q.ins [
          | inl h ↦ ap (λ l. slice_get l c) h.1 ∙ front end.0.ins (i ∷ []) c p end.2
          | inr h ↦ ap (λ l. slice_get l c) h.1 ∙ end.2
        ],
      );
    }

    pub last_out : IsOut ends a b o
    last_out = (
      ea,
      is_a,
      ap (slice_get ea.outs) (sym (one_less ea.outs os o b outs_are (r.outs_here a ea is_a refl)))
          ∙ (ap (λ l. slice_get l (length os)) outs_are ∙ last os o),
    )

    pub last_in : IsIn ends a b i
    last_in =
        let m = mid_outs b eb is_b in
        let ins : m.0.ins ≡ is ++ i ∷ [] = m.2 ∙ ins_are in (
          m.0,
          m.1,
          ap (slice_get m.0.ins) (sym (one_less m.0.ins is i a ins (r.ins_low b m.0 m.1 (omega arith))))
              ∙ (ap (λ l. slice_get l (length is)) ins ∙ last is i),
        )

  -- the receiver has an end of the last link
  pub last_taken : (n a b : ℕ) (ends : List (EndsView T H)) (ea : EndsView T H) (os : List (OutView (Letter T) H)) (cut : EndsView T H) →
      cut ≡ record { ins = ea.ins; outs = os } → Reached n a (b + 1) ends → a < n → slice_get ends a ≡ Some ea
      → (eb : EndsView T H) → slice_get (set ends a cut) b ≡ Some eb → length eb.ins ≡ a + 1
  last_taken n a b ends ea os cut is_cut r la is_a eb is_b = elim (set_at ends a cut b eb (omega (arith, la, r.count)) is_b) [
    | inl h ↦ ap (λ (v : EndsView T H). length v.ins) (h.1 ∙ is_cut) ∙ r.ins_low a ea is_a (omega (arith, h.0))
    | inr h ↦ r.ins_low b eb h.1 (omega arith)
  ]

  module _ (n : ℕ) (ends : List (EndsView T H)) (hands : List (List (ℕ × Letter T))) where
    pub remaining_all : (a b : ℕ) → Reached n a b ends → Remaining n a b ends hands ends hands
    remaining_all a b r =
        record { reached = r; within = record { outs = λ c d o h. h; ins = λ c d i h. h }; many = refl; same = λ c d h. refl }

    module _ (a b : ℕ) (ends' : List (EndsView T H)) (hands' : List (List (ℕ × Letter T))) (r : Remaining n a b ends hands ends' hands')
      where
        pub remaining_less : (c d : ℕ) (ends'' : List (EndsView T H)) (hands'' : List (List (ℕ × Letter T))) →
            Remaining n c d ends' hands' ends'' hands'' → ((x y : ℕ) → Below c d x y → Below a b x y) →
            Remaining n c d ends hands ends'' hands''
        remaining_less c d ends'' hands'' s below = record {
          reached = s.reached;
          within =
              record {
                outs = λ x y o h. r.within.outs x y o (s.within.outs x y o h);
                ins = λ x y i h. r.within.ins x y i (s.within.ins x y i h);
              };
          many = s.many ∙ r.many;
          same = λ x y h. s.same x y h ∙ r.same x y (below x y h);
        }

        pub paired_less : ArePaired ends → ArePaired ends'
        paired_less p c d o i out end = p c d o i (r.within.outs c d o out) (r.within.ins c d i end)

        pub cell_before : (c d : ℕ) (l : List T) → Below a b c d → IsCell ends' hands' c d l → IsCell ends hands c d l
        cell_before c d l below cell = record {
          out = cell.out;
          end = cell.end;
          is_out = r.within.outs c d cell.out cell.is_out;
          is_in = r.within.ins c d cell.end cell.is_in;
          met = cell.met;
          link_is = cell.link_is ∙ ap (λ h. items (h ++ drop (length cell.end.taken) cell.out.put)) (r.same c d below);
        }

    pub row_more : (a b : ℕ) (link : List T) (row : List (List T)) → IsCell ends hands a b link → IsRow ends hands a (b + 1) row →
        IsRow ends hands a b (link ∷ row)
    row_more a b link row cell rest zero l e =
        let at : b + 0 ≡ b = omega arith in
        let same : link ≡ l = cc in
        subst (λ (k : ℕ). IsCell ends hands a k l) (sym at) (subst (IsCell ends hands a b) same cell)
    row_more a b link row cell rest (suc k) l e =
        let at : b + 1 + k ≡ b + suc k = omega arith in
        subst (λ (j : ℕ). IsCell ends hands a j l) at (rest k l e)

    pub row_none : (a b : ℕ) → IsRow ends hands a b []
    row_none a b k l e = absurd (cc e)

    -- the links from node a on
    abbrev pub AreCells : ℕ → List (List T) → Type 0
    AreCells a links =
        (k : ℕ) (l : List T) → slice_get links k ≡ Some l → (c d : ℕ) → a * n + k ≡ c * n + d → d < n → IsCell ends hands c d l

    pub cells_none : (a : ℕ) → AreCells a []
    cells_none a k l e = absurd (cc e)

    pub cells_more : (a : ℕ) (row links : List (List T)) → length row ≡ n →
        ((k : ℕ) (l : List T) → slice_get row k ≡ Some l → IsCell ends hands a k l) → AreCells (a + 1) links → AreCells a (row ++ links)
    cells_more a row links many here rest k l e c d at lt = elim (leb_tells n k) [
      | inl p ↦ (
          let j : ℕ = k - n in
          let k_is : k ≡ length row + j = omega (arith, p.1, many) in
          let g = one_more_row a n in
          rest j l (sym (slice_get-append_right row links k j k_is) ∙ e) c d (omega (arith, at, g, k_is, many)) lt)
      | inr p ↦ (
          let u = place_unique n a k c d at p.1 lt in
          let cell = here k l (sym (slice_get-append_left row links k (omega (arith, p.1, many))) ∙ e) in
          subst (λ (x : ℕ). IsCell ends hands x d l) u.0 (subst (λ (y : ℕ). IsCell ends hands a y l) u.1 cell))
    ]

    pub cells_all : (links : List (List T)) → length links ≡ n * n → AreCells 0 links → (a b : ℕ) → a < n → b < n →
        IsCell ends hands a b (get_or links (a * n + b) [])
    cells_all links many cells a b la lb =
        let within : a * n + b < length links = (let h = place_within n a b la lb in omega (arith, h, many)) in
        let at : 0 * n + (a * n + b) ≡ a * n + b = omega arith in
        cells (a * n + b) (get_or links (a * n + b) []) (slice_get-get_or links (a * n + b) [] within) a b at lb

-- the letters in hand after one hand changed
pub hands_less : {T D : Type 0} (held : D → List (ℕ × Letter T)) (hands : List D) (a b : ℕ) (hand hand' : D) → b < length hands →
    slice_get hands b ≡ Some hand → ((c : ℕ) → c ≢ a → items_to c (held hand') ≡ items_to c (held hand)) → (c d : ℕ) → Below a b c d →
    items_to c (get_or (map held (set hands b hand')) d []) ≡ items_to c (get_or (map held hands) d [])
hands_less held hands a b hand hand' lt at others c d below =
    let hs = map held hands in
    let within : b < length hs = omega (arith, lt, length-map hands held) in
    let was : get_or hs b [] ≡ held hand = get_or-map held hands b hand [] lt ∙ ap held (get_or_from_slice_get hands b hand hand at) in
    ap (λ l. items_to c (get_or l d [])) (map-set held hands b hand') ∙ elim (cases_eq d b) [
      | inl h ↦ (
          let differ : c ≢ a = elim below [ inl p ↦ λ e. absurd (omega (arith, p, e)) | inr p ↦ λ e. absurd (omega (arith, p.1, h)) ] in
          ap (λ (k : ℕ). items_to c (get_or (set hs b (held hand')) k [])) h
          ∙ (ap (items_to c) (get_or-set_same hs b (held hand') [] within)
          ∙ (others c differ ∙ (ap (items_to c) (sym was) ∙ ap (λ (k : ℕ). items_to c (get_or hs k [])) (sym h)))))
      | inr h ↦ ap (items_to c) (get_or-set_other hs b d (held hand') [] h)
    ]

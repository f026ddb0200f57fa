-- The next entry of a merge.
use Rattle.std.proofs.Common.{◌≡◌, ◌≢◌, ℕ, zero, suc, ◌+◌, ◌<◌, ◌≤◌, ◌⊎◌, true, false, Option, None, Some, List, [], ◌∷◌, ◌++◌, length, map}
use Rattle.std.proofs.Common.{get_or, set, drop, refl, sym, ap, ◌∙◌, subst, arith, cond, eqb, inl, inr, append_assoc}
use Rattle.std.specs.Prelude.{IfSome}
use Rattle.std.specs.Option.{IsSome}
use Rattle.std.proofs.lemmas.Bool.{cases_eq}
use Rattle.std.proofs.lemmas.Bool.Decides.{nat_tests, leb_tells}
use Rattle.std.proofs.lemmas.List.{append-nil, map-append, map-set, length-map}
use Rattle.std.proofs.lemmas.List.{get_or-set_same, get_or-set_other, set-get_or, get_or_past}
use Rattle.seam_stamp.specs.declared.Stamped.{Stamped}
use Rattle.seam_stamp.specs.Logs.{IsLogFrom, AreLogs, by_node, IsFrom, RiseFrom, IsMerge, IsMergeOf}
use Rattle.seam_stamp.specs.Heads.{IsFirst, AllEmpty, Merging, IsMergingTo, AreLater, HasMoved, HasOther}

eqb_yes : (a b : ℕ) → a ≡ b → eqb a b ≡ true
eqb_yes a b e = grind (arith, nat_tests)

eqb_no : (a b : ℕ) → a ≢ b → eqb a b ≡ false
eqb_no a b e = grind (arith, nat_tests)

-- a list at place k of those that a view gives
pub read_view : {A B : Type 0} (f : A → B) (xs : List A) (k : ℕ) (x : A) (d : B) → k < length xs → x ≡ get_or xs k x →
    get_or (map f xs) k d ≡ f x
read_view f [] k x d lt e = absurd (omega arith)
read_view f (y ∷ ys) zero x d lt e = ap f (sym e)
read_view f (y ∷ ys) (suc k) x d lt e = read_view f ys k x d (omega (arith, lt)) e

pub first_read : {X : Type 0} (xs : List X) (x : X) → 0 < length xs → x ≡ get_or xs 0 x → xs ≡ x ∷ drop 1 xs
first_read [] x lt e = absurd (omega arith)
first_read (y ∷ ys) x lt e = ap (λ z. z ∷ ys) (sym e)

module _ {E : Type 0} where
  pub by_node_own : (k : ℕ) (e : Stamped E) (es : List (Stamped E)) → e.node ≡ k → by_node k (e ∷ es) ≡ e ∷ by_node k es
  by_node_own k e es h = ap (λ y. cond y (e ∷ by_node k es) (by_node k es)) (eqb_yes e.node k h)

  pub by_node_other : (k : ℕ) (e : Stamped E) (es : List (Stamped E)) → e.node ≢ k → by_node k (e ∷ es) ≡ by_node k es
  by_node_other k e es h = ap (λ y. cond y (e ∷ by_node k es) (by_node k es)) (eqb_no e.node k h)

  by_node_append : (k : ℕ) (xs ys : List (Stamped E)) → by_node k (xs ++ ys) ≡ by_node k xs ++ by_node k ys
  by_node_append k [] ys = refl
  by_node_append k (x ∷ xs) ys = elim (cases_eq x.node k) [
    | inl h ↦ by_node_own k x (xs ++ ys) h
        ∙ (ap (λ l. x ∷ l) (by_node_append k xs ys) ∙ ap (λ l. l ++ by_node k ys) (sym (by_node_own k x xs h)))
    | inr h ↦ by_node_other k x (xs ++ ys) h ∙ (by_node_append k xs ys ∙ ap (λ l. l ++ by_node k ys) (sym (by_node_other k x xs h)))
  ]

  log_later : (k t : ℕ) (es : List (Stamped E)) → IsLogFrom k t es → IsLogFrom k 0 es
  log_later k t [] h = tt
  log_later k t (e ∷ es) h = (h.0, omega arith, h.2)

  rises_by_next : (t k : ℕ) (xs : List (Stamped E)) (e d : Stamped E) → RiseFrom t k (xs ++ e ∷ []) → IsFrom e.stamp (e.node + 1) d →
      RiseFrom t k ((xs ++ e ∷ []) ++ d ∷ [])
  rises_by_next t k [] e d h f = (h.0, (f, tt))
  rises_by_next t k (x ∷ xs) e d h f = (h.0, rises_by_next x.stamp (x.node + 1) xs e d h.1 f)

  first_from : (d : Stamped E) → IsFrom 0 0 d
  first_from d = elim (cases_eq d.stamp 0) [ inl h ↦ inr (sym h, omega arith) | inr h ↦ inl (omega arith) ]

  pub merging_starts : (logs : List (List (Stamped E))) → AreLogs logs → IsMergingTo logs logs []
  merging_starts logs are = (
    [],
    record {
      whole = λ k. refl;
      order = tt;
      logs_left = are;
      next = λ k d ds e. (first_from d, tt);
    },
    refl,
  )

  pub merging_ends : (logs heads : List (List (Stamped E))) (items : List E) → IsMergingTo logs heads items → AllEmpty heads →
      IsMergeOf logs items
  merging_ends logs heads items (merged, m, are) empty = (
    merged,
    record {
      whole = λ k. sym (append-nil (by_node k merged)) ∙ (ap (λ l. by_node k merged ++ l) (sym (empty k)) ∙ m.whole k);
      order = m.order;
    },
    are,
  )

  module _ (heads : List (List (Stamped E))) (k : ℕ) (are : AreLogs heads) (f : IsFirst heads k) where
    abbrev left : List (List (Stamped E))
    left = set heads k f.rest

    left_here : get_or left k [] ≡ f.rest
    left_here = get_or-set_same heads k f.rest [] f.within

    left_other : (j : ℕ) → j ≢ k → get_or left j [] ≡ get_or heads j []
    left_other j differ = get_or-set_other heads k j f.rest [] differ

    own_log : IsLogFrom k 0 (f.entry ∷ f.rest)
    own_log = subst (IsLogFrom k 0) f.log_is (are k)

    pub logs_after : (j : ℕ) → IsLogFrom j 0 (get_or left j [])
    logs_after j = elim (cases_eq j k) [
      | inl h ↦ rw (h, left_here) (log_later k (f.entry.stamp + 1) f.rest own_log.2)
      | inr h ↦ rw (left_other j h) (are j)
    ]

    rest_later : (d : Stamped E) (ds : List (Stamped E)) → f.rest ≡ d ∷ ds → f.entry.stamp < d.stamp
    rest_later d ds e = let later = subst (IsLogFrom k (f.entry.stamp + 1)) e own_log.2 in omega (arith, later.1)

    other_after : (j : ℕ) (d : Stamped E) (ds : List (Stamped E)) → j ≢ k → get_or heads j [] ≡ d ∷ ds →
        IsFrom f.entry.stamp (f.entry.node + 1) d
    other_after j d ds other e =
        let node = (subst (IsLogFrom j 0) e (are j)).0 in
        let least = f.least j d ds e in
        elim (cases_eq f.entry.stamp d.stamp) [
          | inl same ↦ elim (leb_tells (suc j) k) [
            | inl p ↦ absurd (let less = f.lowest j d ds e p.1 in omega (arith, less, same))
            | inr p ↦ inr (same, omega (arith, node, own_log.0, p.1, other))
          ]
          | inr differ ↦ inl (omega (arith, least, differ))
        ]

    -- the logs up to it have its stamp no more
    pub later_after : AreLater (k + 1) f.entry.stamp left
    later_after j d ds e = elim (cases_eq j k) [
      | inl h ↦ (let more = rest_later d ds (sym (ap (λ (i : ℕ). get_or left i []) h ∙ left_here) ∙ e) in
          (omega (arith, more), λ _. more))
      | inr h ↦ (let is = sym (left_other j h) ∙ e in (f.least j d ds is, λ lt. f.lowest j d ds is (omega (arith, lt, h))))
    ]

    module _ (logs : List (List (Stamped E))) (merged : List (Stamped E)) (m : Merging logs heads merged) where
      whole_left : (j : ℕ) → by_node j (merged ++ f.entry ∷ []) ++ get_or left j [] ≡ get_or logs j []
      whole_left j = elim (cases_eq j k) [
        | inl h ↦ ap (λ l. l ++ get_or left j []) (by_node_append j merged (f.entry ∷ [])
            ∙ ap (λ l. by_node j merged ++ l) (by_node_own j f.entry [] (own_log.0 ∙ sym h)))
            ∙ (append_assoc (by_node j merged) (f.entry ∷ []) (get_or left j [])
            ∙ (ap (λ l. by_node j merged ++ f.entry ∷ l) (ap (λ (i : ℕ). get_or left i []) h ∙ left_here)
            ∙ (ap (λ l. by_node j merged ++ l) (sym f.log_is ∙ ap (λ (i : ℕ). get_or heads i []) (sym h)) ∙ m.whole j)))
        | inr h ↦ ap (λ l. l ++ get_or left j []) (by_node_append j merged (f.entry ∷ [])
            ∙ (ap (λ l. by_node j merged ++ l) (by_node_other j f.entry [] (λ e. h (sym e ∙ own_log.0))) ∙ append-nil (by_node j merged)))
            ∙ (ap (λ l. by_node j merged ++ l) (left_other j h) ∙ m.whole j)
      ]

      next_after : (j : ℕ) (d : Stamped E) (ds : List (Stamped E)) → get_or left j [] ≡ d ∷ ds →
          RiseFrom 0 0 ((merged ++ f.entry ∷ []) ++ d ∷ [])
      next_after j d ds e = rises_by_next 0 0 merged f.entry d (m.next k f.entry f.rest f.log_is) (elim (cases_eq j k) [
        | inl h ↦ inl (rest_later d ds (sym (ap (λ (i : ℕ). get_or left i []) h ∙ left_here) ∙ e))
        | inr h ↦ other_after j d ds h (sym (left_other j h) ∙ e)
      ])

      pub merging_goes_on : Merging logs left (merged ++ f.entry ∷ [])
      merging_goes_on = record {
        whole = whole_left;
        order = m.next k f.entry f.rest f.log_is;
        logs_left = logs_after;
        next = next_after;
      }

    pub merging_to_goes_on : (logs : List (List (Stamped E))) (items : List E) → IsMergingTo logs heads items →
        IsMergingTo logs left (items ++ f.entry.item ∷ [])
    merging_to_goes_on logs items (merged, m, are_items) = (
      merged ++ f.entry ∷ [],
      merging_goes_on logs merged m,
      ap (λ l. l ++ f.entry.item ∷ []) are_items ∙ sym (map-append (λ (e : Stamped E). e.item) merged (f.entry ∷ [])),
    )

  -- ---- an entry that was taken

  -- the logs after the first entry of log k was taken, and the items with its item
  pub record HasTaken (logs heads : List (List (Stamped E))) (items : List E) (k : ℕ) (e : Stamped E) : Type 0 where
    pub logs_left : AreLogs heads
    pub later : AreLater (k + 1) e.stamp heads
    pub merging : IsMergingTo logs heads (items ++ e.item ∷ [])

  taken_first : (logs heads : List (List (Stamped E))) (items : List E) (k : ℕ) (f : IsFirst heads k) → IsMergingTo logs heads items →
      HasTaken logs (set heads k f.rest) items k f.entry
  taken_first logs heads items k f m =
      let are = m.1.logs_left in
      record {
        logs_left = logs_after heads k are f;
        later = later_after heads k are f;
        merging = merging_to_goes_on heads k are f logs items m;
      }

  pub taken : {Q : Type 0} (view : Q → List (Stamped E)) (logs : List (List (Stamped E))) (queues : List Q) (items : List E) (k : ℕ)
      (old new : Q) (e : Stamped E) → IsFirst (map view queues) k → old ≡ get_or queues k old → view old ≡ e ∷ view new →
      IsMergingTo logs (map view queues) items → HasTaken logs (map view (set queues k new)) items k e
  taken view logs queues items k old new e f here cut m =
      let heads = map view queues in
      let within : k < length queues = omega (arith, f.within, length-map queues view) in
      let both : f.entry ∷ f.rest ≡ e ∷ view new = sym f.log_is ∙ read_view view queues k old [] within here ∙ cut in
      let first : f.entry ≡ e = cc in
      let rest : f.rest ≡ view new = cc in
      subst (λ (l : List (List (Stamped E))). HasTaken logs l items k e) (sym (map-set view queues k new))
      (subst (λ (r : List (Stamped E)). HasTaken logs (set heads k r) items k e) rest
      (subst (λ (d : Stamped E). HasTaken logs (set heads k f.rest) items k d) first (taken_first logs heads items k f m)))

  -- ---- entries of one stamp

  module _ (heads : List (List (Stamped E))) (k stamp : ℕ) (later : AreLater k stamp heads) where
    -- an entry with the stamp comes next
    pub comes_first : (e : Stamped E) (es : List (Stamped E)) → get_or heads k [] ≡ e ∷ es → e.stamp ≡ stamp → k < length heads →
        IsFirst heads k
    comes_first e es is same within = record {
      entry = e;
      rest = es;
      log_is = is;
      within = within;
      least = λ j d ds at. (let h = (later j d ds at).0 in omega (arith, h, same));
      lowest = λ j d ds at lt. (let h = (later j d ds at).1 lt in omega (arith, h, same));
    }

    pub later_kept : ((d : Stamped E) (ds : List (Stamped E)) → get_or heads k [] ≡ d ∷ ds → d.stamp ≢ stamp) →
        AreLater (k + 1) stamp heads
    later_kept other j d ds at = (
      (later j d ds at).0,
      λ lt. elim (cases_eq j k) [
        | inl h ↦ (let differ = other d ds (ap (λ (i : ℕ). get_or heads i []) (sym h) ∙ at) in
            let h' = (later j d ds at).0 in
            omega (arith, h', differ))
        | inr h ↦ (later j d ds at).1 (omega (arith, lt, h))
      ],
    )

  -- what holds of the logs while entries of one stamp are merged, from the logs and items at the start
  pub record MergesEqual (start : List (List (Stamped E))) (first : List E) (heads : List (List (Stamped E))) (items : List E) (k stamp : ℕ)
      : Type 0 where
    pub logs : AreLogs heads
    pub later : AreLater k stamp heads
    pub merging : (logs : List (List (Stamped E))) → IsMergingTo logs start first → IsMergingTo logs heads items

  pub equal_goes_on : (start : List (List (Stamped E))) (first : List E) (heads : List (List (Stamped E))) (items items' : List E)
      (k stamp : ℕ) (new : List (Stamped E)) → k < length heads → MergesEqual start first heads items k stamp →
      HasMoved stamp (get_or heads k []) new items items' ⊎ HasOther stamp (get_or heads k []) new items items' →
      MergesEqual start first (set heads k new) items' (k + 1) stamp
  unfolding comes_first
  equal_goes_on start first heads items items' k stamp new within m (inl moved) =
      let f = comes_first heads k stamp m.later moved.entry new moved.old_is moved.stamp_is within in
      record {
        logs = logs_after heads k m.logs f;
        later = subst (λ (t : ℕ). AreLater (k + 1) t (set heads k new)) moved.stamp_is (later_after heads k m.logs f);
        merging = λ logs h.
            subst (IsMergingTo logs (set heads k new)) (sym moved.merged)
            (merging_to_goes_on heads k m.logs f logs items (m.merging logs h));
      }
  equal_goes_on start first heads items items' k stamp new within m (inr other) =
      let same : set heads k new ≡ heads = ap (set heads k) other.same ∙ set-get_or heads k [] in
      subst (λ (l : List (List (Stamped E))). MergesEqual start first l items' (k + 1) stamp) (sym same)
      (record {
        logs = m.logs;
        later = later_kept heads k stamp m.later other.other;
        merging = λ logs h. subst (IsMergingTo logs heads) (sym other.kept) (m.merging logs h);
      })

  -- of the logs below n none has an entry, or log k is the first of them with the least stamp
  abbrev pub FirstBelow : List (List (Stamped E)) → ℕ → Option ℕ → ℕ → Type 0
  FirstBelow heads n None least = (j : ℕ) → j < n → get_or heads j [] ≡ []
  FirstBelow heads n (Some k) least = (e : Stamped E) × (es : List (Stamped E)) × (k < n) × (get_or heads k [] ≡ e ∷ es) × (e.stamp ≡ least)
      × ((j : ℕ) (d : Stamped E) (ds : List (Stamped E)) → j < n → get_or heads j [] ≡ d ∷ ds →
      (least ≤ d.stamp) × (j < k → least < d.stamp))

  module _ (heads : List (List (Stamped E))) (n : ℕ) where
    pub below_empty : (first : Option ℕ) (least : ℕ) → FirstBelow heads n first least → get_or heads n [] ≡ [] →
        FirstBelow heads (n + 1) first least
    below_empty None least f none =
        λ j lt. elim (cases_eq j n) [ inl h ↦ ap (λ (i : ℕ). get_or heads i []) h ∙ none | inr h ↦ f j (omega (arith, lt, h)) ]
    below_empty (Some k) least (e, es, kl, at, st, all) none = (
      e,
      es,
      omega (arith, kl),
      at,
      st,
      λ j d ds lt is. elim (cases_eq j n) [
        | inl h ↦ absurd (cc (sym none ∙ (ap (λ (i : ℕ). get_or heads i []) (sym h) ∙ is)))
        | inr h ↦ all j d ds (omega (arith, lt, h)) is
      ],
    )

    pub below_kept : (first : Option ℕ) (least : ℕ) (e : Stamped E) (es : List (Stamped E)) → FirstBelow heads n first least →
        get_or heads n [] ≡ e ∷ es → (IsSome first) × (least ≤ e.stamp) → FirstBelow heads (n + 1) first least
    below_kept None least e es f here le = absurd (cc (le.0))
    below_kept (Some k) least e es (d, ds, kl, at, st, all) here le = (
      d,
      ds,
      omega (arith, kl),
      at,
      st,
      λ j c cs lt is. elim (cases_eq j n) [
        | inl h ↦ (let same : c ≡ e = cc (sym is ∙ (ap (λ (i : ℕ). get_or heads i []) h ∙ here)) in
            (rw same le.1, λ less. absurd (omega (arith, less, h, kl))))
        | inr h ↦ all j c cs (omega (arith, lt, h)) is
      ],
    )

    below_lower : (first : Option ℕ) (least : ℕ) (e : Stamped E) (es : List (Stamped E)) → FirstBelow heads n first least →
        (first ≡ None) ⊎ (e.stamp < least) → (j : ℕ) (d : Stamped E) (ds : List (Stamped E)) → j < n → get_or heads j [] ≡ d ∷ ds →
        e.stamp < d.stamp
    below_lower None least e es f less j d ds lt is = absurd (cc (sym (f j lt) ∙ is))
    below_lower (Some k) least e es f (inl other) j d ds lt is = absurd (cc other)
    below_lower (Some k) least e es (c, cs, kl, at, st, all) (inr less) j d ds lt is =
        let h = (all j d ds lt is).0 in
        omega (arith, h, less)

    pub below_new : (first : Option ℕ) (least : ℕ) (e : Stamped E) (es : List (Stamped E)) → FirstBelow heads n first least →
        get_or heads n [] ≡ e ∷ es → (first ≡ None) ⊎ (e.stamp < least) → FirstBelow heads (n + 1) (Some n) e.stamp
    below_new first least e es f here less = (
      e,
      es,
      omega arith,
      here,
      refl,
      λ j d ds lt is. elim (cases_eq j n) [
        | inl h ↦ (let same : d ≡ e = cc (sym is ∙ (ap (λ (i : ℕ). get_or heads i []) h ∙ here)) in
            (rw same (omega arith), λ l. absurd (omega (arith, l, h))))
        | inr h ↦ (let lower = below_lower first least e es f less j d ds (omega (arith, lt, h)) is in (omega (arith, lower), λ l. lower))
      ],
    )

  within_by : (heads : List (List (Stamped E))) (j : ℕ) (d : Stamped E) (ds : List (Stamped E)) → get_or heads j [] ≡ d ∷ ds →
      j < length heads
  within_by heads j d ds is =
      elim (leb_tells (length heads) j) [ inl p ↦ absurd (cc (sym (get_or_past heads j [] p.1) ∙ is)) | inr p ↦ p.1 ]

  pub first_of_all : (heads : List (List (Stamped E))) (first : Option ℕ) (least : ℕ) → FirstBelow heads (length heads) first least →
      IfSome first (IsFirst heads)
  first_of_all heads None least f = tt
  first_of_all heads (Some k) least (e, es, kl, at, st, all) = record {
    entry = e;
    rest = es;
    log_is = at;
    within = kl;
    least = λ j d ds is. (let h = (all j d ds (within_by heads j d ds is) is).0 in omega (arith, h, st));
    lowest = λ j d ds is l. (let h = (all j d ds (within_by heads j d ds is) is).1 l in omega (arith, h, st));
  }

  pub none_of_all : (heads : List (List (Stamped E))) (least : ℕ) → FirstBelow heads (length heads) None least → AllEmpty heads
  none_of_all heads least f j = elim (leb_tells (length heads) j) [ inl p ↦ get_or_past heads j [] p.1 | inr p ↦ f j p.1 ]

-- Places of links in lists.
use Rattle.std.proofs.Common.{◌≡◌, ◌≢◌, ℕ, zero, suc, ◌+◌, ◌*◌, ◌<◌, ◌⊎◌, List, [], ◌∷◌, ◌++◌, length, Some, get_or, set, refl, sym, ap}
use Rattle.std.proofs.Common.{◌∙◌, arith, inl, inr}
use Rattle.std.specs.Prelude.{slice_get}
use Rattle.std.proofs.lemmas.List.{length-append, length-set}
use Rattle.std.proofs.lemmas.Option.{slice_get_within}
use Rattle.seam_machine.proofs.Writes.{slice_get-set}
use Rattle.seam_link.specs.Ends.{InView, OutView}
use Rattle.seam_stamp.specs.declared.Letter.{Letter}
use Rattle.seam_logged.specs.Logs.{EndsView}
use Rattle.seam_logged.specs.Mesh.{IsOut, IsIn, AreLinked, IsFilled}
use Rattle.seam_logged.specs.SomeLinks.{Reached}

module _ {X : Type 0} where
  -- an element of a list with one more at its end
  pub pushed : (xs : List X) (x : X) (k : ℕ) (y : X) → slice_get (xs ++ x ∷ []) k ≡ Some y →
      (slice_get xs k ≡ Some y) ⊎ ((k ≡ length xs) × (y ≡ x))
  pushed [] x zero y e = inr (refl, cc)
  pushed [] x (suc k) y e = absurd (cc e)
  pushed (z ∷ xs) x zero y e = inl e
  pushed (z ∷ xs) x (suc k) y e = elim (pushed xs x k y e) [ inl h ↦ inl h | inr h ↦ inr (ap suc h.0, h.1) ]

  pub set_at : (xs : List X) (i : ℕ) (y : X) (k : ℕ) (x : X) → i < length xs → slice_get (set xs i y) k ≡ Some x →
      ((k ≡ i) × (x ≡ y)) ⊎ ((k ≢ i) × (slice_get xs k ≡ Some x))
  set_at xs i y k x lt e = elim (slice_get-set xs i y k lt) [
    | inl h ↦ inl (h.0, cc (sym e ∙ h.1))
    | inr h ↦ inr (h.0, sym h.1 ∙ e)
  ]

module _ {T H : Type 0} where
  -- one more link was made, from a to b
  module _ (n a b : ℕ) (ends : List (EndsView T H)) (ea eb : EndsView T H) (o : OutView (Letter T) H) (i : InView (Letter T) H)
      (r : Reached n a b ends) (la : a < n) (lb : b < n)
      (is_a : slice_get ends a ≡ Some ea) (is_b : slice_get (set ends a (record { ins = ea.ins; outs = ea.outs ++ o ∷ [] })) b ≡ Some eb)
    where
      abbrev mid : List (EndsView T H)
      mid = set ends a (record { ins = ea.ins; outs = ea.outs ++ o ∷ [] })

      abbrev after : List (EndsView T H)
      after = set mid b (record { ins = eb.ins ++ i ∷ []; outs = eb.outs })

      in_mid : a < length ends
      in_mid = omega (arith, la, r.count)

      in_after : b < length mid
      in_after = omega (arith, lb, r.count, length-set ends a (record { ins = ea.ins; outs = ea.outs ++ o ∷ [] }))

      -- the node at place k before
      pub record Before (k : ℕ) (e : EndsView T H) : Type 0 where
        pub old : EndsView T H
        pub is_old : slice_get ends k ≡ Some old
        pub outs : ((k ≡ a) × (e.outs ≡ old.outs ++ o ∷ [])) ⊎ ((k ≢ a) × (e.outs ≡ old.outs))
        pub ins : ((k ≡ b) × (e.ins ≡ old.ins ++ i ∷ [])) ⊎ ((k ≢ b) × (e.ins ≡ old.ins))

      mid_outs : (k : ℕ) (m : EndsView T H) → slice_get mid k ≡ Some m →
          (old : EndsView T H) × (slice_get ends k ≡ Some old) × (m.ins ≡ old.ins)
          × (((k ≡ a) × (m.outs ≡ old.outs ++ o ∷ [])) ⊎ ((k ≢ a) × (m.outs ≡ old.outs)))
      mid_outs k m e = elim (set_at ends a (record { ins = ea.ins; outs = ea.outs ++ o ∷ [] }) k m in_mid e) [
        | inl h ↦ (
          ea,
          ap (slice_get ends) h.0 ∙ is_a,
          ap (λ (v : EndsView T H). v.ins) h.1,
          inl (h.0, ap (λ (v : EndsView T H). v.outs) h.1),
        )
        | inr h ↦ (m, h.1, refl, inr (h.0, refl))
      ]

      before : (k : ℕ) (e : EndsView T H) → slice_get after k ≡ Some e → Before k e
      before k e g = elim (set_at mid b (record { ins = eb.ins ++ i ∷ []; outs = eb.outs }) k e in_after g) [
        | inl h ↦
            let m = mid_outs k eb (ap (slice_get mid) h.0 ∙ is_b) in
            record {
              old = m.0;
              is_old = m.1;
              outs = rw h.1 m.3;
              ins = inl (h.0, ap (λ (v : EndsView T H). v.ins) h.1 ∙ ap (λ l. l ++ i ∷ []) m.2);
            }
        | inr h ↦
            let m = mid_outs k e h.1 in
            record { old = m.0; is_old = m.1; outs = m.3; ins = inr (h.0, m.2) }
      ]

      push_length : {X : Type 0} (xs : List X) (x : X) → length (xs ++ x ∷ []) ≡ length xs + 1
      push_length xs x = length-append xs (x ∷ [])

      pub reached_more : Reached n a (b + 1) after
      reached_more = record {
        count =
            length-set mid b (record { ins = eb.ins ++ i ∷ []; outs = eb.outs })
            ∙ (length-set ends a (record { ins = ea.ins; outs = ea.outs ++ o ∷ [] }) ∙ r.count);
        outs_low = λ k e g lt. let p = before k e g in
            elim p.outs [ inl h ↦ absurd (omega (arith, lt, h.0)) | inr h ↦ ap length h.1 ∙ r.outs_low k p.old p.is_old lt ];
        outs_here = λ k e g at. let p = before k e g in
            elim p.outs [
              | inl h ↦ ap length h.1 ∙ (push_length p.old.outs o ∙ ap (λ (m : ℕ). m + 1) (r.outs_here k p.old p.is_old at))
              | inr h ↦ absurd (h.0 at)
            ];
        outs_high = λ k e g gt. let p = before k e g in
            elim p.outs [ inl h ↦ absurd (omega (arith, gt, h.0)) | inr h ↦ ap length h.1 ∙ r.outs_high k p.old p.is_old gt ];
        ins_low = λ k e g lt. let p = before k e g in elim p.ins [
          | inl h ↦ ap length h.1 ∙ (push_length p.old.ins i ∙ ap (λ (m : ℕ). m + 1) (r.ins_high k p.old p.is_old (omega (arith, h.0))))
          | inr h ↦ ap length h.1 ∙ r.ins_low k p.old p.is_old (omega (arith, lt, h.0))
        ];
        ins_high = λ k e g ge. let p = before k e g in elim p.ins [
          | inl h ↦ absurd (omega (arith, ge, h.0))
          | inr h ↦ ap length h.1 ∙ r.ins_high k p.old p.is_old (omega (arith, ge))
        ];
      }

      out_before : (c d : ℕ) (p : OutView (Letter T) H) → IsOut after c d p → IsOut ends c d p ⊎ ((c ≡ a) × (d ≡ b) × (p ≡ o))
      out_before c d p (e, g, h) =
          let q = before c e g in
          elim q.outs [
            | inl f ↦ elim (pushed q.old.outs o d p (sym (ap (λ l. slice_get l d) f.1) ∙ h)) [
              | inl u ↦ inl (q.old, q.is_old, u)
              | inr u ↦ inr (f.0, u.0 ∙ r.outs_here c q.old q.is_old f.0, u.1)
            ]
            | inr f ↦ inl (q.old, q.is_old, sym (ap (λ l. slice_get l d) f.1) ∙ h)
          ]

      in_before : (c d : ℕ) (p : InView (Letter T) H) → IsIn after c d p → IsIn ends c d p ⊎ ((c ≡ a) × (d ≡ b) × (p ≡ i))
      in_before c d p (e, g, h) =
          let q = before d e g in
          elim q.ins [
            | inl f ↦ elim (pushed q.old.ins i c p (sym (ap (λ l. slice_get l c) f.1) ∙ h)) [
              | inl u ↦ inl (q.old, q.is_old, u)
              | inr u ↦ inr (u.0 ∙ r.ins_high d q.old q.is_old (omega (arith, f.0)), f.0, u.1)
            ]
            | inr f ↦ inl (q.old, q.is_old, sym (ap (λ l. slice_get l c) f.1) ∙ h)
          ]

      -- the new link has no ends yet
      no_out : (p : OutView (Letter T) H) (c d : ℕ) → c ≡ a → d ≡ b → IsOut ends c d p → ⊥
      no_out p c d f g (e, at, h) =
          let many = r.outs_here c e at f in
          let within = slice_get_within e.outs d p h in
          omega (arith, many, within, g)

      no_in : (p : InView (Letter T) H) (c d : ℕ) → c ≡ a → d ≡ b → IsIn ends c d p → ⊥
      no_in p c d f g (e, at, h) =
          let many = r.ins_high d e at (omega (arith, g)) in
          let within = slice_get_within e.ins c p h in
          omega (arith, many, within, f)

      pub linked_more : (links : List (List T)) → IsFilled (get_or links (a * n + b) []) o i → AreLinked n links ends →
          AreLinked n links after
      linked_more links new are c d p q out end = elim (out_before c d p out) [
        | inl f ↦ elim (in_before c d q end) [
          | inl g ↦ are c d p q f g
          | inr g ↦ absurd (no_out p c d g.0 g.1 f)
        ]
        | inr f ↦ elim (in_before c d q end) [
          | inl g ↦ absurd (no_in q c d f.0 f.1 g)
          | inr g ↦ rw (f.0, f.1, f.2, g.2) new
        ]
      ]

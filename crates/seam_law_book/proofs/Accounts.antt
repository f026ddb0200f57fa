-- What calls make of a real's account is what the flat table has of its entity.
use Rattle.seam_law_book.proofs.Prelude.{◌≡◌, ℕ, zero, suc, ◌+◌, ◌-◌, ◌≤◌, Bool, true, false, cond, List, [], ◌∷◌, ◌++◌, length, fold, refl}
use Rattle.seam_law_book.proofs.Prelude.{sym, ap, ◌∙◌, subst, arith, length-append, append-nil, append_assoc, not, AllByRecursion}
use Rattle.seam_law_book.proofs.Prelude.{fold-append, after, same_shown, changes, type_of, Part, State, TypeDef, Call as CallData, Create}
use Rattle.seam_law_book.proofs.Prelude.{public_after, RealView, Header, first_state, flat, properties, has_changed_at, public_at, Account}
use Rattle.seam_law_book.proofs.Prelude.{account_of, after_call, after_calls, IsDoneOn, IsInTable, public_more}
use Rattle.std.proofs.lemmas.List.{take_all, take-append-le}
use Rattle.seam_defs.specs.declared.flags.Part.TheVariants as part

module _ (t : TypeDef) where
  abbrev pub done_deed : State → CallData → State
  done_deed s x = after t s x.deed

  pub done_after : (a : Account) (ks : List CallData) → (after_calls t a ks).done ≡ a.done ++ ks
  done_after a [] = sym (append-nil a.done)
  done_after a (k ∷ ks) = done_after (after_call t a k) ks ∙ append_assoc a.done (k ∷ []) ks

-- the flat table after all of an order, and more
pub flat_more : (h : Header) (p : Part) (c : Create) (order more : List CallData) →
    flat h p c (order ++ more) (length (order ++ more)) ≡ fold (done_deed (type_of h.defs c.ty)) (flat h p c order (length order)) more
flat_more h p c order more =
    let deed = done_deed (type_of h.defs c.ty) in
    ap (fold deed (first_state h p c)) (take_all (length (order ++ more)) (order ++ more) (omega arith))
    ∙ fold-append deed (first_state h p c) order more
    ∙ ap (λ l. fold deed (fold deed (first_state h p c) l) more) (sym (take_all (length order) order (omega arith)))

pub one_more : (h : Header) (p : Part) (c : Create) (order : List CallData) (k : CallData) →
    flat h p c (order ++ k ∷ []) (length (order ++ k ∷ [])) ≡ done_deed (type_of h.defs c.ty) (flat h p c order (length order)) k
one_more h p c order k = flat_more h p c order (k ∷ [])

module _ (h : Header) (c : Create) where
  abbrev its_type : TypeDef
  its_type = type_of h.defs c.ty

  -- ---- further calls leave what was before

  pub flat_before : (order more : List CallData) (v : ℕ) → v ≤ length order → flat h part.Cell c (order ++ more) v
      ≡ flat h part.Cell c order v
  flat_before order more v le = ap (fold (done_deed its_type) (first_state h part.Cell c)) (take-append-le v order more le)

  abbrev differ : State → State → Bool
  differ old new = not (same_shown (properties h c) part.Cell old new)

  changed_before : (order more : List CallData) (v : ℕ) → v ≤ length order →
      has_changed_at h part.Cell c (order ++ more) v ≡ has_changed_at h part.Cell c order v
  changed_before order more v le =
      ap (λ s. differ s (flat h part.Cell c (order ++ more) v)) (flat_before order more (v - 1) (omega (arith, le)))
      ∙ ap (differ (flat h part.Cell c order (v - 1))) (flat_before order more v le)

  pub public_before : (order more : List CallData) (n : ℕ) → n ≤ length order → public_at h c (order ++ more) n ≡ public_at h c order n
  public_before order more zero le = refl
  public_before order more (suc n) le =
      public_more h c (order ++ more) n
      ∙ ap (λ b. cond b (suc n) (public_at h c (order ++ more) n)) (changed_before order more (suc n) le)
      ∙ ap (cond (has_changed_at h part.Cell c order (suc n)) (suc n)) (public_before order more n (omega (arith, le)))
      ∙ sym (public_more h c order n)

  -- ---- an account

  -- it is what the flat table has after this order
  pub record Agrees (order : List CallData) (a : Account) : Type 0 where
    pub version : a.version ≡ length order
    pub state : a.state ≡ flat h part.Cell c order (length order)
    pub public : a.public ≡ public_at h c order (length order)

  pub in_table_by : (order : List CallData) (r : RealView) → Agrees order (account_of r) → IsInTable h c order r
  in_table_by order r so = record { version = so.version; state = so.state; public = so.public }

  public_by : (t : Bool) (version public : ℕ) → public_after t version public ≡ cond t version public
  public_by true version public = refl
  public_by false version public = refl

  module _ (order : List CallData) (a : Account) (k : CallData) (cell : IsDoneOn part.Cell its_type k) (so : Agrees order a) where
    abbrev next : List CallData
    next = order ++ k ∷ []

    abbrev n : ℕ
    n = length order

    longer : length next ≡ suc n
    longer = let long = length-append order (k ∷ []) in omega (arith, long)

    was : flat h part.Cell c next (suc n - 1) ≡ a.state
    was =
        let less : suc n - 1 ≡ n = omega arith in
        ap (flat h part.Cell c next) less ∙ flat_before order (k ∷ []) n (omega arith) ∙ sym so.state

    now : flat h part.Cell c next (suc n) ≡ after its_type a.state k.deed
    now =
        ap (flat h part.Cell c next) (sym longer) ∙ one_more h part.Cell c order k ∙ ap (λ s. done_deed its_type s k) (sym so.state)

    changed : has_changed_at h part.Cell c next (suc n) ≡ changes its_type a.state k.deed
    changed =
        ap (λ s. differ s (flat h part.Cell c next (suc n))) was ∙ ap (differ a.state) now
        ∙ ap (λ p. not (same_shown (properties h c) p a.state (after its_type a.state k.deed))) cell

    agrees_more : Agrees next (after_call its_type a k)
    agrees_more = record {
      version = let is = so.version in let long = longer in omega (arith, is, long);
      state = ap (λ s. done_deed its_type s k) so.state ∙ sym (one_more h part.Cell c order k);
      public = let risen : a.version + 1 ≡ suc n = (let is = so.version in omega (arith, is)) in
          public_by (changes its_type a.state k.deed) (a.version + 1) a.public
          ∙ ap (λ v. cond (changes its_type a.state k.deed) v a.public) risen
          ∙ ap (cond (changes its_type a.state k.deed) (suc n)) (so.public ∙ sym (public_before order (k ∷ []) n (omega arith)))
          ∙ ap (λ b. cond b (suc n) (public_at h c next n)) (sym changed) ∙ sym (public_more h c next n)
          ∙ ap (public_at h c next) (sym longer);
    }

  pub agrees_after : (order : List CallData) (a : Account) (ks : List CallData) → AllByRecursion (IsDoneOn part.Cell its_type) ks →
      Agrees order a → Agrees (order ++ ks) (after_calls its_type a ks)
  agrees_after order a [] all so = subst (λ l. Agrees l a) (sym (append-nil order)) so
  agrees_after order a (k ∷ ks) all so =
      subst (λ l. Agrees l (after_calls its_type (after_call its_type a k) ks)) (append_assoc order (k ∷ []) ks)
      (agrees_after (order ++ k ∷ []) (after_call its_type a k) ks all.1 (agrees_more order a k all.0 so))

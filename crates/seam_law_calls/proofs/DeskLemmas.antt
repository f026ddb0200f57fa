-- One sender's desk after a call was offered, or one that was held was taken.
use Rattle.seam_law_calls.proofs.Prelude.{◌≡◌, ℕ, ◌<◌, cond, eqb, List, [], ◌∷◌, ◌++◌, None, Some, refl, sym, ap, ◌∙◌, arith, nat_cmp_total}
use Rattle.seam_law_calls.proofs.Prelude.{unsigned_tied, eq-eqb, ne_eqb, append-nil, OrderView, after_offer, after_taking, Call as CallData}
use Rattle.seam_law_calls.proofs.Prelude.{rank_of, Orders, order_or, letters_of, more_letter, Desk, offered, taken, kept_if, from_sender}
use Rattle.seam_law_calls.proofs.Prelude.{desk_for, letters_of-append}
use Rattle.std.specs.FinMap as table

pub from_same : {A : Type 0} (s : ℕ) (c : CallData) (a : A) → rank_of c.sender ≡ s → kept_if (eqb (rank_of c.sender) s) a ≡ Some a
from_same s c a is = ap (λ t. kept_if t a) (eq-eqb (rank_of c.sender) s is)

pub from_other : {A : Type 0} (s : ℕ) (c : CallData) (a : A) → (rank_of c.sender ≡ s → ⊥) → kept_if (eqb (rank_of c.sender) s) a ≡ None
from_other s c a is = ap (λ t. kept_if t a) (ne_eqb (rank_of c.sender) s is)

module _ (s : ℕ) (os : Orders) (k : ℕ) (o : OrderView CallData) where
  put_is : table.get (table.insert os k o) s ≡ cond (eqb s k) (Some o) (table.get os s)
  put_is = table.get-insert nat_cmp_total os k o s ∙ ap (λ b. cond b (Some o) (table.get os s)) (unsigned_tied s k)

  pub put_same : s ≡ k → order_or (table.get (table.insert os k o) s) ≡ o
  put_same is = ap order_or (put_is ∙ ap (λ b. cond b (Some o) (table.get os s)) (eq-eqb s k is))

  pub put_other : (s ≡ k → ⊥) → order_or (table.get (table.insert os k o) s) ≡ order_or (table.get os s)
  put_other is = ap order_or (put_is ∙ ap (λ b. cond b (Some o) (table.get os s)) (ne_eqb s k is))

module _ (s : ℕ) (done : List CallData) (c : CallData) where
  done_same : rank_of c.sender ≡ s → letters_of (from_sender s) (done ++ c ∷ []) ≡ letters_of (from_sender s) done ++ c ∷ []
  done_same is =
      letters_of-append (from_sender s) done (c ∷ [])
      ∙ ap (λ o. letters_of (from_sender s) done ++ more_letter o []) (from_same s c c is)

  done_other : (rank_of c.sender ≡ s → ⊥) → letters_of (from_sender s) (done ++ c ∷ []) ≡ letters_of (from_sender s) done
  done_other is =
      letters_of-append (from_sender s) done (c ∷ [])
      ∙ (ap (λ o. letters_of (from_sender s) done ++ more_letter o []) (from_other s c c is)
      ∙ append-nil (letters_of (from_sender s) done))

abbrev desk : OrderView CallData → List CallData → Desk CallData
desk o l = record { order = o; done = l }

desk_is : (a b : OrderView CallData) (x y : List CallData) → a ≡ b → x ≡ y → desk a x ≡ desk b y
desk_is a b x y e f = ap (λ o. desk o x) e ∙ ap (λ l. desk b l) f

module _ (s : ℕ) (os : Orders) (done : List CallData) (c : CallData) where
  abbrev its : OrderView CallData
  its = order_or (table.get os (rank_of c.sender))

  abbrev offered_orders : Orders
  offered_orders = table.insert os (rank_of c.sender) (after_offer its c.number c)

  -- its own call, in its turn
  pub desk_executes : rank_of c.sender ≡ s → c.number ≡ its.next →
      desk_for s offered_orders (done ++ c ∷ []) ≡ offered (desk_for s os done) c.number c
  desk_executes is now =
      let same = ap (λ k. order_or (table.get os k)) is in
      desk_is _ _ _ _ (put_same s os (rank_of c.sender) (after_offer its c.number c) (sym is)
      ∙ ap (λ o. after_offer o c.number c) same)
      (done_same s done c is ∙ ap (λ t. letters_of (from_sender s) done ++ cond t (c ∷ []) [])
      (sym (eq-eqb c.number (order_or (table.get os s)).next (now ∙ ap (λ o. o.next) same))))

  -- its own call, which is early
  pub desk_holds : rank_of c.sender ≡ s → its.next < c.number → desk_for s offered_orders done ≡ offered (desk_for s os done) c.number c
  desk_holds is early =
      let same = ap (λ k. order_or (table.get os k)) is in
      let next = ap (λ o. o.next) same in
      desk_is _ _ _ _ (put_same s os (rank_of c.sender) (after_offer its c.number c) (sym is)
      ∙ ap (λ o. after_offer o c.number c) same)
      (sym (ap (λ t. letters_of (from_sender s) done ++ cond t (c ∷ []) [])
      (ne_eqb c.number (order_or (table.get os s)).next (λ e. omega (arith, e, next, early)))
      ∙ append-nil (letters_of (from_sender s) done)))

  -- another sender's call
  pub desk_keeps : (k : ℕ) (o : OrderView CallData) → rank_of c.sender ≡ k → (rank_of c.sender ≡ s → ⊥) →
      desk_for s (table.insert os k o) (done ++ c ∷ []) ≡ desk_for s os done
  desk_keeps k o at is = desk_is _ _ _ _ (put_other s os k o (λ e. is (at ∙ sym e))) (done_other s done c is)

  pub desk_stays : (rank_of c.sender ≡ s → ⊥) → desk_for s offered_orders done ≡ desk_for s os done
  desk_stays is = desk_is _ _ _ _ (put_other s os (rank_of c.sender) (after_offer its c.number c) (λ e. is (sym e))) refl

  -- its own call, which was held
  pub desk_takes : (k : ℕ) (o : OrderView CallData) → rank_of c.sender ≡ s → k ≡ s → table.get os k ≡ Some o →
      desk_for s (table.insert os k (after_taking o)) (done ++ c ∷ []) ≡ taken (desk_for s os done) c
  desk_takes k o is at there =
      let same : order_or (table.get os s) ≡ o = ap (λ x. order_or (table.get os x)) (sym at) ∙ ap order_or there in
      desk_is _ _ _ _ (put_same s os k (after_taking o) (sym at) ∙ ap after_taking (sym same)) (done_same s done c is)

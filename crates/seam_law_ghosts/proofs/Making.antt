-- What a move makes of the real, and what it writes and sends to books.
use Rattle.seam_law_ghosts.proofs.Prelude.{◌≡◌, ℕ, ◌+◌, ◌≤◌, ◌⊎◌, Bool, true, false, ltb, cond, eqb, ◌||◌, List, [], ◌∷◌, ◌++◌, Option}
use Rattle.seam_law_ghosts.proofs.Prelude.{None, Some, refl, sym, ap, ◌∙◌, subst, inl, inr, AllByRecursion, eqb-true, eqb-false, Cells}
use Rattle.seam_law_ghosts.proofs.Prelude.{items_to, part_of_deed, type_of, Call as CallData, GhostCopy, RealView, Msg, Hand, GhostSet}
use Rattle.seam_law_ghosts.proofs.Prelude.{GhostDrop, Reap, cell_numbers, copy_of_real, settled_to, told, told_unless, ghost_message}
use Rattle.seam_law_ghosts.proofs.Prelude.{ghost_messages, beat_after, copy_if, letters_of, OfEntry, AllBring, entry_in, greater_entry}
use Rattle.seam_law_ghosts.proofs.Prelude.{IsSilent, carried_in, SendsNone, Handles, still, turns, lands, leaves, relays, Frame, here_at}
use Rattle.seam_law_ghosts.proofs.Prelude.{Has, account_of, after_call, real_in, real_of, Entry, brings, book_entry, Executes, nothing}
use Rattle.seam_law_ghosts.proofs.Prelude.{executes, told_settling, going, left_entry, GhostMoves, shown_at, all_append, sees_none}
use Rattle.seam_law_ghosts.proofs.Prelude.{sees_after_silent, sees_one_here, sees_one_there, reals_unseen, ghosts_silent, items_fit}
use Rattle.std.specs.Prelude.{filter_map}
use Rattle.std.specs.FinSet as set
use Rattle.seam_defs.specs.declared.flags.Part.TheVariants as part
use Rattle.seam_law_ghosts.specs.GhostMoves as ghost
use Rattle.seam_law_ghosts.proofs.Greater.{greater_has}

-- ---- what became of the real

pub data Did (f : Frame) (r q : RealView) : Type 0 where
  same : q.entity ≡ r.entity → q.ty ≡ r.ty → account_of q ≡ account_of r → Did f r q
  one : (c : CallData) → q.entity ≡ r.entity → q.ty ≡ r.ty → part_of_deed (type_of f.defs r.ty) c.deed ≡ part.Cell
      → account_of q ≡ after_call (type_of f.defs r.ty) (account_of r) c → Did f r q

-- the call that it executed, if it did
abbrev pub did_calls : {f : Frame} {r q : RealView} → Did f r q → List CallData
did_calls (same n t a) = []
did_calls (one c n t p a) = c ∷ []

settled_did : (f : Frame) (r q : RealView) (changed : Bool) (haunts : Cells) (beat generation : ℕ) → Executes f r q changed →
    Did f r (settled_to q haunts beat generation)
settled_did f r q changed haunts beat generation (nothing e z) = same (ap (λ x. x.entity) e) (ap (λ x. x.ty) e) (ap account_of e)
settled_did f r q changed haunts beat generation (executes c h p a z) = one c h.entity h.type p a

pub executes_beat : (f : Frame) (r q : RealView) (changed : Bool) → Executes f r q changed → q.beat ≡ r.beat
executes_beat f r q changed (nothing e z) = ap (λ x. x.beat) e
executes_beat f r q changed (executes c h p a z) = h.beat

-- ---- what books are told

-- at the beat of the real q, none or the copy of it
pub record IsFresh (f : Frame) (q : RealView) (p : Entry) : Type 0 where
  pub at : p.0 ≡ q.beat
  pub copy : (c : GhostCopy) → p.1 ≡ Some c → c ≡ shown_at f q.ty q.public q.state

abbrev pub NoEntry : Entry → Type 0
NoEntry p = ⊥

abbrev pub Brings : (Entry → Type 0) → Msg → Type 0
Brings P m = OfEntry P (brings m)

-- the book is as it was, or has what came, or an entry that P is true of; and P is true of what is sent
pub record Makes (P : Entry → Type 0) (s : Has) (i : Option Msg) (t : Has) (out : ℕ → List Msg) : Type 0 where
  pub book : (book_entry t ≡ book_entry s) ⊎ ((entry_in brings i ≡ Some (book_entry t)) ⊎ P (book_entry t))
  pub sent : (j : ℕ) → AllBring brings P (out j)

-- the real r is q after the move: of the same beat, and nothing is told, or of the next one, and what is told is fresh
pub data Tells (f : Frame) (r q : RealView) (s : Has) (i : Option Msg) (t : Has) (out : ℕ → List Msg) : Type 0 where
  silent : q.beat ≡ r.beat → Makes NoEntry s i t out → Tells f r q s i t out
  fresh : q.beat ≡ r.beat + 1 → Makes (IsFresh f q) s i t out → Tells f r q s i t out

greater_by : (e p : Entry) (t : Bool) → (cond t p e ≡ e) ⊎ (cond t p e ≡ p)
greater_by e p true = inr refl
greater_by e p false = inl refl

greater_either : (e p : Entry) → (greater_entry e (Some p) ≡ e) ⊎ (greater_entry e (Some p) ≡ p)
greater_either e p = greater_by e p (ltb e.0 p.0)

pub unseen_by : (m : Msg) → brings m ≡ None → real_of m ≡ None
unseen_by (Hand r bs) h = cc
unseen_by _ h = refl

pub none_carried : (i : Option Msg) → entry_in brings i ≡ None → carried_in real_of i ≡ None
none_carried None h = refl
none_carried (Some m) h = unseen_by m h

pub all_unseen : (ps : List (ℕ × Msg)) → IsSilent brings ps → IsSilent real_of ps
all_unseen [] h = tt
all_unseen (p ∷ ps) h = (unseen_by p.1 h.0, all_unseen ps h.1)

pub none_brought : (P : Entry → Type 0) (ps : List (ℕ × Msg)) → IsSilent brings ps → AllByRecursion (λ p. Brings P p.1) ps
none_brought P [] h = tt
none_brought P (p ∷ ps) h = (subst (OfEntry P) (sym h.0) tt, none_brought P ps h.1)

-- of what is chosen from a list each is such
module _ {A B : Type 0} (P : B → Type 0) (g : A → Option B) (each : (a : A) (b : B) → g a ≡ Some b → P b) where
  chosen_by : (a : A) (xs : List A) (o : Option B) → g a ≡ o → AllByRecursion P (filter_map g xs) → AllByRecursion P (filter_map g (a ∷ xs))
  chosen_by a xs None is more = rw is more
  chosen_by a xs (Some b) is more = rw is (each a b is, more)

  chosen_all : (xs : List A) → AllByRecursion P (filter_map g xs)
  chosen_all [] = tt
  chosen_all (a ∷ xs) = chosen_by a xs (g a) refl (chosen_all xs)

module _ (P : Entry → Type 0) (beat : ℕ) (c : GhostCopy) (some : P (beat, Some c)) (none : P (beat, None)) where
  sent_by : (p q : ℕ × Msg) → Some p ≡ Some q → Brings P p.1 → Brings P q.1
  sent_by p q is h = let is_same : p ≡ q = cc in subst (λ x. Brings P x.1) is_same h

  told_by : (k e : ℕ) (now was changed : Bool) (p : ℕ × Msg) → told_unless false k (told e beat c now was changed) ≡ Some p → Brings P p.1
  told_by k e true false changed p is = sent_by (k, GhostSet e beat c) p is some
  told_by k e true true true p is = sent_by (k, GhostSet e beat c) p is some
  told_by k e true true false p is = cc
  told_by k e false true changed p is = sent_by (k, GhostDrop e beat) p is none
  told_by k e false false changed p is = cc

  ghost_by : (b : Bool) (k e : ℕ) (now was changed : Bool) (p : ℕ × Msg) → told_unless b k (told e beat c now was changed) ≡ Some p →
      Brings P p.1
  ghost_by true k e now was changed p is = cc
  ghost_by false k e now was changed p is = told_by k e now was changed p is

ghosts_fresh : (f : Frame) (P : Entry → Type 0) (k : ℕ) (q : RealView) (j : ℕ) (haunts : Cells) (changed : Bool) →
    P (q.beat + 1, Some (copy_of_real (here_at f k) q)) → P (q.beat + 1, None) →
    AllByRecursion (λ p. Brings P p.1) (ghost_messages (here_at f k) q j haunts changed)
ghosts_fresh f P k q j haunts changed some none =
    chosen_all (λ p. Brings P p.1) (ghost_message (here_at f k) q j haunts changed) (λ x p is.
    ghost_by P (q.beat + 1) (copy_of_real (here_at f k) q) some none ((eqb x k) || (eqb x j)) x q.entity (set.contains haunts x)
    (set.contains q.haunts x) changed p is) cell_numbers

-- ---- a cell tells itself nothing

item_by : (k : ℕ) (p : ℕ × Msg) (ms : List Msg) (t : Bool) → eqb p.0 k ≡ t → (p.0 ≡ k → ⊥) → ms ≡ [] → cond t (p.1 ∷ ms) ms ≡ []
item_by k p ms true is apart more = absurd (apart (eqb-true p.0 k is))
item_by k p ms false is apart more = more

items_apart : (k : ℕ) (ps : List (ℕ × Msg)) → AllByRecursion (λ p. p.0 ≡ k → ⊥) ps → items_to k ps ≡ []
items_apart k [] h = refl
items_apart k (p ∷ ps) h = item_by k p (items_to k ps) (eqb p.0 k) refl h.0 (items_apart k ps h.1)

addressed_to : (x : ℕ) (m : Option Msg) (p : ℕ × Msg) → told_unless false x m ≡ Some p → x ≡ p.0
addressed_to x None p is = cc
addressed_to x (Some m) p is = let is_same : (x, m) ≡ p = cc in ap (λ q. q.0) is_same

not_own : (k j x : ℕ) (m : Option Msg) (p : ℕ × Msg) (a : Bool) → eqb x k ≡ a → told_unless (a || eqb x j) x m ≡ Some p → p.0 ≡ k → ⊥
not_own k j x m p true h is at = cc
not_own k j x m p false h is at = not_own_by (eqb x j) is
  where
    not_own_by : (b : Bool) → told_unless b x m ≡ Some p → ⊥
    not_own_by true is = cc
    not_own_by false is = eqb-false x k h (addressed_to x m p is ∙ at)

pub none_here : (f : Frame) (k : ℕ) (q : RealView) (j : ℕ) (haunts : Cells) (changed : Bool) →
    items_to k (ghost_messages (here_at f k) q j haunts changed) ≡ []
none_here f k q j haunts changed =
    items_apart k (ghost_messages (here_at f k) q j haunts changed)
    (chosen_all (λ p. p.0 ≡ k → ⊥) (ghost_message (here_at f k) q j haunts changed)
    (λ x p is. not_own k j x _ p (eqb x k) refl is) cell_numbers)

module _ (f : Frame) (e k : ℕ) (s : Has) (i : Option Msg) (t : Has) (sent : List (ℕ × Msg)) (out : ℕ → List Msg)
    (items : (j : ℕ) → out j ≡ items_to j sent) where
  abbrev pub Does_it : Type 0
  Does_it = Handles real_in real_of (Did f) s i t out

  abbrev pub TellsBy : Does_it → Type 0
  TellsBy (still a b c) = Makes NoEntry s i t out
  TellsBy (turns r q a b c d o) = Tells f r q s i t out × AllBring brings NoEntry (out k)
  TellsBy (lands r q a b c o) = (q ≡ r) × Makes NoEntry s i t out × (r.beat ≤ (book_entry t).0)
  TellsBy (leaves r q to a b c d o) = Tells f r q s i t out
  TellsBy (relays r q to a b c o) = ⊥

  abbrev pub Handled : Type 0
  Handled = (m : Does_it) × TellsBy m

  sends_none : IsSilent real_of sent → SendsNone real_of out
  sends_none h j = ap (letters_of real_of) (items j) ∙ sees_none real_of j sent h

  all_sent : (P : Entry → Type 0) → AllByRecursion (λ p. Brings P p.1) sent → (j : ℕ) → AllBring brings P (out j)
  all_sent P h j = subst (AllBring brings P) (sym (items j)) (items_fit (λ k. Brings P) j sent h)

  makes_none : IsSilent brings sent → (book_entry t ≡ book_entry s) ⊎ ((entry_in brings i ≡ Some (book_entry t)) ⊎ ⊥) →
      Makes NoEntry s i t out
  makes_none h b = record { book = b; sent = all_sent NoEntry (none_brought NoEntry sent h) }

  nothing_told : real_in t ≡ real_in s → carried_in real_of i ≡ None → IsSilent brings sent →
      (book_entry t ≡ book_entry s) ⊎ ((entry_in brings i ≡ Some (book_entry t)) ⊎ ⊥) → Handled
  nothing_told real none h b = (still real none (sends_none (all_unseen sent h)), makes_none h b)

  heard_book : (p : Entry) → entry_in brings i ≡ Some p → book_entry t ≡ greater_entry (book_entry s) (Some p) →
      (book_entry t ≡ book_entry s) ⊎ ((entry_in brings i ≡ Some (book_entry t)) ⊎ ⊥)
  heard_book p comes is = elim (greater_either (book_entry s) p) [
    | inl a ↦ inl (is ∙ a)
    | inr b ↦ inr (inl (comes ∙ ap Some (sym (is ∙ b))))
  ]

  stays_by : (r q : RealView) (changed : Bool) (haunts : Cells) (ms : List (ℕ × Msg)) → told_settling f k k haunts q changed ≡ ms →
      entry_in brings i ≡ None →
      real_in s ≡ Some r → Executes f r q changed → real_in t ≡ Some
      (settled_to q haunts (beat_after ms q.beat) q.generation) → book_entry t ≡ book_entry s → sent ≡ ms → Handled
  stays_by r q changed haunts [] is none has acts real book z = (
    turns r (settled_to q haunts q.beat q.generation) has real
        (inr (settled_did f r q changed haunts q.beat q.generation acts)) (none_carried i none)
        (sends_none (subst (IsSilent real_of) (sym z) tt)),
    (
      silent (executes_beat f r q changed acts) (makes_none (subst (IsSilent brings) (sym z) tt) (inl book)),
      all_sent NoEntry (subst (AllByRecursion (λ p. Brings NoEntry p.1)) (sym z) tt) k,
    ),
  )
  stays_by r q changed haunts (m ∷ ms) is none has acts real book z =
      let after = settled_to q haunts (q.beat + 1) q.generation in
      let all = ghosts_fresh f (IsFresh f after) k q k haunts changed
      (record { at = refl; copy = λ c h. let is_same : copy_of_real (here_at f k) q ≡ c = cc in sym is_same })
      (record { at = refl; copy = λ c h. cc }) in (
        turns r after has real
            (inr (settled_did f r q changed haunts (q.beat + 1) q.generation acts)) (none_carried i none)
            (sends_none (subst (IsSilent real_of) (is ∙ sym z)
            (ghosts_silent real_of reals_unseen (here_at f k) q k haunts changed))),
        (
          fresh (ap (λ n. n + 1) (executes_beat f r q changed acts))
              (record {
                book = inl book;
                sent = all_sent (IsFresh f after) (subst (AllByRecursion (λ p. Brings (IsFresh f after) p.1)) (is ∙ sym z) all);
              }),
          subst (AllBring brings NoEntry)
              (sym (items k ∙ (ap (items_to k) (z ∙ sym is) ∙ none_here f k q k haunts changed))) tt,
        ),
      )

  kept_copy : (b : Bool) (c d : GhostCopy) → copy_if b c ≡ Some d → d ≡ c
  kept_copy true c d h = let is_same : c ≡ d = cc in sym is_same
  kept_copy false c d h = cc

  left_fresh : (q : RealView) (haunts : Cells) → IsFresh f (going haunts q) (left_entry f k haunts q)
  left_fresh q haunts = record {
    at = refl;
    copy = λ c h. kept_copy (set.contains haunts k) (copy_of_real (here_at f k) q) c h;
  }

  left_book : (q : RealView) (haunts : Cells) → book_entry t ≡ greater_entry (book_entry s) (Some (left_entry f k haunts q)) →
      (book_entry t ≡ book_entry s) ⊎ ((entry_in brings i ≡ Some (book_entry t)) ⊎ IsFresh f (going haunts q) (book_entry t))
  left_book q haunts is = elim (greater_either (book_entry s) (left_entry f k haunts q)) [
    | inl a ↦ inl (is ∙ a)
    | inr b ↦ inr (inr (subst (IsFresh f (going haunts q)) (sym (is ∙ b)) (left_fresh q haunts)))
  ]

  goes_by : (r q : RealView) (changed : Bool) (j : ℕ) (haunts : Cells) → entry_in brings i ≡ None → real_in s ≡ Some r →
      Executes f r q changed →
      real_in t ≡ None → book_entry t ≡ greater_entry (book_entry s) (Some (left_entry f k haunts q)) →
      sent ≡ told_settling f k j haunts q changed ++ (j, Hand (going haunts q) None) ∷ [] → Handled
  goes_by r q changed j haunts none has acts real book z =
      let after = going haunts q in
      let ms = told_settling f k j haunts q changed in
      let unseen = ghosts_silent real_of reals_unseen (here_at f k) q j haunts changed in
      let all = ghosts_fresh f (IsFresh f after) k q j haunts changed
      (record { at = refl; copy = λ c h. let is_same : copy_of_real (here_at f k) q ≡ c = cc in sym is_same })
      (record { at = refl; copy = λ c h. cc }) in (
        leaves r after j has real (inr (settled_did f r q changed haunts (q.beat + 1) (q.generation + 1) acts))
            (none_carried i none)
            (record {
              here =
                  ap (letters_of real_of) (items j ∙ ap (items_to j) z)
                  ∙ (sees_after_silent real_of j ms ((j, Hand after None) ∷ []) unseen ∙ sees_one_here real_of j (Hand after None));
              others = λ x n.
                  ap (letters_of real_of) (items x ∙ ap (items_to x) z)
                  ∙ (sees_after_silent real_of x ms ((j, Hand after None) ∷ []) unseen ∙ sees_one_there real_of j x (Hand after None) n);
            }),
        fresh (ap (λ n. n + 1) (executes_beat f r q changed acts))
            (record {
              book = left_book q haunts book;
              sent = all_sent (IsFresh f after)
                  (subst (AllByRecursion (λ p. Brings (IsFresh f after) p.1)) (sym z)
                  (all_append (λ p. Brings (IsFresh f after) p.1) ms ((j, Hand after None) ∷ []) all
                  (record { at = refl; copy = λ c h. cc }, tt)));
            }),
      )

  pub told_of : ((r : RealView) → real_in s ≡ Some r → i ≡ Some (Reap e) → ⊥) → GhostMoves f e k s i t sent → Handled
  told_of spared (ghost.rests none real book z) = nothing_told real (none_carried i none) z (inl book)
  told_of spared (ghost.touches r q none has real alike account book z) = (
    turns r q has real (inr (same alike.entity alike.type account)) (none_carried i none) (sends_none (all_unseen sent z)),
    (silent alike.beat (makes_none z (inl book)), all_sent NoEntry (none_brought NoEntry sent z) k),
  )
  told_of spared (ghost.misses m h none missed real book z) = nothing_told real (ap (carried_in real_of) h ∙ none) z (inl book)
  told_of spared (ghost.ignores n c r h has real book z) = nothing_told real (ap (carried_in real_of) h) z (inl book)
  told_of spared (ghost.hears p h none real book z) = nothing_told real none z (heard_book p h book)
  told_of spared (ghost.lands r bs h has real book z) = (
    lands r r (ap (carried_in real_of) h) real (inl refl) (sends_none (all_unseen sent z)),
    (
      refl,
      makes_none z (heard_book (r.beat, None) (ap (entry_in brings) h) book),
      subst (λ p. r.beat ≤ p.0) (sym book) (greater_has (book_entry s) (r.beat, None)),
    ),
  )
  told_of spared (ghost.stays r q changed haunts own none has acts real book z) =
      stays_by r q changed haunts (told_settling f k k haunts q changed) refl none has acts real book z
  told_of spared (ghost.goes r q changed j haunts apart goal none has acts real book z) =
      goes_by r q changed j haunts none has acts real book z
  told_of spared (ghost.reaped r h has real book z) = absurd (spared r has h)

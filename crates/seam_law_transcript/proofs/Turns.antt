-- Calls in turn, at every step of a round: what a part executed so far are the first ones of each sender's calls.
use Rattle.seam_law_transcript.proofs.Prelude.{◌≡◌, ℕ, ◌≤◌, Bool, true, false, List, [], ◌∷◌, ◌++◌, Option, None, Some, refl, sym, ap, ◌∙◌}
use Rattle.seam_law_transcript.proofs.Prelude.{subst, inl, inr, arith, AllByRecursion, cases_eq, eq-eqb, false≢true, Contains, ◌==◌, Part}
use Rattle.seam_law_transcript.proofs.Prelude.{Division, Call as CallData, Batch, RealView, Msg, Hand, PartView, World, loaded, Header}
use Rattle.seam_law_transcript.proofs.Prelude.{calls_of, accepted, IsFull, ClientReplica, Standing, Flow, letters_of, more_letter}
use Rattle.seam_law_transcript.proofs.Prelude.{TokenPlace, In, On, Sole, Desk, Mail, Item, desk_of, parcel_of, AreInTurn, link, entity_flow}
use Rattle.seam_law_transcript.proofs.Prelude.{kept_if, mine, real_of, from_sender, desk_for, cell_mail, real_desk, as_sender}
use Rattle.seam_law_transcript.proofs.Prelude.{as_base_sender, part_desk, real_at, next_from, next_to, base_calls_of, HadSameReal, as_begun}
use Rattle.seam_law_transcript.proofs.Prelude.{IsFitCall, calls_from, HasFitRound, frame_of, base_node, HasRoomForCalls, batch_of}
use Rattle.seam_law_transcript.proofs.Prelude.{contains_cases, real_is, part_is, sole_here, IsCalmTo, all_turn, IsFromSender}
use Rattle.seam_law_transcript.proofs.Prelude.{known_is_sender, executes_first}
use Rattle.seam_law_calls.specs.Prelude.{is_from}
use Rattle.seam_law_all.specs.CallLaws.{GoesRightly}
use Rattle.seam_law_transcript.specs.Turns.{AreFirstCalls, HasFirstCalls}
use Rattle.seam_defs.specs.declared.flags.Part.TheVariants as part
use Rattle.seam_entity.specs.declared.message.Msg.TheVariants.{Call}
use Rattle.seam_law_rounds.specs.Between as core
use Rattle.seam_law_book.proofs.Numbering.{cell_calls, base_calls}
use Rattle.seam_node_steps.specs.Prelude.{Boundaries}

-- ---- the hand-overs of an entity

-- what is so of the reals in the letters about the entity is so of each of its reals in the messages
module _ (P : RealView → Type 0) (e : ℕ) where
  abbrev IsSo : Msg → Type 0
  IsSo m = (r : RealView) → real_of m ≡ Some r → P r

  later_letters : (o : Option Msg) (ls : List Msg) → AllByRecursion IsSo (more_letter o ls) → AllByRecursion IsSo ls
  later_letters None ls all = all
  later_letters (Some l) ls all = all.1

  this_letter : (b : Bool) (m : Msg) (ls : List Msg) → b ≡ true → AllByRecursion IsSo (more_letter (kept_if b m) ls) → IsSo m
  this_letter true m ls is all = all.0
  this_letter false m ls is all = absurd (false≢true is)

  pub in_letters : (ms : List Msg) → AllByRecursion IsSo (letters_of (mine e) ms) → (r : RealView) (bs : Option Boundaries) →
      Contains ms (Hand r bs) → r.entity ≡ e → P r
  in_letters [] all r bs (k, within, at) is = absurd (omega arith)
  in_letters (m ∷ ms) all r bs has is = elim (contains_cases m (Hand r bs) ms has) [
    | inl same ↦
        this_letter (r.entity == e) (Hand r bs) (letters_of (mine e) ms) (eq-eqb r.entity e is)
        (subst (λ x. AllByRecursion IsSo (letters_of (mine e) (x ∷ ms))) same all) r refl
    | inr later ↦ in_letters ms (later_letters (mine e m) (letters_of (mine e) ms) all) r bs later is
  ]

-- ---- the one desk, where a real carries it

-- no link has another token than the one
module _ {S L R : Type 0} (held : S → Option R) (carried : L → Option R) (w : Flow S L) (r : R) where
  abbrev IsIt : R → Type 0
  IsIt x = x ≡ r

  pub only_on_links : (p : TokenPlace) → Sole held carried w p r → (a k : ℕ) → AllByRecursion IsIt (letters_of carried (w.mail a k))
  only_on_links (In j) one a k = subst (AllByRecursion IsIt) (sym (one.mail a k)) tt
  only_on_links (On x y) one a k = elim (cases_eq a x) [
    | inl f ↦ elim (cases_eq k y) [
      | inl g ↦
          let at : letters_of carried (w.mail a k) ≡ r ∷ [] = rw (f, g) one.here in
          subst (AllByRecursion IsIt) (sym at) (refl, tt)
      | inr n ↦ subst (AllByRecursion IsIt) (sym (one.others a k (λ s t. n t))) tt
    ]
    | inr n ↦ subst (AllByRecursion IsIt) (sym (one.others a k (λ s t. n s))) tt
  ]

module _ (s : ℕ) (d : Desk CallData) where
  abbrev IsIts : Desk CallData → Type 0
  IsIts x = x ≡ d

  -- the desk of a real that a message carries is this one
  abbrev pub Carries : Msg → Type 0
  Carries m = (q : RealView) → real_of m ≡ Some q → desk_for s q.orders q.done ≡ d

  without_call : (t : Bool) (c : CallData) (rest : List (Mail CallData)) →
      AllByRecursion IsIts (letters_of parcel_of (more_letter (kept_if t (Item c.number c)) rest)) →
      AllByRecursion IsIts (letters_of parcel_of rest)
  without_call true c rest all = all
  without_call false c rest all = all

  pub carried_desks : (ms : List Msg) → AllByRecursion IsIts (letters_of parcel_of (letters_of (cell_mail s) ms)) →
      AllByRecursion Carries ms
  carried_desks [] all = tt
  carried_desks (Call c ∷ ms) all =
      ((λ q is. absurd (let z = is in cc)), carried_desks ms (without_call (is_from s c) c (letters_of (cell_mail s) ms) all))
  carried_desks (Hand r bs ∷ ms) all = (
    (λ q is.
        let same : r ≡ q = (let z = is in cc) in
        ap (λ (x : RealView). desk_for s x.orders x.done) (sym same) ∙ all.0),
    carried_desks ms all.1,
  )
  carried_desks (m ∷ ms) all = ((λ q is. absurd (let z = is in cc)), carried_desks ms all)

-- what is so of each message for each sender
for_all : (Q : ℕ → Msg → Type 0) (ms : List Msg) → ((n : ℕ) → AllByRecursion (Q n) ms) → AllByRecursion (λ m. (n : ℕ) → Q n m) ms
for_all Q [] all = tt
for_all Q (m ∷ ms) all = ((λ n. (all n).0), for_all Q ms (λ n. (all n).1))

-- ---- as calls happen

-- the entity e of the world u, to which a list of events led from the loaded world
module _ (h : Header) (s : Standing) (tree : Division) (clients : ℕ → ClientReplica) (w u : World) (some : 1 ≤ h.settings.bases)
    (R : HasFitRound h s.book) (few : HasRoomForCalls s.book) (full : (p : Part) (e : ℕ) →
    IsFull (accepted (as_begun s.book) p e) (s.orders p e))
    (e : ℕ) (r : RealView) (goes : GoesRightly (frame_of h tree) clients w (batch_of h s.book) e r u) where
  abbrev B : Batch
  B = batch_of h s.book

  senders : AllByRecursion IsFromSender (calls_of s.book.current)
  senders =
      all_turn (IsFitCall h s.book) IsFromSender (λ c fit. known_is_sender h c.sender fit.sender) (calls_of s.book.current) R.calls

  -- the first calls, where the desk of each sender is the one that is in turn
  first_by : (p : Part) (done : List CallData) (batch : ℕ → List CallData) →
      ((n : ℕ) → batch n ≡ calls_from p e n (calls_of s.book.current)) →
      ((n : ℕ) → (rest : List CallData) × (batch n ≡ letters_of (from_sender n) done ++ rest)) → AreFirstCalls s p e done
  first_by p done batch is parts =
      executes_first s.book p e senders done (λ n. ((parts n).0, sym (is n) ∙ (parts n).1)) (s.orders p e) (full p e)

  -- ---- of the cell part

  abbrev turn : (n : ℕ) → AreInTurn (next_from n r) (core.calls_of B e n) (as_sender n (entity_flow e u))
  turn n = goes.cell_calls n

  by_desk : (q : RealView) → ((n : ℕ) → desk_for n q.orders q.done ≡ (turn n).desk) → AreFirstCalls s part.Cell e q.done
  by_desk q is =
      first_by part.Cell q.done (core.calls_of B e) (cell_calls h some s.book R few tree e) (λ n. (
        (turn n).in_turn.rest,
        (turn n).in_turn.parts ∙ ap (λ (d : Desk CallData). d.done ++ (turn n).in_turn.rest) (sym (is n)),
      ))

  in_cell : (k : ℕ) (q : RealView) → real_at e u k ≡ Some q → AreFirstCalls s part.Cell e q.done
  in_cell k q at =
      by_desk q (λ n. (sole_here desk_of parcel_of (as_sender n (entity_flow e u)) (turn n).place (turn n).desk (desk_for n q.orders q.done)
      k
      (turn n).in_turn.sole (ap (real_desk n) at)).1)

  abbrev CarriesTurn : ℕ → Msg → Type 0
  CarriesTurn n = Carries n (turn n).desk

  handed : (a k : ℕ) → AllByRecursion (λ m. (q : RealView) → real_of m ≡ Some q → AreFirstCalls s part.Cell e q.done)
      ((entity_flow e u).mail a k)
  handed a k =
      let ms = (entity_flow e u).mail a k in
      all_turn (λ m. (n : ℕ) → CarriesTurn n m) (λ m. (q : RealView) → real_of m ≡ Some q → AreFirstCalls s part.Cell e q.done)
      (λ m all q is. by_desk q (λ n. all n q is)) ms
      (for_all CarriesTurn ms (λ n. carried_desks n (turn n).desk ms
      (only_on_links desk_of parcel_of (as_sender n (entity_flow e u)) (turn n).desk (turn n).place (turn n).in_turn.sole a k)))

  -- ---- of the base part

  module _ (begun : PartView) (here : ((entity_flow e (loaded w B)).slot (base_node h e)).base.part ≡ Some begun) where
    abbrev base_turn : (n : ℕ) → AreInTurn (next_to n begun) (base_calls_of B e n) (as_base_sender n (entity_flow e u))
    base_turn n = (goes.base_calls begun here).turns n

    at_base : (k : ℕ) (p : PartView) → ((entity_flow e u).slot k).base.part ≡ Some p → AreFirstCalls s part.Base e p.done
    at_base k p at =
        first_by part.Base p.done (base_calls_of B e) (base_calls h some s.book R few tree e) (λ n.
        let is = (sole_here desk_of parcel_of (as_base_sender n (entity_flow e u)) (base_turn n).place (base_turn n).desk
        (desk_for n p.orders p.done) k (base_turn n).in_turn.sole (ap (part_desk n) at)).1 in (
          (base_turn n).in_turn.rest,
          (base_turn n).in_turn.parts ∙ ap (λ (d : Desk CallData). d.done ++ (base_turn n).in_turn.rest) (sym is),
        ))

    pub first_calls : HasFirstCalls s e u
    first_calls = record {
      cell = λ k q at. in_cell k q (sym (real_is e u k) ∙ at);
      hand = λ a k. in_letters (λ q. AreFirstCalls s part.Cell e q.done) e (link u.rows a k) (handed a k);
      base = λ k p at. at_base k p (sym (part_is e u k) ∙ at);
    }

-- ---- as the dead are reaped and the witnesses look

-- no real is handed over
pub none_handed : (told : Bool) (home : ℕ) (r : RealView) (k : ℕ) (m : Msg) → IsCalmTo told home r k m → real_of m ≡ None
none_handed told home r k (Hand q bs) calm = absurd calm
none_handed told home r k _ calm = refl

-- and each part is what it was before, but for its witness or its client
pub still_first : (s : Standing) (e : ℕ) (u v : World) → HasFirstCalls s e u →
    ((k : ℕ) (q : RealView) → real_at e v k ≡ Some q → HadSameReal e k q u) → (told : Bool) (home : ℕ) (r : RealView) →
    ((a k : ℕ) → AllByRecursion (IsCalmTo told home r k) ((entity_flow e v).mail a k)) →
    ((k : ℕ) (q : PartView) → ((entity_flow e v).slot k).base.part ≡ Some q →
    (p : PartView) × (((entity_flow e u).slot k).base.part ≡ Some p) × (q.done ≡ p.done)) → HasFirstCalls s e v
still_first s e u v had reals told home r mail parts = record {
  cell = λ k q at.
      let was = reals k q (sym (real_is e v k) ∙ at) in
      subst (AreFirstCalls s part.Cell e) (sym (ap (λ (y : RealView). y.done) was.same))
      (had.cell k was.real (real_is e u k ∙ was.here));
  hand = λ a k.
      in_letters (λ q. AreFirstCalls s part.Cell e q.done) e (link v.rows a k)
      (all_turn (IsCalmTo told home r k) (λ m. (q : RealView) → real_of m ≡ Some q → AreFirstCalls s part.Cell e q.done)
      (λ m calm q is. absurd (let z = sym (none_handed told home r k m calm) ∙ is in cc)) ((entity_flow e v).mail a k) (mail a k));
  base = λ k q at.
      let was = parts k q (sym (part_is e v k) ∙ at) in
      subst (AreFirstCalls s part.Base e) (sym was.2) (had.base k was.0 (part_is e u k ∙ was.1));
}

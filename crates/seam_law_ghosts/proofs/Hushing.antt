-- What comes to the cell where the real is has no newer beat than the book there.
use Rattle.seam_law_ghosts.proofs.Prelude.{◌≡◌, ℕ, ◌<◌, ◌≤◌, List, [], ◌∷◌, length, Option, None, Some, refl, sym, ap, subst, inl, inr}
use Rattle.seam_law_ghosts.proofs.Prelude.{arith, cases_eq, AllByRecursion, happens, items_to, GhostCopy, RealView, Msg, World, node_steps}
use Rattle.seam_law_ghosts.proofs.Prelude.{Goes, comes, OfEntry, AllBring, TokenPlace, In, On, Sole, still, turns, lands, leaves, relays}
use Rattle.seam_law_ghosts.proofs.Prelude.{place_after, Frame, Has, entity_flow, real_in, real_of, IsSpared, IsFrame, real_at, Entry}
use Rattle.seam_law_ghosts.proofs.Prelude.{brings, book_entry, IsOfTable, IsTrue, IsHushed, letters_kept, sole_here, sole_came, goes, room}
use Rattle.seam_law_ghosts.proofs.Prelude.{one_happens, calm_of, spared_happens, EachKeeps, RunsKeep, runs_keep}
use Rattle.seam_law_ghosts.proofs.Steps.{ghost_moves}
use Rattle.seam_law_ghosts.proofs.Making.{NoEntry, Does_it, TellsBy, told_of}
use Rattle.seam_law_ghosts.proofs.Telling.{true_after, place_then}
use Rattle.seam_law_ghosts.proofs.Books.{book_rises}

abbrev AtMost : ℕ → Entry → Type 0
AtMost n p = p.0 ≤ n

module _ (n last : ℕ) (up : n ≤ last) where
  low_in : (o : Option Entry) → OfEntry (AtMost n) o → OfEntry (AtMost last) o
  low_in None is = tt
  low_in (Some p) is = omega (arith, is, up)

  low_all : (ms : List Msg) → AllBring brings (AtMost n) ms → AllBring brings (AtMost last) ms
  low_all [] is = tt
  low_all (m ∷ ms) is = (low_in (brings m) is.0, low_all ms is.1)

none_in : (n : ℕ) (o : Option Entry) → OfEntry NoEntry o → OfEntry (AtMost n) o
none_in n None is = tt
none_in n (Some p) is = absurd is

none_all : (n : ℕ) (ms : List Msg) → AllBring brings NoEntry ms → AllBring brings (AtMost n) ms
none_all n [] is = tt
none_all n (m ∷ ms) is = (none_in n (brings m) is.0, none_all n ms is.1)

told_in : (h : ℕ → GhostCopy) (n : ℕ) (o : Option Entry) → OfEntry (IsOfTable h n) o → OfEntry (AtMost n) o
told_in h n None is = tt
told_in h n (Some p) is = is.low

told_all : (h : ℕ → GhostCopy) (n : ℕ) (ms : List Msg) → AllBring brings (IsOfTable h n) ms → AllBring brings (AtMost n) ms
told_all h n [] is = tt
told_all h n (m ∷ ms) is = (told_in h n (brings m) is.0, told_all h n ms is.1)

-- a fact about the letters of one link alone
module _ (P : Msg → Type 0) (k : ℕ) where
  held : (y : ℕ) (ms : List Msg) → (y ≡ k → AllByRecursion P ms) → AllByRecursion (λ m. y ≡ k → P m) ms
  held y [] h = tt
  held y (m ∷ ms) h = ((λ e. (h e).0), held y ms (λ e. (h e).1))

  freed : (ms : List Msg) → AllByRecursion (λ m. k ≡ k → P m) ms → AllByRecursion P ms
  freed [] h = tt
  freed (m ∷ ms) h = (h.0 refl, freed ms h.1)

module _ (f : Frame) (e ty : ℕ) (start : RealView) (first : ℕ → GhostCopy) (w next : World) (x : IsTrue f e ty start first w)
    {Moves : ℕ → Has → Option Msg → Has → (ℕ → List Msg) → Type 0} (g : Goes Moves (entity_flow e w) (entity_flow e next))
    (sent : List (ℕ × Msg)) (items : (j : ℕ) → g.out j ≡ items_to j sent)
    (rise : (k : ℕ) → (book_entry ((entity_flow e w).slot k)).0 ≤ (book_entry ((entity_flow e next).slot k)).0) where
  -- the letters to a node that is sent nothing
  hush_at : (k n last : ℕ) → n ≤ last → ((a : ℕ) → AllBring brings (AtMost n) ((entity_flow e w).mail a k)) →
      AllBring brings NoEntry (g.out k) → (a : ℕ) → AllBring brings (AtMost last) ((entity_flow e next).mail a k)
  hush_at k n last up old none a =
      let P : Msg → Type 0 = λ m. OfEntry (AtMost last) (brings m) in
      freed P k ((entity_flow e next).mail a k)
      (letters_kept (λ a y m. y ≡ k → OfEntry (AtMost last) (brings m)) g
      (λ a y. held P k y ((entity_flow e w).mail a y) (λ is. subst (λ j. AllBring brings (AtMost last) ((entity_flow e w).mail a j))
      (sym is) (low_all n last up ((entity_flow e w).mail a k) (old a))))
      (λ y. held P k y (g.out y) (λ is. subst (λ j. AllBring brings (AtMost last) (g.out j)) (sym is) (none_all last (g.out k) none)))
      a k)

  abbrev before : RealView
  before = x.one.has.real

  abbrev Did_it : Type 0
  Did_it = Does_it f e g.k ((entity_flow e w).slot g.k) (comes g.input) ((entity_flow e next).slot g.k) sent g.out items

  abbrev ToldBy : Did_it → Type 0
  ToldBy m = TellsBy f e g.k ((entity_flow e w).slot g.k) (comes g.input) ((entity_flow e next).slot g.k) sent g.out items m

  abbrev book : ℕ → ℕ
  book k = (book_entry ((entity_flow e w).slot k)).0

  abbrev book_then : ℕ → ℕ
  book_then k = (book_entry ((entity_flow e next).slot k)).0

  place_is : (p : TokenPlace) (r : RealView) → Sole real_in real_of (entity_flow e w) p before → real_at e w g.k ≡ Some r → p ≡ In g.k
  place_is p r one at = (sole_here real_in real_of (entity_flow e w) p before r g.k one at).0

  hushed_by : (m : Did_it) → ToldBy m → (p : TokenPlace) → Sole real_in real_of (entity_flow e w) p before → IsHushed e w p →
      IsHushed e next (place_after g.k m p)
  hushed_by (still a b c) made (In k) one old = hush_at k (book k) (book_then k) (rise k) old (made.sent k)
  hushed_by (still a b c) made (On i j) one old = tt
  hushed_by (turns r q a b c d o) made (In k) one old =
      let at = place_is (In k) r one a in
      let here : k ≡ g.k = cc in
      hush_at k (book k) (book_then k) (rise k) old (subst (λ n. AllBring brings NoEntry (g.out n)) (sym here) made.1)
  hushed_by (turns r q a b c d o) made (On i j) one old = tt
  hushed_by (lands r q a b c o) made p one old =
      let came = (sole_came real_in real_of g p before r one a).2 in
      let beat = ap (λ y. y.beat) came in
      let high = made.2 in
      hush_at g.k before.beat (book_then g.k) (omega (arith, beat, high))
      (λ a. told_all x.table before.beat ((entity_flow e w).mail a g.k) (x.told.letters a g.k)) (made.1.sent g.k)
  hushed_by (leaves r q to a b c d o) made p one old = tt
  hushed_by (relays r q to a b c o) made p one old = absurd made

module _ (f : Frame) (frame : IsFrame f) (e ty : ℕ) (known : ty < length f.defs) (start : RealView) (first : ℕ → GhostCopy) where
  pub record IsQuelled (w : World) : Type 0 where
    pub is : IsTrue f e ty start first w
    pub spared : IsSpared e w
    pub hushed : IsHushed e w is.one.has.place

  pub quelled_happens : EachKeeps IsQuelled
  quelled_happens w v o x =
      let has = x.is.one.has in
      let calm = calm_of f e w v o has.fits.frame x.spared in
      let g = goes f frame e ty known w v o has calm in
      let moves = g.moves.0 in
      let step = ghost_moves f e ty g.k _ (comes g.input) _ moves.sent (room f frame e ty known w v o has calm) (has.fits.reals g.k)
      moves.moves in
      let told = told_of f e g.k _ (comes g.input) _ moves.sent g.out moves.items (λ r at. g.moves.1.1) step in
      let rise : (k : ℕ) → (book_entry ((entity_flow e w).slot k)).0
      ≤ (book_entry ((entity_flow e (happens node_steps w v)).slot k)).0 =
      λ k. elim (cases_eq k g.k) [
        | inl same ↦ subst (λ n. (book_entry ((entity_flow e w).slot n)).0
            ≤ (book_entry ((entity_flow e (happens node_steps w v)).slot n)).0) (sym same)
            (book_rises f e g.k _ (comes g.input) _ moves.sent step)
        | inr apart ↦ let here = ap (λ s. (book_entry s).0) (g.others k apart) in omega (arith, here)
      ] in
      record {
        is = true_after f e ty start first w (happens node_steps w v) x.is g moves.sent moves.items told
            (one_happens f frame e ty known w v o has calm).has.fits;
        spared = spared_happens f e w v o has.fits.frame x.spared;
        hushed = subst (IsHushed e (happens node_steps w v))
            (sym (place_then f e ty start first w (happens node_steps w v) x.is g moves.sent moves.items told
            (one_happens f frame e ty known w v o has calm).has.fits))
            (hushed_by f e ty start first w (happens node_steps w v) x.is g moves.sent moves.items rise told.0 told.1 has.place
            has.one x.hushed);
      }

  pub quelled_leads : RunsKeep IsQuelled
  quelled_leads = runs_keep IsQuelled quelled_happens

  -- so it is where the real is found
  pub hushed_where : (v : World) (x : IsQuelled v) (k : ℕ) (r : RealView) → real_at e v k ≡ Some r → IsHushed e v (In k)
  hushed_where v x k r at =
      subst (IsHushed e v) (sole_here real_in real_of (entity_flow e v) x.is.one.has.place x.is.one.has.real r k x.is.one.has.one at).0
      x.hushed

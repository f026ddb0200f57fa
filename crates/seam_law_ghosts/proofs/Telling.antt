-- Over every list of events the copies that were told are true.
use Rattle.seam_law_ghosts.proofs.Prelude.{◌≡◌, ℕ, ◌+◌, ◌<◌, ◌≤◌, ◌⊎◌, true, false, ltb, cond, List, [], ◌∷◌, ◌++◌, length, Option, None}
use Rattle.seam_law_ghosts.proofs.Prelude.{Some, refl, sym, ap, ◌∙◌, subst, inl, inr, arith, cases_eq, nat_tests, happens, Occurs, Event}
use Rattle.seam_law_ghosts.proofs.Prelude.{items_to, Call, GhostCopy, RealView, Msg, Reap, World, node_steps, Goes, comes, letter_in}
use Rattle.seam_law_ghosts.proofs.Prelude.{OfEntry, AllBring, entry_in, Turned, still, turns, lands, leaves, relays, place_after}
use Rattle.seam_law_ghosts.proofs.Prelude.{token_after, Frame, Has, mine, entity_flow, real_in, real_of, IsSpared, AllFits, IsFrame, HasOne}
use Rattle.seam_law_ghosts.proofs.Prelude.{OneFrom, account_of, RunsTo, Entry, brings, book_entry, IsTrueCopy, IsOfTable, IsTable, IsTrue}
use Rattle.seam_law_ghosts.proofs.Prelude.{slots_kept, letters_kept, came, sole_here, sole_came, sole_goes, token_turns, goes, room}
use Rattle.seam_law_ghosts.proofs.Prelude.{one_happens, calm_of, spared_happens, EachKeeps, runs_keep}
use Rattle.seam_law_ghosts.proofs.Steps.{ghost_moves}
use Rattle.seam_law_ghosts.proofs.Making.{Did, same, did_calls, NoEntry, IsFresh, Makes, Tells, silent, fresh, Does_it, TellsBy, Handled}
use Rattle.seam_law_ghosts.proofs.Making.{told_of}
use Rattle.seam_law_ghosts.proofs.Present.{shown_of, true_more, replays_then, present_after, present_first}

-- ---- a table with one beat more

more_table : (ℕ → GhostCopy) → ℕ → GhostCopy → ℕ → GhostCopy
more_table h n c b = cond (ltb n b) c (h b)

at_old : (h : ℕ → GhostCopy) (n : ℕ) (c : GhostCopy) (b : ℕ) → b ≤ n → more_table h n c b ≡ h b
unfolding more_table
at_old h n c b le = let t : ltb n b ≡ false = grind (arith, nat_tests) in ap (λ t. cond t c (h b)) t

at_new : (h : ℕ → GhostCopy) (n : ℕ) (c : GhostCopy) (b : ℕ) → n < b → more_table h n c b ≡ c
unfolding more_table
at_new h n c b lt = let t : ltb n b ≡ true = grind (arith, nat_tests) in ap (λ t. cond t c (h b)) t

old_or_new : (b n : ℕ) → b ≤ n + 1 → (b ≤ n) ⊎ (b ≡ n + 1)
old_or_new b n le = elim (cases_eq b (n + 1)) [ inl e ↦ inr e | inr ne ↦ inl (omega (arith, le, ne)) ]

rises_by : (h : ℕ → GhostCopy) (n : ℕ) (c : GhostCopy) → ((a b : ℕ) → a ≤ b → b ≤ n → (h a).version ≤ (h b).version) →
    (h n).version ≤ c.version → (a b : ℕ) → a ≤ b → (a ≤ n) ⊎ (a ≡ n + 1) → (b ≤ n) ⊎ (b ≡ n + 1) →
    (more_table h n c a).version ≤ (more_table h n c b).version
rises_by h n c old top a b le p (inl y) =
    let x : a ≤ n = omega (arith, le, y) in
    rw (at_old h n c a x, at_old h n c b y) (old a b le y)
rises_by h n c old top a b le (inl x) (inr y) =
    let up = old a n x (omega arith) in
    rw (at_old h n c a x, at_new h n c b (omega (arith, y))) (omega (arith, up, top))
rises_by h n c old top a b le (inr x) (inr y) =
    rw (at_new h n c a (omega (arith, x)), at_new h n c b (omega (arith, y))) (omega arith)

-- ---- entries after a move

module _ (h next : ℕ → GhostCopy) (n last : ℕ) (le : n ≤ last) (kept : (b : ℕ) → b ≤ n → next b ≡ h b) where
  raised : (p : Entry) → IsOfTable h n p → IsOfTable next last p
  raised p is =
      let low = is.low in
      record { low = omega (arith, low, le); copy = λ c at. is.copy c at ∙ sym (kept p.0 low) }

  raised_in : (o : Option Entry) → OfEntry (IsOfTable h n) o → OfEntry (IsOfTable next last) o
  raised_in None is = tt
  raised_in (Some p) is = raised p is

  raised_all : (ms : List Msg) → AllBring brings (IsOfTable h n) ms → AllBring brings (IsOfTable next last) ms
  raised_all [] is = tt
  raised_all (m ∷ ms) is = (raised_in (brings m) is.0, raised_all ms is.1)

  -- where what is written and sent is of the new table, all is
  module _ {Moves : ℕ → Has → Option Msg → Has → (ℕ → List Msg) → Type 0} (e : ℕ) (w v : World)
      (g : Goes Moves (entity_flow e w) (entity_flow e v))
      (books : (k : ℕ) → IsOfTable h n (book_entry ((entity_flow e w).slot k)))
      (letters : (a k : ℕ) → AllBring brings (IsOfTable h n) ((entity_flow e w).mail a k))
      (P : Entry → Type 0) (new : (p : Entry) → P p → IsOfTable next last p)
      (makes : Makes P ((entity_flow e w).slot g.k) (comes g.input) ((entity_flow e v).slot g.k) g.out) where
    came_entry : (o : Option Msg) (p : Entry) → comes g.input ≡ o → entry_in brings o ≡ Some p → IsOfTable h n p
    came_entry None p is at = cc
    came_entry (Some m) p is at =
        subst (OfEntry (IsOfTable h n)) at (came (λ a k l. OfEntry (IsOfTable h n) (brings l)) g m is letters).1

    book_here : IsOfTable next last (book_entry ((entity_flow e v).slot g.k))
    book_here = elim makes.book [
      | inl kept ↦ subst (IsOfTable next last) (sym kept) (raised _ (books g.k))
      | inr other ↦ elim other [
        | inl heard ↦ raised _ (came_entry (comes g.input) _ refl heard)
        | inr made ↦ new _ made
      ]
    ]

    new_in : (o : Option Entry) → OfEntry P o → OfEntry (IsOfTable next last) o
    new_in None is = tt
    new_in (Some p) is = new p is

    new_all : (ms : List Msg) → AllBring brings P ms → AllBring brings (IsOfTable next last) ms
    new_all [] is = tt
    new_all (m ∷ ms) is = (new_in (brings m) is.0, new_all ms is.1)

    books_after : (k : ℕ) → IsOfTable next last (book_entry ((entity_flow e v).slot k))
    books_after = slots_kept (λ k s. IsOfTable next last (book_entry s)) g (λ k. raised _ (books k)) book_here

    letters_after : (a k : ℕ) → AllBring brings (IsOfTable next last) ((entity_flow e v).mail a k)
    letters_after =
        letters_kept (λ a k l. OfEntry (IsOfTable next last) (brings l)) g (λ a k. raised_all _ (letters a k))
        (λ k. new_all (g.out k) (makes.sent k))

-- ---- a move

module _ (f : Frame) (e ty : ℕ) (start : RealView) (first : ℕ → GhostCopy) (w next : World) (x : IsTrue f e ty start first w)
    {Moves : ℕ → Has → Option Msg → Has → (ℕ → List Msg) → Type 0} (g : Goes Moves (entity_flow e w) (entity_flow e next))
    (sent : List (ℕ × Msg)) (items : (j : ℕ) → g.out j ≡ items_to j sent)
    (h : Handled f e g.k ((entity_flow e w).slot g.k) (comes g.input) ((entity_flow e next).slot g.k) sent g.out items)
    (fits : AllFits f e ty next) where
  abbrev before : RealView
  before = x.one.has.real

  abbrev after : RealView
  after = token_after h.0 before

  abbrev TellsTo : RealView → RealView → Type 0
  TellsTo r q = Tells f r q ((entity_flow e w).slot g.k) (comes g.input) ((entity_flow e next).slot g.k) g.out

  did_by : Turned (Did f) before after → Did f before after
  did_by (inl is) = same (ap (λ r. r.entity) is) (ap (λ r. r.ty) is) (ap account_of is)
  did_by (inr d) = d

  did : Did f before after
  did = did_by (token_turns real_in real_of (Did f) g x.one.has.place before x.one.has.one h.0)

  tells_by : (m : Does_it f e g.k ((entity_flow e w).slot g.k) (comes g.input) ((entity_flow e next).slot g.k) sent g.out items) →
      TellsBy f e g.k ((entity_flow e w).slot g.k) (comes g.input) ((entity_flow e next).slot g.k) sent g.out items m →
      TellsTo before (token_after m before)
  tells_by (still a b c) made = silent refl made
  tells_by (turns r q a b c d o) made =
      subst (λ y. TellsTo y q) (sole_here real_in real_of (entity_flow e w) x.one.has.place before r g.k x.one.has.one a).1 made.0
  tells_by (lands r q a b c o) made =
      let one = (sole_came real_in real_of g x.one.has.place before r x.one.has.one a).2 in
      silent (ap (λ y. y.beat) (made.0 ∙ one)) made.1
  tells_by (leaves r q to a b c d o) made =
      subst (λ y. TellsTo y q) (sole_here real_in real_of (entity_flow e w) x.one.has.place before r g.k x.one.has.one a).1 made
  tells_by (relays r q to a b c o) made = absurd made

  abbrev next_one : OneFrom f e ty start next
  next_one = record {
    has = record {
      fits = fits;
      place = place_after g.k h.0 x.one.has.place;
      real = after;
      one = sole_goes real_in real_of (Did f) g x.one.has.place before x.one.has.one h.0;
    };
    replays = replays_then f start before after x.one.replays did;
  }

  abbrev further : List Call
  further = x.one.replays.further ++ did_calls did

  shown : IsTrueCopy f start further (shown_of f start after) × (before.public ≤ after.public)
  shown = present_after f start before after x.one.replays did x.present

  still_true : (b : ℕ) → start.beat < b → b ≤ before.beat → IsTrueCopy f start further (x.table b)
  still_true b lo hi = true_more f start x.one.replays.further (did_calls did) (x.table b) (x.true_copies b lo hi)

  true_by : TellsTo before after → IsTrue f e ty start first next
  true_by (silent beat made) =
      let up = shown.1 in
      let top = x.told.top in
      let low = x.beats in
      let top_is = ap (λ n. (x.table n).version) beat in
      let all : (b : ℕ) → b ≤ before.beat → x.table b ≡ x.table b = λ b le. refl in
      record {
        one = next_one;
        table = x.table;
        told = record {
          books = books_after x.table x.table before.beat after.beat (omega (arith, beat)) all e w next g x.told.books x.told.letters
              NoEntry (λ p none. absurd none) made;
          letters = letters_after x.table x.table before.beat after.beat (omega (arith, beat)) all e w next g x.told.books x.told.letters
              NoEntry (λ p none. absurd none) made;
          rises = λ a b le hi. x.told.rises a b le (omega (arith, beat, hi));
          top = omega (arith, top_is, up, top);
        };
        beats = omega (arith, low, beat);
        kept = x.kept;
        true_copies = λ b lo hi. still_true b lo (omega (arith, hi, beat));
        present = shown.0;
      }
  true_by (fresh beat made) =
      let up = shown.1 in
      let top = x.told.top in
      let low = x.beats in
      let n = before.beat in
      let c = shown_of f start after in
      let table = more_table x.table n c in
      let kept : (b : ℕ) → b ≤ n → table b ≡ x.table b = λ b le. at_old x.table n c b le in
      let new : (p : Entry) → IsFresh f after p → IsOfTable table after.beat p = λ p is.
      let at = is.at in
      record { low = omega (arith, at); copy = λ d has. is.copy d has ∙ sym (at_new x.table n c p.0 (omega (arith, at, beat))) } in
      record {
        one = next_one;
        table = table;
        told = record {
          books = books_after x.table table n after.beat (omega (arith, beat)) kept e w next g x.told.books x.told.letters
              (IsFresh f after) new made;
          letters = letters_after x.table table n after.beat (omega (arith, beat)) kept e w next g x.told.books x.told.letters
              (IsFresh f after) new made;
          rises = λ a b le hi.
              rises_by x.table n c x.told.rises (omega (arith, up, top)) a b le (old_or_new a n (omega (arith, le, hi, beat)))
              (old_or_new b n (omega (arith, hi, beat)));
          top = rw (at_new x.table n c after.beat (omega (arith, beat))) (omega arith);
        };
        beats = omega (arith, low, beat);
        kept = λ b le. kept b (omega (arith, le, low)) ∙ x.kept b le;
        true_copies = λ b lo hi. elim (old_or_new b n (omega (arith, hi, beat))) [
          | inl old ↦ subst (IsTrueCopy f start further) (sym (kept b old)) (still_true b lo old)
          | inr is ↦ subst (IsTrueCopy f start further) (sym (at_new x.table n c b (omega (arith, is)))) shown.0
        ];
        present = shown.0;
      }

  pub true_after : IsTrue f e ty start first next
  true_after = true_by (tells_by h.0 h.1)

  place_by : (told : TellsTo before after) → (true_by told).one.has.place ≡ place_after g.k h.0 x.one.has.place
  unfolding true_by
  place_by (silent beat made) = refl
  place_by (fresh beat made) = refl

  -- and the real is where the move put it
  pub place_then : true_after.one.has.place ≡ place_after g.k h.0 x.one.has.place
  unfolding true_after
  place_then = place_by (tells_by h.0 h.1)

-- ---- an event, and every list of events

module _ (f : Frame) (frame : IsFrame f) (e ty : ℕ) (known : ty < length f.defs) (start : RealView) (first : ℕ → GhostCopy) where
  pub true_happens : (w : World) (v : Event) (o : Occurs w v) → IsTrue f e ty start first w →
      (letter_in (mine e) o.input ≡ Some (Reap e) → ⊥) → IsTrue f e ty start first (happens node_steps w v)
  true_happens w v o x calm =
      let has = x.one.has in
      let g = goes f frame e ty known w v o has calm in
      let moves = g.moves.0 in
      let told = told_of f e g.k _ (comes g.input) _ moves.sent g.out moves.items (λ r at. g.moves.1.1)
      (ghost_moves f e ty g.k _ (comes g.input) _ moves.sent (room f frame e ty known w v o has calm) (has.fits.reals g.k)
      moves.moves) in
      true_after f e ty start first w (happens node_steps w v) x g moves.sent moves.items told
      (one_happens f frame e ty known w v o has calm).has.fits

  record IsTrueSpared (w : World) : Type 0 where
    is : IsTrue f e ty start first w
    spared : IsSpared e w

  true_spared : EachKeeps IsTrueSpared
  true_spared w v o x = record {
    is = true_happens w v o x.is (calm_of f e w v o x.is.one.has.fits.frame x.spared);
    spared = spared_happens f e w v o x.is.one.has.fits.frame x.spared;
  }

  pub true_leads : (w v : World) (es : List Event) → IsTrue f e ty start first w → IsSpared e w →
      RunsTo w es v → IsTrue f e ty start first v
  true_leads w v es x spared run = (runs_keep IsTrueSpared true_spared w v es (record { is = x; spared = spared }) run).is

pub true_first : (f : Frame) (e ty : ℕ) (w : World) (h : HasOne f e ty w) (first : ℕ → GhostCopy) → h.real.public ≤ h.real.version →
    IsTable e w h.real first → IsTrue f e ty h.real first w
true_first f e ty w h first low told = record {
  one = record { has = h; replays = record { further = []; entity = refl; type = refl; account = refl } };
  table = first;
  told = told;
  beats = omega arith;
  kept = λ b le. refl;
  true_copies = λ b lo hi. absurd (omega (arith, lo, hi));
  present = present_first f h.real low;
}

pub first_place : (f : Frame) (e ty : ℕ) (w : World) (h : HasOne f e ty w) (first : ℕ → GhostCopy)
    (low : h.real.public ≤ h.real.version) (told : IsTable e w h.real first) →
    (true_first f e ty w h first low told).one.has.place ≡ h.place
unfolding true_first
first_place f e ty w h first low told = refl

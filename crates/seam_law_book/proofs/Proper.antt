-- What is known of an entry that a line adds: the facts of its command, and that no cause holds against it.
use Rattle.seam_law_book.proofs.Prelude.{◌≡◌, ℕ, ◌+◌, ◌<◌, ◌≤◌, Bool, true, false, List, length, Option, Some, None, refl, sym, ap, ◌∙◌}
use Rattle.seam_law_book.proofs.Prelude.{subst, arith, inl, inr, ◌-◌, IsSome, IsTrue, cases_lt, IsWhole, Area, Division, cells_of, area}
use Rattle.seam_law_book.proofs.Prelude.{IsTree, MOST_CELLS, FitsDeed, part_of_deed, type_of, TypeDef, Deed, Sender, Call, Create, Line}
use Rattle.seam_law_book.proofs.Prelude.{Content, Long, Header, Book, created_as, live_as, accepted, has_client, tree_of, Adds}
use Rattle.seam_law_book.proofs.Prelude.{HoldsAgainst, Holds, Spells, Entry, Cause, IsAccepted, IsInside, StaysInside, IsSenderOf}
use Rattle.seam_value.specs.NumberWords.{SpellsPositive}
use Rattle.seam_tree.specs.Boundary.{RunsThrough, place_along}
use Rattle.seam_tree.specs.Division.{HasBoundary, NoneEmpty}
use Rattle.seam_tree.specs.Change.{with_cut, with_place}
use Rattle.seam_tree.specs.declared.boundary.Boundary.{Boundary}
use Rattle.seam_tree.specs.declared.tree.CutError.{CutError}
use Rattle.seam_tree.specs.declared.tree.ShiftError.{ShiftError}
use Rattle.seam_tree.specs.declared.tree.CutError.TheVariants.{NoCell, OutsideCell, TooManyCells}
use Rattle.seam_tree.specs.declared.tree.ShiftError.TheVariants.{NoBoundary, WouldEmpty}
use Rattle.seam_tree.proofs.Changes.{with_cut_tree, with_place_tree, cells_with_cut}
use Rattle.seam_tree.proofs.Padded.{length_cuts_moved}
use Rattle.seam_call.specs.declared.sender.Sender.TheVariants as sender
use Rattle.seam_rule_lines.specs.Language as language
use Rattle.seam_rule_lines.specs.Judging.{SenderExists, NamesCreate, NamesCall, NamesDeed, NamesMove, RefusesCut, RefusesShift}
use Rattle.seam_rule_lines.specs.declared.verdict.Entry.TheVariants as entry
use Rattle.seam_rule_lines.specs.declared.verdict.Cause.TheVariants as cause

-- ---- what is known

pub record IsProperCreate (h : Header) (b : Book) (c : Create) : Type 0 where
  pub new : created_as b c.entity ≡ None
  pub number : IsWhole c.entity
  pub type : c.ty < length h.defs
  pub inside : IsInside h c.pos

pub record IsProperCall (h : Header) (b : Book) (c : Call) : Type 0 where
  pub sender : IsSenderOf h c.sender
  pub made : Create
  pub lives : live_as b c.entity ≡ Some made
  pub deed : FitsDeed (type_of h.defs made.ty) c.deed
  pub part : c.part ≡ part_of_deed (type_of h.defs made.ty) c.deed
  pub inside : StaysInside h c.deed
  pub next : c.number ≡ length (accepted b c.part c.entity c.sender) + 1

pub record IsProperClient (b : Book) (e : ℕ) : Type 0 where
  pub made : Create
  pub lives : live_as b e ≡ Some made
  pub clientless : has_client b e ≡ false

-- the tree after a cut or a shift, where it was one
pub record IsProperTree (t u : Division) : Type 0 where
  pub tree : IsTree u
  pub space : u.size ≡ t.size
  pub cells : cells_of t ≤ cells_of u

abbrev pub IsProper : Header → Book → Entry → Type 0
IsProper h b (entry.Created c) = IsProperCreate h b c
IsProper h b (entry.Called c) = IsProperCall h b c
IsProper h b (entry.Joined e) = IsProperClient b e
IsProper h b entry.Ticked = Unit {0}
IsProper h b (entry.Divided u) = IsTree (tree_of b) → IsProperTree (tree_of b) u
IsProper h b entry.Balanced = Unit {0}
IsProper h b (entry.Destroyed e) = (made : Create) × (live_as b e ≡ Some made)

-- ---- commands

none_of : {X : Type 0} (o : Option X) → ¬ (IsSome o) → o ≡ None
none_of None not = refl
none_of (Some x) not = absurd (not refl)

some_of : {X : Type 0} (o : Option X) → ¬ (o ≡ None) → (x : X) × (o ≡ Some x)
some_of None not = absurd (not refl)
some_of (Some x) not = (x, refl)

false_of : (x : Bool) → ¬ (IsTrue x) → x ≡ false
false_of true not = absurd (not refl)
false_of false not = refl

below_of : (m n : ℕ) → ¬ (n ≤ m) → m < n
below_of m n not = elim (cases_lt m n) [ inl lt ↦ lt | inr ge ↦ absurd (not ge) ]

known_sender : (h : Header) (b : Book) (s : Sender) → SenderExists h b s → IsSenderOf h s
known_sender h b (sender.Base n) there = there
known_sender h b (sender.Client e) there = tt

abbrev AsksInside : Header → (TypeDef → Deed → Type 0) → Type 0
AsksInside h Asks = (t : TypeDef) (d : Deed) → Asks t d → FitsDeed t d × StaysInside h d

method_inside : (h : Header) (arguments : List language.Word) (name : language.Word) → AsksInside h (NamesDeed arguments name)
method_inside h arguments name t d (m, args, named, spelled, is) =
    subst (λ x. FitsDeed t x × StaysInside h x) (sym is) ((named.has, spelled.takes), tt)

move_inside : (h : Header) (x z : language.Word) → AsksInside h (λ t. NamesMove h x z)
move_inside h x z t d (p, spelled, is) =
    subst (λ y. FitsDeed t y × StaysInside h y) (sym is) (tt, record { x = spelled.in_x; z = spelled.in_z })

proper_call : (h : Header) (b : Book) (s e : language.Word) (Asks : TypeDef → Deed → Type 0) (c : Call) → AsksInside h Asks →
    NamesCall h b s e Asks c → IsProperCall h b c
proper_call h b s e Asks c inside names =
    let asked = inside (type_of h.defs names.made.ty) c.deed names.deed_ in
    record {
      sender = known_sender h b c.sender names.sender.there;
      made = names.made;
      lives = ap (live_as b) names.entity_ ∙ names.live.lives;
      deed = asked.0;
      part = names.part_;
      inside = asked.1;
      next = names.next;
    }

module _ (h : Header) (b : Book) where
  proper_create : (e n x z : language.Word) (c : Create) → ¬ (HoldsAgainst h b (language.Create e n x z) cause.Exists) →
      NamesCreate h e n x z c → IsProperCreate h b c
  proper_create e n x z c none names = record {
    new = none_of (created_as b c.entity) (λ some. none (c.entity, names.number, some));
    number = names.number.number.whole;
    type = names.type_.has;
    inside = record { x = names.position.in_x; z = names.position.in_z };
  }

  lives_by : (w : language.Word) (e : ℕ) → SpellsPositive w e → ¬ ((d : ℕ) × SpellsPositive w d × (live_as b d ≡ None)) →
      (made : Create) × (live_as b e ≡ Some made)
  lives_by w e spells not_dead = some_of (live_as b e) (λ dead. not_dead (e, spells, dead))

-- ---- trees

module _ (t : Division) (tree : IsTree t) where
  cut_proper : (cell : ℕ) (by : Boundary) → ((error : CutError) → ¬ (RefusesCut t cell by error)) → IsProperTree t (with_cut t cell by)
  cut_proper cell by none =
      let there = below_of cell (cells_of t) (none NoCell) in
      let a : Area = area t cell in
      let runs : RunsThrough by a = record {
        from_low = below_of (place_along by.axis a.low) by.at (λ le. none OutsideCell (there, inl le));
        to_high = below_of by.at (place_along by.axis a.high) (λ le. none OutsideCell (there, inr le));
      } in
      let room = below_of (cells_of t) MOST_CELLS (λ le. none TooManyCells (there, runs, le)) in
      record {
        tree = with_cut_tree t cell by tree there runs (omega (arith, room));
        space = refl;
        cells = let more = cells_with_cut t cell by in omega (arith, more);
      }

  shift_proper : (k at : ℕ) → ((error : ShiftError) → ¬ (RefusesShift t k at error)) → IsProperTree t (with_place t k at)
  shift_proper k at none =
      let from : 0 < k = below_of 0 k (λ le. none NoBoundary (inl (omega (arith, le)))) in
      let to = below_of k (cells_of t) (λ le. none NoBoundary (inr le)) in
      let has : HasBoundary t k = record { from_one = omega (arith, from); to_last = to } in
      let u = with_place t k at in
      let proper : NoneEmpty u = λ c lt. record {
        wide = below_of (area u c).low.x (area u c).high.x (λ le. none WouldEmpty (has, (c, lt, inl le)));
        deep = below_of (area u c).low.z (area u c).high.z (λ le. none WouldEmpty (has, (c, lt, inr le)));
      } in
      record {
        tree = with_place_tree t k at tree proper;
        space = refl;
        cells = let same = length_cuts_moved t.cuts (k - 1) at in omega (arith, same);
      }

-- ---- each command

module _ (h : Header) (b : Book) where
  -- the causes that tell something of the book do not hold
  record NoneHolds (c : language.Command) : Type 0 where
    exists : ¬ (HoldsAgainst h b c cause.Exists)
    dead : ¬ (HoldsAgainst h b c cause.Dead)
    cut : (error : CutError) → ¬ (HoldsAgainst h b c (cause.CutRefused error))
    shift : (error : ShiftError) → ¬ (HoldsAgainst h b c (cause.ShiftRefused error))

  proper_of : (c : language.Command) (x : Entry) → Adds h b c x → NoneHolds c → IsProper h b x
  proper_of (language.Create e n px pz) x (c, names, is) none =
      subst (IsProper h b) (sym is) (proper_create h b e n px pz c none.exists names)
  proper_of (language.Call s e n a) x (c, names, is) none =
      subst (IsProper h b) (sym is) (proper_call h b s e (NamesDeed a n) c (method_inside h a n) names)
  proper_of (language.Move s e px pz) x (c, names, is) none =
      subst (IsProper h b) (sym is) (proper_call h b s e (λ t. NamesMove h px pz) c (move_inside h px pz) names)
  proper_of language.Sync x adds none = absurd adds
  proper_of (language.Client w) x (e, spells, is) none =
      let lives = lives_by h b w e spells none.dead in
      let proper : IsProperClient b e = record {
        made = lives.0;
        lives = lives.1;
        clientless = false_of (has_client b e) (λ has. none.exists (e, spells, has));
      } in
      subst (IsProper h b) (sym is) proper
  proper_of language.Tick x is none = subst (IsProper h b) (sym is) tt
  proper_of (language.Cut w a at) x (cell, by, number, bound, is) none =
      subst (IsProper h b) (sym is)
      (λ tree. cut_proper (tree_of b) tree cell by (λ error refuses. none.cut error (cell, by, number, bound, refuses)))
  proper_of (language.Shift w at) x (k, place, number, placed, is) none =
      subst (IsProper h b) (sym is) (λ tree. shift_proper (tree_of b) tree k place
      (λ error refuses. none.shift error (k, place, number, placed, refuses)))
  proper_of language.Balance x is none = subst (IsProper h b) (sym is) tt
  proper_of (language.Destroy w) x (e, spells, is) none = subst (IsProper h b) (sym is) (lives_by h b w e spells none.dead)

  -- ---- a line

  line_proper : (line : Line) (c : language.Command) (x : Entry) → Spells line c → Adds h b c x →
      ((k : Cause) → ¬ (Holds h b line k)) → IsProper h b x
  line_proper Long c x spells adds none = absurd spells
  line_proper (Content content) c x spells adds none =
      let words = language.words_of c in
      proper_of c x adds (record {
        exists = λ held. none cause.Exists (content, words, refl, spells, (c, refl, held));
        dead = λ held. none cause.Dead (content, words, refl, spells, (c, refl, held));
        cut = λ error held. none (cause.CutRefused error) (content, words, refl, spells, (c, refl, held));
        shift = λ error held. none (cause.ShiftRefused error) (content, words, refl, spells, (c, refl, held));
      })

  pub accepted_is_proper : (x : Entry) → IsAccepted h b x → IsProper h b x
  accepted_is_proper x (line, (some, none, c, spells, adds)) = line_proper line c x spells adds none

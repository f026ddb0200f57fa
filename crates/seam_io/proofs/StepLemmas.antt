-- What a reader of lines does between its reads.
use Rattle.std.proofs.Common.{◌≡◌, ◌≢◌, ℕ, ◌+◌, ◌-◌, ◌<◌, ◌≤◌, Bool, true, false, not, List, [], ◌∷◌, ◌++◌, length, take, drop}
use Rattle.std.proofs.Common.{refl, sym, ap, ◌∙◌, subst, arith, append-nil}
use Rattle.std.specs.List.{after_first}
use Rattle.std.proofs.lemmas.Bool.{false≢true}
use Rattle.std.proofs.lemmas.List.{length-drop, take_all, drop_all}
use Rattle.seam_io.specs.Lines.{Line, Long, line_of, lines_of, whole_lines_of, text_left, lines_left, whole_left, HasNoFeed, is_feed}
use Rattle.seam_io.specs.Reading.{Reader, budget, held_on, lines_given, IsLine, IsOpen}
use Rattle.seam_io.specs.Steps.{IsFeedAt, Skips, IsAt, Answers, Waits}
use Rattle.seam_io.specs.declared.lines.Next.{Next}
use Rattle.seam_io.specs.declared.lines.Next.TheVariants as next
use Rattle.seam_io.proofs.LineLemmas.{no_feed_none, lines_of-none, lines_of-last, after_first-append, after_first-none, after_first-held}
use Rattle.seam_io.proofs.LineLemmas.{lines_of-held, whole_lines_of-held, lines_of-refused, whole_lines_of-refused}
use Rattle.seam_io.specs.declared.lines.TheConstants.{LONGEST_LINE}

abbrev pub reader_of : List ℕ → Bool → Bool → ℕ → ℕ → List ℕ → Reader
reader_of held passing ended taken limit line =
    record { held = held; passing = passing; ended = ended; taken = taken; limit = limit; line = line }

-- readers that differ in what they hold alone
pub same_but_held : (a b : List ℕ) (passing ended : Bool) (taken limit : ℕ) (line : List ℕ) → a ≡ b
    → reader_of a passing ended taken limit line ≡ reader_of b passing ended taken limit line
same_but_held a b passing ended taken limit line same = ap (λ (held : List ℕ). reader_of held passing ended taken limit line) same

-- ---- the rest of a line that was refused

-- a reader let go what it holds of it, by the texts that are left
skipped : (old : Reader) (held line : List ℕ) (p : Bool) → length held ≤ length old.held → held ≡ held_on old →
    (p ≡ true → (held ≡ []) × (old.ended ≡ false) × (old.passing ≡ true)) → line ≡ []
    → ((more : List ℕ) → (old.ended ≡ true → more ≡ []) → text_left old.passing (old.held ++ more) ≡ text_left p (held ++ more))
    → Skips old (record old { held = held; passing = p; line = line })
skipped old held line p small on rest empty texts = record {
  moves = record {
    ended = refl;
    taken = refl;
    limit = refl;
    spent = omega arith;
    lines = λ more allowed. ap lines_of (texts more allowed);
    whole = λ going more. ap whole_lines_of (texts more (λ e. absurd (false≢true (sym going ∙ e))));
  };
  texts = texts;
  held = on;
  rest = rest;
  line = empty;
}

pub nothing_skipped : (old : Reader) (line : List ℕ) → old.passing ≡ false → line ≡ [] → Skips old (record old { line = line })
nothing_skipped old line plain empty =
    skipped old old.held line old.passing (omega arith) (sym (ap (λ p. text_left p old.held) plain))
    (λ e. absurd (false≢true (sym plain ∙ e))) empty (λ more allowed. refl)

pub feed_skipped : (old : Reader) (held line : List ℕ) (len : ℕ) → old.passing ≡ true → IsFeedAt old.held len →
    held ≡ drop (len + 1) old.held → line ≡ []
    → Skips old (record old { held = held; passing = false; line = line })
feed_skipped old held line len passing feed same empty =
    skipped old held line false (omega (arith, ap length same, length-drop (len + 1) old.held)) on (λ e. cc) empty texts
  where
    after : (more : List ℕ) → after_first is_feed (old.held ++ more) ≡ held ++ more
    after more = after_first-held old.held more len feed ∙ ap (λ bs. bs ++ more) (sym same)

    on : held ≡ held_on old
    on = sym (ap (λ p. text_left p old.held) passing ∙ ap (after_first is_feed) (sym (append-nil old.held)) ∙ after [] ∙ append-nil held)

    texts : (more : List ℕ) → (old.ended ≡ true → more ≡ []) → text_left old.passing (old.held ++ more) ≡ text_left false (held ++ more)
    texts more allowed = ap (λ p. text_left p (old.held ++ more)) passing ∙ after more

pub all_skipped : (old : Reader) (held line : List ℕ) (p : Bool) → old.passing ≡ true → HasNoFeed old.held → held ≡ [] →
    p ≡ not old.ended → line ≡ []
    → Skips old (record old { held = held; passing = p; line = line })
all_skipped old held line p passing whole none still empty =
    skipped old held line p (omega (arith, ap length none)) on (λ e. (none, going e, passing)) empty (by_end old.ended refl)
  where
    not_false : (b : Bool) → true ≡ not b → b ≡ false
    not_false true h = absurd (false≢true (sym h))
    not_false false h = refl

    going : p ≡ true → old.ended ≡ false
    going e = not_false old.ended (sym e ∙ still)

    on : held ≡ held_on old
    on = none ∙ sym (after_first-none old.held whole) ∙ sym (ap (λ p. text_left p old.held) passing)

    after : (more : List ℕ) → text_left old.passing (old.held ++ more) ≡ after_first is_feed more
    after more = ap (λ p. text_left p (old.held ++ more)) passing ∙ after_first-append old.held more whole

    by_end : (b : Bool) → old.ended ≡ b → (more : List ℕ) → (old.ended ≡ true → more ≡ []) →
        text_left old.passing (old.held ++ more) ≡ text_left p (held ++ more)
    by_end true e more allowed =
        after more ∙ ap (after_first is_feed) (allowed e) ∙ sym (ap (λ bs. bs ++ []) none) ∙ ap (λ bs. held ++ bs) (sym (allowed e))
        ∙ ap (λ q. text_left q (held ++ more)) (sym (still ∙ ap not e))
    by_end false e more allowed =
        after more ∙ ap (λ bs. after_first is_feed (bs ++ more)) (sym none) ∙ ap (λ q. text_left q (held ++ more)) (sym (still ∙ ap not e))

-- what is held of the next line is the same after it
pub held_after : (old new : Reader) → Skips old new → held_on new ≡ held_on old
held_after old new skips = by_passing new.passing refl
  where
    by_passing : (b : Bool) → new.passing ≡ b → held_on new ≡ held_on old
    by_passing true e =
        ap (λ p. text_left p new.held) e ∙ ap (after_first is_feed) (skips.rest e).0 ∙ sym (skips.rest e).0 ∙ skips.held
    by_passing false e = ap (λ p. text_left p new.held) e ∙ skips.held

-- where something is held, it is of the next line
pub plain_after : (old new : Reader) → Skips old new → 0 < length new.held → new.passing ≡ false
plain_after old new skips some = by_passing new.passing refl
  where
    by_passing : (b : Bool) → new.passing ≡ b → new.passing ≡ false
    by_passing true e = absurd (omega (arith, ap length (skips.rest e).0))
    by_passing false e = e

-- at the end of the input no rest of a line is to come
pub plain_at_end : (old new : Reader) → Skips old new → new.ended ≡ true → new.passing ≡ false
plain_at_end old new skips ended = by_passing new.passing refl
  where
    by_passing : (b : Bool) → new.passing ≡ b → new.passing ≡ false
    by_passing true e = absurd (false≢true (sym (skips.rest e).1 ∙ ended))
    by_passing false e = e

-- ---- a line is given

at_line : (n : Next) (r : Reader) (text : Line) → lines_given n r.line ≡ text ∷ [] → IsAt n r
at_line next.Line r text gave = tt
at_line next.Long r text gave = tt
at_line next.End r text gave = cc
at_line next.ReadFault r text gave = cc
at_line next.Limit r text gave = cc

is_line : (n : Next) (line : List ℕ) (text : Line) → lines_given n line ≡ text ∷ [] → IsLine n
is_line next.Line line text gave = tt
is_line next.Long line text gave = tt
is_line next.End line text gave = cc
is_line next.ReadFault line text gave = cc
is_line next.Limit line text gave = cc

-- the first bytes of what is held are a line
pub line_given : (n : Next) (old new : Reader) (text : Line) (gone : ℕ) → old.passing ≡ false →
    new ≡ record old { held = drop gone old.held; line = new.line }
    → lines_given n new.line ≡ text ∷ [] → (n ≢ next.Line → new.line ≡ []) → gone ≤ length old.held → 0 < gone
    → ((more : List ℕ) → (old.ended ≡ true → more ≡ []) → lines_of (old.held ++ more) ≡ text ∷ lines_of (drop gone old.held ++ more))
    → (old.ended ≡ false → (more : List ℕ) → whole_lines_of (old.held ++ more) ≡ text ∷ whole_lines_of (drop gone old.held ++ more))
    → Answers n old new
line_given n old new text gone plain same gave empty within some law whole_law = record {
  moves = record {
    ended = ap (λ (r : Reader). r.ended) same;
    taken = ap (λ (r : Reader). r.taken) same;
    limit = ap (λ (r : Reader). r.limit) same;
    spent = subst (λ (r : Reader). length (lines_given n new.line) + budget r ≤ budget old) (sym same)
        (rw gave (spent_line (old.limit - old.taken) old.held gone within some));
    lines = λ more allowed.
        ap (λ p. lines_left p (old.held ++ more)) plain ∙ law more allowed
        ∙ ap (λ ls. ls ++ lines_of (drop gone old.held ++ more)) (sym gave)
        ∙ ap (λ p. lines_given n new.line ++ lines_left p (drop gone old.held ++ more)) (sym plain)
        ∙ ap (λ (r : Reader). lines_given n new.line ++ lines_left r.passing (r.held ++ more)) (sym same);
    whole = λ going more.
        ap (λ p. whole_left p (old.held ++ more)) plain ∙ whole_law going more
        ∙ ap (λ ls. ls ++ whole_lines_of (drop gone old.held ++ more)) (sym gave)
        ∙ ap (λ p. lines_given n new.line ++ whole_left p (drop gone old.held ++ more)) (sym plain)
        ∙ ap (λ (r : Reader). lines_given n new.line ++ whole_left r.passing (r.held ++ more)) (sym same);
  };
  at = at_line n new text gave;
  whole = λ _. is_line n new.line text gave;
  line = empty;
}
  where
    spent_line : (a : ℕ) (held : List ℕ) (gone : ℕ) → gone ≤ length held → 0 < gone → 1 + (a + length (drop gone held)) ≤ a + length held
    spent_line a held gone within some = simp length-drop (omega arith)

pub feed_given : (n : Next) (old new : Reader) (len : ℕ) → old.passing ≡ false → IsFeedAt old.held len
    → new ≡ record old { held = drop (len + 1) old.held; line = new.line }
    → lines_given n new.line ≡ line_of (take len old.held) ∷ [] → (n ≢ next.Line → new.line ≡ []) → Answers n old new
feed_given n old new len plain feed same gave empty =
    line_given n old new _ (len + 1) plain same gave empty (let w = feed.within in
    omega arith) (omega arith) (λ more allowed. lines_of-held old.held more len feed)
    (λ going more. whole_lines_of-held old.held more len feed)

pub last_given : (n : Next) (old new : Reader) (len : ℕ) → old.passing ≡ false → len ≡ length old.held → HasNoFeed old.held →
    old.ended ≡ true → 0 < len
    → new ≡ record old { held = drop (len + 0) old.held; line = new.line }
    → lines_given n new.line ≡ line_of (take len old.held) ∷ [] → (n ≢ next.Line → new.line ≡ []) →
    Answers n old new
last_given n old new len plain size whole ended some same gave empty =
    line_given n old new _ (len + 0) plain same gave empty (omega arith) (omega arith) (λ more allowed. law more (allowed ended))
    (λ going more. absurd (false≢true (sym going ∙ ended)))
  where
    law : (more : List ℕ) → more ≡ [] → lines_of (old.held ++ more)
        ≡ line_of (take len old.held) ∷ lines_of (drop (len + 0) old.held ++ more)
    law more none =
        let text : take len old.held ≡ old.held = take_all len old.held (omega arith) in
        let rest : drop (len + 0) old.held ≡ [] = drop_all (len + 0) old.held (omega arith) in
        rw (none, text, rest, append-nil) (lines_of-last old.held whole (omega arith)
        ∙ ap (λ ls. line_of old.held ∷ ls) (sym lines_of-none))

-- the prefix of a line is too long
pub too_long : (old : Reader) (held : List ℕ) → HasNoFeed old.held → LONGEST_LINE < length old.held → old.passing ≡ false →
    old.line ≡ [] → held ≡ []
    → Answers next.Long old (record old { held = held; passing = true })
too_long old held whole long plain empty none = record {
  moves = record {
    ended = refl;
    taken = refl;
    limit = refl;
    spent = omega (arith, ap length none);
    lines = λ more allowed.
        ap (λ p. lines_left p (old.held ++ more)) plain ∙ lines_of-refused old.held more whole long
        ∙ ap (λ bs. Long ∷ lines_of (after_first is_feed (bs ++ more))) (sym none);
    whole = λ going more.
        ap (λ p. whole_left p (old.held ++ more)) plain ∙ whole_lines_of-refused old.held more whole long
        ∙ ap (λ bs. Long ∷ whole_lines_of (after_first is_feed (bs ++ more))) (sym none);
  };
  at = tt;
  whole = λ _. tt;
  line = λ _. empty;
}

-- the end of the input, with nothing left
pub end_found : (old : Reader) → old.ended ≡ true → old.held ≡ [] → old.passing ≡ false → old.line ≡ [] → Answers next.End old old
end_found old ended none passing empty = record {
  moves = record {
    ended = refl;
    taken = refl;
    limit = refl;
    spent = omega arith;
    lines = λ more allowed. refl;
    whole = λ going more. refl;
  };
  at = record { ended = ended; none = none; passing = passing };
  whole = λ some. absurd (some (record {
    whole = subst HasNoFeed (sym nothing) no_feed_none;
    short = omega (arith, ap length nothing);
  }));
  line = λ _. empty;
}
  where
    nothing : held_on old ≡ []
    nothing = ap (λ p. text_left p old.held) passing ∙ none

-- an answer after the rest of a line was let go
pub answers_after : (n : Next) (old mid new : Reader) → Skips old mid → Answers n mid new → Answers n old new
answers_after n old mid new skips answers = record {
  moves = record {
    ended = answers.moves.ended ∙ skips.moves.ended;
    taken = answers.moves.taken ∙ skips.moves.taken;
    limit = answers.moves.limit ∙ skips.moves.limit;
    spent = let a = answers.moves.spent in let b = skips.moves.spent in omega arith;
    lines = λ more allowed.
        skips.moves.lines more allowed ∙ answers.moves.lines more (λ ended. allowed (sym skips.moves.ended ∙ ended));
    whole = λ going more. skips.moves.whole going more ∙ answers.moves.whole (skips.moves.ended ∙ going) more;
  };
  at = answers.at;
  whole = λ some. answers.whole (subst (λ bs. ¬ (IsOpen bs)) (sym (held_after old mid skips)) some);
  line = answers.line;
}

-- as many bytes as may be were taken
pub limit_reached : (old mid : Reader) → Skips old mid → HasNoFeed mid.held → length mid.held ≤ LONGEST_LINE → mid.ended ≡ false →
    mid.taken ≡ mid.limit
    → Answers next.Limit old mid
limit_reached old mid skips whole short going full = record {
  moves = skips.moves;
  at = (record { whole = whole; short = short }, going, full);
  whole = λ some. absurd (some (subst IsOpen skips.held (record { whole = whole; short = short })));
  line = λ _. skips.line;
}

-- more bytes are wanted
pub more_wanted : (old mid : Reader) → Skips old mid → HasNoFeed mid.held → length mid.held ≤ LONGEST_LINE → mid.ended ≡ false →
    mid.taken < mid.limit
    → Waits old mid
more_wanted old mid skips whole short going room = record {
  before = record {
    text = subst IsOpen skips.held (record { whole = whole; short = short });
    going = sym skips.moves.ended ∙ going;
    room = let a = skips.moves.taken in let b = skips.moves.limit in omega arith;
  };
  after = record { text = record { whole = whole; short = short }; going = going; room = room; line = skips.line };
  skips = skips;
}

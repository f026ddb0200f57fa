-- The end of a run, with its fault line.
use Rattle.std.proofs.Common.{◌≡◌, ◌∙◌, inl, inr, ℕ, ◌≤◌, Bool, true, false, List, [], ◌∷◌, Option, None, Some, refl, sym, ap}
use Rattle.std.proofs.Common.{subst, arith, append-nil, codes}
use Rattle.std.proofs.KnownBytes.{Appends-trans, Consumes-nil}
use Rattle.std.specs.Prelude.{◌↔◌, ◌⊎◌, Ok, Err, option_map}
use Rattle.std.specs.Io.KnownBytes.{Appends}
use Rattle.clap.specs.Words.{Kinds, Row, fault_of, matches_of, one_of}
use Rattle.clap.specs.declared.parser.matches.ValueSource.{ValueSource}
use Rattle.clap.specs.declared.parser.matches.ValueSource.TheVariants.{CommandLine, DefaultValue}
use Rattle.seam_rule_rounds.specs.Prelude.{Rose, SourceState, SinkState, Line, whole_lines_of, totals_of, Told, Journal}
use Rattle.seam_rule_rounds.specs.declared.totals.Totals.{Totals}
use Rattle.seam_args.specs.Words.{Answer, AreOptions, ArePassed, AreRefused, command, number_of, words_of}
use Rattle.seam_args.specs.declared.Options.{Options}
use Rattle.seam_args.specs.declared.TheConstants.{USAGE_TEXT, VERSION_TEXT}
use Rattle.seam_world_rounds.specs.Transcripts.{IsOpen, IsEnded}
use Rattle.seam_world_rounds.specs.Output.{text_output}
use Rattle.seam_world_rounds.specs.declared.round.Output.TheVariants as output
use Rattle.seam_world_rounds.specs.Storm.{StormEnds, MeansForStorm, StormStopped}
use Rattle.seam_world_ends.specs.Status.{IsRunEnd}
use Rattle.seam_world_ends.specs.Printing.{Printed, StopsBy}
use Rattle.seam_world_ends.specs.Ends.{Means, HasFaultLine, RunEnds, MayComplete}
use Rattle.seam_world_rounds.specs.Histories.{OpenAs, EndedAs, Stopped}
use Rattle.seam_world_ends.specs.declared.status.Status.{Status}
use Rattle.seam_world_ends.specs.declared.status.Status.TheVariants as status
use Rattle.seam_world_rounds.proofs.HeaderRuns.{nothing_judged}
use Rattle.seam_world_ends.proofs.Completing.{is_complete}
use Rattle.seam_world_rounds.proofs.StormRuns.{nothing_run}
use Rattle.seam_world.specs.Requests.{Request, Usage, Version, Storm, Script, Nothing, request_of, request_for, request_unless, EndsAs}
use Rattle.seam_world.specs.Requests.{UnplayedEnds, MeansForText}
use Rattle.seam_world.specs.Stopping.{StopsAs, StopsShown, IsTextFor}
use Rattle.seam_world.specs.Words.{is_of_words, asks_for}

-- what tells of transcripts tells of others that they are
module _ (Open Ended Open' Ended' : List Line → List ℕ → List Journal → Type 0)
    (is_open : (ls : List Line) (t : List ℕ) (js : List Journal) → Open ls t js → Open' ls t js)
    (is_ended : (ls : List Line) (t : List ℕ) (js : List Journal) → Ended ls t js → Ended' ls t js) (old new : SourceState)
    (given t : List ℕ)
    (js : List Journal) where
  tells_others : (st : Status) → Means Open Ended st old new given t js → Means Open' Ended' st old new given t js
  tells_others status.Done (low, read, all, x) = (low, read, all, is_ended read t js x)
  tells_others status.Usage x = x
  tells_others (status.BadHeader k) x = x
  tells_others status.ReadFault (rose, low, x) = (rose, low, is_open (whole_lines_of given) t js x)
  tells_others status.WriteFault (whole, proper, (read, inl x)) = (whole, proper, (read, inl (x.0, is_open read whole js x.1)))
  tells_others status.WriteFault (whole, proper, (read, inr x)) = (whole, proper, (read, inr (x.0, is_ended read whole js x.1)))
  tells_others status.Limit (all, x) = (all, is_open (whole_lines_of given) t js x)
  tells_others status.NoMemory (read, first, x) = (read, first, is_open read t js x)

-- where rounds are printed, what is given of transcripts is their text
tells_of_text : (traced : Bool) (totals : Totals) (st : Status) (old new : SourceState) (given t : List ℕ) (js : List Journal) →
    Means (OpenAs (text_output traced)) (EndedAs (text_output traced) totals) st old new given t js →
    Means (IsOpen traced) (IsEnded traced) st old new given t js
tells_of_text true totals st old new given t js =
    tells_others (OpenAs output.TracedRounds) (EndedAs output.TracedRounds totals) (IsOpen true) (IsEnded true) (λ ls t js x. x)
    (λ ls t js x. (x.0, x.1, x.2, x.3, x.4, x.5)) old new given t js st
tells_of_text false totals st old new given t js =
    tells_others (OpenAs output.Rounds) (EndedAs output.Rounds totals) (IsOpen false) (IsEnded false) (λ ls t js x. x)
    (λ ls t js x. (x.0, x.1, x.2, x.3, x.4, x.5)) old new given t js st

-- the fault line begins with what was there before
from_start : (st : Status) (old mid new : SinkState) (tail : List ℕ) → old.faults ≤ mid.faults → HasFaultLine st mid new tail →
    HasFaultLine st old new tail
from_start st old mid new tail later (inl e) = inl e
from_start st old mid new tail later (inr e) = inr (e.0, let r = e.1 in omega (arith, later, r))

-- the fault line after what was written
pub with_tail : (traced : Bool) (totals : Totals) (st : Status) (began now : SourceState) (old mid new : SinkState) (told told' : Told) →
    Stopped (text_output traced) totals st began now old mid told told' → (tail : List ℕ) → Appends mid.written new.written tail →
    HasFaultLine st mid new tail → RunEnds (IsOpen traced) (IsEnded traced) st began now old new told told'
with_tail traced totals st began now old mid new told told' s tail a f = record {
  given = s.given;
  text = s.text;
  tail = tail;
  steps = s.steps;
  took = s.took;
  most = s.most;
  wrote = Appends-trans old.written mid.written new.written s.text tail s.writing a;
  means = tells_of_text traced totals st began now s.given s.text s.steps s.means;
  last = from_start st old mid new tail s.later f;
  watched = s.watched;
}

storm_with_tail : (lines : ℕ) (st : Status) (before after : SourceState) (old mid new : SinkState) (told told' : Told) → after ≡ before →
    StormStopped lines st old mid told told' → (tail : List ℕ) → Appends mid.written new.written tail → HasFaultLine st mid new tail →
    StormEnds lines st before after old new told told'
storm_with_tail lines st before after old mid new told told' unread s tail a f = record {
  text = s.text;
  tail = tail;
  steps = s.steps;
  unread = unread;
  wrote = Appends-trans old.written mid.written new.written s.text tail s.writing a;
  means = s.means;
  last = from_start st old mid new tail s.later f;
  watched = s.watched;
}

-- all of a text was written
written_whole : (old mid : SinkState) (text : List ℕ) → Printed old mid [] text → Appends old.written mid.written text
written_whole old mid text p =
    subst (λ (x : List ℕ). Appends old.written mid.written x) (sym (p.whole ∙ append-nil p.wrote)) p.writing

-- the fault line after a text that was asked for, or after a prefix of it
shown_with_tail : (shown : List ℕ) (st : Status) (before after : SourceState) (old mid new : SinkState) (told told' : Told) →
    StopsShown shown st before after old mid told told' → (tail : List ℕ) → Appends mid.written new.written tail →
    HasFaultLine st mid new tail → UnplayedEnds (MeansForText shown) st before after old new told told'
shown_with_tail shown st before after old mid new told told' (unread, untold, inl (is, p)) tail a f = record {
  text = shown;
  tail = tail;
  unread = unread;
  wrote = Appends-trans old.written mid.written new.written shown tail (written_whole old mid shown p) a;
  means = subst (λ (x : Status). MeansForText shown x shown) (sym is) refl;
  last = from_start st old mid new tail p.later f;
  untold = untold;
}
shown_with_tail shown st before after old mid new told told' (unread, untold, inr (is, x)) tail a f = record {
  text = x.prefix;
  tail = tail;
  unread = unread;
  wrote = Appends-trans old.written mid.written new.written x.prefix tail x.writing a;
  means = subst (λ (s : Status). MeansForText shown s x.prefix) (sym is) x.proper;
  last = from_start st old mid new tail x.later f;
  untold = untold;
}

-- the fault line after what was written
pub ends_as_asked : (r : Request) (st : Status) (before after : SourceState) (old mid new : SinkState) (told told' : Told) →
    StopsAs r st before after old mid told told' → (tail : List ℕ) → Appends mid.written new.written tail →
    HasFaultLine st mid new tail → EndsAs r st before after old new told told'
ends_as_asked Usage st before after old mid new told told' s tail a f =
    shown_with_tail USAGE_TEXT.now st before after old mid new told told' s tail a f
ends_as_asked Version st before after old mid new told told' s tail a f =
    shown_with_tail VERSION_TEXT.now st before after old mid new told told' s tail a f
ends_as_asked (Storm lines) st before after old mid new told told' s tail a f =
    storm_with_tail lines st before after old mid new told told' s.0 s.1 tail a f
ends_as_asked (Script traced) st before after old mid new told told' s tail a f =
    with_tail traced s.0 st before after old mid new told told' s.1 tail a f
ends_as_asked Nothing st before after old mid new told told' s tail a f = absurd s

-- nothing was written but the fault line
untouched : (Means : Status → List ℕ → Type 0) (st : Status) (source : SourceState) (old new : SinkState) (told : Told) → Means st [] →
    (tail : List ℕ) → Appends old.written new.written tail → HasFaultLine st old new tail →
    UnplayedEnds Means st source source old new told told
untouched Means st source old new told means tail a f =
    record { text = []; tail = tail; unread = refl; wrote = a; means = means; last = f; untold = refl }

-- what a status tells where the words are refused
abbrev MeansForNothing : Status → List ℕ → Type 0
MeansForNothing ended text = ((ended ≡ status.Usage) ⊎ (ended ≡ status.NoMemory)) × (text ≡ [])

-- there was no memory for the words
starved : (r : Request) (source : SourceState) (old new : SinkState) (told : Told) (tail : List ℕ) → Appends old.written new.written tail →
    HasFaultLine status.NoMemory old new tail → EndsAs r status.NoMemory source source old new told told
starved Usage source old new told tail a f = untouched (MeansForText USAGE_TEXT.now) status.NoMemory source old new told refl tail a f
starved Version source old new told tail a f = untouched (MeansForText VERSION_TEXT.now) status.NoMemory source old new told refl tail a f
starved (Storm lines) source old new told tail a f =
    ends_as_asked (Storm lines) status.NoMemory source source old old new told told (refl, nothing_run lines old told) tail a f
starved (Script traced) source old new told tail a f =
    let stopped = nothing_judged source source [] (Consumes-nil source.left) (omega arith) (text_output traced) (totals_of []) old told in
    ends_as_asked (Script traced) status.NoMemory source source old old new told told (totals_of [], stopped) tail a f
starved Nothing source old new told tail a f = untouched MeansForNothing status.NoMemory source old new told (inr refl, refl) tail a f

-- the words were refused, or there was no memory for them
pub ends_unasked : (r : Request) (st : Status) (source : SourceState) (old new : SinkState) (told : Told) →
    (st ≡ status.NoMemory) ⊎ ((st ≡ status.Usage) × (r ≡ Nothing)) → (tail : List ℕ) → Appends old.written new.written tail →
    HasFaultLine st old new tail → EndsAs r st source source old new told told
ends_unasked r st source old new told (inl is) tail a f =
    subst (λ (x : Status). EndsAs r x source source old new told told) (sym is)
    (starved r source old new told tail a (subst (λ (x : Status). HasFaultLine x old new tail) is f))
ends_unasked r st source old new told (inr (is, nothing)) tail a f =
    subst (λ (x : Request). EndsAs x st source source old new told told) (sym nothing)
    (untouched MeansForNothing st source old new told (inl is, refl) tail a f)

-- words that are refused ask for nothing
pub refused_is_nothing : (answer : Answer) → AreRefused answer → request_of answer ≡ Nothing
refused_is_nothing (Ok words) refused = by_faults (fault_of command (words_of (Ok words))) refused
  where
    by_faults : (ks : Kinds) → ¬ (ks ≡ []) → request_unless ks (matches_of command (words_of (Ok words))) ≡ Nothing
    by_faults [] some = absurd (some refl)
    by_faults (k ∷ ks) some = refl
refused_is_nothing (Err e) refused = refl

flag_is : (o : Option ValueSource) (b : Bool) → (o ≡ Some CommandLine) ↔ (b ≡ true) → is_of_words o ≡ b
flag_is (Some CommandLine) b e = sym (e.0 refl)
flag_is (Some DefaultValue) true e = let bad : ◌≡◌ {A = Option ValueSource} (Some DefaultValue) (Some CommandLine) = e.1 refl in cc
flag_is (Some DefaultValue) false e = refl
flag_is None true e = let bad : ◌≡◌ {A = Option ValueSource} None (Some CommandLine) = e.1 refl in cc
flag_is None false e = refl

-- the options are those of the request
pub request_is : (answer : Answer) (o : Options) → ArePassed answer → AreOptions (matches_of command (words_of answer)) o →
    request_of answer ≡ request_for o.help o.version o.trace o.storm
request_is (Ok words) o passed are =
    let rows : List Row = matches_of command (words_of (Ok words)) in
    let help = flag_is _ _ are.help in
    let version = flag_is _ _ are.version in
    let trace = flag_is _ _ are.trace in
    let storm = option_map number_of (one_of (codes "storm") rows) in
    ap (λ (ks : Kinds). request_unless ks rows) passed
    ∙ ap (λ (b : Bool). request_for b (asks_for (codes "version") rows) (asks_for (codes "trace") rows) storm) help
    ∙ ap (λ (b : Bool). request_for o.help b (asks_for (codes "trace") rows) storm) version
    ∙ ap (λ (b : Bool). request_for o.help o.version b storm) trace
    ∙ ap (λ (n : Option ℕ). request_for o.help o.version o.trace n) are.storm
request_is (Err e) o passed are = absurd passed

-- a text was written, and nothing else was done
pub shown_as_asked : (r : Request) (text : List ℕ) (st : Status) (source : SourceState) (old mid : SinkState) (told : Told) →
    IsTextFor r text → StopsBy status.Done old mid text st → StopsAs r st source source old mid told told
shown_as_asked Usage text st source old mid told is s =
    (refl, refl, subst (λ (x : List ℕ). StopsBy status.Done old mid x st) is s)
shown_as_asked Version text st source old mid told is s =
    (refl, refl, subst (λ (x : List ℕ). StopsBy status.Done old mid x st) is s)
shown_as_asked (Storm lines) text st source old mid told is s = absurd is
shown_as_asked (Script traced) text st source old mid told is s = absurd is
shown_as_asked Nothing text st source old mid told is s = absurd is

-- the statuses of a text that is written, and when they come
pub shown_status : (text : List ℕ) (st : Status) (old mid : SinkState) → StopsBy status.Done old mid text st →
    IsRunEnd st × ((st ≡ status.ReadFault) → ⊥) × ((st ≡ status.WriteFault) → Rose old.faults mid.faults) × (old.faults ≤ mid.faults)
shown_status text st old mid (inl (is, p)) = (
  subst IsRunEnd (sym is) tt,
  (λ e. let bad : status.Done ≡ status.ReadFault = sym is ∙ e in cc),
  (λ e. let bad : status.Done ≡ status.WriteFault = sym is ∙ e in cc),
  p.later,
)
shown_status text st old mid (inr (is, x)) =
    (subst IsRunEnd (sym is) tt, (λ e. let bad : status.WriteFault ≡ status.ReadFault = sym is ∙ e in cc), (λ e. x.rose), x.later)

shown_completes : (shown : List ℕ) (st : Status) (before after : SourceState) (old mid new : SinkState) (told told' : Told) →
    StopsShown shown st before after old mid told told' → mid.faults ≤ new.faults → MayComplete before after old new →
    (st ≡ status.Done) ⊎ (st ≡ status.NoMemory)
shown_completes shown st before after old mid new told told' (unread, untold, inl (is, p)) later may = inl is
shown_completes shown st before after old mid new told told' (unread, untold, inr (is, x)) later may =
    absurd (may.writes (let rose = x.rose in omega (arith, rose, later)))

-- a run that may be complete is, unless an allocation failed
pub completes_as_asked : (r : Request) (st : Status) (before after : SourceState) (old mid new : SinkState) (told told' : Told) →
    StopsAs r st before after old mid told told' → mid.faults ≤ new.faults → MayComplete before after old new →
    (st ≡ status.Done) ⊎ (st ≡ status.NoMemory)
completes_as_asked Usage st before after old mid new told told' s later may =
    shown_completes USAGE_TEXT.now st before after old mid new told told' s later may
completes_as_asked Version st before after old mid new told told' s later may =
    shown_completes VERSION_TEXT.now st before after old mid new told told' s later may
completes_as_asked (Script traced) st before after old mid new told told' (totals, s) later may =
    is_complete (OpenAs (text_output traced)) (EndedAs (text_output traced) totals) st before after old new s.given s.text s.steps s.took
    s.means
    may (λ is. subst IsRunEnd is s.allowed) (λ is. let rose = s.failed is in omega (arith, rose, later))
completes_as_asked (Storm lines) st before after old mid new told told' (unread, s) later may =
    by_status st s.allowed s.means s.failed
  where
    by_status : (x : Status) → IsRunEnd x → MeansForStorm lines x s.text s.steps → (x ≡ status.WriteFault → Rose old.faults mid.faults) →
        (x ≡ status.Done) ⊎ (x ≡ status.NoMemory)
    by_status status.Done allowed means failed = inl refl
    by_status status.Usage allowed means failed = absurd allowed
    by_status (status.BadHeader k) allowed means failed = absurd means
    by_status status.ReadFault allowed means failed = absurd means
    by_status status.WriteFault allowed means failed = absurd (may.writes (let rose = failed refl in omega (arith, rose, later)))
    by_status status.Limit allowed means failed = absurd means
    by_status status.NoMemory allowed means failed = inr refl
completes_as_asked Nothing st before after old mid new told told' s later may = absurd s

-- words that pass are not refused
pub never_both : (a : Answer) → ArePassed a → AreRefused a → ⊥
never_both (Ok words) passed refused = refused passed
never_both (Err e) passed refused = passed

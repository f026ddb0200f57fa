-- Where each entity has one sender, each part has one order with all that was accepted for it.
use Rattle.std.proofs.Common.{◌≡◌, ℕ, Bool, true, false, List, [], ◌∷◌, ◌++◌, refl, sym, ◌∙◌, ap, subst, arith, append-nil, append_assoc}
use Rattle.std.proofs.Common.{Option, None}
use Rattle.std.specs.Prelude.{filter, cond, ◌&&◌, ◌==◌}
use Rattle.std.specs.List.{cons_option}
use Rattle.std.proofs.Math.Bool.{and-false}
use Rattle.std.proofs.lemmas.List.Elements.{All-head, All-tail, All-push, filter_map-append}
use Rattle.seam_io.specs.Lines.{Line}
use Rattle.seam_value.specs.NumberWords.{SpellsPositive}
use Rattle.seam_defs.specs.declared.types.TypeDef.{TypeDef}
use Rattle.seam_defs.specs.declared.states.Deed.{Deed}
use Rattle.seam_defs.specs.declared.flags.Part.{Part}
use Rattle.seam_call.specs.Senders.{same_sender}
use Rattle.seam_call.specs.Calls.{is_from, same_part}
use Rattle.seam_call.specs.declared.sender.Sender.{Sender}
use Rattle.seam_call.specs.declared.sender.Sender.TheVariants as sender
use Rattle.seam_call.specs.declared.call.Call.{Call}
use Rattle.seam_toml.specs.declared.header.Header.{Header}
use Rattle.seam_rule_lines.specs.Language as language
use Rattle.seam_rule_lines.specs.Book.{Book, entries, called, calls_of, accepted, with_entry}
use Rattle.seam_rule_lines.specs.Judging.{Adds, NamesDeed, NamesMove, NamesCall, Spells, Judges}
use Rattle.seam_rule_lines.specs.Orders.{of_sender, IsFull}
use Rattle.seam_rule_lines.specs.Senders.{IsFrom, AreFrom, AcceptedAreFrom, CallIsFrom}
use Rattle.seam_rule_lines.specs.declared.verdict.Entry.{Entry}
use Rattle.seam_rule_lines.specs.declared.verdict.Entry.TheVariants as entry
use Rattle.seam_rule_lines.specs.declared.verdict.Verdict.TheVariants as verdict
use Rattle.seam_rule_lines.proofs.Verdicts.{sender_is_one}

-- ---- orders

pub same_sender_of_itself : (s : Sender) → same_sender s s ≡ true
same_sender_of_itself (sender.Base n) = grind arith
same_sender_of_itself (sender.Client e) = grind arith

pub same_sender_is : (s t : Sender) → same_sender s t ≡ true → s ≡ t
same_sender_is (sender.Base m) (sender.Base n) same = ap sender.Base (grind (arith, same))
same_sender_is (sender.Client d) (sender.Client e) same = ap sender.Client (grind (arith, same))
same_sender_is (sender.Base m) (sender.Client e) same = cc
same_sender_is (sender.Client d) (sender.Base n) same = cc

-- a call of another sender is not for the entity
other_is_not_for : (one : ℕ → Sender) (p : Part) (e : ℕ) (t : Sender) (c : Call) → same_sender (one e) t ≡ false → IsFrom one c →
    is_from p e t c ≡ false
other_is_not_for one p e t c other own = cases (c.entity == e) refl
  where
    cases : (b : Bool) → (c.entity == e) ≡ b → ((b && same_part c.part p) && same_sender c.sender t) ≡ false
    cases false is = refl
    cases true is =
        let entity : c.entity ≡ e = grind (arith, is) in
        let not : same_sender c.sender t ≡ false = ap (λ (s : Sender). same_sender s t) (own ∙ ap one entity) ∙ other in
        ap (λ (x : Bool). same_part c.part p && x) not ∙ and-false (same_part c.part p)

-- no accepted call for the entity is from another sender
none_of_others : (one : ℕ → Sender) (p : Part) (e : ℕ) (t : Sender) (calls : List Call) → same_sender (one e) t ≡ false →
    AreFrom one calls →
    filter (is_from p e t) calls ≡ []
none_of_others one p e t [] other own = refl
none_of_others one p e t (c ∷ calls) other own =
    ap (λ (b : Bool). cond b (c ∷ filter (is_from p e t) calls) (filter (is_from p e t) calls))
    (other_is_not_for one p e t c other (All-head (IsFrom one) c calls own))
    ∙ none_of_others one p e t calls other (All-tail (IsFrom one) c calls own)

-- an order without calls of other senders
abbrev HasNoOther : Sender → List Call → Type 0
HasNoOther s order = (t : Sender) → same_sender s t ≡ false → of_sender t order ≡ []

no_other_later : (s : Sender) (x : Call) (order : List Call) → HasNoOther s (x ∷ order) → HasNoOther s order
no_other_later s x order none t other = cases (same_sender x.sender t) (none t other)
  where
    cases : (b : Bool) → cond b (x ∷ of_sender t order) (of_sender t order) ≡ [] → of_sender t order ≡ []
    cases true is = cc
    cases false is = is

not_empty : (x : Call) (xs : List Call) → x ∷ xs ≡ [] → ⊥
not_empty x xs is = cc

-- it has calls of the sender alone
all_of_sender : (s : Sender) (order : List Call) → HasNoOther s order → of_sender s order ≡ order
all_of_sender s [] none = refl
all_of_sender s (x ∷ order) none = cases (same_sender s x.sender) refl (all_of_sender s order (no_other_later s x order none))
  where
    cases : (b : Bool) → same_sender s x.sender ≡ b → of_sender s order ≡ order → of_sender s (x ∷ order) ≡ x ∷ order
    cases true is rest =
        let own : same_sender x.sender s ≡ true =
        subst (λ (t : Sender). same_sender t s ≡ true) (same_sender_is s x.sender is) (same_sender_of_itself s) in
        ap (λ (b : Bool). cond b (x ∷ of_sender s order) (of_sender s order)) own ∙ ap (λ (xs : List Call). x ∷ xs) rest
    cases false is rest =
        let here : x ∷ of_sender x.sender order ≡ [] =
        ap (λ (b : Bool). cond b (x ∷ of_sender x.sender order) (of_sender x.sender order)) (sym (same_sender_of_itself x.sender))
        ∙ none x.sender is in
        absurd (not_empty x (of_sender x.sender order) here)

-- two full orders are one
pub full_order_is_one : (one : ℕ → Sender) (b : Book) (p : Part) (e : ℕ) (order other : List Call) → AcceptedAreFrom one b →
    IsFull (accepted b p e) order → IsFull (accepted b p e) other → order ≡ other
full_order_is_one one b p e order other own full full' =
    let none : (t : Sender) → same_sender (one e) t ≡ false → accepted b p e t ≡ [] =
    λ t not. none_of_others one p e t (calls_of (entries b)) not own in
    sym (all_of_sender (one e) order (λ t not. full t ∙ none t not)) ∙ full (one e) ∙ sym (full' (one e))
    ∙ all_of_sender (one e) other (λ t not. full' t ∙ none t not)

-- ---- lines

calls_with_entry : (b : Book) (x : Entry) → calls_of (entries (with_entry b x)) ≡ calls_of (entries b) ++ calls_of (x ∷ [])
calls_with_entry b x = ap calls_of (sym (append_assoc b.past b.current (x ∷ []))) ∙ filter_map-append called (entries b) (x ∷ [])

-- an accepted call is from the sender that its line names
call_is_own : (h : Header) (one : ℕ → Sender) (b : Book) (s e : List ℕ) (Asks : TypeDef → Deed → Type 0) (c : Call) (x : Entry) →
    ((n : ℕ) → SpellsPositive e n → s ≡ language.sender_text (one n)) → NamesCall h b s e Asks c → x ≡ entry.Called c
    → AcceptedAreFrom one b → AcceptedAreFrom one (with_entry b x)
call_is_own h one b s e Asks c x names call is own =
    let number : SpellsPositive e c.entity = subst (SpellsPositive e) (sym call.entity_) call.live.number in
    let from : c.sender ≡ one c.entity = sender_is_one c.sender (one c.entity) (call.sender.spelled ∙ names c.entity number) in
    subst (λ (y : Entry). AcceptedAreFrom one (with_entry b y)) (sym is)
    (subst (AreFrom one) (sym (calls_with_entry b (entry.Called c))) (All-push (IsFrom one) (calls_of (entries b)) c own from))

-- an entry that is no call adds none
no_call_is_own : (one : ℕ → Sender) (b : Book) (x : Entry) → called x ≡ None → AcceptedAreFrom one b →
    AcceptedAreFrom one (with_entry b x)
no_call_is_own one b x none own =
    subst (AreFrom one) (sym (calls_with_entry b x ∙ ap (λ (o : Option Call). calls_of (entries b) ++ cons_option o []) none
    ∙ append-nil (calls_of (entries b)))) own

entry_is_own : (h : Header) (one : ℕ → Sender) (b : Book) (line : Line) (c : language.Command) (x : Entry) → CallIsFrom one line →
    Spells line c → Adds h b c x → AcceptedAreFrom one b → AcceptedAreFrom one (with_entry b x)
entry_is_own h one b line language.Sync x names spells adds own = absurd adds
entry_is_own h one b line (language.Client w) x names spells (e, number, is) own = no_call_is_own one b x (ap called is) own
entry_is_own h one b line language.Tick x names spells is own = no_call_is_own one b x (ap called is) own
entry_is_own h one b line (language.Cut w a at) x names spells (c, by, cell, bound, is) own = no_call_is_own one b x (ap called is) own
entry_is_own h one b line (language.Shift w at) x names spells (k, p, number, place, is) own = no_call_is_own one b x (ap called is) own
entry_is_own h one b line language.Balance x names spells is own = no_call_is_own one b x (ap called is) own
entry_is_own h one b line (language.Destroy w) x names spells (e, number, is) own = no_call_is_own one b x (ap called is) own
entry_is_own h one b line (language.Create e n px pz) x names spells (c, _, is) own = no_call_is_own one b x (ap called is) own
entry_is_own h one b line (language.Call s e n a) x names spells (c, call, is) own =
    call_is_own h one b s e (NamesDeed a n) c x (λ k. names (language.Call s e n a) s e k spells (refl, refl)) call is own
entry_is_own h one b line (language.Move s e px pz) x names spells (c, call, is) own =
    call_is_own h one b s e (λ t. NamesMove h px pz) c x (λ k. names (language.Move s e px pz) s e k spells (refl, refl)) call is own

-- an accepted line that names its entity's one sender keeps all calls so
pub accepted_is_own : (one : ℕ → Sender) (h : Header) (b : Book) (line : Line) (x : Entry) → CallIsFrom one line →
    Judges h b line (verdict.Accepted x) → AcceptedAreFrom one b → AcceptedAreFrom one (with_entry b x)
accepted_is_own one h b line x names (_, _, c, spells, adds) own = entry_is_own h one b line c x names spells adds own

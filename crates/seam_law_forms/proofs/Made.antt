-- What is known of each entity that was created, and of each call that was accepted.
use Rattle.std.proofs.Common.{◌≡◌, ℕ, ◌≤◌, Bool, true, false, ◌&&◌, cond, List, [], ◌∷◌, length, Option, Some, None, refl}
use Rattle.std.proofs.Common.{sym, ◌∙◌, ap, subst, arith, append-nil, length-append}
use Rattle.std.specs.Prelude.{find, ◌==◌, is_some}
use Rattle.std.specs.List.{AllByRecursion, list_any}
use Rattle.std.proofs.lemmas.Bool.Decides.{nat_tests}
use Rattle.std.proofs.lemmas.List.Sums.{length-filter, count_by-le-length}
use Rattle.std.specs.Option.{option_or}
use Rattle.seam_node_steps.specs.Prelude.{IsWhole, Sender, Call, Create, FitsDeed, part_of_deed, type_of, is_from}
use Rattle.seam_rule_rounds.specs.Prelude.{Header, Book, entries, creates_of, calls_of, created_as, live_as, accepted, has_client, joins}
use Rattle.seam_rule_rounds.specs.Prelude.{with_entry, Adds, Entry}
use Rattle.seam_rule_lines.specs.Language as language
use Rattle.seam_rule_lines.specs.Judging.{SenderExists}
use Rattle.seam_rule_lines.specs.declared.verdict.Entry.TheVariants as entry
use Rattle.seam_rule_lines.proofs.BookEntries.{creates_with_entry, live_is_created}
use Rattle.seam_accept.proofs.Books.{created_with, calls_with_entry}
use Rattle.seam_call.specs.declared.sender.Sender.TheVariants as sender
use Rattle.seam_law_texts.specs.Forms.{MaySend}
use Rattle.seam_law_book.specs.Prelude.{IsOfLines, empty, accepts, ends, balances, IsAccepted, IsInside, StaysInside}
use Rattle.seam_law_book.proofs.Proper.{IsProper, IsProperCall, accepted_is_proper}
use Rattle.seam_law_book.proofs.Adding.{all_join, all_turn}

-- ---- entities

-- an entity has a number of 32 bits, and was made inside the space
pub record IsMade (h : Header) (c : Create) : Type 0 where
  pub number : IsWhole c.entity
  pub inside : IsInside h c.pos

made_by : (h : Header) (b : Book) (x : Entry) → IsProper h b x → AllByRecursion (IsMade h) (creates_of (x ∷ []))
made_by h b (entry.Created c) k = (record { number = k.number; inside = k.inside }, tt)
made_by h b _ k = tt

all_made : (h : Header) (b : Book) → IsOfLines h b → AllByRecursion (IsMade h) (creates_of (entries b))
all_made h b empty = tt
all_made h b (accepts was x of_lines line) =
    subst (AllByRecursion (IsMade h)) (sym (creates_with_entry was x))
    (all_join (IsMade h) (creates_of (entries was)) (creates_of (x ∷ [])) (all_made h was of_lines)
    (made_by h was x (accepted_is_proper h was x line)))
all_made h b (ends was of_lines) =
    subst (λ (xs : List Entry). AllByRecursion (IsMade h) (creates_of xs)) (sym (append-nil (entries was))) (all_made h was of_lines)
all_made h b (balances was t of_lines may) =
    subst (λ (xs : List Entry). AllByRecursion (IsMade h) (creates_of xs)) (sym (append-nil (entries was))) (all_made h was of_lines)

found : (P : Create → Type 0) (cs : List Create) (e : ℕ) (c : Create) → AllByRecursion P cs →
    find (λ (d : Create). d.entity == e) cs ≡ Some c → P c × (c.entity ≡ e)
found P [] e c all is = absurd (cc)
found P (d ∷ cs) e c all is = by (found P cs e c all.1) (d.entity == e) refl is
  where
    by : (find (λ (x : Create). x.entity == e) cs ≡ Some c → P c × (c.entity ≡ e)) → (t : Bool) → (d.entity == e) ≡ t →
        cond t (Some d) (find (λ (x : Create). x.entity == e) cs) ≡ Some c → P c × (c.entity ≡ e)
    by later true at some =
        let same : d ≡ c = cc in
        let entity : d.entity ≡ e = grind (arith, nat_tests, at) in
        (subst P same all.0, subst (λ (x : Create). x.entity ≡ e) same entity)
    by later false at some = later some

pub made_is : (h : Header) (b : Book) → IsOfLines h b → (e : ℕ) (c : Create) → created_as b e ≡ Some c → IsMade h c × (c.entity ≡ e)
made_is h b of_lines e c is = found (IsMade h) (creates_of (entries b)) e c (all_made h b of_lines) is

-- ---- senders

-- an entity that has a client has a number of 32 bits
client_is_whole : (h : Header) (b : Book) → IsOfLines h b → (e : ℕ) → has_client b e ≡ true → IsWhole e
client_is_whole h b of_lines e has = by (live_as b e) refl has
  where
    by : (o : Option Create) → live_as b e ≡ o → (is_some o && list_any (joins e) (entries b)) ≡ true → IsWhole e
    by None at is = absurd (cc)
    by (Some c) at is =
        let m = made_is h b of_lines e c (live_is_created b e c at) in
        subst IsWhole m.1 m.0.number

may_send : (h : Header) (b : Book) → IsOfLines h b → (s : Sender) → SenderExists h b s → MaySend s
may_send h b of_lines (sender.Base n) there = there.node
may_send h b of_lines (sender.Client e) there = client_is_whole h b of_lines e there

-- the sender of an accepted call was there
sender_there : (h : Header) (b : Book) (c : language.Command) (x : Entry) → Adds h b c x → (call : Call) → x ≡ entry.Called call →
    SenderExists h b call.sender
sender_there h b (language.Create e t x z) y (d, names, is) call same = let wrong = sym is ∙ same in absurd (cc)
sender_there h b (language.Call s e m args) y (d, names, is) call same =
    let one : d ≡ call = (let two = sym is ∙ same in cc) in
    subst (λ (z : Call). SenderExists h b z.sender) one names.sender.there
sender_there h b (language.Move s e x z) y (d, names, is) call same =
    let one : d ≡ call = (let two = sym is ∙ same in cc) in
    subst (λ (z : Call). SenderExists h b z.sender) one names.sender.there
sender_there h b language.Sync y adds call same = absurd adds
sender_there h b (language.Client e) y (d, names, is) call same = let wrong = sym is ∙ same in absurd (cc)
sender_there h b language.Tick y is call same = let wrong = sym is ∙ same in absurd (cc)
sender_there h b (language.Cut c a at) y (d, by, one, two, is) call same = let wrong = sym is ∙ same in absurd (cc)
sender_there h b (language.Shift k at) y (d, place, one, two, is) call same = let wrong = sym is ∙ same in absurd (cc)
sender_there h b language.Balance y is call same = let wrong = sym is ∙ same in absurd (cc)
sender_there h b (language.Destroy e) y (d, names, is) call same = let wrong = sym is ∙ same in absurd (cc)

-- ---- calls

-- an accepted call: its entity was created, its sender and its number are such, and the entity's type can do the deed on the call's part
pub record IsTaken (h : Header) (b : Book) (c : Call) : Type 0 where
  pub made : Create
  pub is : created_as b c.entity ≡ Some made
  pub sender : MaySend c.sender
  pub number : c.number ≤ length (calls_of (entries b))
  pub deed : FitsDeed (type_of h.defs made.ty) c.deed
  pub part : c.part ≡ part_of_deed (type_of h.defs made.ty) c.deed
  pub inside : StaysInside h c.deed

still_created : (b : Book) (x : Entry) (e : ℕ) (c : Create) → created_as b e ≡ Some c → created_as (with_entry b x) e ≡ Some c
still_created b x e c is =
    created_with b x e
    ∙ ap (λ (o : Option Create). option_or o (find (λ (d : Create). d.entity == e) (creates_of (x ∷ [])))) is

still_taken : (h : Header) (b : Book) (x : Entry) (c : Call) → IsTaken h b c → IsTaken h (with_entry b x) c
still_taken h b x c t = record {
  made = t.made;
  is = still_created b x c.entity t.made t.is;
  sender = t.sender;
  number =
      let few = t.number in
      let long = ap length (calls_with_entry b x) ∙ length-append (calls_of (entries b)) (calls_of (x ∷ [])) in
      omega (arith, few, long);
  deed = t.deed;
  part = t.part;
  inside = t.inside;
}

-- as many calls of a sender as of all
few_of : (b : Book) (c : Call) → length (accepted b c.part c.entity c.sender) ≤ length (calls_of (entries b))
few_of b c =
    let count = length-filter (is_from c.part c.entity c.sender) (calls_of (entries b)) in
    let few = count_by-le-length (is_from c.part c.entity c.sender) (calls_of (entries b)) in
    omega (arith, count, few)

call_taken : (h : Header) (b : Book) (c : Call) → IsProperCall h b c → MaySend c.sender → IsTaken h (with_entry b (entry.Called c)) c
call_taken h b c k may = record {
  made = k.made;
  is = still_created b (entry.Called c) c.entity k.made (live_is_created b c.entity k.made k.lives);
  sender = may;
  number =
      let next = k.next in
      let few = few_of b c in
      let long = ap length (calls_with_entry b (entry.Called c)) ∙ length-append (calls_of (entries b)) (c ∷ []) in
      omega (arith, next, few, long);
  deed = k.deed;
  part = k.part;
  inside = k.inside;
}

taken_by : (h : Header) (b : Book) → IsOfLines h b → (x : Entry) → IsAccepted h b x → IsProper h b x →
    AllByRecursion (IsTaken h (with_entry b x)) (calls_of (x ∷ []))
taken_by h b of_lines (entry.Called c) (line, (some, none, command, spells, adds)) k =
    (call_taken h b c k (may_send h b of_lines c.sender (sender_there h b command (entry.Called c) adds c refl)), tt)
taken_by h b of_lines _ line k = tt

-- the calls of a book whose round ended are the same
taken_same : (h : Header) (b c : Book) → entries c ≡ entries b → AllByRecursion (IsTaken h b) (calls_of (entries b)) →
    AllByRecursion (IsTaken h c) (calls_of (entries c))
taken_same h b c same all =
    all_turn (IsTaken h b) (IsTaken h c) turn (calls_of (entries c))
    (subst (λ (xs : List Entry). AllByRecursion (IsTaken h b) (calls_of xs)) (sym same) all)
  where
    turn : (x : Call) → IsTaken h b x → IsTaken h c x
    turn x t = record {
      made = t.made;
      is = ap (λ (xs : List Entry). find (λ (d : Create). d.entity == x.entity) (creates_of xs)) same ∙ t.is;
      sender = t.sender;
      number = subst (λ (xs : List Entry). x.number ≤ length (calls_of xs)) (sym same) t.number;
      deed = t.deed;
      part = t.part;
      inside = t.inside;
    }

pub all_taken : (h : Header) (b : Book) → IsOfLines h b → AllByRecursion (IsTaken h b) (calls_of (entries b))
all_taken h b empty = tt
all_taken h b (accepts was x of_lines line) =
    subst (AllByRecursion (IsTaken h (with_entry was x))) (sym (calls_with_entry was x))
    (all_join (IsTaken h (with_entry was x)) (calls_of (entries was)) (calls_of (x ∷ []))
    (all_turn (IsTaken h was) (IsTaken h (with_entry was x)) (still_taken h was x) (calls_of (entries was)) (all_taken h was of_lines))
    (taken_by h was of_lines x line (accepted_is_proper h was x line)))
all_taken h b (ends was of_lines) = taken_same h was b (append-nil (entries was)) (all_taken h was of_lines)
all_taken h b (balances was t of_lines may) = taken_same h was b (append-nil (entries was)) (all_taken h was of_lines)

-- there are no more calls than entries
pub few_calls : (xs : List Entry) → length (calls_of xs) ≤ length xs
few_calls [] = omega arith
few_calls (entry.Called c ∷ xs) = let few = few_calls xs in omega (arith, few)
few_calls (x ∷ xs) = let few = few_calls xs in omega (arith, few)

-- What the open round of a book brings, entry by entry.
use Rattle.seam_law_book.proofs.Prelude.{◌≡◌, ℕ, ◌+◌, ◌≤◌, Bool, true, false, cond, [], ◌∷◌, ◌++◌, map, length, refl, sym, ap, ◌∙◌, subst}
use Rattle.seam_law_book.proofs.Prelude.{arith, append-nil, eqb, ◌==◌, ◌&&◌, AllByRecursion, filter_map, eqb-true, cells_of, AreLegal, Part}
use Rattle.seam_law_book.proofs.Prelude.{is_for, same_part, rank_of, Call, Create, Header, Book, entries, called, creates_of, calls_of}
use Rattle.seam_law_book.proofs.Prelude.{with_entry, tree_of, Entry, IsOfLines, empty, accepts, ends, balances, as_begun, entity_of}
use Rattle.seam_law_book.proofs.Prelude.{GetsClient, HasEntity, IsNewEntity, IsFitCall, calls_from, last_number, AreNumberedFrom}
use Rattle.seam_law_book.proofs.Prelude.{HasFitRound, joined, destroyed, tree_with, same_part_is}
use Rattle.std.specs.List.{IsDistinct}
use Rattle.seam_rule_rounds.specs.Prelude.{created}
use Rattle.seam_rule_lines.specs.declared.verdict.Entry.TheVariants as entry
use Rattle.seam_accept.proofs.Books.{both}
use Rattle.seam_law_book.proofs.Proper.{IsProper, IsProperCall, accepted_is_proper}
use Rattle.seam_law_book.proofs.Adding.{all_join, all_turn, distinct_more, numbered_more, brought_more, calls_from_more, counted}
use Rattle.seam_law_book.proofs.Present.{uncreated, live_is_present, unjoined, undestroyed, alone_begun, present_more, unmade_apart}
use Rattle.seam_law_book.proofs.Present.{unjoined_apart, undestroyed_apart}
use Rattle.seam_law_book.proofs.Untouched.{IsOrderly, orderly, known_is_sender, accepted_by_place, map_more}

-- a new round brings nothing
pub brings_none : (h : Header) (b : Book) → b.current ≡ [] → IsOrderly h b → HasFitRound h b
unfolding IsDistinct
brings_none h b none k =
    let same : tree_of b ≡ b.tree = ap (λ xs. tree_of (record b { current = xs })) none in
    record {
      tree = k.tree;
      space = k.space;
      cells = let e = ap cells_of same in omega (arith, e);
      creates = subst (λ xs. AllByRecursion (IsNewEntity h b) (creates_of xs)) (sym none) tt;
      once = subst (λ xs. IsDistinct eqb (map entity_of (creates_of xs))) (sym none) tt;
      clients = subst (λ xs. AllByRecursion (GetsClient b) (filter_map joined xs)) (sym none) tt;
      one_each = subst (λ xs. IsDistinct eqb (filter_map joined xs)) (sym none) tt;
      destroys = subst (λ xs. AllByRecursion (HasEntity b) (filter_map destroyed xs)) (sym none) tt;
      ends_once = subst (λ xs. IsDistinct eqb (filter_map destroyed xs)) (sym none) tt;
      calls = subst (λ xs. AllByRecursion (IsFitCall h b) (calls_of xs)) (sym none) tt;
      numbered = λ p e s.
          subst (λ xs. AreNumberedFrom (last_number (as_begun b) p e s + 1) (calls_from p e s (calls_of xs))) (sym none) tt;
    }

module _ (h : Header) (b : Book) (k : IsOrderly h b) (was : HasFitRound h b) (x : Entry) where
  abbrev next : Book
  next = with_entry b x

  -- what was brought is brought still
  gets_still : (e : ℕ) → GetsClient b e → GetsClient next e
  gets_still e g = record { made = g.made; present = present_more b e x g.made g.present; clientless = g.clientless }

  there_still : (e : ℕ) → HasEntity b e → HasEntity next e
  there_still e t = (t.0, present_more b e x t.0 t.1)

  fits_still : (c : Call) → IsFitCall h b c → IsFitCall h next c
  fits_still c f = record {
    sender = f.sender;
    made = f.made;
    present = present_more b c.entity x f.made f.present;
    deed = f.deed;
    part = f.part;
    inside = f.inside;
  }

  new_still : (c : Create) → IsNewEntity h b c → IsNewEntity h next c
  new_still c n = record { new = n.new; number = n.number; type = n.type; inside = n.inside }

  more_new : AllByRecursion (IsNewEntity h next) (creates_of (x ∷ [])) → AllByRecursion (IsNewEntity h next) (creates_of next.current)
  more_new new =
      subst (AllByRecursion (IsNewEntity h next)) (sym (brought_more created b x))
      (all_join (IsNewEntity h next) (creates_of b.current) (creates_of (x ∷ []))
      (all_turn (IsNewEntity h b) (IsNewEntity h next) new_still (creates_of b.current) was.creates) new)

  more_clients : AllByRecursion (GetsClient next) (filter_map joined (x ∷ [])) →
      AllByRecursion (GetsClient next) (filter_map joined next.current)
  more_clients new =
      subst (AllByRecursion (GetsClient next)) (sym (brought_more joined b x))
      (all_join (GetsClient next) (filter_map joined b.current) (filter_map joined (x ∷ []))
      (all_turn (GetsClient b) (GetsClient next) gets_still (filter_map joined b.current) was.clients) new)

  more_destroys : AllByRecursion (HasEntity next) (filter_map destroyed (x ∷ [])) →
      AllByRecursion (HasEntity next) (filter_map destroyed next.current)
  more_destroys new =
      subst (AllByRecursion (HasEntity next)) (sym (brought_more destroyed b x))
      (all_join (HasEntity next) (filter_map destroyed b.current) (filter_map destroyed (x ∷ []))
      (all_turn (HasEntity b) (HasEntity next) there_still (filter_map destroyed b.current) was.destroys) new)

  more_calls : AllByRecursion (IsFitCall h next) (calls_of (x ∷ [])) → AllByRecursion (IsFitCall h next) (calls_of next.current)
  more_calls new =
      subst (AllByRecursion (IsFitCall h next)) (sym (brought_more called b x))
      (all_join (IsFitCall h next) (calls_of b.current) (calls_of (x ∷ []))
      (all_turn (IsFitCall h b) (IsFitCall h next) fits_still (calls_of b.current) was.calls) new)

  -- the same numbers where the entry is none of these calls
  same_numbers : (p : Part) (e s : ℕ) → calls_from p e s (calls_of (x ∷ [])) ≡ [] →
      AreNumberedFrom (last_number (as_begun next) p e s + 1) (calls_from p e s (calls_of next.current))
  same_numbers p e s none =
      subst (AreNumberedFrom (last_number (as_begun b) p e s + 1)) (sym (ap (calls_from p e s) (brought_more called b x)
      ∙ calls_from_more p e s (calls_of b.current) (calls_of (x ∷ []))
      ∙ ap (λ l. calls_from p e s (calls_of b.current) ++ l) none ∙ append-nil (calls_from p e s (calls_of b.current))))
      (was.numbered p e s)

  -- what an entry brings
  record More : Type 0 where
    creates : AllByRecursion (IsNewEntity h next) (creates_of (x ∷ []))
    once : IsDistinct eqb (map entity_of (creates_of next.current))
    clients : AllByRecursion (GetsClient next) (filter_map joined (x ∷ []))
    one_each : IsDistinct eqb (filter_map joined next.current)
    destroys : AllByRecursion (HasEntity next) (filter_map destroyed (x ∷ []))
    ends_once : IsDistinct eqb (filter_map destroyed next.current)
    calls : AllByRecursion (IsFitCall h next) (calls_of (x ∷ []))
    numbered : (p : Part) (e s : ℕ) →
        AreNumberedFrom (last_number (as_begun next) p e s + 1) (calls_from p e s (calls_of next.current))

  -- what it leaves as it was
  same_once : creates_of (x ∷ []) ≡ [] → IsDistinct eqb (map entity_of (creates_of next.current))
  same_once none =
      subst (λ cs. IsDistinct eqb (map entity_of cs)) (sym (brought_more created b x
      ∙ ap (λ cs. creates_of b.current ++ cs) none ∙ append-nil (creates_of b.current))) was.once

  same_joined : filter_map joined (x ∷ []) ≡ [] → IsDistinct eqb (filter_map joined next.current)
  same_joined none =
      subst (IsDistinct eqb) (sym (brought_more joined b x
      ∙ ap (λ es. filter_map joined b.current ++ es) none ∙ append-nil (filter_map joined b.current))) was.one_each

  same_destroyed : filter_map destroyed (x ∷ []) ≡ [] → IsDistinct eqb (filter_map destroyed next.current)
  same_destroyed none =
      subst (IsDistinct eqb) (sym (brought_more destroyed b x
      ∙ ap (λ es. filter_map destroyed b.current ++ es) none ∙ append-nil (filter_map destroyed b.current))) was.ends_once

-- ---- each kind of entry

module _ (h : Header) (b : Book) (k : IsOrderly h b) (was : HasFitRound h b) where
  -- an entry that brings nothing to an entity
  quiet_more : (x : Entry) → creates_of (x ∷ []) ≡ [] → filter_map joined (x ∷ []) ≡ [] → filter_map destroyed (x ∷ []) ≡ [] →
      calls_of (x ∷ []) ≡ [] → More h b k was x
  quiet_more x made joins dies calls = record {
    creates = subst (AllByRecursion (IsNewEntity h (with_entry b x))) (sym made) tt;
    once = same_once h b k was x made;
    clients = subst (AllByRecursion (GetsClient (with_entry b x))) (sym joins) tt;
    one_each = same_joined h b k was x joins;
    destroys = subst (AllByRecursion (HasEntity (with_entry b x))) (sym dies) tt;
    ends_once = same_destroyed h b k was x dies;
    calls = subst (AllByRecursion (IsFitCall h (with_entry b x))) (sym calls) tt;
    numbered = λ p e s. same_numbers h b k was x p e s (ap (calls_from p e s) calls);
  }

  create_more : (c : Create) → IsProper h b (entry.Created c) → More h b k was (entry.Created c)
  create_more c p =
      let x = entry.Created c in
      let two = uncreated b c.entity p.new in
      record {
        creates = (record { new = two.0; number = p.number; type = p.type; inside = p.inside }, tt);
        once = subst (IsDistinct eqb) (sym (ap (map entity_of) (brought_more created b x) ∙ map_more (creates_of b.current) (c ∷ [])))
            (distinct_more (map entity_of (creates_of b.current)) c.entity (unmade_apart c.entity (creates_of b.current) two.1) was.once);
        clients = tt;
        one_each = same_joined h b k was x refl;
        destroys = tt;
        ends_once = same_destroyed h b k was x refl;
        calls = tt;
        numbered = λ q e s. same_numbers h b k was x q e s refl;
      }

  client_more : (e : ℕ) → IsProper h b (entry.Joined e) → More h b k was (entry.Joined e)
  client_more e p =
      let x = entry.Joined e in
      let none = unjoined b e p.made p.lives p.clientless in
      record {
        creates = tt;
        once = same_once h b k was x refl;
        clients = (
          record {
            made = p.made;
            present = present_more b e x p.made (live_is_present b e p.made p.lives);
            clientless = alone_begun b e none.0;
          },
          tt,
        );
        one_each = subst (IsDistinct eqb) (sym (brought_more joined b x))
            (distinct_more (filter_map joined b.current) e (unjoined_apart e b.current none.1) was.one_each);
        destroys = tt;
        ends_once = same_destroyed h b k was x refl;
        calls = tt;
        numbered = λ q d s. same_numbers h b k was x q d s refl;
      }

  destroy_more : (e : ℕ) → IsProper h b (entry.Destroyed e) → More h b k was (entry.Destroyed e)
  destroy_more e p =
      let x = entry.Destroyed e in
      record {
        creates = tt;
        once = same_once h b k was x refl;
        clients = tt;
        one_each = same_joined h b k was x refl;
        destroys = ((p.0, present_more b e x p.0 (live_is_present b e p.0 p.1)), tt);
        ends_once = subst (IsDistinct eqb) (sym (brought_more destroyed b x))
            (distinct_more (filter_map destroyed b.current) e (undestroyed_apart e b.current (undestroyed b e p.0 p.1)) was.ends_once);
        calls = tt;
        numbered = λ q d s. same_numbers h b k was x q d s refl;
      }

  -- ---- a call

  module _ (c : Call) (call : IsProperCall h b c) where
    abbrev x : Entry
    x = entry.Called c

    next_number : c.number ≡ last_number b c.part c.entity (rank_of c.sender) + 1
    next_number =
        call.next ∙ ap (λ cs. length cs + 1)
        (accepted_by_place c.part c.entity c.sender (known_is_sender h c.sender call.sender) (calls_of (entries b)) k.senders)

    numbers_by : (p : Part) (e s : ℕ) (y : Bool) → (is_for p e c && (rank_of c.sender == s)) ≡ y →
        AreNumberedFrom (last_number (as_begun b) p e s + 1) (calls_from p e s (calls_of (with_entry b x).current))
    numbers_by p e s false is =
        same_numbers h b k was x p e s (ap (λ (z : Bool). cond z (c ∷ []) []) is)
    numbers_by p e s true is =
        let at = same_of p e s is in
        let before = counted b p e s in
        let number : c.number ≡ last_number b p e s + 1 = next_number ∙ ap (λ n. n + 1) at in
        subst (AreNumberedFrom (last_number (as_begun b) p e s + 1)) (sym (ap (calls_from p e s) (brought_more called b x)
        ∙ calls_from_more p e s (calls_of b.current) (c ∷ [])
        ∙ ap (λ (z : Bool). calls_from p e s (calls_of b.current) ++ cond z (c ∷ []) []) is))
        (numbered_more (last_number (as_begun b) p e s + 1) (calls_from p e s (calls_of b.current)) c (was.numbered p e s)
        (omega (arith, number, before)))
      where
        same_of : (p : Part) (e s : ℕ) → (is_for p e c && (rank_of c.sender == s)) ≡ true →
            last_number b c.part c.entity (rank_of c.sender) ≡ last_number b p e s
        same_of p e s is =
            let tests = both (is_for p e c) (rank_of c.sender == s) is in
            let names = both (c.entity == e) (same_part c.part p) tests.0 in
            let of_entity : c.entity ≡ e = eqb-true c.entity e names.0 in
            let of_part : c.part ≡ p = same_part_is c.part p names.1 in
            let of_place : rank_of c.sender ≡ s = eqb-true (rank_of c.sender) s tests.1 in
            λ i. last_number b (of_part i) (of_entity i) (of_place i)

    call_more : More h b k was x
    call_more = record {
      creates = tt;
      once = same_once h b k was x refl;
      clients = tt;
      one_each = same_joined h b k was x refl;
      destroys = tt;
      ends_once = same_destroyed h b k was x refl;
      calls = (
        record {
          sender = call.sender;
          made = call.made;
          present = present_more b c.entity x call.made (live_is_present b c.entity call.made call.lives);
          deed = call.deed;
          part = call.part;
          inside = call.inside;
        },
        tt,
      );
      numbered = λ p e s. numbers_by p e s (is_for p e c && (rank_of c.sender == s)) refl;
    }

  more_of : (x : Entry) → IsProper h b x → More h b k was x
  more_of (entry.Created c) p = create_more c p
  more_of (entry.Called c) p = call_more c p
  more_of (entry.Joined e) p = client_more e p
  more_of (entry.Destroyed e) p = destroy_more e p
  more_of m p = quiet_more m refl refl refl refl

  -- ---- the tree grows

  abbrev Grows : Entry → Type 0
  Grows x = cells_of (tree_of b) ≤ cells_of (tree_of (with_entry b x))

  grows_same : (x : Entry) → tree_of (with_entry b x) ≡ tree_of b → Grows x
  grows_same x is = let e = ap cells_of is in omega (arith, e)

  grows : (x : Entry) → IsProper h b x → Grows x
  grows (entry.Divided t) p =
      let u = p k.tree in
      let e = ap cells_of (tree_with b (entry.Divided t)) in
      let more = u.cells in
      omega (arith, e, more)
  grows m p = grows_same m (tree_with b m)

  brings_more : (x : Entry) → IsProper h b x → IsOrderly h (with_entry b x) → HasFitRound h (with_entry b x)
  brings_more x p after =
      let m = more_of x p in
      record {
        tree = after.tree;
        space = after.space;
        cells = let some = was.cells in let more = grows x p in omega (arith, some, more);
        creates = more_new h b k was x m.creates;
        once = m.once;
        clients = more_clients h b k was x m.clients;
        one_each = m.one_each;
        destroys = more_destroys h b k was x m.destroys;
        ends_once = m.ends_once;
        calls = more_calls h b k was x m.calls;
        numbered = m.numbered;
      }

pub brings : (h : Header) (b : Book) → AreLegal h.settings → IsOfLines h b → HasFitRound h b
brings h b legal empty = brings_none h b refl (orderly h b legal empty)
brings h b legal (accepts was x of_lines line) =
    brings_more h was (orderly h was legal of_lines) (brings h was legal of_lines) x (accepted_is_proper h was x line)
    (orderly h b legal (accepts was x of_lines line))
brings h b legal (ends was of_lines) = brings_none h b refl (orderly h b legal (ends was of_lines))
brings h b legal (balances was t of_lines may) = brings_none h b refl (orderly h b legal (balances was t of_lines may))

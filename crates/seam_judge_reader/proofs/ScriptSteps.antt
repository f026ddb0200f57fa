-- A script in code goes on beside the standing of a transcript.
use Rattle.std.proofs.Common.{◌≡◌, ℕ, Bool, true, false, List, [], ◌∷◌, ◌++◌, Option, Some, None, refl, sym, ◌∙◌, ap}
use Rattle.std.proofs.Common.{◌+◌, length, inr, arith, append_assoc, append-nil}
use Rattle.std.specs.List.{cons_option, filter_map, list_any}
use Rattle.seam_io.specs.Lines.{Line, Long}
use Rattle.seam_tree.specs.Division.{Division}
use Rattle.seam_defs.specs.declared.flags.Part.{Part}
use Rattle.seam_defs.specs.declared.flags.Part.TheVariants as part
use Rattle.seam_call.specs.declared.call.Call.{Call}
use Rattle.seam_call.specs.declared.create.Create.{Create}
use Rattle.seam_call.specs.declared.order.Order.{Order}
use Rattle.seam_call.specs.declared.order.Order.TheVariants as order
use Rattle.seam_rule_rounds.specs.Prelude.{Book, Entry, Header, RoundData, Standing, creates_of, entries, is_balance, tree_of, with_bounds}
use Rattle.seam_rule_rounds.specs.Prelude.{with_entry, with_round_ended}
use Rattle.seam_rule_lines.specs.Book.{divided}
use Rattle.seam_rule_lines.specs.declared.verdict.Entry.TheVariants as entry
use Rattle.seam_rule_lines.specs.Judging.{Judges}
use Rattle.seam_rule_lines.specs.declared.verdict.Cause.TheVariants as cause
use Rattle.seam_rule_lines.specs.declared.verdict.Verdict.TheVariants as verdict
use Rattle.seam_rule_rounds.specs.Prelude.{open_lines, with_line}
use Rattle.seam_accept.specs.BookView.{BookView}
use Rattle.seam_accept.specs.Refines.{Refines}
use Rattle.seam_judge_data.specs.Standings.{standing_of}
use Rattle.seam_judge_data.specs.declared.standing.Standing as plain
use Rattle.seam_judge_rounds.specs.After.{after_round}
use Rattle.seam_judge_reader.specs.declared.script.Read.{Read}
use Rattle.seam_judge_reader.specs.declared.script.Read.TheVariants as read
use Rattle.seam_judge_reader.specs.Scripts.{HasAccepted, IsAt, IsKept, LineRead, ScriptView, kept_of}
use Rattle.seam_accept.proofs.Books.{tree_with}
use Rattle.seam_accept.specs.Batches.{destroyed, joined, ordered, passes_to}

-- ---- what one entry brings

-- a book without open lines has with an entry this alone
pub current_is : (b : Book) (x : Entry) → b.current ≡ [] → (with_entry b x).current ≡ x ∷ []
current_is b x none = ap (λ (xs : List Entry). xs ++ x ∷ []) none

pub created_is : (x : Entry) (c : Create) (cs : List Create) → creates_of (x ∷ []) ≡ c ∷ cs → x ≡ entry.Created c
created_is (entry.Created d) c cs is = ap entry.Created (by d is)
  where
    by : (d : Create) → d ∷ [] ≡ c ∷ cs → d ≡ c
    by d is = cc
created_is (entry.Called d) c cs is = cc
created_is (entry.Joined d) c cs is = cc
created_is entry.Ticked c cs is = cc
created_is (entry.Divided d) c cs is = cc
created_is entry.Balanced c cs is = cc
created_is (entry.Destroyed d) c cs is = cc

pub joined_is : (x : Entry) (e : ℕ) (es : List ℕ) → filter_map joined (x ∷ []) ≡ e ∷ es → x ≡ entry.Joined e
joined_is (entry.Joined d) e es is = ap entry.Joined (by d is)
  where
    by : (d : ℕ) → d ∷ [] ≡ e ∷ es → d ≡ e
    by d is = cc
joined_is (entry.Created d) e es is = cc
joined_is (entry.Called d) e es is = cc
joined_is entry.Ticked e es is = cc
joined_is (entry.Divided d) e es is = cc
joined_is entry.Balanced e es is = cc
joined_is (entry.Destroyed d) e es is = cc

pub destroyed_is : (x : Entry) (e : ℕ) (es : List ℕ) → filter_map destroyed (x ∷ []) ≡ e ∷ es → x ≡ entry.Destroyed e
destroyed_is (entry.Destroyed d) e es is = ap entry.Destroyed (by d is)
  where
    by : (d : ℕ) → d ∷ [] ≡ e ∷ es → d ≡ e
    by d is = cc
destroyed_is (entry.Created d) e es is = cc
destroyed_is (entry.Called d) e es is = cc
destroyed_is (entry.Joined d) e es is = cc
destroyed_is entry.Ticked e es is = cc
destroyed_is (entry.Divided d) e es is = cc
destroyed_is entry.Balanced e es is = cc

pub balanced_is : (x : Entry) → list_any is_balance (x ∷ []) ≡ true → x ≡ entry.Balanced
balanced_is entry.Balanced is = refl
balanced_is (entry.Created d) is = cc
balanced_is (entry.Called d) is = cc
balanced_is (entry.Joined d) is = cc
balanced_is entry.Ticked is = cc
balanced_is (entry.Divided d) is = cc
balanced_is (entry.Destroyed d) is = cc

-- what is an order comes from the entry
called_is : (p : Part) (c d : Call) → passes_to p c ≡ order.Cell d → c ≡ d
called_is part.Cell c d is = cc
called_is part.Base c d is = cc

based_is : (p : Part) (c d : Call) → passes_to p c ≡ order.Base d → c ≡ d
based_is part.Cell c d is = cc
based_is part.Base c d is = cc

no_tick : (p : Part) (c : Call) → passes_to p c ≡ order.Tick → ⊥
no_tick part.Cell c is = cc
no_tick part.Base c is = cc

no_reap : (p : Part) (c : Call) (e : ℕ) → passes_to p c ≡ order.Reap e → ⊥
no_reap part.Cell c e is = cc
no_reap part.Base c e is = cc

order_is : (x y : ℕ × Order) → Some x ≡ Some y → x.1 ≡ y.1
order_is x y is = ap (λ (o : Option (ℕ × Order)). by o) is
  where
    by : Option (ℕ × Order) → Order
    by None = x.1
    by (Some z) = z.1

pub cell_order_is : (h : Header) (x : Entry) (n : ℕ) (c : Call) → ordered h x ≡ Some (n, order.Cell c) → entry.Called c ≡ x
cell_order_is h (entry.Called d) n c is = ap entry.Called (sym (called_is d.part d c (order_is _ _ is)))
cell_order_is h entry.Ticked n c is = absurd (by (order_is _ _ is))
  where
    by : order.Tick ≡ order.Cell c → ⊥
    by is = cc
cell_order_is h (entry.Created d) n c is = cc
cell_order_is h (entry.Joined d) n c is = cc
cell_order_is h (entry.Divided d) n c is = cc
cell_order_is h entry.Balanced n c is = cc
cell_order_is h (entry.Destroyed d) n c is = cc

pub base_order_is : (h : Header) (x : Entry) (n : ℕ) (c : Call) → ordered h x ≡ Some (n, order.Base c) → entry.Called c ≡ x
base_order_is h (entry.Called d) n c is = ap entry.Called (sym (based_is d.part d c (order_is _ _ is)))
base_order_is h entry.Ticked n c is = absurd (by (order_is _ _ is))
  where
    by : order.Tick ≡ order.Base c → ⊥
    by is = cc
base_order_is h (entry.Created d) n c is = cc
base_order_is h (entry.Joined d) n c is = cc
base_order_is h (entry.Divided d) n c is = cc
base_order_is h entry.Balanced n c is = cc
base_order_is h (entry.Destroyed d) n c is = cc

pub tick_is : (h : Header) (x : Entry) (n : ℕ) → ordered h x ≡ Some (n, order.Tick) → entry.Ticked ≡ x
tick_is h (entry.Called d) n is = absurd (no_tick d.part d (order_is _ _ is))
tick_is h entry.Ticked n is = refl
tick_is h (entry.Created d) n is = cc
tick_is h (entry.Joined d) n is = cc
tick_is h (entry.Divided d) n is = cc
tick_is h entry.Balanced n is = cc
tick_is h (entry.Destroyed d) n is = cc

pub reap_is_none : (h : Header) (x : Entry) (n e : ℕ) → ordered h x ≡ Some (n, order.Reap e) → ⊥
reap_is_none h (entry.Called d) n e is = no_reap d.part d e (order_is _ _ is)
reap_is_none h entry.Ticked n e is = by (order_is _ _ is)
  where
    by : order.Tick ≡ order.Reap e → ⊥
    by is = cc
reap_is_none h (entry.Created d) n e is = cc
reap_is_none h (entry.Joined d) n e is = cc
reap_is_none h (entry.Divided d) n e is = cc
reap_is_none h entry.Balanced n e is = cc
reap_is_none h (entry.Destroyed d) n e is = cc

-- where it brings nothing of these, it divides the space
pub divided_is : (h : Header) (b : Book) (x : Entry) → creates_of (x ∷ []) ≡ [] → filter_map joined (x ∷ []) ≡ [] →
    filter_map destroyed (x ∷ []) ≡ [] → list_any is_balance (x ∷ []) ≡ false → filter_map (ordered h) (x ∷ []) ≡ [] →
    entry.Divided (tree_of (with_entry b x)) ≡ x
divided_is h b (entry.Divided t) c j d z o = ap entry.Divided (tree_with b (entry.Divided t))
divided_is h b (entry.Created e) c j d z o = cc
divided_is h b (entry.Called e) c j d z o = cc
divided_is h b (entry.Joined e) c j d z o = cc
divided_is h b entry.Ticked c j d z o = cc
divided_is h b entry.Balanced c j d z o = cc
divided_is h b (entry.Destroyed e) c j d z o = cc

-- ---- books with the same entries and the same tree

pub entries_with : (b : Book) (x : Entry) → entries (with_entry b x) ≡ entries b ++ x ∷ []
entries_with b x = sym (append_assoc b.past b.current (x ∷ []))

-- an entry more, of which the book in code ends its round
pub same_with : (b c : Book) (x : Entry) → entries b ≡ entries c → entries (with_round_ended (with_entry b x)) ≡ entries (with_entry c x)
same_with b c x same =
    append-nil (entries (with_entry b x)) ∙ entries_with b x ∙ ap (λ (xs : List Entry). xs ++ x ∷ []) same ∙ sym (entries_with c x)

pub tree_too : (b c : Book) (x : Entry) → tree_of b ≡ tree_of c → tree_of (with_round_ended (with_entry b x)) ≡ tree_of (with_entry c x)
tree_too b c x same = tree_with b x ∙ ap (λ (t : Division). divided t x) same ∙ sym (tree_with c x)

-- a round that ends
pub same_ended : (b c : Book) (o : Option Division) → entries b ≡ entries c →
    entries (with_bounds (with_round_ended b) o) ≡ entries (with_bounds (with_round_ended c) o)
same_ended b c None same = ap (λ (xs : List Entry). xs ++ []) same
same_ended b c (Some t) same = ap (λ (xs : List Entry). xs ++ []) same

pub tree_ended : (b c : Book) (o : Option Division) → tree_of b ≡ tree_of c →
    tree_of (with_bounds (with_round_ended b) o) ≡ tree_of (with_bounds (with_round_ended c) o)
tree_ended b c None same = same
tree_ended b c (Some t) same = refl

pub closed_ended : (b : Book) (o : Option Division) → (with_bounds (with_round_ended b) o).current ≡ []
closed_ended b None = refl
closed_ended b (Some t) = refl

-- what the one order of an entry comes from
pub order_from : (h : Header) (b : Book) (x : Entry) (rest : List (ℕ × Order)) (p : ℕ × Order) (orders : List (ℕ × Order)) →
    b.current ≡ [] → orders ≡ filter_map (ordered h) (with_entry b x).current → orders ≡ rest ++ p ∷ [] → ordered h x ≡ Some p
order_from h b x rest p orders none are last =
    by (ordered h x) rest (sym (are ∙ ap (filter_map (ordered h)) (current_is b x none)) ∙ last)
  where
    by : (o : Option (ℕ × Order)) (ys : List (ℕ × Order)) → cons_option o [] ≡ ys ++ p ∷ [] → o ≡ Some p
    by None [] e = cc
    by None (y ∷ ys) e = cc
    by (Some q) [] e = cc
    by (Some q) (y ∷ []) e = cc
    by (Some q) (y ∷ z ∷ ys) e = cc

-- ---- a script goes on

-- the standing with another list of the lines of the open round
abbrev pub with_current : Standing → List Entry → Standing
with_current t lines = record t { book = record t.book { current = lines } }

module _ (h : Header) (t : Standing) (s : ScriptView) where
  -- a line is read, after which n lines were read
  module _ (at : IsAt h t s) (n : ℕ) (counts : n ≡ s.standing.lines + 1) where
    counted_is : standing_of (record s.standing { lines = n }) ≡ with_line t
    counted_is = (λ i. record (standing_of s.standing) { lines = counts i }) ∙ ap with_line at.standing

    -- the book is as it was
    pub line_counted : (book : BookView) → Refines h at.book book →
        IsAt h (with_line t) (record { header = s.header; book = book; standing = record s.standing { lines = n } })
    line_counted book refines = record {
      header = at.header;
      standing = counted_is;
      book = at.book;
      refines = refines;
      closed = at.closed;
      same = at.same;
      tree = at.tree;
    }

    -- it has accepted the line
    pub line_accepted : (x : Entry) (book : BookView) → Refines h (with_entry at.book x) book →
        HasAccepted h t x (record { header = s.header; book = book; standing = record s.standing { lines = n } })
    line_accepted x book refines = record {
      header = at.header;
      standing = counted_is;
      book = at.book;
      refines = refines;
      closed = at.closed;
      same = at.same;
      tree = at.tree;
    }

  -- the entry that the book has accepted is kept
  module _ (x y : Entry) (has : HasAccepted h t x s) (same : y ≡ x) (new : plain.Standing)
      (is : standing_of new ≡ with_current (standing_of s.standing) (s.standing.current.items ++ y ∷ []))
    where
      kept_is : standing_of new ≡ kept_of t x
      kept_is = is ∙ (λ i. let u : Standing = has.standing i in with_current u (u.book.current ++ same i ∷ []))

      pub open_is : length new.current.items ≡ open_lines (kept_of t x).book
      open_is = ap (λ (u : Standing). length u.book.current) kept_is

      pub entry_kept : (book : BookView) → Refines h (with_round_ended (with_entry has.book x)) book →
          IsAt h (kept_of t x) (record { header = s.header; book = book; standing = new })
      entry_kept book refines = record {
        header = has.header;
        standing = kept_is;
        book = with_round_ended (with_entry has.book x);
        refines = refines;
        closed = refl;
        same = same_with has.book t.book x has.same;
        tree = tree_too has.book t.book x has.tree;
      }

  -- the round has ended
  pub round_ended : (at : IsAt h t s) (r : RoundData) (new : plain.Standing) → standing_of new ≡ after_round (standing_of s.standing) r →
      (book : BookView) → Refines h (with_bounds (with_round_ended at.book) r.bounds) book →
      IsAt h (after_round t r) (record { header = s.header; book = book; standing = new })
  round_ended at r new is book refines = record {
    header = at.header;
    standing = is ∙ ap (λ (u : Standing). after_round u r) at.standing;
    book = with_bounds (with_round_ended at.book) r.bounds;
    refines = refines;
    closed = closed_ended at.book r.bounds;
    same = same_ended at.book t.book r.bounds at.same;
    tree = tree_ended at.book t.book r.bounds at.tree;
  }

-- what became of a line that was kept
pub kept_is_read : (h : Header) (t : Standing) (x : Entry) (line : Line) (r : Read) (s : ScriptView) →
    Judges h t.book line (verdict.Accepted x) → IsKept h t x r s → LineRead h t line r s
kept_is_read h t x line read.Kept s judged kept = (x, judged, kept.0, kept.1)
kept_is_read h t x line read.RoundEnds s judged kept = inr (x, judged, kept.0, kept.1)
kept_is_read h t x line read.Header s judged kept = absurd kept
kept_is_read h t x line (read.Refused c) s judged kept = absurd kept
kept_is_read h t x line read.Skipped s judged kept = absurd kept

-- a line that is too long is refused
pub long_is_refused : (h : Header) (b : Book) → Judges h b Long (verdict.Refused cause.TooLong)
long_is_refused h b = ((λ e. e), record { here = refl; first = λ d against. omega arith })

-- A legal round is in form.
use Rattle.std.proofs.Common.{◌≡◌, ℕ, ◌<◌, Bool, true, false, map, Some, None, subst, sym, MatchBool, ap, All, ◌∙◌}
use Rattle.std.proofs.lemmas.List.Elements.{All-map, All-weaker}
use Rattle.seam_node_steps.specs.Prelude.{AreDefs, AreLegal, Create, Division, cells_of}
use Rattle.seam_rule_rounds.specs.Prelude.{Header, Standing, RoundData, HomeLine, IsRound, HasBounds, HasPlace, has_balance, tree_of}
use Rattle.seam_rule_rounds.specs.Prelude.{home_line}
use Rattle.seam_rule_rounds.specs.Prelude.{Book, with_round_ended}
use Rattle.seam_rule_rounds.specs.Prelude.{with_tree, IsBalanced}
use Rattle.seam_defs.specs.declared.flags.Part.TheVariants as part
use Rattle.seam_law_texts.specs.Forms.{HasForm, IsFormed, IsLong, IsNext}
use Rattle.seam_law_book.specs.Prelude.{IsOfLines, balances, ends}
use Rattle.seam_law_book.proofs.Untouched.{orderly}
use Rattle.seam_law_forms.specs.Counting.{AreCounted, WereWhole}
use Rattle.seam_law_forms.proofs.Executed.{done_in_form}
use Rattle.seam_law_forms.proofs.Entities.{home_in_cell, homes_in_form, bases_in_form, ghosts_in_form}
use Rattle.seam_law_forms.proofs.Clients.{clients_in_form}
use Rattle.seam_law_forms.proofs.Bounds.{balanced_is}

bounds_in_form : (h : Header) (s : Standing) (r : RoundData) (t : Standing) → AreLegal h.settings → IsOfLines h s.book →
    HasBounds h s r t → HasForm s.book r.bounds
bounds_in_form h s r t legal of_lines = by (has_balance s.book)
  where
    by : (z : Bool) →
        MatchBool z
        ((next : Division) × IsBalanced (map (λ (l : HomeLine). l.state.pos) r.homes) h.settings.balance_shift (tree_of s.book) next
        × (r.bounds ≡ Some next) × (t.book ≡ with_tree (with_round_ended s.book) next))
        ((r.bounds ≡ None) × (t.book ≡ with_round_ended s.book)) →
        MatchBool z ((u : Division) × (r.bounds ≡ Some u) × IsNext s.book u) (r.bounds ≡ None)
    by true (next, is, at, book) =
        let both =
        balanced_is (map (λ (l : HomeLine). l.state.pos) r.homes) h.settings.balance_shift (tree_of s.book) next
        (orderly h s.book legal of_lines).tree is in
        (next, at, record { tree = both.0; cuts = both.1 })
    by false (none, book) = none

pub in_form : (h : Header) (s : Standing) (r : RoundData) (t : Standing) → AreLegal h.settings → AreDefs h.defs → IsOfLines h s.book →
    ((e : ℕ) → (s.places e).home < cells_of (tree_of s.book)) → WereWhole s → AreCounted s t → IsRound h s r t → IsFormed h.defs s.book r
in_form h s r t legal defs of_lines homes were counted round = record {
  lines = record {
    number = subst IsLong (sym round.number) counted.rounds;
    did = done_in_form h legal s.book of_lines counted.entries part.Cell (s.orders part.Cell) (t.orders part.Cell) r.did round.did;
    dob = done_in_form h legal s.book of_lines counted.entries part.Base (s.orders part.Base) (t.orders part.Base) r.dob round.dob;
    homes = homes_in_form h legal defs s r t of_lines homes counted round;
    bases = bases_in_form h legal defs s r t of_lines homes counted round;
    ghosts = ghosts_in_form h legal defs s r t of_lines homes counted round;
    shown = clients_in_form h s r t of_lines were round legal defs homes counted;
  };
  bounds = bounds_in_form h s r t legal of_lines round.bounds;
}

-- ---- what a legal round leaves

-- the book of the next round: lines made it, and its tree has as many cells
record IsLeft (h : Header) (was next : Book) : Type 0 where
  of_lines : IsOfLines h next
  cells : cells_of (tree_of next) ≡ cells_of (tree_of was)

book_is_left : (h : Header) (s : Standing) (r : RoundData) (t : Standing) → AreLegal h.settings → IsOfLines h s.book → HasBounds h s r t →
    IsLeft h s.book t.book
book_is_left h s r t legal of_lines = by (has_balance s.book)
  where
    by : (z : Bool) →
        MatchBool z
        ((next : Division) × IsBalanced (map (λ (l : HomeLine). l.state.pos) r.homes) h.settings.balance_shift (tree_of s.book) next
        × (r.bounds ≡ Some next) × (t.book ≡ with_tree (with_round_ended s.book) next))
        ((r.bounds ≡ None) × (t.book ≡ with_round_ended s.book)) →
        IsLeft h s.book t.book
    by true (next, is, at, book) =
        let both =
        balanced_is (map (λ (l : HomeLine). l.state.pos) r.homes) h.settings.balance_shift (tree_of s.book) next
        (orderly h s.book legal of_lines).tree is in
        record {
          of_lines =
              subst (IsOfLines h) (sym book)
              (balances s.book next of_lines (record { tree = both.0; space = both.1.size; cells = both.1.cells }));
          cells = ap (λ (b : Book). cells_of (tree_of b)) book ∙ both.1.cells;
        }
    by false (none, book) =
        record {
          of_lines = subst (IsOfLines h) (sym book) (ends s.book of_lines);
          cells = ap (λ (b : Book). cells_of (tree_of b)) book;
        }

pub leaves_book : (h : Header) (s : Standing) (r : RoundData) (t : Standing) → AreLegal h.settings → IsOfLines h s.book → IsRound h s r t →
    IsOfLines h t.book
leaves_book h s r t legal of_lines round = (book_is_left h s r t legal of_lines round.bounds).of_lines

pub leaves_homes : (h : Header) (s : Standing) (r : RoundData) (t : Standing) → AreLegal h.settings → IsOfLines h s.book →
    ((e : ℕ) → (s.places e).home < cells_of (tree_of s.book)) → IsRound h s r t →
    All (λ (l : HomeLine). l.cell < cells_of (tree_of t.book)) r.homes
leaves_homes h s r t legal of_lines homes round =
    let same = (book_is_left h s r t legal of_lines round.bounds).cells in
    subst (All (λ (l : HomeLine). l.cell < cells_of (tree_of t.book))) (sym round.homes)
    (All-map (λ (l : HomeLine). l.cell < cells_of (tree_of t.book)) (home_line h t) round.live
    (All-weaker (HasPlace h s t) (λ (c : Create). (t.places c.entity).home < cells_of (tree_of t.book))
    (λ c place. subst (λ (n : ℕ). (t.places c.entity).home < n) (sym same) (home_in_cell h s t c homes place)) round.live round.places))

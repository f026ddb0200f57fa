-- The order in which calls are executed as they were accepted: it is full.
use Rattle.std.proofs.Common.{◌≡◌, ℕ, Bool, true, false, List, [], ◌∷◌, ◌++◌, refl, sym, ◌∙◌, ap, arith, append-nil, Some}
use Rattle.std.specs.Prelude.{find, ◌==◌, filter, ◌&&◌, cond}
use Rattle.std.proofs.lemmas.Option.{same_Some}
use Rattle.std.proofs.lemmas.List.Elements.{filter-append, filter_map-append}
use Rattle.seam_defs.specs.declared.flags.Part.{Part}
use Rattle.seam_call.specs.Senders.{same_sender}
use Rattle.seam_call.specs.Calls.{is_for, is_from}
use Rattle.seam_call.specs.declared.sender.Sender.{Sender}
use Rattle.seam_call.specs.declared.call.Call.{Call}
use Rattle.seam_call.specs.declared.create.Create.{Create}
use Rattle.seam_rule_lines.specs.Book.{Book, entries, called, calls_of, created_as, accepted, with_round_ended}
use Rattle.seam_rule_lines.specs.Orders.{of_sender, IsFull, IsLegal}
use Rattle.seam_rule_lines.specs.Round.{Lists, done_lines, ExtendsOrders}
use Rattle.seam_rule_lines.specs.InOrder.{in_order}
use Rattle.seam_rule_lines.specs.declared.verdict.Entry.{Entry}

-- of the calls for a part, those of a sender are those that are from it
own_among : (p : Part) (e : ℕ) (s : Sender) (calls : List Call) → of_sender s (filter (is_for p e) calls) ≡ filter (is_from p e s) calls
own_among p e s [] = refl
own_among p e s (c ∷ calls) = cases (is_for p e c) (same_sender c.sender s) refl (own_among p e s calls)
  where
    own : List Call
    own = filter (is_from p e s) calls

    all : List Call
    all = filter (is_for p e) calls

    cases : (x y : Bool) → same_sender c.sender s ≡ y → of_sender s all ≡ own →
        of_sender s (cond x (c ∷ all) all) ≡ cond (x && y) (c ∷ own) own
    cases false y same again = again
    cases true true same again =
        ap (λ (b : Bool). cond b (c ∷ of_sender s all) (of_sender s all)) same ∙ ap (λ (xs : List Call). c ∷ xs) again
    cases true false same again = ap (λ (b : Bool). cond b (c ∷ of_sender s all) (of_sender s all)) same ∙ again

-- the order is full
pub in_order_is_full : (b : Book) (p : Part) (e : ℕ) → IsFull (accepted b p e) (in_order (entries b) p e)
in_order_is_full b p e s = own_among p e s (calls_of (entries b))

-- a full order is legal
pub full_is_legal : (from : Sender → List Call) (order : List Call) → IsFull from order → IsLegal from order
full_is_legal from order full s = ([], sym (full s) ∙ sym (append-nil (of_sender s order)))

-- the order of entries is that of the first ones, and then that of the others
pub in_order_of_append : (xs ys : List Entry) (p : Part) (e : ℕ) → in_order (xs ++ ys) p e ≡ in_order xs p e ++ in_order ys p e
in_order_of_append xs ys p e =
    ap (filter (is_for p e)) (filter_map-append called xs ys) ∙ filter-append (is_for p e) (calls_of xs) (calls_of ys)

pub extends : (b : Book) (p : Part) (live : List Create) (before : ℕ → List Call) → Lists (created_as b) live →
    ((e : ℕ) → before e ≡ in_order b.past p e)
    → ExtendsOrders b p before (in_order (entries b) p) (done_lines (in_order b.current p) live)
extends b p live before listed same = record {
  made = live;
  listed = listed;
  done = in_order b.current p;
  are = refl;
  further = λ e. in_order_of_append b.past b.current p e ∙ ap (λ (xs : List Call). xs ++ in_order b.current p e) (sym (same e));
  full = in_order_is_full b p;
}

-- the entries stay when a round ends
pub entries_after_round : (b : Book) → entries (with_round_ended b) ≡ entries b
entries_after_round b = append-nil (entries b)

-- what made an entity has its number
pub found_entity : (creates : List Create) (e : ℕ) (c : Create) → find (λ d. d.entity == e) creates ≡ Some c → c.entity ≡ e
found_entity [] e c is = cc
found_entity (x ∷ xs) e c is = cases (x.entity == e) refl (found_entity xs e c) is
  where
    cases : (b : Bool) → (x.entity == e) ≡ b → (find (λ d. d.entity == e) xs ≡ Some c → c.entity ≡ e) →
        cond b (Some x) (find (λ d. d.entity == e) xs) ≡ Some c → c.entity ≡ e
    cases true same again h = ap (λ (d : Create). d.entity) (sym (same_Some x c h)) ∙ grind (arith, same)
    cases false other again h = again h
